-- `abi::quick::push`: what the first tests tell, what the push on the list gives back, and which words are kept.
use Rattle.std.specs.Prelude.{Err}
use mathlib.Core.Path.{refl, ap}
use Rattle.books.specs.Words.{book_from}
use Rattle.books.specs.declared.Entry.{Entry}
use Rattle.shapes.specs.declared.Chains.{Chains}
use Rattle.shares.proofs.QuickListed as listed
use Rattle.abi.proofs.Granted.{quick_push_grants}
use Rattle.abi.proofs.Keeping.{quick_push_stops, quick_push_done}
use Rattle.abi.proofs.quick.push.Goals as goal

pub returns-in_err-lacks : goal.returns-in_err-lacks
returns-in_err-lacks c =
    let a = c.args in
    quick_push_stops a.book.now a.list _ _ c.from_residual.ensures.1 (listed.quick_push_listed_stops a.links.now a.values.now (book_from a.book.now) a.list _ c.in_err-lacks.ensures.number (Err _) refl a.end a.value)

pub returns-in_err-after : goal.returns-in_err-after
returns-in_err-after c =
    let a = c.args in
    let told = c.in_ok-lacks.ensures in
    quick_push_stops a.book.now a.list _ _ c.from_residual-in_err-after.ensures.1
    (listed.quick_push_listed_refused a.links.now a.values.now (book_from a.book.now) a.list told.number (λ i. record { list = c.entry_of.ensures i; idle = c.free_of.ensures i }) a.end a.value told.lacks _ (Err _) refl c.in_err-after.ensures)

pub returns : goal.returns
returns c =
    let a = c.args in
    let told = c.in_ok-lacks.ensures in
    quick_push_done a.book.now a.list _ c.put_list.ensures (quick_push_grants _ _ _ _ _ _ _ c.in_ok-after.ensures c.entry_of.ensures)
    (listed.quick_push_listed_done a.links.now a.values.now (book_from a.book.now) a.list told.number (λ i. record { list = c.entry_of.ensures i; idle = c.free_of.ensures i }) a.end a.value told.lacks c.in_ok-after.ensures)
