-- `abi::quick::pop`: what the first tests tell, what the pop on the list gives back, and which words are kept.
use Rattle.std.specs.Prelude.{Err}
use mathlib.Core.Path.{refl, ap}
use Rattle.books.specs.Words.{book_from}
use Rattle.books.specs.declared.Entry.{Entry}
use Rattle.shapes.specs.declared.Chains.{Chains}
use Rattle.shares.proofs.QuickListed as listed
use Rattle.abi.proofs.Granted.{quick_pop_grants}
use Rattle.abi.proofs.Keeping.{quick_pop_stops, quick_pop_done}
use Rattle.abi.proofs.quick.pop.Goals as goal

pub returns-in-Err : goal.returns-in-Err
returns-in-Err c =
    let a = c.args in
    quick_pop_stops a.book.now a.list c.in-Err.number (Err c.in-Err.number) refl (listed.quick_pop_listed_stops a.links.now a.values.now (book_from a.book.now) a.list _ (rw c.in-Err.is at c.early.ensures.number) (Err _) refl a.end)

pub returns-in_err-after : goal.returns-in_err-after
returns-in_err-after c =
    let a = c.args in
    quick_pop_stops a.book.now a.list _ _ c.from_residual.ensures.1
    (listed.quick_pop_listed_refused a.links.now a.values.now (book_from a.book.now) a.list c.in_default.ensures.number (λ i. record { list = c.entry_of.ensures i; idle = c.free_of.ensures i }) a.end _ (Err _) refl c.in_err-after.ensures)

pub returns : goal.returns
returns c =
    let a = c.args in
    quick_pop_done a.book.now a.list _ c.put_list.ensures (quick_pop_grants _ _ _ _ _ c.in_ok-after.ensures c.entry_of.ensures)
    (listed.quick_pop_listed_done a.links.now a.values.now (book_from a.book.now) a.list c.in_default.ensures.number (λ i. record { list = c.entry_of.ensures i; idle = c.free_of.ensures i }) a.end c.in_ok-after.ensures)
