-- `abi::changes::clear`: what the check and the test of the list tell, what the clear on the list gives back, and which words are kept.
use Rattle.std.specs.Prelude.{Err}
use mathlib.Core.Path.{refl, ap}
use Rattle.books.specs.Words.{book_from}
use Rattle.books.specs.declared.Entry.{Entry}
use Rattle.shapes.specs.declared.Chains.{Chains}
use Rattle.shares.proofs.Listed as listed
use Rattle.abi.proofs.Granted.{clear_grants}
use Rattle.abi.proofs.Keeping.{change_stops, change_done}
use Rattle.abi.proofs.changes.clear.Goals as goal

pub returns-in_err-chains : goal.returns-in_err-chains
returns-in_err-chains c =
    let a = c.args in
    change_stops a.book.now a.list _ _ c.from_residual.ensures.1 (listed.clear_stops a.links.now a.values.now (book_from a.book.now) a.list _ c.in_err-chains.ensures.seen (Err _) refl)

pub returns : goal.returns
returns c =
    let a = c.args in
    let told = c.in_ok-chains.ensures in
    change_done a.book.now a.list _ c.put_list.ensures (clear_grants _ _ _ _ c.clear-after.ensures (ap (λ (x : Chains). x.list) told.chains))
    (listed.clear_listed_done a.links.now a.values.now (book_from a.book.now) a.list told.seen told.chains c.clear-after.ensures)
