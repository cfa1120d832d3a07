-- `abi::changes::pop`: what the check and the test of the list tell, what the pop on the list gives back, and which words are kept.
use Rattle.std.specs.Prelude.{Err}
use mathlib.Core.Path.{refl, ap}
use Rattle.books.specs.Words.{book_from}
use Rattle.books.specs.declared.Entry.{Entry}
use Rattle.shapes.specs.declared.Chains.{Chains}
use Rattle.shares.proofs.Listed as listed
use Rattle.abi.proofs.Granted.{pop_grants}
use Rattle.abi.proofs.Keeping.{pop_kept_stops, pop_kept_done}
use Rattle.abi.proofs.changes.pop.Goals as goal

pub returns-in-Err : goal.returns-in-Err
returns-in-Err c =
    let a = c.args in
    pop_kept_stops a.book.now a.list c.in-Err.refused (Err c.in-Err.refused) refl (listed.pop_listed_stops a.links.now a.values.now (book_from a.book.now) a.list _ (rw c.in-Err.is at c.listed.ensures.seen) (Err _) refl a.end)

pub returns-in_err-after : goal.returns-in_err-after
returns-in_err-after c =
    let a = c.args in
    let seen = rw c.in-Ok.is at c.listed.ensures.seen in
    let chains = rw c.in-Ok.is at c.listed.ensures.chains in
    pop_kept_stops a.book.now a.list _ _ c.from_residual.ensures.1
    (listed.pop_listed_refused a.links.now a.values.now (book_from a.book.now) a.list seen chains a.end _ (Err _) refl c.in_err-after.ensures)

pub returns : goal.returns
returns c =
    let a = c.args in
    let seen = rw c.in-Ok.is at c.listed.ensures.seen in
    let chains = rw c.in-Ok.is at c.listed.ensures.chains in
    pop_kept_done a.book.now a.list _ c.put_list.ensures (pop_grants _ _ _ _ _ c.in_ok-after.ensures (ap (λ (x : Chains). x.list) chains))
    (listed.pop_listed_done a.links.now a.values.now (book_from a.book.now) a.list seen chains a.end c.in_ok-after.ensures)
