-- `shares::check::listed`: what the check tells, and then whether there is such a list.
use Rattle.std.specs.Prelude.{◌≡◌}
use Rattle.books.specs.declared.Number.TheVariants.{NoList}
use Rattle.books.specs.Words.{book_from}
use Rattle.pools.proofs.Found.{handed_on}
use Rattle.shares.proofs.Listed.{look_stops, list_passes, list_stops}
use Rattle.shares.proofs.check.listed.Goals as goal

pub returns-in_err-lacks-clause-seen : goal.returns-in_err-lacks-clause-seen
returns-in_err-lacks-clause-seen c =
    let a = c.args in
    rw (handed_on _ _ c.from_residual.ensures.1) (look_stops a.links.now a.values.now (book_from a.words.now) a.list _ c.in_err-lacks.ensures)

pub returns-in_err-chains-clause-seen : goal.returns-in_err-chains-clause-seen
returns-in_err-chains-clause-seen c =
    let a = c.args in
    let none = c.in_err-chains.ensures.ok_part in
    let value = rw none at c.in_err-chains.ensures.value in
    let same : c.in_err-chains.field-0.0 ≡ NoList = cc in
    rw (handed_on _ _ c.from_residual-in_err-chains.ensures.1, same) (list_stops a.links.now a.values.now (book_from a.words.now) a.list c.in_ok-lacks.ensures (rw none at c.chains_of.ensures))

pub returns-clause-seen : goal.returns-clause-seen
returns-clause-seen c =
    let a = c.args in
    list_passes a.links.now a.values.now (book_from a.words.now) a.list c.in_ok-lacks.ensures (rw c.in_ok-chains.ensures.ok_part at c.chains_of.ensures).0
