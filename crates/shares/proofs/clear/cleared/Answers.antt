-- `shares::clear::cleared`: what the test of 1, 9 to 16 and 4 tells, and what the clear of the list gives back.
use Rattle.shares.proofs.Listed.{clear_stops, clear_listed_done}
use Rattle.shares.proofs.clear.cleared.Goals as goal

pub returns-in_err-chains : goal.returns-in_err-chains
returns-in_err-chains c =
    let a = c.args in
    clear_stops a.links.now a.values.now a.book a.list _ c.in_err-chains.ensures.seen _ c.from_residual.ensures.1

pub returns : goal.returns
returns c =
    let a = c.args in
    let listed = c.in_ok-chains.ensures in
    clear_listed_done a.links.now a.values.now a.book a.list listed.seen listed.chains c.clear.ensures
