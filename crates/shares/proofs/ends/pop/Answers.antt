-- `shares::ends::pop`: what the test of 1, 9 to 16 and 4 tells, and what the pop from the list gives back.
use Rattle.shares.proofs.Listed.{pop_listed_stops, pop_listed_refused, pop_listed_done}
use Rattle.shares.proofs.ends.pop.Goals as goal

pub returns-in_err-chains : goal.returns-in_err-chains
returns-in_err-chains c =
    let a = c.args in
    pop_listed_stops a.links.now a.values.now a.book a.list _ c.in_err-chains.ensures.seen _ c.from_residual.ensures.1 a.end

pub returns-in_err-pop : goal.returns-in_err-pop
returns-in_err-pop c =
    let a = c.args in
    let listed = c.in_ok-chains.ensures in
    pop_listed_refused a.links.now a.values.now a.book a.list listed.seen listed.chains a.end _ _ c.from_residual-in_err-pop.ensures.1 c.in_err-pop.ensures

pub returns : goal.returns
returns c =
    let a = c.args in
    let listed = c.in_ok-chains.ensures in
    pop_listed_done a.links.now a.values.now a.book a.list listed.seen listed.chains a.end c.in_ok-pop.ensures
