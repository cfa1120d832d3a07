-- `shares::quick::pop`: what the first tests tell, and what the pop from the list gives back.
use Rattle.shares.proofs.QuickListed.{quick_pop_listed_stops, quick_pop_listed_refused, quick_pop_listed_done}
use Rattle.shares.proofs.quick.pop.Goals as goal

pub returns-in_err-chains : goal.returns-in_err-chains
returns-in_err-chains c =
    let a = c.args in
    quick_pop_listed_stops a.links.now a.values.now a.book a.list _ c.in_err-chains.ensures.number _ c.from_residual.ensures.1 a.end

pub returns-in_err-pop_on : goal.returns-in_err-pop_on
returns-in_err-pop_on c =
    let a = c.args in
    let listed = c.in_ok-chains.ensures in
    quick_pop_listed_refused a.links.now a.values.now a.book a.list listed.number listed.chains.1 a.end _ _ c.from_residual-in_err-pop_on.ensures.1 c.in_err-pop_on.ensures

pub returns : goal.returns
returns c =
    let a = c.args in
    let listed = c.in_ok-chains.ensures in
    quick_pop_listed_done a.links.now a.values.now a.book a.list listed.number listed.chains.1 a.end c.in_ok-pop_on.ensures
