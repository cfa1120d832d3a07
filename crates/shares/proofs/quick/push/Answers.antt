-- `shares::quick::push`: what the first tests tell, and what the push on the list gives back.
use Rattle.shares.proofs.QuickListed.{quick_push_listed_stops, quick_push_listed_refused, quick_push_listed_done}
use Rattle.shares.proofs.quick.push.Goals as goal

pub returns-in_err-lacks : goal.returns-in_err-lacks
returns-in_err-lacks c =
    let a = c.args in
    quick_push_listed_stops a.links.now a.values.now a.book a.list _ c.in_err-lacks.ensures.number _ c.from_residual.ensures.1 a.end a.value

pub returns-in_err-push_on : goal.returns-in_err-push_on
returns-in_err-push_on c =
    let a = c.args in
    let listed = c.in_ok-lacks.ensures in
    quick_push_listed_refused a.links.now a.values.now a.book a.list listed.number listed.chains.1 a.end a.value listed.chains.0 _ _ c.from_residual-in_err-push_on.ensures.1 c.in_err-push_on.ensures

pub returns : goal.returns
returns c =
    let a = c.args in
    let listed = c.in_ok-lacks.ensures in
    quick_push_listed_done a.links.now a.values.now a.book a.list listed.number listed.chains.1 a.end a.value listed.chains.0 c.in_ok-push_on.ensures
