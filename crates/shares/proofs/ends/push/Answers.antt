-- `shares::ends::push`: what the test of 1, 9 to 16 and 4 tells, and what the push on the list gives back.
use Rattle.shares.proofs.Listed.{push_listed_stops, push_listed_refused, push_listed_done}
use Rattle.shares.proofs.ends.push.Goals as goal

pub returns-in_err-lacks : goal.returns-in_err-lacks
returns-in_err-lacks c =
    let a = c.args in
    push_listed_stops a.links.now a.values.now a.book a.list _ c.in_err-lacks.ensures.seen _ c.from_residual.ensures.1 a.end a.value

pub returns-in_err-push : goal.returns-in_err-push
returns-in_err-push c =
    let a = c.args in
    let listed = c.in_ok-lacks.ensures in
    push_listed_refused a.links.now a.values.now a.book a.list listed.seen listed.chains a.end a.value _ _ c.from_residual-in_err-push.ensures.1 c.in_err-push.ensures

pub returns : goal.returns
returns c =
    let a = c.args in
    let listed = c.in_ok-lacks.ensures in
    push_listed_done a.links.now a.values.now a.book a.list listed.seen listed.chains a.end a.value c.in_ok-push.ensures
