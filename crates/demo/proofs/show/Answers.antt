-- `demo::show`: the lines of the pushes and what is shown of the pops, or the text of a refusal in their place.
use native.Mathlib.Omega.{arith}
use Rattle.shows.proofs.Shows.{pushed_count, at_pushes, at_pops}
use Rattle.demo.proofs.show.Goals as goal

pub returns-then-pushed-ne0 : goal.returns-then-pushed-ne0
returns-then-pushed-ne0 c = at_pushes c.args.links.now c.args.values.now c.push_three-pushed.ensures c.if-pushed-ne0.true c.refused.ensures

pub show_pops-requires : goal.show_pops-requires
show_pops-requires c = omega (arith, pushed_count c.three-at.ensures)

pub returns : goal.returns
returns c =
    at_pops c.args.links.now c.args.values.now c.push_three-pushed.ensures c.if-pushed-ne0.false c.pop_three-gone.ensures
    (omega arith) (omega arith) (omega arith) c.requires c.three-at.ensures c.show_pops.ensures
