-- `pools::check::find_idle`: the idle chain's slots are among those that were left to meet.
use mathlib.Core.Path.{sym, ap, ◌∙◌}
use native.Mathlib.Omega.{arith}
use Rattle.engines.proofs.Stages.{idle_at_most}
use Rattle.xor.specs.Engine.{xor}
use Rattle.pools.specs.Found.{look_found}
use Rattle.pools.proofs.Found.{none_said, found_none, idle_as}
use Rattle.pools.proofs.check.find_idle.Goals as goal

pub none_broken-requires : goal.none_broken-requires
none_broken-requires c =
    omega (arith, c.walk_idle-idle.ensures.counted, idle_at_most xor c.args.links.now c.args.values.now c.args.met.now c.args.free)

pub returns-then-none_broken : goal.returns-then-none_broken
returns-then-none_broken c =
    let a = c.args in
    let idle = c.walk_idle-idle.result in
    found_none _ a.counts.lacks (none_said a.lists _ a.counts idle a.free.count c.walk_idle-idle.new.met (sym c.none_broken.ensures ∙ c.if-none_broken.true))
    ∙ ap look_found (idle_as c.walk_idle-idle.ensures a.lists a.counts)

pub idle_fault-requires : goal.idle_fault-requires
idle_fault-requires c = (
  omega arith,
  omega arith,
  omega (arith, c.walk_idle-idle.ensures.counted, idle_at_most xor c.args.links.now c.args.values.now c.args.met.now c.args.free),
  c.requires.2,
)

pub returns : goal.returns
returns c =
    let a = c.args in
    found_none _ a.counts.lacks (sym c.in_ok-idle_fault.ensures) ∙ ap look_found (idle_as c.walk_idle-idle.ensures a.lists a.counts)
