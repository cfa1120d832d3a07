-- `walks::met::is_met`: a place of the record is read, and past its end the slot counts as met.
use mathlib.Core.Path.{ap, sym, ◌∙◌}
use mathlib.Core.Bool.{not}
use lib.Dec.{eqb}
use borrow.Author.Tests.{le-leb}
use lib.ListN.{length, get_or-eq_default}
use Rattle.shapes.specs.Met.{is_met_of}
use Rattle.shapes.proofs.Seen.{read_any}
use Rattle.walks.proofs.met.is_met.Goals as goal

pub returns-then-met-slot : goal.returns-then-met-slot
unfolding is_met_of
returns-then-met-slot c = le-leb (length c.args.met.now) c.args.slot c.if-met-slot.true ∙ ap (λ v. not (eqb v 0)) (sym (get_or-eq_default c.args.met.now 1 {n = c.args.slot} c.if-met-slot.true))

pub returns-else-met-slot : goal.returns-else-met-slot
unfolding is_met_of
returns-else-met-slot c = ap (λ v. not (eqb v 0)) (read_any c.args.met.now c.args.slot 0 1 c.if-met-slot.false)
