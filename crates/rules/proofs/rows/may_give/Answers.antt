-- `rules::rows::may_give`: the table computes to that of the specification, and past it there is nothing.
use mathlib.Core.Path.{refl, sym}
use Rattle.books.specs.Tabulate.{tabulate}
use Rattle.books.specs.Table.{may_give}
use Rattle.books.proofs.Table.{table_at, no_number, no_call}
use Rattle.rules.proofs.rows.may_give.Goals as goal

-- `refl` is the computed test: the table's two hundred and fifty-two places, one by one
pub returns-then-number-lt18 : goal.returns-then-number-lt18
unfolding tabulate may_give
returns-then-number-lt18 c = table_at may_give 14 18 _ refl c.args.call c.args.number c.if-call-lt14.true c.if-number-lt18.true

pub returns-else-number-lt18 : goal.returns-else-number-lt18
returns-else-number-lt18 c = sym (no_number _ _ c.if-number-lt18.false)

pub returns-else-call-lt14 : goal.returns-else-call-lt14
returns-else-call-lt14 c = sym (no_call _ _ c.if-call-lt14.false)
