-- `abi::changes::flailreeve_pop_front`: where the pop is refused the word is 0 already.
use mathlib.Core.Path.{◌∙◌}
use Rattle.shapes.specs.declared.End.TheVariants.{Front}
use Rattle.abi.proofs.Keeping.{none_handed}
use Rattle.abi.proofs.changes.flailreeve_pop_front.Goals as goal

pub returns-then-number-ne0 : goal.returns-then-number-ne0
returns-then-number-ne0 c =
    let a = c.args in
    let n = c.noted-number.ensures in
    rw (n.number, n.place) (none_handed a.links.now a.values.now a.book.now a.list Front _ c.pop-change.ensures (λ z. c.if-number-ne0.true (n.number ∙ z)))
