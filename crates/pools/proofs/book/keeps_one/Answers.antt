-- `pools::book::keeps_one`: the first list is fair, and a turn gathers the bits of one entry more.
use mathlib.Core.Path.{◌≡◌, refl, sym, ap, ◌∙◌}
use mathlib.Core.Bool.{Bool, true, false, ◌&&◌}
use native.Mathlib.Omega.{arith}
use lib.Dec.{eqb}
use Rattle.books.specs.Test.{is_fair, is_zero}
use Rattle.books.specs.Words.{entry_from}
use Rattle.books.proofs.Tests.{or_zero}
use Rattle.books.proofs.Eight.{zero_adds, zero_past}
use Rattle.pools.proofs.book.keeps_one.Goals as goal

in_turn : (a b c : Bool) → (a && b) && c ≡ a && (b && c)
in_turn true b c = refl
in_turn false b c = refl

alone : (a : Bool) → a && true ≡ a
alone true = refl
alone false = refl

pub loop-list-preserved : goal.loop-list-preserved
loop-list-preserved c =
    let at = c.loop-list in
    let entries = entry_from c.args.words.now in
    rw (or_zero at.bits c.bits_of-bits.result, c.bits_of-bits.ensures, c.entry_at-in-loop-list.ensures)
    (in_turn (eqb at.bits 0) (is_zero (entries at.list)) _
    ∙ ap (λ (z : Bool). eqb at.bits 0 && z) (sym (zero_adds entries at.list (omega arith)))
    ∙ at.invariant)

pub returns : goal.returns
returns c =
    let at = c.loop-list in
    let entries = entry_from c.args.words.now in
    rw (ap (is_fair c.args.size) (sym c.entry_at.ensures) ∙ sym c.is_fair.ensures ∙ c.if-not-is_fair.false)
    (sym (alone (eqb at.bits 0))
    ∙ ap (λ (z : Bool). eqb at.bits 0 && z) (sym (zero_past entries at.list (omega arith)))
    ∙ at.invariant)
