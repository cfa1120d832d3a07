-- `walks::walk::walk_along`: the slot and the one after it are passed in a turn, and the walk stops before one of them.
use mathlib.Core.Path.{◌≡◌, refl, sym, ap, ◌∙◌}
use mathlib.Core.Bool.{false}
use mathlib.Core.List.{List, [], ◌∷◌, ◌++◌}
use Prim.Native.Nat.{ℕ, ◌+◌}
use native.Mathlib.Omega.{arith}
use lib.Bits.{bit_xor}
use lib.ListN.{length}
use Rattle.books.specs.Book.{null_slot}
use Rattle.chains.specs.Chain.{cell, last_or}
use Rattle.chains.proofs.Chain.{last-append}
use Rattle.shapes.specs.Met.{is_met_of, mark_of, unmet}
use Rattle.shapes.proofs.Seen.{unmet_mark}
use Rattle.shapes.proofs.Going.{Guarded, null_place, guarded_start, guarded_from, guarded_counted, guarded_on, guarded_place, guarded_some, guarded_room}
use Rattle.shapes.specs.declared.End.TheVariants.{Front}
use Rattle.xor.specs.Engine.{xor}
use Rattle.walks.proofs.Live.{live_walked}
use Rattle.walks.proofs.walk.walk_along.Goals as goal

-- a slot that was not met is passed, and the walk is on its way from there
passed_one : (links : List ℕ) {start : List ℕ} {head : ℕ} {passed real real' : List ℕ} {slot last next many : ℕ}
    → Guarded (xor.onward Front links) (xor.fits links) (length links) start head passed real slot many → last ≡ last_or null_slot passed → is_met_of real slot ≡ false
    → (next ≡ bit_xor (cell links slot) last) × (real' ≡ mark_of real slot) → Guarded (xor.onward Front links) (xor.fits links) (length links) start head (passed ++ slot ∷ []) real' next (many + 1)
passed_one links {slot = slot} g l m (e, d) = guarded_on g m refl d (e ∙ ap (λ k. bit_xor (cell links slot) k) l)

passed_last : (passed : List ℕ) (slot : ℕ) → slot ≡ last_or null_slot (passed ++ slot ∷ [])
passed_last passed slot = sym (last-append null_slot passed (slot ∷ []))

pub mark_null-requires : goal.mark_null-requires
mark_null-requires c = null_place _ _ (sym c.if-not-walkable.ensures)

pub loop-met-init : goal.loop-met-init
loop-met-init c =
    let links = c.args.links.now in
    ([], guarded_start (xor.onward Front links) (xor.fits links) (length links) c.args.met.now c.wide-slot.result (sym c.if-not-walkable.ensures) c.mark_null.ensures, refl)

pub pass-next-requires : goal.pass-next-requires
pass-next-requires c = guarded_place c.loop-met.invariant.1 (sym c.loop-met-test.ensures)

pub overflow_add-length : goal.overflow_add-length
overflow_add-length c = omega (arith, guarded_room c.loop-met.invariant.1 (sym c.loop-met-test.ensures))

pub ended-requires : goal.ended-requires
ended-requires c = guarded_some (passed_one _ c.loop-met.invariant.1 c.loop-met.invariant.2 (sym c.loop-met-test.ensures) c.pass-next.ensures)

pub returns-then-is_met : goal.returns-then-is_met
returns-then-is_met c =
    let g = passed_one _ c.loop-met.invariant.1 c.loop-met.invariant.2 (sym c.loop-met-test.ensures) c.pass-next.ensures in
    live_walked (guarded_from (sym c.if-not-walkable.ensures) c.mark_null.ensures c.wide-slot.ensures.0 g)
    (passed_last c.loop-met.invariant.0 c.loop-met.slot)
    (sym c.if-is_met.ensures)
    c.ended.ensures.0
    c.ended.ensures.1

pub pass-slot-requires : goal.pass-slot-requires
pass-slot-requires c =
    let g = passed_one _ c.loop-met.invariant.1 c.loop-met.invariant.2 (sym c.loop-met-test.ensures) c.pass-next.ensures in
    guarded_place g (sym c.if-is_met.ensures)

pub overflow_add-length-in-loop-met : goal.overflow_add-length-in-loop-met
overflow_add-length-in-loop-met c =
    let g = passed_one _ c.loop-met.invariant.1 c.loop-met.invariant.2 (sym c.loop-met-test.ensures) c.pass-next.ensures in
    omega (arith, guarded_room g (sym c.if-is_met.ensures))

pub loop-met-smaller : goal.loop-met-smaller
loop-met-smaller c =
    omega (
      arith,
      ap unmet c.pass-slot.ensures.1,
      unmet_mark c.pass-next.new.met c.pass-next.result (sym c.if-is_met.ensures),
      ap unmet c.pass-next.ensures.1,
      unmet_mark c.loop-met.met c.loop-met.slot (sym c.loop-met-test.ensures),
    )

pub loop-met-preserved : goal.loop-met-preserved
loop-met-preserved c =
    let passed = c.loop-met.invariant.0 ++ c.loop-met.slot ∷ [] in
    let g = passed_one _ c.loop-met.invariant.1 c.loop-met.invariant.2 (sym c.loop-met-test.ensures) c.pass-next.ensures in
    let h = passed_one _ g (passed_last c.loop-met.invariant.0 c.loop-met.slot) (sym c.if-is_met.ensures) c.pass-slot.ensures in
    (passed ++ c.pass-next.result ∷ [], guarded_counted (omega arith) h, passed_last passed c.pass-next.result)

pub ended-requires-2 : goal.ended-requires-2
ended-requires-2 c = guarded_some c.loop-met.invariant.1

pub returns : goal.returns
returns c =
    live_walked (guarded_from (sym c.if-not-walkable.ensures) c.mark_null.ensures c.wide-slot.ensures.0 c.loop-met.invariant.1)
    c.loop-met.invariant.2
    (sym c.loop-met-test.ensures)
    c.ended-2.ensures.0
    c.ended-2.ensures.1
