-- `walks::idle::walk_idle`: a slot that was not met is passed in a turn, and the walk stops before one that was.
use mathlib.Core.Path.{◌≡◌, refl, sym, ap, ◌∙◌}
use mathlib.Core.List.{List, [], ◌∷◌, ◌++◌, append-nil}
use Prim.Native.Nat.{ℕ}
use native.Mathlib.Nat.{add-zero}
use native.Mathlib.Omega.{arith}
use lib.ListN.{length}
use Rattle.books.specs.Book.{null_slot}
use Rattle.shapes.specs.Met.{unmet}
use Rattle.shapes.specs.Walk.{unwiped_from}
use Rattle.walks.specs.Idle.{idle_first}
use Rattle.shapes.proofs.Seen.{unmet_mark}
use Rattle.shapes.proofs.Unwiped.{unlike_on}
use Rattle.shapes.proofs.Going.{null_place, guarded_start, guarded_from, guarded_on, guarded_place, guarded_some, guarded_room}
use Rattle.xor.specs.Engine.{xor}
use Rattle.walks.proofs.IdleWalks.{Firsts, firsts_start, firsts_on, idle_walked, idle_unvalued, idle_unwalkable}
use Rattle.walks.proofs.idle.walk_idle.Goals.{then-links-values-via-then-links-values, then-links-values-via-else-links-values+then-not-walkable}
use Rattle.walks.proofs.idle.walk_idle.Goals as goal

-- the slots passed are the first ones from the free head, which was widened
firsts : (links : List ℕ) {head wide : ℕ} {passed : List ℕ} (slot many : ℕ) → wide ≡ head → Firsts links wide passed slot many → idle_first links many head ≡ passed
firsts links {head} {wide} {passed} slot many e f =
    ap (idle_first links many) (sym e) ∙ ap (λ n. idle_first links n wide) (sym (add-zero many)) ∙ f 0 ∙ append-nil passed

pub returns-then-links-values : goal.returns-then-links-values
returns-then-links-values c =
    elim c.then-links-values.branch [
      | then-links-values-via-then-links-values w ↦ idle_unvalued c.refused.ensures w.if-links-values.true
      | then-links-values-via-else-links-values+then-not-walkable w ↦ idle_unwalkable c.refused.ensures w.if-links-values.false (sym w.walkable.ensures ∙ w.if-not-walkable.true)
    ]

pub mark_null-requires : goal.mark_null-requires
mark_null-requires c = null_place _ _ (sym c.if-not-walkable.ensures)

pub loop-met-init : goal.loop-met-init
loop-met-init c =
    let links = c.args.links.now in (
      [],
      guarded_start (xor.idle_onward links) (xor.idle_fits links) (length links) c.args.met.now c.wide-slot.result (sym c.if-not-walkable.ensures) c.mark_null.ensures,
      firsts_start links c.wide-slot.result,
      λ h. refl,
    )

pub mark-requires : goal.mark-requires
mark-requires c = (guarded_place c.loop-met.invariant.1 (sym c.loop-met-test.ensures)).1

pub offset_bounds-values-slot : goal.offset_bounds-values-slot
offset_bounds-values-slot c = omega (arith, (guarded_place c.loop-met.invariant.1 (sym c.loop-met-test.ensures)).0, c.if-links-values.false)

pub bounds-values-slot : goal.bounds-values-slot
bounds-values-slot c = omega (arith, (guarded_place c.loop-met.invariant.1 (sym c.loop-met-test.ensures)).0, c.if-links-values.false)

pub overflow_add-length : goal.overflow_add-length
overflow_add-length c = omega (arith, guarded_room c.loop-met.invariant.1 (sym c.loop-met-test.ensures))

pub offset_bounds-links-slot : goal.offset_bounds-links-slot
offset_bounds-links-slot c = omega (arith, (guarded_place c.loop-met.invariant.1 (sym c.loop-met-test.ensures)).0)

pub bounds-links-slot : goal.bounds-links-slot
bounds-links-slot c = (guarded_place c.loop-met.invariant.1 (sym c.loop-met-test.ensures)).0

pub loop-met-smaller : goal.loop-met-smaller
loop-met-smaller c = omega (arith, ap unmet c.mark.ensures, unmet_mark c.loop-met.met c.loop-met.slot (sym c.loop-met-test.ensures))

pub loop-met-preserved : goal.loop-met-preserved
loop-met-preserved c =
    let (passed, g, f, u) = c.loop-met.invariant in (
      passed ++ c.loop-met.slot ∷ [],
      guarded_on g (sym c.loop-met-test.ensures) refl c.mark.ensures c.wide-slot-in-loop-met.ensures.0,
      firsts_on c.args.links.now c.wide-slot.result passed c.loop-met.slot c.loop-met.length f c.wide-slot-in-loop-met.ensures.0,
      unlike_on c.args.values.now passed c.loop-met.slot c.loop-met.unlike u,
    )

pub ended-requires : goal.ended-requires
ended-requires c =
    (guarded_some c.loop-met.invariant.1, λ h. ap (λ xs. unwiped_from c.args.values.now xs null_slot) (firsts c.args.links.now c.loop-met.slot c.loop-met.length c.wide-slot.ensures.0 c.loop-met.invariant.2) ∙ c.loop-met.invariant.3 h)

pub returns : goal.returns
returns c =
    idle_walked c.if-links-values.false
    (guarded_from (sym c.if-not-walkable.ensures) c.mark_null.ensures c.wide-slot.ensures.0 c.loop-met.invariant.1)
    (firsts c.args.links.now c.loop-met.slot c.loop-met.length c.wide-slot.ensures.0 c.loop-met.invariant.2)
    (sym c.loop-met-test.ensures)
    c.ended.ensures.0
    c.ended.ensures.1
