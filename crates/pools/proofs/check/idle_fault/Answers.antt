-- `pools::check::idle_fault`: each answer follows from the tests on the way.
use mathlib.Core.Path.{◌≡◌, refl, sym, ap, ◌∙◌}
use mathlib.Core.Logic.{◌≢◌}
use mathlib.Core.Bool.{Bool, true, false, not}
use mathlib.Core.List.{List}
use Prim.Native.Nat.{ℕ, ◌+◌, ◌-◌}
use native.Mathlib.Omega.{arith}
use borrow.Author.Tests.{eq-eqb, ne_eqb}
use Rattle.std.specs.Prelude.{Option, Result}
use Rattle.std.specs.Option.{unwrap_or}
use Rattle.books.specs.declared.Refused.{Refused}
use Rattle.books.specs.Book.{null_slot}
use Rattle.shapes.specs.Records.{Fault, Gathered}
use Rattle.shapes.specs.Faults.{no_fault, fault, lowest_unmet, idle_fault, count_fault, spare_fault}
use Rattle.pools.specs.Found.{fault_by, fault_or, lowest_by, gathered_by}
use Rattle.pools.proofs.Found.{handed_on, lowest_found}
use Rattle.pools.proofs.check.idle_fault.Goals as goal

-- a number that sets a position
abbrev at_position : ℕ → Refused → Fault
at_position position r = fault_by (record { number = r.number; list = r.list; position = position })

is_false : (b : Bool) → not b ≡ true → b ≡ false
is_false true h = sym h
is_false false h = refl

is_true : (b : Bool) → not b ≡ false → b ≡ true
is_true true h = refl
is_true false h = sym h

module _ (met : List ℕ) (size lists : ℕ) (g : Gathered) (ended : Bool) (free unwiped stored : ℕ) where
  abbrev all : Fault
  all = idle_fault met size lists g ended free unwiped stored

  twelve : not ended ≡ true → fault 12 0 free ≡ all
  unfolding idle_fault
  twelve e = rw (is_false ended e)

  module _ (e : not ended ≡ false) where
    thirteen : (slot : ℕ) → g.live + free + 1 ≢ size → slot ≡ lowest_unmet met 1 (size - 1) → fault 13 0 slot ≡ all
    unfolding idle_fault
    thirteen slot d s = rw (is_true ended e, ne_eqb (g.live + free + 1) size d, s)

    module _ (many : g.live + free + 1 ≡ size) where
      fourteen : unwiped ≢ null_slot → fault 14 0 unwiped ≡ all
      unfolding idle_fault
      fourteen d = rw (is_true ended e, eq-eqb (g.live + free + 1) size many, ne_eqb unwiped null_slot d)

      later : unwiped ≡ null_slot → spare_fault lists g.over g.lacks free (count_fault lists g.wrong stored free) ≡ all
      unfolding idle_fault
      later z = rw (is_true ended e, eq-eqb (g.live + free + 1) size many, eq-eqb unwiped null_slot z)

pub returns-then-not-idle : goal.returns-then-not-idle
returns-then-not-idle c =
    let a = c.args in
    ap (at_position a.idle.length) c.into.ensures
    ∙ twelve a.met.now a.size a.lists (gathered_by a.lists a.counts) a.idle.ok a.idle.length a.idle.unwiped a.stored c.if-not-idle.true

pub overflow_cast-result-then-counts-many : goal.overflow_cast-result-then-counts-many
overflow_cast-result-then-counts-many c =
    let a = c.args in
    omega (arith, c.unwrap_or-slot.ensures ∙ ap (λ (o : Option ℕ). unwrap_or o a.size) c.lowest_unmet.ensures, (lowest_found a.met.now a.size 1 (a.size - 1) (omega arith)).1)

pub returns-then-counts-many : goal.returns-then-counts-many
returns-then-counts-many c =
    let a = c.args in
    ap (at_position c.unwrap_or-slot.result) c.into-then-counts-many.ensures
    ∙ thirteen a.met.now a.size a.lists (gathered_by a.lists a.counts) a.idle.ok a.idle.length a.idle.unwiped a.stored c.if-not-idle.false _ c.if-counts-many.true (c.unwrap_or-slot.ensures ∙ ap (λ (o : Option ℕ). unwrap_or o a.size) c.lowest_unmet.ensures ∙ (lowest_found a.met.now a.size 1 (a.size - 1) (omega arith)).0)

pub returns-then-idle-ne-NULL : goal.returns-then-idle-ne-NULL
returns-then-idle-ne-NULL c =
    let a = c.args in
    ap (at_position a.idle.unwiped) c.into-then-idle-ne-NULL.ensures
    ∙ fourteen a.met.now a.size a.lists (gathered_by a.lists a.counts) a.idle.ok a.idle.length a.idle.unwiped a.stored c.if-not-idle.false c.if-counts-many.false c.if-idle-ne-NULL.true

pub returns-in_err-spare_fault : goal.returns-in_err-spare_fault
returns-in_err-spare_fault c =
    let a = c.args in
    ap (λ (r : Result (Unit {0}) Refused). fault_or r no_fault) (handed_on c.from_residual.result _ c.from_residual.ensures.1)
    ∙ c.in_err-spare_fault.ensures (count_fault a.lists (lowest_by a.lists a.counts.wrong) a.stored a.idle.length)
    ∙ later a.met.now a.size a.lists (gathered_by a.lists a.counts) a.idle.ok a.idle.length a.idle.unwiped a.stored c.if-not-idle.false c.if-counts-many.false c.if-idle-ne-NULL.false

pub returns : goal.returns
returns c =
    let a = c.args in
    c.count_fault.ensures
    ∙ c.in_ok-spare_fault.ensures (count_fault a.lists (lowest_by a.lists a.counts.wrong) a.stored a.idle.length)
    ∙ later a.met.now a.size a.lists (gathered_by a.lists a.counts) a.idle.ok a.idle.length a.idle.unwiped a.stored c.if-not-idle.false c.if-counts-many.false c.if-idle-ne-NULL.false
