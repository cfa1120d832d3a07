-- The place of a fault that the check gives is at most N, on any cells and any engine: it has a place in 16 bits.
use mathlib.Core.Path.{◌≡◌, refl}
use mathlib.Core.Logic.{⊎_elim}
use mathlib.Core.Bool.{Bool}
use mathlib.Core.List.{List, [], ◌∷◌}
use Prim.Native.Nat.{ℕ, zero, suc, ◌+◌, ◌-◌, ◌≤◌, ◌<◌}
use native.Mathlib.Decide.{ℕ_discrete}
use native.Mathlib.Nat.{eq-zero-or-pos}
use native.Mathlib.Omega.{arith}
use lib.Dec.{leb, eqb}
use lib.ListN.{length, take, length-replicate}
use Rattle.books.specs.declared.Entry.{Entry}
use Rattle.books.specs.declared.Free.{Free}
use Rattle.books.specs.Book.{null_slot, AnyBook}
use Rattle.books.specs.Test.{keeps_rules}
use Rattle.books.proofs.Tests.{cond_ind}
use Rattle.chains.specs.Count.{count}
use Rattle.shapes.specs.Records.{Fault}
use Rattle.shapes.specs.Records.{Found}
use Rattle.shapes.specs.Records.{Gathered}
use Rattle.shapes.specs.Met.{is_met_of, mark_all, unmet}
use Rattle.shapes.specs.Walk.{unwiped_from, Passes}
use Rattle.shapes.specs.Faults.{nothing_met, gathered_none, gather_one, Round, lowest_unmet, count_fault, spare_fault, idle_fault}
use Rattle.shapes.proofs.Seen.{unmet_le}
use Rattle.shapes.proofs.Walks.{pass_unmet}
use Rattle.shapes.proofs.Unwiped.{unwiped_lowest}
use Rattle.engines.specs.Engine.{Engine}
use Rattle.engines.specs.Check.{live_path, ends_well, idle_path, gather_all, null_slot_zero, pool_found, check_found}
use Rattle.engines.proofs.Gather.{live_fresh}
use Rattle.engines.proofs.Idle.{idle_fresh}
use Rattle.engines.proofs.Stages.{idle_at_most}

lowest_at_most : (met : List ℕ) (slot n : ℕ) → lowest_unmet met slot n ≤ slot + n
lowest_at_most met slot zero = omega arith
lowest_at_most met slot (suc n) = cond_ind (λ (k : ℕ). k ≤ slot + suc n) (is_met_of met slot) (λ h. omega (arith, lowest_at_most met (suc slot) n)) (λ h. omega arith)

count_place : (lists wrong stored free : ℕ) → (count_fault lists wrong stored free).place ≡ 0
unfolding count_fault
count_place lists wrong stored free =
    cond_ind (λ (f : Fault). f.place ≡ 0) (eqb wrong lists) (λ h. cond_ind (λ (f : Fault). f.place ≡ 0) (eqb stored free) (λ k. refl) (λ k. refl)) (λ h. refl)

spare_place : (lists over lacks free : ℕ) (later : Fault) → later.place ≡ 0 → (spare_fault lists over lacks free later).place ≡ 0
unfolding spare_fault
spare_place lists over lacks free later z =
    cond_ind (λ (f : Fault). f.place ≡ 0) (eqb over lists) (λ h. cond_ind (λ (f : Fault). f.place ≡ 0) (leb lacks free) (λ k. z) (λ k. refl)) (λ h. refl)

idle_place : (met : List ℕ) (size lists : ℕ) (g : Gathered) (ended : Bool) (free unwiped stored n : ℕ) → free ≤ n → unwiped ≤ n → 1 + (size - 1) ≤ n → (idle_fault met size lists g ended free unwiped stored).place ≤ n
unfolding idle_fault
idle_place met size lists g ended free unwiped stored n p q r =
    cond_ind (λ (f : Fault). f.place ≤ n) ended
    (λ h. cond_ind (λ (f : Fault). f.place ≤ n) (eqb (g.live + free + 1) size)
    (λ i. cond_ind (λ (f : Fault). f.place ≤ n) (eqb unwiped null_slot) (λ j. omega (arith, spare_place lists g.over g.lacks free (count_fault lists g.wrong stored free) (count_place lists g.wrong stored free))) (λ j. q))
    (λ i. omega (arith, lowest_at_most met 1 (size - 1))))
    (λ h. p)

-- the lowest slot of a walk that is not wiped is one that was passed, or 0
unwiped_place : (values : List ℕ) {size : ℕ} {met slots : List ℕ} → Passes size met slots → unwiped_from values slots null_slot ≤ size
unwiped_place values {size} {met} {slots} P = go (ℕ_discrete (unwiped_from values slots null_slot) null_slot)
  where
    none : count null_slot slots ≡ 0
    none = ⊎_elim (λ z. z) (λ p. absurd (omega (arith, P.inside null_slot p))) (eq-zero-or-pos (count null_slot slots))

    go : Dec (unwiped_from values slots null_slot ≡ null_slot) → unwiped_from values slots null_slot ≤ size
    go (yes z) = omega (arith, z)
    go (no d) = omega (arith, P.inside _ (unwiped_lowest values slots none d).inside)

module _ (E : Engine) (links : E.Links) where
  -- the places of the faults of the lists, and the slots that are left to meet
  gathered_place : (lists n list : ℕ) (es : List Entry) (met : List ℕ) (g : Gathered) → g.fault.place ≤ n → unmet met ≤ n
      → ((gather_all E lists links list es met g).gathered.fault.place ≤ n) × (unmet (gather_all E lists links list es met g).met ≤ n)
  unfolding gather_all
  gathered_place lists n list [] met g p q = (p, q)
  gathered_place lists n list (e ∷ es) met g p q =
      let path = live_path E links met e in
      let fewer = pass_unmet met path.slots (live_fresh E links met e).once in
      cond_ind (λ (r : Round). (r.gathered.fault.place ≤ n) × (unmet r.met ≤ n)) (ends_well path e)
      (λ h. gathered_place lists n (suc list) es (mark_all met path.slots) (gather_one lists list e (length path.slots) g) p (omega arith))
      (λ h. (omega arith, omega arith))

  module _ (values : List ℕ) (some : 0 < E.size links) where
    pool_place : (es : List Entry) (free : Free) → (pool_found E links values es free).fault.place ≤ E.size links
    unfolding pool_found nothing_met
    pool_place es free =
        let all = gather_all E (length es) links 0 es (nothing_met (E.size links)) (gathered_none (length es)) in
        let told = gathered_place (length es) (E.size links) 0 es (nothing_met (E.size links)) (gathered_none (length es)) (omega arith) (omega (arith, unmet_le (nothing_met (E.size links)), length-replicate (E.size links) zero)) in
        cond_ind (λ (f : Found). f.fault.place ≤ E.size links) (null_slot_zero E links values)
        (λ h. cond_ind (λ (f : Found). f.fault.place ≤ E.size links) (eqb all.gathered.fault.rule 0)
        (λ i. idle_place _ (E.size links) (length es) _ _ _ _ _ (E.size links) (omega (arith, told.1, idle_at_most E links values all.met free)) (unwiped_place values (idle_fresh E links values all.met free)) (omega arith))
        (λ i. told.0))
        (λ h. omega arith)

    pub place_within : (b : AnyBook) → (check_found E links values b).fault.place ≤ E.size links
    unfolding check_found
    place_within b = cond_ind (λ (f : Found). f.fault.place ≤ E.size links) (keeps_rules (E.size links) b) (λ h. pool_place (take b.lists b.entries) b.free) (λ h. omega arith)
