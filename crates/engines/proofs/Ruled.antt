-- The fault that the check gives is none, or of one of the rules 9 to 16 with what that rule sets, on any cells and any engine; and which place goes with a number.
use mathlib.Core.Path.{◌≡◌, refl}
use mathlib.Core.Logic.{◌≢◌, ◌⊎◌, inl, inr}
use mathlib.Core.Bool.{Bool, true, ◌&&◌}
use mathlib.Core.List.{List, [], ◌∷◌}
use Prim.Native.Nat.{ℕ, suc, ◌+◌, ◌≤◌, ◌<◌}
use native.Mathlib.Omega.{arith}
use lib.Dec.{leb, eqb}
use lib.ListN.{length, take}
use borrow.Author.Tests.{ne_eqb}
use Rattle.books.specs.declared.Entry.{Entry}
use Rattle.books.specs.declared.Free.{Free}
use Rattle.books.specs.Book.{null_slot, AnyBook}
use Rattle.books.specs.Place.{no_place}
use Rattle.books.specs.Table.{fault_rules, among}
use Rattle.books.specs.Test.{keeps_rules}
use Rattle.books.proofs.Tests.{cond_ind}
use Rattle.shapes.specs.Records.{Fault}
use Rattle.shapes.specs.Records.{Found}
use Rattle.shapes.specs.Records.{Gathered}
use Rattle.shapes.specs.Met.{mark_all}
use Rattle.shapes.specs.Walk.{Path}
use Rattle.shapes.specs.Faults.{fault, no_fault, place_for, nothing_met, gathered_none, gather_one, Round, count_fault, spare_fault, idle_fault}
use Rattle.engines.specs.Engine.{Engine}
use Rattle.engines.specs.Check.{live_path, ends_well, idle_path, gather_all, null_slot_zero, pool_found, check_found}

-- a fault that the check can give: its rule, and the part of the place that the rule does not set is 0
pub data KnownFault : Fault → Type 0 where
  known_0 : KnownFault no_fault
  known_9 : KnownFault (fault 9 0 0)
  known_10 : KnownFault (fault 10 0 0)
  known_11 : (l p : ℕ) → KnownFault (fault 11 l p)
  known_12 : (p : ℕ) → KnownFault (fault 12 0 p)
  known_13 : (p : ℕ) → KnownFault (fault 13 0 p)
  known_14 : (p : ℕ) → KnownFault (fault 14 0 p)
  known_15 : (l : ℕ) → KnownFault (fault 15 l 0)
  known_16 : (l : ℕ) → KnownFault (fault 16 l 0)

-- the rule is one of 9 to 16 where there is one
pub rule_among : {f : Fault} → KnownFault f → f.rule ≢ 0 → among f.rule fault_rules ≡ true
rule_among known_0 d = absurd (d refl)
rule_among known_9 d = refl
rule_among known_10 d = refl
rule_among (known_11 l p) d = refl
rule_among (known_12 p) d = refl
rule_among (known_13 p) d = refl
rule_among (known_14 p) d = refl
rule_among (known_15 l) d = refl
rule_among (known_16 l) d = refl

-- and from 9 to 16
pub rule_range : {f : Fault} → KnownFault f → f.rule ≢ 0 → (9 ≤ f.rule) × (f.rule ≤ 16)
rule_range known_0 d = absurd (d refl)
rule_range known_9 d = omega arith
rule_range known_10 d = omega arith
rule_range (known_11 l p) d = omega arith
rule_range (known_12 p) d = omega arith
rule_range (known_13 p) d = omega arith
rule_range (known_14 p) d = omega arith
rule_range (known_15 l) d = omega arith
rule_range (known_16 l) d = omega arith

-- it is no number that is not of a rule
pub not_rule : {f : Fault} → KnownFault f → (k : ℕ) → k ≢ 0 → k ≤ 8 → f.rule ≢ k
not_rule known_0 k d h e = d (omega arith)
not_rule known_9 k d h e = omega arith
not_rule known_10 k d h e = omega arith
not_rule (known_11 l p) k d h e = omega arith
not_rule (known_12 p) k d h e = omega arith
not_rule (known_13 p) k d h e = omega arith
not_rule (known_14 p) k d h e = omega arith
not_rule (known_15 l) k d h e = omega arith
not_rule (known_16 l) k d h e = omega arith

-- of the rules but 11, 15 and 16 the list is 0, and of those but 11 to 14 the position
pub list_unset_lem : {f : Fault} → KnownFault f → f.rule ≢ 11 → f.rule ≢ 15 → f.rule ≢ 16 → f.list ≡ 0
list_unset_lem known_0 d e i = refl
list_unset_lem known_9 d e i = refl
list_unset_lem known_10 d e i = refl
list_unset_lem (known_11 l p) d e i = absurd (d refl)
list_unset_lem (known_12 p) d e i = refl
list_unset_lem (known_13 p) d e i = refl
list_unset_lem (known_14 p) d e i = refl
list_unset_lem (known_15 l) d e i = absurd (e refl)
list_unset_lem (known_16 l) d e i = absurd (i refl)

pub position_unset_lem : {f : Fault} → KnownFault f → (f.rule < 11) ⊎ (14 < f.rule) → f.place ≡ 0
position_unset_lem known_0 h = refl
position_unset_lem known_9 h = refl
position_unset_lem known_10 h = refl
position_unset_lem (known_11 l p) (inl h) = absurd (omega arith)
position_unset_lem (known_11 l p) (inr h) = absurd (omega arith)
position_unset_lem (known_12 p) (inl h) = absurd (omega arith)
position_unset_lem (known_12 p) (inr h) = absurd (omega arith)
position_unset_lem (known_13 p) (inl h) = absurd (omega arith)
position_unset_lem (known_13 p) (inr h) = absurd (omega arith)
position_unset_lem (known_14 p) (inl h) = absurd (omega arith)
position_unset_lem (known_14 p) (inr h) = absurd (omega arith)
position_unset_lem (known_15 l) h = refl
position_unset_lem (known_16 l) h = refl

-- no place goes with a number that is not the fault's rule
pub no_place_lem : (f : Fault) (number : ℕ) → f.rule ≢ number → place_for f number ≡ no_place
no_place_lem f number d = rw (ne_eqb f.rule number d)

-- ---- stage by stage

known_count : (lists wrong stored free : ℕ) → KnownFault (count_fault lists wrong stored free)
unfolding count_fault
known_count lists wrong stored free =
    cond_ind (λ (f : Fault). KnownFault f) (eqb wrong lists) (λ h. cond_ind (λ (f : Fault). KnownFault f) (eqb stored free) (λ k. known_0) (λ k. known_16 lists)) (λ h. known_16 wrong)

known_spare : (lists over lacks free : ℕ) {later : Fault} → KnownFault later → KnownFault (spare_fault lists over lacks free later)
unfolding spare_fault
known_spare lists over lacks free more =
    cond_ind (λ (f : Fault). KnownFault f) (eqb over lists) (λ h. cond_ind (λ (f : Fault). KnownFault f) (leb lacks free) (λ k. more) (λ k. known_15 lists)) (λ h. known_15 over)

known_idle : (met : List ℕ) (size lists : ℕ) (g : Gathered) (ended : Bool) (free unwiped stored : ℕ) → KnownFault (idle_fault met size lists g ended free unwiped stored)
unfolding idle_fault
known_idle met size lists g ended free unwiped stored =
    cond_ind (λ (f : Fault). KnownFault f) ended
    (λ h. cond_ind (λ (f : Fault). KnownFault f) (eqb (g.live + free + 1) size)
    (λ i. cond_ind (λ (f : Fault). KnownFault f) (eqb unwiped null_slot) (λ j. known_spare lists g.over g.lacks free (known_count lists g.wrong stored free)) (λ j. known_14 unwiped))
    (λ i. known_13 _))
    (λ h. known_12 free)

module _ (E : Engine) (links : E.Links) where
  known_gathered : (lists list : ℕ) (es : List Entry) (met : List ℕ) (g : Gathered) → KnownFault g.fault → KnownFault (gather_all E lists links list es met g).gathered.fault
  unfolding gather_all
  known_gathered lists list [] met g k = k
  known_gathered lists list (e ∷ es) met g k =
      let path = live_path E links met e in
      cond_ind (λ (r : Round). KnownFault r.gathered.fault) (ends_well path e)
      (λ h. known_gathered lists (suc list) es (mark_all met path.slots) (gather_one lists list e (length path.slots) g) k)
      (λ h. known_11 list (length path.slots))

  module _ (values : List ℕ) where
    known_pool : (es : List Entry) (free : Free) → KnownFault (pool_found E links values es free).fault
    unfolding pool_found
    known_pool es free =
        cond_ind (λ (f : Found). KnownFault f.fault) (null_slot_zero E links values)
        (λ h. cond_ind (λ (f : Found). KnownFault f.fault) (eqb (gather_all E (length es) links 0 es (nothing_met (E.size links)) (gathered_none (length es))).gathered.fault.rule 0)
        (λ i. known_idle _ (E.size links) (length es) _ _ _ _ _)
        (λ i. known_gathered (length es) 0 es (nothing_met (E.size links)) (gathered_none (length es)) known_0))
        (λ h. known_10)

    pub known_fault : (b : AnyBook) → KnownFault (check_found E links values b).fault
    unfolding check_found
    known_fault b = cond_ind (λ (f : Found). KnownFault f.fault) (keeps_rules (E.size links) b) (λ h. known_pool (take b.lists b.entries) b.free) (λ h. known_9)
