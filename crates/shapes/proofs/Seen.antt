-- Laws of the record of slots met: marking a slot that was not met adds it to the slots seen, and leaves one fewer to meet.
use mathlib.Core.Path.{◌≡◌, refl, ap, ◌∙◌}
use mathlib.Core.Logic.{◌≢◌}
use mathlib.Core.Bool.{Bool, true, false, cond, not}
use mathlib.Core.List.{List, [], ◌∷◌}
use Prim.Native.Nat.{ℕ, zero, suc, ◌+◌, ◌≤◌, ◌<◌}
use native.Mathlib.Nat.{le_of_suc-le-suc, not-suc-le-zero}
use native.Mathlib.Decide.{dec_lt}
use native.Mathlib.Omega.{arith}
use lib.Dec.{eqb, eqb-suc-zero}
use lib.ListN.{length, get_or, set, length-set, replicate, get_or-replicate, get_or-eq_default}
use lib.Seq.{get_or-set_same, get_or-set_other, set_comm}
use Rattle.books.specs.Book.{null_slot}
use Rattle.books.proofs.Tests.{not_both}
use Rattle.chains.specs.Count.{hit}
use Rattle.shapes.specs.Met.{HasPlace, is_met_of, mark_of, unmarked, unmet, seen, mark_all}

pub seen_le : (met : List ℕ) (y : ℕ) → seen met y ≤ 1
seen_le met y = go (is_met_of met y)
  where
    go : (b : Bool) → cond b 1 0 ≤ 1
    go true = omega arith
    go false = omega arith

-- a slot that is not seen was not met
pub seen_unmet : (met : List ℕ) (y : ℕ) → seen met y ≡ 0 → is_met_of met y ≡ false
seen_unmet met y = go (is_met_of met y)
  where
    go : (b : Bool) → cond b 1 0 ≡ zero → b ≡ false
    go true h = absurd (omega arith)
    go false h = refl

-- ---- one slot is marked

met_first : (b : ℕ) (met : List ℕ) → is_met_of (suc b ∷ met) 0 ≡ true
unfolding is_met_of
met_first b met = rw (eqb-suc-zero b)

pub seen_mark : (met : List ℕ) (x y : ℕ) → is_met_of met x ≡ false → seen (mark_of met x) y ≡ seen met y + hit y x
unfolding is_met_of mark_of
seen_mark [] x y h = not_both true refl h
seen_mark (zero ∷ met) zero zero h = refl
seen_mark (zero ∷ met) zero (suc y) h = omega arith
seen_mark (suc b ∷ met) zero y h = not_both _ (met_first b met) h
seen_mark (b ∷ met) (suc x) zero h = omega arith
seen_mark (b ∷ met) (suc x) (suc y) h = seen_mark met x y h

pub unmet_mark : (met : List ℕ) (x : ℕ) → is_met_of met x ≡ false → suc (unmet (mark_of met x)) ≡ unmet met
unfolding is_met_of mark_of unmet
unmet_mark [] x h = not_both true refl h
unmet_mark (zero ∷ met) zero h = refl
unmet_mark (suc b ∷ met) zero h = not_both _ (met_first b met) h
unmet_mark (zero ∷ met) (suc x) h = ap suc (unmet_mark met x h)
unmet_mark (suc b ∷ met) (suc x) h = unmet_mark met x h

pub unmet_le : (met : List ℕ) → unmet met ≤ length met
unfolding unmet
unmet_le [] = omega arith
unmet_le (zero ∷ met) = omega (arith, unmet_le met)
unmet_le (suc b ∷ met) = omega (arith, unmet_le met)

-- ---- the record before the first slot is met

pub seen_none : (n y : ℕ) → y < n → seen (replicate n 0) y ≡ 0
unfolding is_met_of
seen_none n y h = rw (get_or-replicate n y zero 1 h)

-- ---- what the code reads

-- where there is an element, it does not matter what stands for none
pub read_any : (cells : List ℕ) (i a b : ℕ) → i < length cells → get_or cells i a ≡ get_or cells i b
read_any [] i a b h = absurd (not-suc-le-zero h)
read_any (x ∷ xs) zero a b h = refl
read_any (x ∷ xs) (suc i) a b h = read_any xs i a b (le_of_suc-le-suc h)

-- marking, on any record: the slot is met then, and every other is as it was
pub mark_met : (met : List ℕ) (x : ℕ) → is_met_of (mark_of met x) x ≡ true
unfolding is_met_of mark_of
mark_met met x = go (dec_lt x (length met))
  where
    go : Dec (x < length met) → not (eqb (get_or (set met x 1) x 1) 0) ≡ true
    go (yes h) = rw (get_or-set_same met x 1 1 h)
    go (no h) = rw (get_or-eq_default (set met x 1) 1 {n = x} (omega (arith, length-set met x 1)))

pub mark_other : (met : List ℕ) (x y : ℕ) → y ≢ x → is_met_of (mark_of met x) y ≡ is_met_of met y
unfolding is_met_of mark_of
mark_other met x y d = rw (get_or-set_other met x y 1 1 d)

-- the marks of two slots do not hang on their order
pub mark_comm : (met : List ℕ) (x y : ℕ) → x ≢ y → mark_of (mark_of met x) y ≡ mark_of (mark_of met y) x
unfolding mark_of
mark_comm met x y d = set_comm met x y 1 1 d

pub marked-length : (met : List ℕ) (x : ℕ) → length (mark_of met x) ≡ length met
unfolding mark_of
marked-length met x = length-set met x 1

-- a slot that was not met has a place in the record, and one past its end counts as met
pub met_past : (met : List ℕ) (x : ℕ) → length met ≤ x → is_met_of met x ≡ true
unfolding is_met_of
met_past met x h = rw (get_or-eq_default met 1 {n = x} h)

pub met_place : (met : List ℕ) (x : ℕ) → is_met_of met x ≡ false → HasPlace met x
met_place met x m = go (dec_lt x (length met))
  where
    go : Dec (x < length met) → x < length met
    go (yes h) = h
    go (no h) = not_both _ (met_past met x (omega arith)) m

-- the null slot's mark is taken away again where it was not met before
pub unmark_mark : (met : List ℕ) → is_met_of met null_slot ≡ false → unmarked (mark_of met null_slot) ≡ met
unfolding is_met_of mark_of
unmark_mark [] m = not_both true refl m
unmark_mark (zero ∷ met) m = refl
unmark_mark (suc b ∷ met) m = not_both _ (met_first b met) m

-- the record keeps its length then, and where slots are marked
pub unmark_length : (met : List ℕ) → length (unmarked met) ≡ length met
unmark_length met = length-set met null_slot 0

pub mark_length : (met xs : List ℕ) → length (mark_all met xs) ≡ length met
unfolding mark_of
mark_length met [] = refl
mark_length met (x ∷ xs) = mark_length (mark_of met x) xs ∙ length-set met x _
