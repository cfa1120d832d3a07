-- Laws of counting: over a join, over a reversal, and what tells two slots apart.
use mathlib.Core.Path.{◌≡◌, refl, ap}
use mathlib.Core.Logic.{◌≢◌}
use mathlib.Core.List.{List, [], ◌∷◌, ◌++◌, reverse, reverse_aux}
use Prim.Native.Nat.{ℕ, zero, suc, ◌+◌, ◌<◌}
use native.Mathlib.Omega.{arith}
use Rattle.chains.specs.Count.{hit, count}

pub hit_same : (m : ℕ) → hit m m ≡ 1
hit_same zero = refl
hit_same (suc m) = hit_same m

pub hit_other : (m n : ℕ) → m ≢ n → hit m n ≡ 0
hit_other zero zero h = absurd (h refl)
hit_other zero (suc n) h = refl
hit_other (suc m) zero h = refl
hit_other (suc m) (suc n) h = hit_other m n (λ e. h (ap suc e))

pub count-append : (y : ℕ) (xs ys : List ℕ) → count y (xs ++ ys) ≡ count y xs + count y ys
count-append y [] ys = omega arith
count-append y (x ∷ xs) ys = omega (arith, count-append y xs ys)

count_onto : (y : ℕ) (xs ys : List ℕ) → count y (reverse_aux xs ys) ≡ count y xs + count y ys
count_onto y [] ys = omega arith
count_onto y (x ∷ xs) ys = omega (arith, count_onto y xs (x ∷ ys))

pub count-reverse : (y : ℕ) (xs : List ℕ) → count y (reverse xs) ≡ count y xs
count-reverse y xs = omega (arith, count_onto y xs [])

-- a slot that is in a sequence is not one that is not
pub count_apart : (xs : List ℕ) {y z : ℕ} → 0 < count y xs → count z xs ≡ 0 → y ≢ z
count_apart xs {y} {z} h k e = omega (arith, rw e at h)

-- the first slot is in the sequence
pub count_first : (x : ℕ) (xs : List ℕ) → 0 < count x (x ∷ xs)
count_first x xs = omega (arith, hit_same x)

-- it does not matter to a count where a slot stands
pub count_moved : (y s : ℕ) (xs ys : List ℕ) → count y (xs ++ s ∷ ys) ≡ count y (s ∷ xs ++ ys)
count_moved y s xs ys = omega (arith, count-append y xs (s ∷ ys), count-append y xs ys)

-- a number is not in a sequence of one exactly where it is another
pub one_other : (s y : ℕ) → y ≢ s → count y (s ∷ []) ≡ 0
one_other s y d = omega (arith, hit_other y s d)

pub other_one : (s y : ℕ) → count y (s ∷ []) ≡ 0 → y ≢ s
other_one s y h e = omega (arith, ap (λ z. hit z s) e, hit_same s)
