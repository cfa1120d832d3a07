-- A sequence of slots from 1 to n has n of them, none twice, exactly where each of 1 to n stands in it once.
use mathlib.Core.Path.{◌≡◌, refl, ap, ◌∙◌}
use mathlib.Core.List.{List, [], ◌∷◌}
use Prim.Native.Nat.{ℕ, zero, suc, ◌+◌, ◌≤◌, ◌<◌}
use native.Mathlib.Decide.{ℕ_discrete}
use native.Mathlib.Omega.{arith}
use lib.ListN.{length}
use Rattle.chains.specs.Count.{hit, count}
use Rattle.chains.proofs.Count.{hit_same, hit_other, count_first}

-- f 1 + .. + f n
abbrev sum_to : ℕ → (ℕ → ℕ) → ℕ
sum_to zero f = 0
sum_to (suc n) f = sum_to n f + f (suc n)

sum_add : (n : ℕ) (f g : ℕ → ℕ) → sum_to n (λ y. f y + g y) ≡ sum_to n f + sum_to n g
sum_add zero f g = refl
sum_add (suc n) f g = omega (arith, sum_add n f g)

sum_none : (n : ℕ) (f : ℕ → ℕ) → ((y : ℕ) → y ≤ n → f y ≡ 0) → sum_to n f ≡ 0
sum_none zero f h = refl
sum_none (suc n) f h = omega (arith, sum_none n f (λ y k. h y (omega arith)), h (suc n) (omega arith))

sum_hit : (n x : ℕ) → 0 < x → x ≤ n → sum_to n (λ y. hit y x) ≡ 1
sum_hit zero x p q = absurd (omega arith)
sum_hit (suc n) x p q = go (ℕ_discrete x (suc n)) (λ h. sum_hit n x p h)
  where
    go : Dec (x ≡ suc n) → (x ≤ n → sum_to n (λ y. hit y x) ≡ 1) → sum_to n (λ y. hit y x) + hit (suc n) x ≡ 1
    go (yes e) r = omega (arith, sum_none n (λ y. hit y x) (λ y k. hit_other y x (λ i. omega arith)), ap (hit (suc n)) e, hit_same (suc n))
    go (no e) r = omega (arith, r (omega arith), hit_other (suc n) x (λ i. omega arith))

count_sum : (n : ℕ) (xs : List ℕ) → ((y : ℕ) → 0 < count y xs → (0 < y) × (y ≤ n)) → sum_to n (λ y. count y xs) ≡ length xs
count_sum n [] h = sum_none n (λ y. 0) (λ y k. refl)
count_sum n (x ∷ xs) h =
    let o = h x (count_first x xs) in
    omega (arith, sum_add n (λ y. hit y x) (λ y. count y xs), sum_hit n x o.0 o.1, count_sum n xs (λ y k. h y (omega arith)))

sum_most : (n : ℕ) (f : ℕ → ℕ) → ((y : ℕ) → f y ≤ 1) → sum_to n f ≤ n
sum_most zero f h = omega arith
sum_most (suc n) f h = omega (arith, sum_most n f h, h (suc n))

all_once : (n : ℕ) (f : ℕ → ℕ) → ((y : ℕ) → f y ≤ 1) → sum_to n f ≡ n → (y : ℕ) → 0 < y → y ≤ n → f y ≡ 1
all_once zero f h e y p q = absurd (omega arith)
all_once (suc n) f h e y p q = go (ℕ_discrete y (suc n)) (λ k. all_once n f h (omega (arith, sum_most n f h, h (suc n))) y p k)
  where
    go : Dec (y ≡ suc n) → (y ≤ n → f y ≡ 1) → f y ≡ 1
    go (yes d) r = rw d (omega (arith, sum_most n f h, h (suc n)))
    go (no d) r = r (omega arith)

once_all : (n : ℕ) (f : ℕ → ℕ) → ((y : ℕ) → 0 < y → y ≤ n → f y ≡ 1) → sum_to n f ≡ n
once_all zero f h = refl
once_all (suc n) f h = omega (arith, once_all n f (λ y p q. h y p (omega arith)), h (suc n) (omega arith) (omega arith))

module _ (n : ℕ) (xs : List ℕ) (inside : (y : ℕ) → 0 < count y xs → (0 < y) × (y ≤ n)) where
  -- as many as there are slots, and none twice: each stands in it
  pub full_once : ((y : ℕ) → count y xs ≤ 1) → length xs ≡ n → (y : ℕ) → 0 < y → y ≤ n → count y xs ≡ 1
  full_once u e = all_once n (λ y. count y xs) u (count_sum n xs inside ∙ e)

  -- each stands in it once: there are as many as there are slots
  pub once_full : ((y : ℕ) → 0 < y → y ≤ n → count y xs ≡ 1) → length xs ≡ n
  once_full h = omega (arith, count_sum n xs inside, once_all n (λ y. count y xs) h)
