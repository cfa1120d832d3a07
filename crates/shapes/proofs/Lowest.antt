-- The lowest of L lists of which something is so, as a loop over the lists finds it: L stands for none.
use mathlib.Core.Path.{◌≡◌, refl, sym, ◌∙◌}
use mathlib.Core.Logic.{◌↔◌, ◌≢◌}
use mathlib.Core.Bool.{Bool, true, false}
use Prim.Native.Nat.{ℕ, zero, suc, ◌+◌, ◌<◌, suc-le-suc}
use native.Mathlib.Nat.{le_of_suc-le-suc, not-suc-le-zero, zero-lt-suc}
use native.Mathlib.Omega.{arith}
use borrow.Author.Tests.{eq-eqb, ne_eqb}
use Rattle.books.proofs.Tests.{not_both}
use Rattle.shapes.specs.Faults.{lowest_so}

-- `was` is the lowest before list number `list`, and `is` after it and those behind it, `many` in all. `So l` says it of the l-th of these
pub record LowestTold (lists list many : ℕ) (So : ℕ → Type 0) (was is : ℕ) : Type 0 where
  pub none : was ≡ lists → (is ≡ lists ↔ ((l : ℕ) → l < many → So l → ⊥))
  pub lowest : was ≡ lists → is ≢ lists → (l : ℕ) × (is ≡ list + l) × (l < many) × So l × ((k : ℕ) → k < l → So k → ⊥)
  pub stuck : was ≢ lists → is ≡ was

pub lowest_none : (lists list : ℕ) (So : ℕ → Type 0) (was : ℕ) → LowestTold lists list 0 So was was
lowest_none lists list So was = record { none = λ o. (λ k l b s. not-suc-le-zero b, λ k. o); lowest = λ o d. absurd (d o); stuck = λ o. refl }

module _ (lists list many : ℕ) (So : ℕ → Type 0) (was is : ℕ) (below : list < lists) where
  -- one list more, in front
  pub lowest_more : (so : Bool) → so ≡ true ↔ So zero → LowestTold lists (suc list) many (λ l. So (suc l)) (lowest_so lists list so was) is → LowestTold lists list (suc many) So was is
  lowest_more true i T = record { none = λ o. (λ k. absurd (omega (arith, here o)), λ k. absurd (k zero (zero-lt-suc many) (i.0 refl))); lowest = low; stuck = λ o. T.stuck (rw (ne_eqb was lists o) o) ∙ rw (ne_eqb was lists o) }
    where
      here : was ≡ lists → is ≡ list
      here o = let now : lowest_so lists list true was ≡ list = rw (eq-eqb was lists o) in T.stuck (λ e. omega (arith, sym now ∙ e)) ∙ now

      low : was ≡ lists → is ≢ lists → (l : ℕ) × (is ≡ list + l) × (l < suc many) × So l × ((k : ℕ) → k < l → So k → ⊥)
      low o d = (0, omega (arith, here o), zero-lt-suc many, i.0 refl, λ k b s. not-suc-le-zero b)
  lowest_more false i T = record { none = λ o. (λ k. each ((T.none (now o)).0 k), λ k. (T.none (now o)).1 (λ l b. k (suc l) (suc-le-suc b))); lowest = low; stuck = λ o. T.stuck (rw (ne_eqb was lists o) o) ∙ rw (ne_eqb was lists o) }
    where
      now : was ≡ lists → lowest_so lists list false was ≡ lists
      now o = rw (eq-eqb was lists o) o

      not_here : So zero → ⊥
      not_here s = not_both false (i.1 s) refl

      each : {n : ℕ} → ((l : ℕ) → l < n → So (suc l) → ⊥) → (l : ℕ) → l < suc n → So l → ⊥
      each r zero b s = not_here s
      each r (suc l) b s = r l (le_of_suc-le-suc b) s

      low : was ≡ lists → is ≢ lists → (l : ℕ) × (is ≡ list + l) × (l < suc many) × So l × ((k : ℕ) → k < l → So k → ⊥)
      low o d = let (l, e, b, s, r) = T.lowest (now o) d in (suc l, omega arith, suc-le-suc b, s, each r)
