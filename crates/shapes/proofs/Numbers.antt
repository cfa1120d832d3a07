-- The number that the tests give is the one that the conditions give, and there is no other.
use mathlib.Core.Path.{◌≡◌, refl, sym, ◌∙◌}
use mathlib.Core.Logic.{◌↔◌, ◌≢◌}
use mathlib.Core.Bool.{Bool, true, false, cond, not}
use mathlib.Core.List.{List, [], ◌∷◌, ◌++◌}
use Prim.Native.Nat.{ℕ}
use lib.Dec.{eqb}
use borrow.Author.Tests.{eqb-true, eqb-false, ne_eqb}
use Rattle.books.proofs.Tests.{not_both}
use Rattle.shapes.specs.Numbers.{Test, first_that, Condition, Given, decided}
use Rattle.shapes.specs.Numbers as N

-- a test that says no exactly where a condition fails
pub refuted : (b : Bool) {P : Type 0} → (b ≡ true ↔ P) → (not b ≡ true ↔ (P → ⊥))
refuted true i = (λ h. not_both true refl (sym h), λ n. absurd (n (i.0 refl)))
refuted false i = (λ h p. not_both false (i.1 p) refl, λ n. refl)

-- the tests are the conditions, one by one. A later one has to be where no earlier test applies alone
pub data Matches : List Test → List Condition → Type 1 where
  none : Matches [] []
  one : {t : Test} {ts : List Test} {c : Condition} {cs : List Condition} → t.number ≡ c.number → (t.applies ≡ true ↔ c.holds) → (t.applies ≡ false → Matches ts cs) → Matches (t ∷ ts) (c ∷ cs)

pub given : {ts : List Test} {cs : List Condition} → Matches ts cs → Given cs (first_that ts)
given none = N.done
given (one {t} {ts} {c} {cs} n i m) = go t.applies refl (λ e. given (m e))
  where
    go : (b : Bool) → t.applies ≡ b → (t.applies ≡ false → Given cs (first_that ts)) → Given (c ∷ cs) (cond t.applies t.number (first_that ts))
    go true e g = rw (e, n) (N.this (i.0 e))
    go false e g = rw e (N.later (λ h. not_both t.applies (i.1 h) e) (g e))

only_this : {c : Condition} {cs : List Condition} {k : ℕ} → c.holds → Given (c ∷ cs) k → k ≡ c.number
only_this h (N.this p) = refl
only_this h (N.later n g) = absurd (n h)

-- the number is k exactly where condition k holds and no earlier one does
pub given_only : {cs : List Condition} {j k : ℕ} → Given cs j → Given cs k → j ≡ k
given_only N.done N.done = refl
given_only (N.this p) g = sym (only_this p g)
given_only (N.later n g) (N.this p) = absurd (n p)
given_only (N.later n g) (N.later m h) = given_only g h

-- ---- tests after other tests

-- no test that applies has number 0
pub data Numbered : List Test → Type 0 where
  nil : Numbered []
  cons : {t : Test} {ts : List Test} → (t.applies ≡ true → t.number ≢ 0) → Numbered ts → Numbered (t ∷ ts)

-- where one of the first applies, those after them do not count
pub first_first : (ts us : List Test) → first_that ts ≢ 0 → first_that (ts ++ us) ≡ first_that ts
first_first [] us d = absurd (d refl)
first_first (t ∷ ts) us d = go t.applies refl (λ k. first_first ts us k)
  where
    go : (b : Bool) → t.applies ≡ b → (first_that ts ≢ 0 → first_that (ts ++ us) ≡ first_that ts) → first_that (t ∷ ts ++ us) ≡ first_that (t ∷ ts)
    go true e r = rw e
    go false e r = rw e (r (rw e at d))

-- where none of the first applies, those after them decide
pub first_then : {ts : List Test} (us : List Test) → Numbered ts → first_that ts ≡ 0 → first_that (ts ++ us) ≡ first_that us
first_then us nil z = refl
first_then us (cons {t} {ts} d n) z = go t.applies refl (λ k. first_then us n k)
  where
    go : (b : Bool) → t.applies ≡ b → (first_that ts ≡ 0 → first_that (ts ++ us) ≡ first_that us) → first_that (t ∷ ts ++ us) ≡ first_that us
    go true e r = absurd (d e (rw e at z))
    go false e r = rw e (r (rw e at z))

module _ {A : Type 0} (done : A) (refused : ℕ → A) where
  -- a test that applies decides
  pub decided_refused : (ts : List Test) → first_that ts ≢ 0 → decided ts done refused ≡ refused (first_that ts)
  unfolding decided
  decided_refused ts d = rw (ne_eqb (first_that ts) 0 d)

  pub decided_done : (ts : List Test) → first_that ts ≡ 0 → decided ts done refused ≡ done
  unfolding decided
  decided_done ts z = rw z

  -- what holds where a test decides, and where none does, holds
  pub decided_ind : (P : A → Type 0) (ts : List Test) → (first_that ts ≢ 0 → P (refused (first_that ts))) → (first_that ts ≡ 0 → P done) → P (decided ts done refused)
  unfolding decided
  decided_ind P ts r d = go (eqb (first_that ts) 0) refl
    where
      go : (b : Bool) → eqb (first_that ts) 0 ≡ b → P (decided ts done refused)
      go true e = rw e (d (eqb-true _ _ e))
      go false e = rw e (r (eqb-false _ _ e))

  -- the number of what was decided is that of the first test that applies
  pub decided_number : (f : A → ℕ) → ((n : ℕ) → f (refused n) ≡ n) → f done ≡ 0 → (ts : List Test) → f (decided ts done refused) ≡ first_that ts
  decided_number f r d ts = decided_ind (λ x. f x ≡ first_that ts) ts (λ k. r (first_that ts)) (λ z. d ∙ sym z)
