-- What a quick push and a quick pop on one list ask of the stored counts before their step: 5 to 7, and then 17.
use Rattle.std.specs.Prelude.{◌≡◌, ℕ, ◌+◌, ◌<◌, ◌≤◌, Bool, true, false, cond, not, ◌≢◌, List, [], ◌∷◌, ◌++◌, length}
use mathlib.Core.Path.{refl, sym, ap, ◌∙◌}
use native.Mathlib.Omega.{arith}
use borrow.Author.Tests.{lt-ltb, le-ltb}
use Rattle.books.specs.declared.Free.{Free}
use Rattle.books.specs.declared.Entry.{Entry}
use Rattle.shapes.specs.Numbers.{Test, test, first_that}
use Rattle.shapes.specs.Tests.{push_own_tests, pop_own_tests}
use Rattle.shapes.specs.Quick.{push_counts_fit, pop_counts_fit}
use Rattle.shapes.proofs.Numbers.{Numbered, nil, cons, first_first, first_then}
use Rattle.engines.proofs.QuickGiven.{some_number}

-- ---- 17 after a call's own tests

-- for what is asked before the step
abbrev pub then_counts : List Test → Bool → List Test
then_counts ts fit = ts ++ test 17 (not fit) ∷ []

-- a call's own tests, and then the counts
module _ {number : ℕ} (ts : List Test) (t : number ≡ first_that ts) (fit : Bool) where
  pub own_stops : number ≢ 0 → number ≡ first_that (then_counts ts fit)
  own_stops d = t ∙ sym (first_first ts (test 17 (not fit) ∷ []) (λ z. d (t ∙ z)))

  pub counts_decide : Numbered ts → number ≡ 0 → (b : Bool) → fit ≡ b → cond b 0 17 ≡ first_that (then_counts ts fit)
  counts_decide n z b e = turned b ∙ ap (λ (x : Bool). cond (not x) 17 0) (sym e) ∙ sym (first_then (test 17 (not fit) ∷ []) n (sym t ∙ z))
    where
      turned : (x : Bool) → cond {A = ℕ} x 0 17 ≡ cond (not x) 17 0
      turned true = refl
      turned false = refl

pub push_numbered : (entry : Entry) (many lacks free : ℕ) → Numbered (push_own_tests entry many lacks free)
push_numbered entry many lacks free = cons (λ h. some_number 5) (cons (λ h. some_number 6) nil)

pub pop_numbered : (many : ℕ) → Numbered (pop_own_tests many)
pop_numbered many = cons (λ h. some_number 4) nil

-- ---- what is asked before the step, of the stored counts

-- 6 and 7, and then 17 for the counts
module _ (links : List ℕ) (entry : Entry) (free : Free) (lacks : ℕ) {number many count : ℕ} (e : number ≡ first_that (push_own_tests entry many lacks count)) (p : many ≡ entry.length) (q : count ≡ free.count) where
  abbrev push_asked : List Test
  push_asked = then_counts (push_own_tests entry entry.length lacks free.count) (push_counts_fit (length links) entry.length free.count)

  push_told : number ≡ first_that (push_own_tests entry entry.length lacks free.count)
  push_told = e ∙ (λ i. first_that (push_own_tests entry (p i) lacks (q i)))

  pub push_own_stops : number ≢ 0 → number ≡ first_that push_asked
  push_own_stops d = own_stops (push_own_tests entry entry.length lacks free.count) push_told (push_counts_fit (length links) entry.length free.count) d

  module _ (z : number ≡ 0) where
    push_decides : (b : Bool) → push_counts_fit (length links) entry.length free.count ≡ b → cond b 0 17 ≡ first_that push_asked
    push_decides b f = counts_decide _ push_told _ (push_numbered entry entry.length lacks free.count) z b f

    pub push_over : length links ≤ entry.length + 1 → ◌≡◌ {A = ℕ} 17 (first_that push_asked)
    push_over h = push_decides false (rw (le-ltb (entry.length + 1) (length links) h))

    module _ (h : entry.length + 1 < length links) where
      pub push_no_slot : free.count ≡ 0 → ◌≡◌ {A = ℕ} 17 (first_that push_asked)
      push_no_slot n = push_decides false (rw (lt-ltb (entry.length + 1) (length links) h, le-ltb 0 free.count (omega (arith, n))))

      pub push_passed : free.count ≢ 0 → ◌≡◌ {A = ℕ} 0 (first_that push_asked)
      push_passed n = push_decides true (rw (lt-ltb (entry.length + 1) (length links) h, lt-ltb 0 free.count (omega (arith, n))))

-- 5, and then 17 for the free count
module _ (links : List ℕ) (entry : Entry) (free : Free) {number many : ℕ} (e : number ≡ first_that (pop_own_tests many)) (p : many ≡ entry.length) where
  abbrev pop_asked : List Test
  pop_asked = then_counts (pop_own_tests entry.length) (pop_counts_fit (length links) free.count)

  pop_told : number ≡ first_that (pop_own_tests entry.length)
  pop_told = e ∙ ap (λ (n : ℕ). first_that (pop_own_tests n)) p

  pub pop_own_stops : number ≢ 0 → number ≡ first_that pop_asked
  pop_own_stops d = own_stops (pop_own_tests entry.length) pop_told (pop_counts_fit (length links) free.count) d

  module _ (z : number ≡ 0) where
    pop_decides : (b : Bool) → pop_counts_fit (length links) free.count ≡ b → cond b 0 17 ≡ first_that pop_asked
    pop_decides b f = counts_decide _ pop_told _ (pop_numbered entry.length) z b f

    pub pop_over : length links ≤ free.count + 1 → ◌≡◌ {A = ℕ} 17 (first_that pop_asked)
    pop_over h = pop_decides false (le-ltb (free.count + 1) (length links) h)

    pub pop_passed : free.count + 1 < length links → ◌≡◌ {A = ℕ} 0 (first_that pop_asked)
    pop_passed h = pop_decides true (lt-ltb (free.count + 1) (length links) h)
