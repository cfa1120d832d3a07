-- Small cases, computed, on each side of what a quick call asks of the book's numbers, of 6 and 7 and of the slots that it touches.
use mathlib.Core.Path.{◌≡◌, refl, ap}
use mathlib.Core.Logic.{inl, inr}
use mathlib.Core.Bool.{true, false}
use mathlib.Core.List.{List, [], ◌∷◌}
use Prim.Native.Nat.{ℕ, zero, suc, ◌≤◌}
use native.Mathlib.Decide.{ℕ_discrete}
use native.Mathlib.Omega.{arith}
use lib.Dec.{lit<}
use Rattle.books.specs.declared.Entry.{Entry}
use Rattle.books.specs.Book.{AnyBook}
use Rattle.chains.specs.Count.{count}
use Rattle.chains.proofs.Count.{hit_other}
use Rattle.shapes.specs.Moves.{push_back, push_front, pop_back, pop_front, clear, quick_push_back, quick_push_front, quick_pop_back, quick_pop_front, checked_of, checked, quick, move_of}
use Rattle.shapes.specs.Numbers.{first_that}
use Rattle.shapes.specs.Tests.{push_own_tests, pop_own_tests}
use Rattle.shapes.specs.Quick.{BadSlots, lists_inside, lengths_fit, counts_fit, push_counts_fit, pop_counts_fit}
use Rattle.shapes.specs.Quick as Q

-- a list's stored length
abbrev storing : ℕ → Entry
storing length = record { head = 65535; tail = 65535; share = 65535; limit = 65535; length = length }

-- a book with so many places, L, these stored lengths of lists 0, 1 and 2, and this free count
abbrev book : (places lists a b c free : ℕ) → AnyBook
book places lists a b c free = record { places = places; lists = lists; entries = storing a ∷ storing b ∷ storing c ∷ []; free = record { head = 65535; count = free } }

-- ---- the book's numbers

-- "an L outside 1 to 8", in a book of eight places, and of three
pub lists_tried_lem : (lists_inside (book 8 0 0 0 0 0) ≡ false) × (lists_inside (book 8 1 0 0 0 0) ≡ true) × (lists_inside (book 8 8 0 0 0 0) ≡ true) × (lists_inside (book 8 9 0 0 0 0) ≡ false)
    × (lists_inside (book 8 32769 0 0 0 0) ≡ false) × (lists_inside (book 8 65535 0 0 0 0) ≡ false)
    × (lists_inside (book 3 3 0 0 0 0) ≡ true) × (lists_inside (book 3 4 0 0 0 0) ≡ false) × (lists_inside (book 0 0 0 0 0 0) ≡ false)
lists_tried_lem = (refl, refl, refl, refl, refl, refl, refl, refl, refl)

-- every length below N: none; the first, a middle one and the last at N-1 and at N; the largest pool
pub lengths_fit_tried : (lengths_fit 6 [] ≡ true) × (lengths_fit 6 (storing 5 ∷ storing 5 ∷ storing 5 ∷ []) ≡ true)
    × (lengths_fit 6 (storing 6 ∷ storing 0 ∷ storing 0 ∷ []) ≡ false) × (lengths_fit 6 (storing 0 ∷ storing 6 ∷ storing 0 ∷ []) ≡ false) × (lengths_fit 6 (storing 0 ∷ storing 0 ∷ storing 6 ∷ []) ≡ false)
    × (lengths_fit 6 (storing 65535 ∷ []) ≡ false) × (lengths_fit 6 (storing 32768 ∷ []) ≡ false) × (lengths_fit 6 (storing 256 ∷ []) ≡ false)
    × (lengths_fit 4096 (storing 4095 ∷ []) ≡ true) × (lengths_fit 4096 (storing 4096 ∷ []) ≡ false) × (lengths_fit 2 (storing 1 ∷ []) ≡ true) × (lengths_fit 2 (storing 2 ∷ []) ≡ false)
unfolding lengths_fit
lengths_fit_tried = (refl, refl, refl, refl, refl, refl, refl, refl, refl, refl, refl, refl)

-- "a stored count of the L lists or of the free slots above N-1": two lists of three; the third is no list's
pub counts_fit_tried : (counts_fit 6 (book 3 2 5 5 65535 5) ≡ true) × (counts_fit 6 (book 3 2 0 0 0 0) ≡ true)
    × (counts_fit 6 (book 3 2 6 5 0 5) ≡ false) × (counts_fit 6 (book 3 2 5 6 0 5) ≡ false) × (counts_fit 6 (book 3 2 5 5 0 6) ≡ false)
    × (counts_fit 6 (book 3 3 5 5 6 5) ≡ false) × (counts_fit 6 (book 3 1 5 6 6 5) ≡ true) × (counts_fit 6 (book 3 2 5 5 0 65535) ≡ false)
    × (counts_fit 4096 (book 3 2 4095 4095 0 4095) ≡ true) × (counts_fit 4096 (book 3 2 4095 4095 0 4096) ≡ false)
unfolding lengths_fit
counts_fit_tried = (refl, refl, refl, refl, refl, refl, refl, refl, refl, refl)

-- "a count would leave 0 to N-1": the length goes up, to N-1 and to N; the free count goes down, from 1 and from 0; or up
pub leaving_tried : (push_counts_fit 6 4 1 ≡ true) × (push_counts_fit 6 5 1 ≡ false) × (push_counts_fit 6 4 0 ≡ false) × (push_counts_fit 6 0 5 ≡ true) × (push_counts_fit 6 65535 1 ≡ false)
    × (push_counts_fit 4096 4094 1 ≡ true) × (push_counts_fit 4096 4095 1 ≡ false) × (push_counts_fit 2 0 1 ≡ true) × (push_counts_fit 2 1 1 ≡ false)
    × (pop_counts_fit 6 4 ≡ true) × (pop_counts_fit 6 5 ≡ false) × (pop_counts_fit 6 0 ≡ true) × (pop_counts_fit 6 65535 ≡ false) × (pop_counts_fit 4096 4094 ≡ true) × (pop_counts_fit 4096 4095 ≡ false)
    × (pop_counts_fit 2 0 ≡ true) × (pop_counts_fit 2 1 ≡ false)
leaving_tried = (refl, refl, refl, refl, refl, refl, refl, refl, refl, refl, refl, refl, refl, refl, refl, refl, refl)

-- ---- 6 and 7 of any stored counts

-- a list's share and limit
abbrev granting : ℕ → ℕ → Entry
granting share limit = record { head = 0; tail = 0; share = share; limit = limit; length = 65535 }

-- a list of two: at its limit it is 6, whatever is free; over it neither is given; one under it 7, where no more is free than is lacked; with a share of three neither. And lacks of more than a word
pub own_tests_tried : (first_that (push_own_tests (granting 0 2) 2 0 5) ≡ 6) × (first_that (push_own_tests (granting 0 2) 2 2 2) ≡ 6) × (first_that (push_own_tests (granting 0 1) 2 2 2) ≡ 0) × (first_that (push_own_tests (granting 0 0) 2 0 0) ≡ 0)
    × (first_that (push_own_tests (granting 2 3) 2 2 2) ≡ 7) × (first_that (push_own_tests (granting 2 3) 2 1 2) ≡ 0) × (first_that (push_own_tests (granting 3 3) 2 2 2) ≡ 0) × (first_that (push_own_tests (granting 65535 3) 2 65535 0) ≡ 0)
    × (first_that (push_own_tests (granting 0 65535) 2 0 0) ≡ 7) × (first_that (push_own_tests (granting 0 3) 2 65536 5) ≡ 7) × (first_that (push_own_tests (granting 0 3) 2 458745 5) ≡ 7)
    × (first_that (pop_own_tests 0) ≡ 5) × (first_that (pop_own_tests 1) ≡ 0) × (first_that (pop_own_tests 65535) ≡ 0)
own_tests_tried = (refl, refl, refl, refl, refl, refl, refl, refl, refl, refl, refl, refl, refl, refl)

-- ---- the slots

-- N = 6: 0; N; one twice, beside each other and not; a large number
pub bad_slots_tried : BadSlots 6 (3 ∷ 0 ∷ []) × BadSlots 6 (0 ∷ []) × BadSlots 6 (6 ∷ 3 ∷ []) × BadSlots 6 (3 ∷ 65535 ∷ []) × BadSlots 6 (3 ∷ 3 ∷ []) × BadSlots 6 (3 ∷ 4 ∷ 3 ∷ [])
bad_slots_tried = (
  Q.outside 0 (lit< tt) (inl (lit< tt)),
  Q.outside 0 (lit< tt) (inl (lit< tt)),
  Q.outside 6 (lit< tt) (inr (lit< tt)),
  Q.outside 65535 (lit< tt) (inr (lit< tt)),
  Q.twice 3 (lit< tt),
  Q.twice 3 (lit< tt),
)

-- none; the first and the last slot
abbrev first_and_last : List ℕ
first_and_last = 1 ∷ 5 ∷ []

pub good_slots_tried : (BadSlots 6 [] → ⊥) × (BadSlots 6 first_and_last → ⊥)
good_slots_tried = (nothing, both)
  where
    nothing : BadSlots 6 [] → ⊥
    nothing (Q.outside y p q) = omega (arith, p)
    nothing (Q.twice y p) = omega (arith, p)

    once : (y : ℕ) → Dec (y ≡ 1) → Dec (y ≡ 5) → count y first_and_last ≤ 1
    once y (yes e) d = omega (arith, ap (λ z. count z first_and_last) e)
    once y (no e) (yes d) = omega (arith, ap (λ z. count z first_and_last) d)
    once y (no e) (no d) = omega (arith, hit_other y 1 e, hit_other y 5 d)

    both : BadSlots 6 first_and_last → ⊥
    both (Q.outside zero p q) = omega (arith, p)
    both (Q.outside (suc y) p (inl q)) = omega (arith, q)
    both (Q.outside (suc y) p (inr q)) = omega (arith, p, q, hit_other (suc y) 1 (λ e. omega (arith, e, q)), hit_other (suc y) 5 (λ e. omega (arith, e, q)))
    both (Q.twice y p) = omega (arith, p, once y (ℕ_discrete y 1) (ℕ_discrete y 5))

-- ---- the calls

-- a quick call asks for what the checked call of its name does
pub calls_tried : (checked_of (quick_push_back 3 7) ≡ push_back 3 7) × (checked_of (quick_push_front 3 7) ≡ push_front 3 7) × (checked_of (quick_pop_back 3) ≡ pop_back 3) × (checked_of (quick_pop_front 3) ≡ pop_front 3)
    × (move_of (quick (quick_pop_front 3)) ≡ pop_front 3) × (move_of (checked (clear 3)) ≡ clear 3)
calls_tried = (refl, refl, refl, refl, refl, refl)
