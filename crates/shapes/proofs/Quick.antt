-- The tests that a quick call runs on the numbers of the book say what 02 d) says of them, and of any slots either one is bad or they are slots of the pool and kept apart.
use mathlib.Core.Path.{◌≡◌, refl, sym, ap}
use mathlib.Core.Logic.{◌↔◌, ◌≢◌, ◌⊎◌, inl, inr}
use mathlib.Core.Bool.{Bool, true, false, not, ◌&&◌}
use mathlib.Core.List.{List, [], ◌∷◌}
use Prim.Native.Nat.{ℕ, zero, suc, ◌+◌, ◌-◌, ◌≤◌, ◌<◌}
use native.Mathlib.Decide.{ℕ_discrete, dec_lt}
use native.Mathlib.Nat.{le_of_suc-le-suc, not-suc-le-zero, zero-lt-suc}
use native.Mathlib.Omega.{arith}
use lib.Dec.{ltb, leb}
use lib.ListN.{length, take}
use borrow.Author.Tests.{leb-true, leb-false, le-leb, lt-leb, ltb-true, ltb-false, lt-ltb, le-ltb}
use Rattle.books.specs.declared.Entry.{Entry}
use Rattle.books.specs.Book.{zero_entry, entry_at, AnyBook}
use Rattle.books.proofs.Tests.{and_both, both_and, not_both}
use Rattle.chains.specs.Count.{hit, count}
use Rattle.chains.proofs.Count.{hit_same, hit_other}
use Rattle.shapes.specs.Quick.{ListsOutside, CountAbove, BadSlots, PushLeaves, PopLeaves, lists_inside, lengths_fit, counts_fit, push_counts_fit, pop_counts_fit}
use Rattle.shapes.specs.Quick as Q

-- ---- two tests, one of which fails

pub one_fails : (a b : Bool) {A B : Type 0} → (a ≡ false ↔ A) → (b ≡ false ↔ B) → not (a && b) ≡ true ↔ (A ⊎ B)
one_fails true b {A} {B} i j = (λ h. inr (j.0 (flip b h)), from)
  where
    flip : (c : Bool) → not c ≡ true → c ≡ false
    flip true h = sym h
    flip false h = refl

    from : A ⊎ B → not (true && b) ≡ true
    from (inl p) = not_both true refl (i.1 p)
    from (inr p) = rw (j.1 p)
one_fails false b i j = (λ h. inl (i.0 refl), λ h. refl)

below_fails : (n m : ℕ) → 0 < m → ltb n m ≡ false ↔ m - 1 < n
below_fails n m h = (λ e. omega (arith, ltb-false n m e), λ k. le-ltb n m (omega arith))

-- ---- L

pub lists_inside_lem : (b : AnyBook) → not (lists_inside b) ≡ true ↔ ListsOutside b
lists_inside_lem b = one_fails (ltb 0 b.lists) (leb b.lists b.places) (λ e. omega (arith, ltb-false 0 b.lists e), λ k. le-ltb 0 b.lists (omega arith)) (leb-false _ _, lt-leb _ _)

-- ---- the stored counts

lengths_fail : (size lists : ℕ) (es : List Entry) → 0 < size → lengths_fit size (take lists es) ≡ false ↔ ((k : ℕ) × (k < lists) × (size - 1 < (entry_at es k).length))
unfolding lengths_fit
lengths_fail size zero es h = (λ e. not_both true refl e, λ (k, b, q). absurd (not-suc-le-zero b))
lengths_fail size (suc lists) [] h = (λ e. not_both true refl e, λ (k, b, q). absurd (omega arith))
lengths_fail size (suc lists) (e ∷ es) h = (to (lengths_fail size lists es h).0 (ltb e.length size) refl, from (lengths_fail size lists es h).1)
  where
    to : (lengths_fit size (take lists es) ≡ false → (k : ℕ) × (k < lists) × (size - 1 < (entry_at es k).length)) → (x : Bool) → ltb e.length size ≡ x → lengths_fit size (take (suc lists) (e ∷ es)) ≡ false
        → (k : ℕ) × (k < suc lists) × (size - 1 < (entry_at (e ∷ es) k).length)
    to rest true x f = let (k, b, q) = rest (rw x at f) in (suc k, omega arith, q)
    to rest false x f = (0, zero-lt-suc lists, (below_fails e.length size h).0 x)

    later : (x : Bool) → ltb e.length size ≡ x → lengths_fit size (take lists es) ≡ false → lengths_fit size (take (suc lists) (e ∷ es)) ≡ false
    later true x f = rw (x, f)
    later false x f = rw x

    from : ((k : ℕ) × (k < lists) × (size - 1 < (entry_at es k).length) → lengths_fit size (take lists es) ≡ false)
        → ((k : ℕ) × (k < suc lists) × (size - 1 < (entry_at (e ∷ es) k).length)) → lengths_fit size (take (suc lists) (e ∷ es)) ≡ false
    from rest (zero, b, q) = rw ((below_fails e.length size h).1 q)
    from rest (suc k, b, q) = later (ltb e.length size) refl (rest (k, le_of_suc-le-suc b, q))

pub counts_fit_lem : (size : ℕ) (b : AnyBook) → 0 < size → not (counts_fit size b) ≡ true ↔ CountAbove size b
counts_fit_lem size b h = turned (one_fails (ltb b.free.count size) (lengths_fit size (take b.lists b.entries)) (below_fails b.free.count size h) (lengths_fail size b.lists b.entries h))
  where
    turned : not (counts_fit size b) ≡ true ↔ ((size - 1 < b.free.count) ⊎ ((k : ℕ) × (k < b.lists) × (size - 1 < (entry_at b.entries k).length))) → not (counts_fit size b) ≡ true ↔ CountAbove size b
    turned (f, g) = (λ e. elim (f e) [ inl p ↦ inr p | inr p ↦ inl p ], λ s. elim s [ inl p ↦ g (inr p) | inr p ↦ g (inl p) ])

-- where the test holds no count is above
pub lengths_below : (size lists : ℕ) (es : List Entry) → 0 < size → lengths_fit size (take lists es) ≡ true → (k : ℕ) → k < lists → (entry_at es k).length < size
lengths_below size lists es h e k b = go (dec_lt (entry_at es k).length size)
  where
    go : Dec ((entry_at es k).length < size) → (entry_at es k).length < size
    go (yes p) = p
    go (no p) = not_both (lengths_fit size (take lists es)) e ((lengths_fail size lists es h).1 (k, b, omega arith))

pub all_below : (size lists : ℕ) (es : List Entry) → 0 < size → ((k : ℕ) → k < lists → (entry_at es k).length < size) → lengths_fit size (take lists es) ≡ true
all_below size lists es h p = go (lengths_fit size (take lists es)) refl
  where
    go : (x : Bool) → lengths_fit size (take lists es) ≡ x → lengths_fit size (take lists es) ≡ true
    go true e = e
    go false e = let (k, b, q) = (lengths_fail size lists es h).0 e in absurd (omega (arith, p k b))

-- ---- a count that would leave

pub push_counts : (size length free : ℕ) → 0 < size → push_counts_fit size length free ≡ false ↔ PushLeaves size length free
push_counts size length free h = (to (ltb (length + 1) size) refl, from)
  where
    to : (x : Bool) → ltb (length + 1) size ≡ x → push_counts_fit size length free ≡ false → PushLeaves size length free
    to true x f = inr (omega (arith, ltb-false 0 free (rw x at f)))
    to false x f = inl ((below_fails (length + 1) size h).0 x)

    low : (x : Bool) → ltb (length + 1) size ≡ x → free < 1 → push_counts_fit size length free ≡ false
    low true x p = rw (x, le-ltb 0 free (omega arith))
    low false x p = rw x

    from : PushLeaves size length free → push_counts_fit size length free ≡ false
    from (inl p) = rw ((below_fails (length + 1) size h).1 p)
    from (inr p) = low (ltb (length + 1) size) refl p

pub pop_counts : (size free : ℕ) → 0 < size → pop_counts_fit size free ≡ false ↔ PopLeaves size free
pop_counts size free h = below_fails (free + 1) size h

-- ---- slots

-- slots of the pool, each once
pub record GoodSlots (size : ℕ) (slots : List ℕ) : Type 0 where
  pub inside : (y : ℕ) → 0 < count y slots → (0 < y) × (y < size)
  pub once : (y : ℕ) → count y slots ≤ 1

-- not both
pub good_not_bad : {size : ℕ} {slots : List ℕ} → 0 < size → GoodSlots size slots → BadSlots size slots → ⊥
good_not_bad h G (Q.outside y p (inl q)) = omega (arith, G.inside y p)
good_not_bad h G (Q.outside y p (inr q)) = omega (arith, G.inside y p)
good_not_bad h G (Q.twice y p) = omega (arith, G.once y)

-- and one of the two
pub good_or_bad : (size : ℕ) (slots : List ℕ) → 0 < size → GoodSlots size slots ⊎ BadSlots size slots
good_or_bad size [] h = inl (record { inside = λ y p. absurd (not-suc-le-zero p); once = λ y. omega arith })
good_or_bad size (x ∷ xs) h = go (dec_lt 0 x) (dec_lt x size) (dec_lt 0 (count x xs)) (good_or_bad size xs h)
  where
    more : BadSlots size xs → BadSlots size (x ∷ xs)
    more (Q.outside y p q) = Q.outside y (omega arith) q
    more (Q.twice y p) = Q.twice y (omega arith)

    both : 0 < x → x < size → count x xs ≡ 0 → GoodSlots size xs → GoodSlots size (x ∷ xs)
    both lo hi n G = record { inside = λ y p. at y p (ℕ_discrete y x); once = λ y. most y (ℕ_discrete y x) }
      where
        at : (y : ℕ) → 0 < count y (x ∷ xs) → Dec (y ≡ x) → (0 < y) × (y < size)
        at y p (yes e) = (omega arith, omega arith)
        at y p (no d) = G.inside y (omega (arith, hit_other y x d))

        most : (y : ℕ) → Dec (y ≡ x) → count y (x ∷ xs) ≤ 1
        most y (yes e) = omega (arith, ap (λ z. hit z x + count z xs) e, hit_same x)
        most y (no d) = omega (arith, hit_other y x d, G.once y)

    go : Dec (0 < x) → Dec (x < size) → Dec (0 < count x xs) → GoodSlots size xs ⊎ BadSlots size xs → GoodSlots size (x ∷ xs) ⊎ BadSlots size (x ∷ xs)
    go (no p) q r g = inr (Q.outside x (omega (arith, hit_same x)) (inl (omega arith)))
    go (yes p) (no q) r g = inr (Q.outside x (omega (arith, hit_same x)) (inr (omega arith)))
    go (yes p) (yes q) (yes r) g = inr (Q.twice x (omega (arith, hit_same x)))
    go (yes p) (yes q) (no r) (inl G) = inl (both p q (omega arith) G)
    go (yes p) (yes q) (no r) (inr B) = inr (more B)
