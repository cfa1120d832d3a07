-- Laws of the lowest slot that is not wiped: it is 0 exactly where every slot is wiped, and else the lowest that is not.
use mathlib.Core.Path.{◌≡◌, refl, sym, ap, ◌∙◌, subst}
use mathlib.Core.Logic.{◌≢◌, ◌↔◌, ◌⊎◌, inl, inr, ⊎_elim}
use mathlib.Core.List.{List, [], ◌∷◌, ◌++◌}
use Prim.Native.Nat.{ℕ, ◌≤◌, ◌<◌}
use native.Mathlib.Nat.{not-suc-le-zero}
use native.Mathlib.Decide.{ℕ_discrete}
use native.Mathlib.Omega.{arith}
use lib.Bits.{bit_or, bit_xor}
use lib.Dec.{eqb, ltb}
use borrow.Author.Tests.{eq-eqb, ne_eqb, eqb-true, eqb-false, ltb-true, ltb-false}
use Rattle.books.specs.Book.{null_slot, wipe_word}
use Rattle.books.proofs.Tests.{cond_ind, or_none}
use Rattle.chains.specs.Count.{count}
use Rattle.chains.specs.Chain.{cell}
use Rattle.chains.proofs.Count.{hit_other, count_first}
use Rattle.chains.proofs.Ends.{first_not_null}
use Rattle.chains.proofs.Xor.{xor_cancel_r}
use Rattle.shapes.specs.Walk.{lower, unwiped_from, Lowest}

pub unwiped-append : (values xs ys : List ℕ) (least : ℕ) → unwiped_from values (xs ++ ys) least ≡ unwiped_from values ys (unwiped_from values xs least)
unwiped-append values [] ys least = refl
unwiped-append values (x ∷ xs) ys least = unwiped-append values xs ys _

-- the lower of a slot and `least`, where 0 stands for none
record Lower (slot least low : ℕ) : Type 0 where
  some : 0 < low
  under : low ≤ slot
  keeps : 0 < least → low ≤ least
  one : (low ≡ least) ⊎ (low ≡ slot)

lower_is : (slot least : ℕ) → 0 < slot → Lower slot least (lower slot least)
lower_is slot least p =
    cond_ind (Lower slot least) (eqb least null_slot)
    (λ e. let z = eqb-true least null_slot e in record { some = p; under = omega arith; keeps = λ h. absurd (omega arith); one = inr refl })
    (λ e. let n = eqb-false least null_slot e in
    cond_ind (Lower slot least) (ltb slot least)
    (λ h. let l = ltb-true slot least h in record { some = p; under = omega arith; keeps = λ k. omega arith; one = inr refl })
    (λ h. let l = ltb-false slot least h in record { some = omega arith; under = l; keeps = λ k. omega arith; one = inl refl }))

-- what is gathered from `least` on
record Gathered (values xs : List ℕ) (least low : ℕ) : Type 0 where
  keeps : 0 < least → (0 < low) × (low ≤ least)
  slots : (y : ℕ) → 0 < count y xs → cell values y ≢ wipe_word → (0 < low) × (low ≤ y)
  one : (low ≡ least) ⊎ (0 < count low xs) × (cell values low ≢ wipe_word)

gathered : (values xs : List ℕ) (least : ℕ) → count 0 xs ≡ 0 → Gathered values xs least (unwiped_from values xs least)
gathered values [] least z = record { keeps = λ h. (h, omega arith); slots = λ y h n. absurd (not-suc-le-zero h); one = inl refl }
gathered values (x ∷ xs) least z = go (ℕ_discrete (cell values x) wipe_word) (gathered values xs)
  where
    go : Dec (cell values x ≡ wipe_word) → ((l : ℕ) → count 0 xs ≡ 0 → Gathered values xs l (unwiped_from values xs l)) → Gathered values (x ∷ xs) least (unwiped_from values (x ∷ xs) least)
    go (yes e) r₀ =
        let r : Gathered values xs least (unwiped_from values xs least) = r₀ least (omega arith) in
        rw (eq-eqb (cell values x) wipe_word e)
        (record {
          keeps = r.keeps;
          slots = λ y h n. at y h n (ℕ_discrete y x) r;
          one = ⊎_elim (λ k. inl k) (λ k. inr (omega (arith, k.0), k.1)) r.one;
        })
      where
        at : (y : ℕ) → 0 < count y (x ∷ xs) → cell values y ≢ wipe_word → Dec (y ≡ x) → Gathered values xs least (unwiped_from values xs least)
            → (0 < unwiped_from values xs least) × (unwiped_from values xs least ≤ y)
        at y h n (yes k) r = absurd (n (ap (cell values) k ∙ e))
        at y h n (no k) r = r.slots y (omega (arith, hit_other y x k)) n
    go (no e) r₀ =
        let low = lower x least in
        let l : Lower x least low = lower_is x least (first_not_null x xs z) in
        let r : Gathered values xs low (unwiped_from values xs low) = r₀ low (omega arith) in
        let (p, q) = r.keeps l.some in
        rw (ne_eqb (cell values x) wipe_word e)
        (record {
          keeps = λ h. (p, omega (arith, l.keeps h));
          slots = λ y h n. at y h n (ℕ_discrete y x) r l p q;
          one = ⊎_elim
              (λ k. ⊎_elim (λ i. inl (k ∙ i)) (λ i. inr (here (unwiped_from values xs low) (k ∙ i))) l.one)
              (λ k. inr (omega (arith, k.0), k.1))
              r.one;
        })
      where
        here : (low : ℕ) → low ≡ x → (0 < count low (x ∷ xs)) × (cell values low ≢ wipe_word)
        here low k = let P : ℕ → Type 0 = λ n. (0 < count n (x ∷ xs)) × (cell values n ≢ wipe_word) in subst P (sym k) (count_first x xs, e)

        at : (y : ℕ) → 0 < count y (x ∷ xs) → cell values y ≢ wipe_word → Dec (y ≡ x) → Gathered values xs (lower x least) (unwiped_from values xs (lower x least))
            → Lower x least (lower x least) → 0 < unwiped_from values xs (lower x least) → unwiped_from values xs (lower x least) ≤ lower x least
            → (0 < unwiped_from values xs (lower x least)) × (unwiped_from values xs (lower x least) ≤ y)
        at y h n (yes k) r l p q = (p, omega (arith, l.under))
        at y h n (no k) r l p q = r.slots y (omega (arith, hit_other y x k)) n

module _ (values xs : List ℕ) (z : count 0 xs ≡ 0) where
  -- no slot is gathered exactly where each is wiped
  pub unwiped_none : unwiped_from values xs null_slot ≡ null_slot ↔ ((y : ℕ) → 0 < count y xs → cell values y ≡ wipe_word)
  unwiped_none = (λ e y h. to e y h (ℕ_discrete (cell values y) wipe_word) (gathered values xs 0 z), λ w. from w (gathered values xs 0 z).one)
    where
      to : unwiped_from values xs null_slot ≡ null_slot → (y : ℕ) → 0 < count y xs → Dec (cell values y ≡ wipe_word) → Gathered values xs 0 (unwiped_from values xs 0) → cell values y ≡ wipe_word
      to e y h (yes k) r = k
      to e y h (no k) r = absurd (omega (arith, (r.slots y h k).0))

      from : ((y : ℕ) → 0 < count y xs → cell values y ≡ wipe_word) → (unwiped_from values xs 0 ≡ null_slot) ⊎ (0 < count (unwiped_from values xs 0) xs) × (cell values (unwiped_from values xs 0) ≢ wipe_word)
          → unwiped_from values xs null_slot ≡ null_slot
      from w (inl k) = k
      from w (inr k) = absurd (k.1 (w (unwiped_from values xs 0) k.0))

  -- one that is gathered is in the sequence, is not wiped, and is the lowest such
  pub unwiped_lowest : unwiped_from values xs null_slot ≢ null_slot → Lowest values xs (unwiped_from values xs null_slot)
  unwiped_lowest n = go (gathered values xs 0 z)
    where
      go : Gathered values xs 0 (unwiped_from values xs 0) → Lowest values xs (unwiped_from values xs 0)
      go r =
          let (h, k) : (0 < count (unwiped_from values xs 0) xs) × (cell values (unwiped_from values xs 0) ≢ wipe_word) = ⊎_elim (λ e. absurd (n e)) (λ w. w) r.one in
          record { inside = h; not_wiped = k; lowest = λ y i j. (r.slots y i j).1 }

-- ---- the bits in which values differ from the wipe word, gathered into one

xor_none : (a b : ℕ) → bit_xor a b ≡ 0 → a ≡ b
xor_none a b h = sym (xor_cancel_r a b) ∙ ap (λ x. bit_xor x b) h

-- where no bit differs, up to a slot and at the slot itself, none up to and with it is unwiped
pub unlike_on : (values passed : List ℕ) (slot unlike : ℕ) → (unlike ≡ 0 → unwiped_from values passed null_slot ≡ null_slot)
    → bit_or unlike (bit_xor (cell values slot) wipe_word) ≡ 0 → unwiped_from values (passed ++ slot ∷ []) null_slot ≡ null_slot
unlike_on values passed slot unlike u h =
    let (a, b) = or_none unlike (bit_xor (cell values slot) wipe_word) h in
    unwiped-append values passed (slot ∷ []) null_slot ∙ ap (unwiped_from values (slot ∷ [])) (u a) ∙ rw (eq-eqb (cell values slot) wipe_word (xor_none _ _ b))
