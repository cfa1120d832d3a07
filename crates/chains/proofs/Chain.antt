-- Laws of chains over any operation: read slot by slot, reversed, framed, and determined by their first slot and their cells.
use mathlib.Core.Path.{◌≡◌, refl, sym, ap, ◌∙◌}
use mathlib.Core.Logic.{◌↔◌}
use mathlib.Core.List.{List, [], ◌∷◌, ◌++◌, reverse, reverse-cons}
use Prim.Native.Nat.{ℕ, zero, suc, ◌<◌, suc-le-suc}
use native.Mathlib.Nat.{le_of_suc-le-suc, not-suc-le-zero, zero-lt-suc}
use native.Mathlib.Omega.{arith}
use lib.Bits.{bit_xor, xor_comm}
use lib.ListN.{length, get_or}
use Rattle.chains.specs.Count.{count}
use Rattle.chains.specs.Chain.{cell, first_or, last_or, prev_of, next_of, Linked, LiveChain, following, IdleChain}
use Rattle.chains.proofs.Count.{count_apart, count_first}
use Rattle.chains.proofs.Xor.{xor_cancel_out}

-- ---- the ends of a sequence

pub first-append : (q : ℕ) (xs ys : List ℕ) → first_or q (xs ++ ys) ≡ first_or (first_or q ys) xs
first-append q [] ys = refl
first-append q (x ∷ xs) ys = refl

pub last-append : (p : ℕ) (xs ys : List ℕ) → last_or p (xs ++ ys) ≡ last_or (last_or p xs) ys
last-append p [] ys = refl
last-append p (x ∷ xs) ys = last-append x xs ys

pub last-reverse : (p : ℕ) (xs : List ℕ) → last_or p (reverse xs) ≡ first_or p xs
last-reverse p [] = refl
last-reverse p (x ∷ xs) = rw (reverse-cons x xs) (last-append p (reverse xs) (x ∷ []))

pub first-reverse : (q : ℕ) (xs : List ℕ) → first_or q (reverse xs) ≡ last_or q xs
first-reverse q [] = refl
first-reverse q (x ∷ xs) = rw (reverse-cons x xs) (first-append q (reverse xs) (x ∷ []) ∙ first-reverse x xs)

first_at : (xs : List ℕ) → get_or xs 0 0 ≡ first_or 0 xs
first_at [] = refl
first_at (x ∷ xs) = refl

module _ (op : ℕ → ℕ → ℕ) where
  -- the same slot by slot: the sequence stands between p and q
  abbrev pub Chain : (at : ℕ → ℕ) → ℕ → List ℕ → ℕ → Type 0
  Chain at p [] q = Unit
  Chain at p (x ∷ xs) q = (at x ≡ op p (first_or q xs)) × Chain at x xs q

  chain_places : (at : ℕ → ℕ) (p : ℕ) (xs : List ℕ) → Chain at p xs 0 → (i : ℕ) → i < length xs → at (get_or xs i 0) ≡ op (get_or (p ∷ xs) i 0) (next_of xs i)
  chain_places at p [] c i h = absurd (not-suc-le-zero h)
  chain_places at p (x ∷ xs) c zero h = rw (first_at xs) c.0
  chain_places at p (x ∷ xs) c (suc i) h = chain_places at x xs c.1 i (le_of_suc-le-suc h)

  places_chain : (at : ℕ → ℕ) (p : ℕ) (xs : List ℕ) → ((i : ℕ) → i < length xs → at (get_or xs i 0) ≡ op (get_or (p ∷ xs) i 0) (next_of xs i)) → Chain at p xs 0
  places_chain at p [] c = tt
  places_chain at p (x ∷ xs) c =
      (c zero (zero-lt-suc (length xs)) ∙ ap (op p) (first_at xs), places_chain at x xs (λ i h. c (suc i) (suc-le-suc h)))

  prev_at : (xs : List ℕ) (i : ℕ) → get_or (0 ∷ xs) i 0 ≡ prev_of xs i
  prev_at xs zero = refl
  prev_at xs (suc i) = refl

  pub linked_iff : (at : ℕ → ℕ) (xs : List ℕ) → Linked op at xs ↔ Chain at 0 xs 0
  linked_iff at xs =
      (λ l. places_chain at 0 xs (λ i h. rw (prev_at xs i) (l i h)), λ c i h. rw (prev_at xs i) at (chain_places at 0 xs c i h))

  -- cells outside the sequence don't matter
  pub chain_frame : (at at' : ℕ → ℕ) (p : ℕ) (xs : List ℕ) (q : ℕ) → ((y : ℕ) → 0 < count y xs → at' y ≡ at y) → Chain at p xs q → Chain at' p xs q
  chain_frame at at' p [] q s c = tt
  chain_frame at at' p (x ∷ xs) q s c =
      (s x (count_first x xs) ∙ c.0, chain_frame at at' x xs q (λ y k. s y (omega arith)) c.1)

  pub linked_frame : (at at' : ℕ → ℕ) (xs : List ℕ) → ((y : ℕ) → 0 < count y xs → at' y ≡ at y) → Linked op at xs → Linked op at' xs
  linked_frame at at' xs s l = (linked_iff at' xs).1 (chain_frame at at' 0 xs 0 s ((linked_iff at xs).0 l))

  pub chain_append : (at : ℕ → ℕ) (p : ℕ) (xs ys : List ℕ) (q : ℕ) → Chain at p xs (first_or q ys) → Chain at (last_or p xs) ys q → Chain at p (xs ++ ys) q
  chain_append at p [] ys q c d = d
  chain_append at p (x ∷ xs) ys q c d = (c.0 ∙ ap (op p) (sym (first-append q xs ys)), chain_append at x xs ys q c.1 d)

  module _ (comm : (a b : ℕ) → op a b ≡ op b a) where
    pub chain_reverse : (at : ℕ → ℕ) (p : ℕ) (xs : List ℕ) (q : ℕ) → Chain at p xs q → Chain at q (reverse xs) p
    chain_reverse at p [] q c = tt
    chain_reverse at p (x ∷ xs) q c =
        rw (reverse-cons x xs)
        (chain_append at q (reverse xs) (x ∷ []) p (chain_reverse at x xs q c.1)
        (c.0 ∙ comm p (first_or q xs) ∙ ap (λ r. op r p) (sym (last-reverse q xs)), tt))

    -- a sequence reversed is linked by the same cells
    pub linked-reverse : (at : ℕ → ℕ) (xs : List ℕ) → Linked op at xs → Linked op at (reverse xs)
    linked-reverse at xs l = (linked_iff at (reverse xs)).1 (chain_reverse at 0 xs 0 ((linked_iff at xs).0 l))

  -- `onward` gives the slot after from the slot before and the cell
  module _ (onward : ℕ → ℕ → ℕ) (onward-op : (p n : ℕ) → onward p (op p n) ≡ n) where
    pub chain_unique : (at : ℕ → ℕ) (p : ℕ) (xs ys : List ℕ) → count 0 xs ≡ 0 → count 0 ys ≡ 0 → Chain at p xs 0 → Chain at p ys 0 → first_or 0 xs ≡ first_or 0 ys → xs ≡ ys
    chain_unique at p [] [] a b c d e = refl
    chain_unique at p [] (y ∷ ys) a b c d e = absurd (count_apart (y ∷ ys) (count_first y ys) b (sym e))
    chain_unique at p (x ∷ xs) [] a b c d e = absurd (count_apart (x ∷ xs) (count_first x xs) a e)
    chain_unique at p (x ∷ xs) (y ∷ ys) a b c d e =
        let f : first_or 0 xs ≡ first_or 0 ys = sym (onward-op p (first_or 0 xs)) ∙ ap (onward p) (sym c.0 ∙ ap at e ∙ d.0) ∙ onward-op p (first_or 0 ys) in
        let d' : Chain at x ys 0 = rw (← e) at d.1 in
        λ i. e i ∷ chain_unique at x xs ys (omega arith) (omega arith) c.1 d' f i

    -- a sequence without the null slot is determined by its first slot and its cells
    pub linked_unique : (at : ℕ → ℕ) (xs ys : List ℕ) → count 0 xs ≡ 0 → count 0 ys ≡ 0 → Linked op at xs → Linked op at ys → first_or 0 xs ≡ first_or 0 ys → xs ≡ ys
    linked_unique at xs ys a b c d e = chain_unique at 0 xs ys a b ((linked_iff at xs).0 c) ((linked_iff at ys).0 d) e

-- ---- the two kinds of chain

pub live-reverse : (links xs : List ℕ) → LiveChain links xs → LiveChain links (reverse xs)
live-reverse links xs c = linked-reverse bit_xor xor_comm (cell links) xs c

pub live_unique : (links xs ys : List ℕ) → count 0 xs ≡ 0 → count 0 ys ≡ 0 → LiveChain links xs → LiveChain links ys → first_or 0 xs ≡ first_or 0 ys → xs ≡ ys
live_unique links xs ys a b c d e = linked_unique bit_xor (λ p v. bit_xor v p) xor_cancel_out (cell links) xs ys a b c d e

pub idle_unique : (links xs ys : List ℕ) → count 0 xs ≡ 0 → count 0 ys ≡ 0 → IdleChain links xs → IdleChain links ys → first_or 0 xs ≡ first_or 0 ys → xs ≡ ys
idle_unique links xs ys a b c d e = linked_unique following (λ p v. v) (λ p v. refl) (cell links) xs ys a b c d e
