-- Document 01's P2, computed: its slots 3, 1, 2 are a live chain and 4, 5 the free one, and in another order they are not. And counts, ends and neighbours, on each side.
use mathlib.Core.Path.{◌≡◌, refl}
use mathlib.Core.List.{List, [], ◌∷◌}
use Prim.Native.Nat.{ℕ}
use native.Mathlib.Omega.{arith}
use lib.Bits.{bit_xor}
use lib.Dec.{lit<}
use Rattle.chains.specs.Count.{count}
use Rattle.chains.specs.Chain.{cell, first_or, last_or, prev_of, next_of, LiveChain, following, IdleChain}
use Rattle.chains.proofs.Chain.{linked_iff}

abbrev links : List ℕ
links = 0 ∷ 1 ∷ 1 ∷ 1 ∷ 5 ∷ 0 ∷ []

abbrev slots : List ℕ
slots = 3 ∷ 1 ∷ 2 ∷ []

pub places_tried : (cell links 4 ≡ 5) × (cell links 6 ≡ 0) × (first_or 7 slots ≡ 3) × (last_or 7 slots ≡ 2) × (first_or 7 [] ≡ 7) × (last_or 7 [] ≡ 7)
    × (prev_of slots 0 ≡ 0) × (prev_of slots 2 ≡ 1) × (next_of slots 0 ≡ 1) × (next_of slots 2 ≡ 0)
places_tried = (refl, refl, refl, refl, refl, refl, refl, refl, refl, refl)

pub counts_tried_lem : (count 1 slots ≡ 1) × (count 4 slots ≡ 0) × (count 3 (3 ∷ slots) ≡ 2)
counts_tried_lem = (refl, refl, refl)

pub chains_held : LiveChain links slots × IdleChain links (4 ∷ 5 ∷ [])
chains_held = ((linked_iff bit_xor (cell links) slots).1 (refl, (refl, (refl, tt))), (linked_iff following (cell links) (4 ∷ 5 ∷ [])).1 (refl, (refl, tt)))

pub chains_broken : (LiveChain links (3 ∷ 2 ∷ 1 ∷ []) → ⊥) × (IdleChain links (5 ∷ 4 ∷ []) → ⊥)
chains_broken = (λ c. omega (arith, c 0 (lit< tt)), λ c. omega (arith, c 0 (lit< tt)))
