-- A sequence of slots and the cells that link it: one definition for the live chains and the idle chain.
use Rattle.std.specs.Prelude.{◌≡◌, List, [], ◌∷◌, ℕ, zero, suc, ◌<◌, length, get_or}
use Rattle.std.specs.Int.Bits.{bit_xor}

-- what the cell of slot y holds
abbrev pub cell : List ℕ → ℕ → ℕ
cell cells y = get_or cells y 0

-- the first slot of a sequence, or q where it has none
abbrev pub first_or : ℕ → List ℕ → ℕ
first_or q [] = q
first_or q (x ∷ xs) = x

-- the last slot of a sequence, or p where it has none
abbrev pub last_or : ℕ → List ℕ → ℕ
last_or p [] = p
last_or p (x ∷ xs) = last_or x xs

-- the slot before place i of a sequence, 0 standing for none (000: prev_of)
abbrev pub prev_of : List ℕ → ℕ → ℕ
prev_of xs zero = 0
prev_of xs (suc i) = get_or xs i 0

-- the slot after place i of a sequence, 0 standing for none, as past its end (000: next_of)
abbrev pub next_of : List ℕ → ℕ → ℕ
next_of xs i = get_or xs (suc i) 0

-- at every place of the sequence the slot's cell is `op` of the slot before it and the slot after it
abbrev pub Linked : (op : ℕ → ℕ → ℕ) (at : ℕ → ℕ) → List ℕ → Type 0
Linked op at xs = (i : ℕ) → i < length xs → at (get_or xs i 0) ≡ op (prev_of xs i) (next_of xs i)

-- 01: "a live slot's link is the XOR of the slots before and after it in its sequence, 0 standing for none (`wf_perm` in 000)"
abbrev pub LiveChain : List ℕ → List ℕ → Type 0
LiveChain links xs = Linked bit_xor (cell links) xs

-- of the slot before and the slot after, the slot after
abbrev pub following : ℕ → ℕ → ℕ
following p n = n

-- 01: "a free slot's link is the next free slot, 0 at the last"
abbrev pub IdleChain : List ℕ → List ℕ → Type 0
IdleChain links xs = Linked following (cell links) xs
