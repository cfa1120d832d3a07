-- 01's table of calls and numbers, with 02 b)'s numbers, 02 c)'s, and 02 d)'s four calls and number: which numbers each call can give. It has fourteen rows, and columns for 0 to 17; that of 3 is empty.
use Rattle.std.specs.Prelude.{Bool, true, false, cond, List, [], ◌∷◌, ◌++◌, ℕ, eqb, get_or}

-- the rules that the check tells apart, in the order in which they are tested: 9 is L, shares and limits; 10 slot 0; 11 a live chain; 12 the free chain; 13 a slot in no chain; 14 a free slot with a value; 15 limits and shares; 16 the stored counts
abbrev pub fault_rules : List ℕ
fault_rules = 9 ∷ 10 ∷ 11 ∷ 12 ∷ 13 ∷ 14 ∷ 15 ∷ 16 ∷ []

-- what 02 d)'s quick calls give. They do not check the pool first, and whatever they meet that they cannot trust is 17
abbrev pub quick_push_numbers : List ℕ
quick_push_numbers = 0 ∷ 1 ∷ 4 ∷ 6 ∷ 7 ∷ 17 ∷ []

abbrev pub quick_pop_numbers : List ℕ
quick_pop_numbers = 0 ∷ 1 ∷ 4 ∷ 5 ∷ 17 ∷ []

-- 01: "setup: 0, 1, 2; check: 0, 1, 3; length and clear: 0, 1, 3, 4; pushes: 0, 1, 3, 4, 6, 7; pops: 0, 1, 3, 4, 5; reads: 0, 1, 3, 4, 8"
-- with 02 b)'s numbers, and 02 c)'s, where 3 was; then 02 d)'s quick push back, quick push front, quick pop back and quick pop front
abbrev pub rows : List (List ℕ)
rows =
    (0 ∷ 1 ∷ 2 ∷ [])
    ∷ (0 ∷ 1 ∷ fault_rules)
    ∷ (0 ∷ 1 ∷ fault_rules ++ 4 ∷ [])
    ∷ (0 ∷ 1 ∷ fault_rules ++ 4 ∷ 6 ∷ 7 ∷ [])
    ∷ (0 ∷ 1 ∷ fault_rules ++ 4 ∷ 6 ∷ 7 ∷ [])
    ∷ (0 ∷ 1 ∷ fault_rules ++ 4 ∷ 5 ∷ [])
    ∷ (0 ∷ 1 ∷ fault_rules ++ 4 ∷ 5 ∷ [])
    ∷ (0 ∷ 1 ∷ fault_rules ++ 4 ∷ 8 ∷ [])
    ∷ (0 ∷ 1 ∷ fault_rules ++ 4 ∷ 8 ∷ [])
    ∷ (0 ∷ 1 ∷ fault_rules ++ 4 ∷ [])
    ∷ quick_push_numbers
    ∷ quick_push_numbers
    ∷ quick_pop_numbers
    ∷ quick_pop_numbers
    ∷ []

-- is the number one of these?
abbrev pub among : ℕ → List ℕ → Bool
among n [] = false
among n (k ∷ ks) = cond (eqb n k) true (among n ks)

-- can call number `call` give the number?
unfoldable pub may_give : ℕ → ℕ → Bool
may_give call number = among number (get_or rows call [])
