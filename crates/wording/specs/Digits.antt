-- A number's decimal digits: what they are, how they are worked out, and what a buffer holds once they are written into it.
use Rattle.std.specs.Prelude.{◌≡◌, ◌⊎◌, true, false, List, [], ◌∷◌, ◌++◌, map, ℕ, zero, suc, ◌+◌, ◌*◌, ◌/◌, ◌%◌, ◌^◌, ◌≤◌, ◌<◌, ltb, length, get_or, take, drop}

-- what digits are worth in base ten, the most significant first: each counts for the power of ten with as many zeros as digits follow it
abbrev pub value_of : List ℕ → ℕ
value_of [] = 0
value_of (d ∷ ds) = d * 10 ^ length ds + value_of ds

-- ds are the decimal digits of n: they are worth n, each is below ten, and the first is not 0 unless 0 is the only one
pub record Decimal (n : ℕ) (ds : List ℕ) : Type 0 where
  pub value : value_of ds ≡ n
  pub small : (i : ℕ) → i < length ds → get_or ds i 0 < 10
  pub front : (ds ≡ 0 ∷ []) ⊎ (0 < get_or ds 0 0)

-- the digits worked out: a number below ten is its own digit; a larger one has the digits of its tenth, and then what is left by ten
unfoldable pub digits_on : ℕ → ℕ → List ℕ
digits_on zero n = []
digits_on (suc steps) n = elim (ltb n 10) [ true ↦ n ∷ [] | false ↦ digits_on steps (n / 10) ++ (n % 10) ∷ [] ]

-- with steps enough. The law `digits_exactly` says that these are the decimal digits of n, and that no others are
abbrev pub digits_of : ℕ → List ℕ
digits_of n = digits_on (suc n) n

-- the byte that shows a digit; 48 shows 0
abbrev pub ascii_of : ℕ → ℕ
ascii_of digit = 48 + digit

abbrev pub bytes_of : ℕ → List ℕ
bytes_of n = map ascii_of (digits_of n)

-- the bytes stand from place `at` on, and every other place is as it was. Where they do not all fit nothing changes, and none is counted
pub record Written (bytes before : List ℕ) (at count : ℕ) (after : List ℕ) : Type 0 where
  pub fits : at + length bytes ≤ length before → (count ≡ length bytes) × (after ≡ take at before ++ bytes ++ drop (at + length bytes) before)
  pub short : length before < at + length bytes → (count ≡ 0) × (after ≡ before)
