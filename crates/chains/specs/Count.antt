-- How often a number stands in a sequence: "exactly once" and "not at all" are said with it.
use Rattle.std.specs.Prelude.{List, [], ◌∷◌, ℕ, zero, suc, ◌+◌}

-- 1 where the two numbers are the same, else 0
abbrev pub hit : ℕ → ℕ → ℕ
hit zero zero = 1
hit zero (suc n) = 0
hit (suc m) zero = 0
hit (suc m) (suc n) = hit m n

-- how often y stands in a sequence
abbrev pub count : ℕ → List ℕ → ℕ
count y [] = 0
count y (x ∷ xs) = hit y x + count y xs
