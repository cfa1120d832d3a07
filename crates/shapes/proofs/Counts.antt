-- In their words the counts are what they are, where none leaves its word.
use mathlib.Core.Path.{◌≡◌}
use Prim.Native.Nat.{ℕ, ◌+◌, ◌-◌, ◌<◌}
use native.Mathlib.Omega.{arith, div_fact, mod_fact}
use Rattle.shapes.specs.Counts.{word_up, word_down, word_sum}

pub word_up_lem : (n : ℕ) → n + 1 < 65536 → word_up n ≡ n + 1
word_up_lem n h = omega (arith, h, div_fact (n + 1) 65535, mod_fact (n + 1) 65535)

pub word_down_lem : (n : ℕ) → 0 < n → n < 65536 → word_down n ≡ n - 1
word_down_lem n p h = omega (arith, p, h, div_fact (n + 65535) 65535, mod_fact (n + 65535) 65535)

pub word_sum_lem : (n m : ℕ) → n + m < 65536 → word_sum n m ≡ n + m
word_sum_lem n m h = omega (arith, h, div_fact (n + m) 65535, mod_fact (n + m) 65535)
