-- What filling the part of a buffer leaves, for the promise of the loop that fills it.
use Rattle.std.specs.Prelude.{◌≡◌, List, ◌++◌, ℕ, length, drop}

-- the values stand in the first places of what is left, and the places after them are as they were
pub record Filled (vs buffer : List ℕ) (count : ℕ) (left : List ℕ) : Type 0 where
  pub number : count ≡ length vs
  pub places : left ≡ vs ++ drop (length vs) buffer
