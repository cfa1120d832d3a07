-- What a function that is lent both slices leaves: its answer, and every cell of both.
use Rattle.std.specs.Prelude.{List, ℕ}

pub record Outcome (A : Type 0) : Type 0 where
  pub answer : A
  pub links : List ℕ
  pub values : List ℕ

abbrev pub outcome : {A : Type 0} → A → List ℕ → List ℕ → Outcome A
outcome answer links values = record { answer = answer; links = links; values = values }
