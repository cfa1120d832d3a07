-- Where a pool is broken: a list and a position, 0 where none applies; and the answer of a call, which is a number with its place.
use Rattle.std.specs.Prelude.{ℕ}
use Rattle.books.specs.declared.Refusal.{Refusal}

pub record Place : Type 0 where
  pub list : ℕ
  pub position : ℕ

-- what goes with every number that sets no place
abbrev pub no_place : Place
no_place = record { list = 0; position = 0 }

abbrev pub refusal_of : ℕ → Place → Refusal
refusal_of number place = record { number = number; list = place.list; position = place.position }

-- a number that sets no place
abbrev pub numbered : ℕ → Refusal
numbered number = refusal_of number no_place

-- the place of an answer
abbrev pub place_in : Refusal → Place
place_in r = record { list = r.list; position = r.position }
