-- 02 b) and c) of each of the nine calls, over any engine: which numbers name a broken rule, with which list and position, and that no other number has a place.
use Rattle.std.specs.Prelude.{◌≡◌, ◌↔◌, ◌≢◌, ◌⊎◌, ℕ, ◌≤◌, ◌<◌}
use Rattle.books.specs.Place.{Place, no_place}
use Rattle.shapes.specs.Faults.{fault}
use Rattle.shapes.specs.Shape.{Shape}
use Rattle.engines.specs.Engine.{Engine}
use Rattle.engines.specs.Sound.{Fit, SoundBook}
use Rattle.engines.specs.FirstFault.{Breaks}
use Rattle.engines.specs.Moves.{State}

-- what a number with its place says of the pool that a call is made on
pub record NamesFault (E : Engine) (st : State E) (number : ℕ) (place : Place) : Type 0 where
  -- rule k with a list and a position is given exactly where it is the first that is broken, there
  pub exactly : (k list position : ℕ) → 9 ≤ k → k ≤ 16
      → ((number ≡ k) × (place ≡ record { list = list; position = position })) ↔ (Fit E st.links st.values × Breaks E st.links st.values st.book (fault k list position))
  -- one of 9 to 16 is given exactly where 3 was: the sizes fit, and the pool is not sound
  pub unsound : ((9 ≤ number) × (number ≤ 16)) ↔ (Fit E st.links st.values × (((s : Shape) × SoundBook E st.links st.values st.book s) → ⊥))
  -- with any other number both are 0
  pub unplaced : (number < 9) ⊎ (16 < number) → place ≡ no_place
  -- and of the part that a number does not set
  pub list_unset : number ≢ 11 → number ≢ 15 → number ≢ 16 → place.list ≡ 0
  pub position_unset : (number < 11) ⊎ (14 < number) → place.position ≡ 0
