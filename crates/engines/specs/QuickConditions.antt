-- When a quick call gives each number: 02 d)'s conditions in the order in which they are asked, over the book as it is. What runs is in `Quick`.
use Rattle.std.specs.Prelude.{◌≡◌, ◌⊎◌, List, [], ◌∷◌, ◌++◌, ℕ, ◌≤◌, ◌<◌, take}
use Rattle.books.specs.Book.{entry_at, AnyBook}
use Rattle.shapes.specs.Shape.{stored_lacks}
use Rattle.shapes.specs.Numbers.{Condition, condition}
use Rattle.shapes.specs.Quick.{ListsOutside, CountAbove, PushLeaves, PopLeaves}
use Rattle.engines.specs.Engine.{Engine}
use Rattle.engines.specs.Sound.{Fit}

module _ (E : Engine) (links : E.Links) (values : List ℕ) (b : AnyBook) (l : ℕ) where
  -- 1; "17 before 4 for an L outside 1 to 8"; 4; "between 4 and 5 for a stored count of the L lists or of the free slots above N-1"
  abbrev pub quick_conditions : List Condition
  quick_conditions =
      condition 1 (Fit E links values → ⊥)
      ∷ condition 17 (ListsOutside b)
      ∷ condition 4 (b.lists ≤ l)
      ∷ condition 17 (CountAbove (E.size links) b)
      ∷ []

  -- 6 and 7 as 01 has them, of the stored counts; "after 7 for the rest". `Slots` is what the engine refuses of the slots that it would touch
  abbrev pub quick_push_conditions : (Slots : Type 0) → List Condition
  quick_push_conditions Slots =
      let e = entry_at b.entries l in
      quick_conditions
      ++ condition 6 (e.length ≡ e.limit)
      ∷ condition 7 ((e.length < e.limit) × (e.share ≤ e.length) × (b.free.count ≤ stored_lacks (take b.lists b.entries)))
      ∷ condition 17 (PushLeaves (E.size links) e.length b.free.count ⊎ Slots)
      ∷ []

  -- "5 is a stored length of 0"
  abbrev pub quick_pop_conditions : (Slots : Type 0) → List Condition
  quick_pop_conditions Slots =
      let e = entry_at b.entries l in
      quick_conditions
      ++ condition 5 (e.length ≡ 0)
      ∷ condition 17 (PopLeaves (E.size links) b.free.count ⊎ Slots)
      ∷ []
