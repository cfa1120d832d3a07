-- Which numbers are slots of a pool.
use Rattle.std.specs.Prelude.{Bool, ◌&&◌, not, List, ℕ, ◌<◌, ltb, eqb, length}
use Rattle.books.specs.Book.{null_slot}

-- 01: "Slot 0 is the null and never holds an element; slots 1 to N-1 do". N is both lengths; where they differ, a slot has both cells
pub record InPool (links values : List ℕ) (slot : ℕ) : Type 0 where
  pub not_null : null_slot < slot
  pub has_link : slot < length links
  pub has_value : slot < length values

-- the same as a test; the law `in_pool_lem` says that it is true exactly there
unfoldable pub in_pool : List ℕ → List ℕ → ℕ → Bool
in_pool links values slot = not (eqb slot null_slot) && (ltb slot (length links) && ltb slot (length values))
