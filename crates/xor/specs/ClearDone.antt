-- What emptying a list of the XOR list leaves on any cells, however many pops are asked for.
use Rattle.std.specs.Prelude.{◌≡◌, Bool, List, ℕ, length}
use Rattle.books.specs.declared.Free.{Free}
use Rattle.books.specs.declared.Entry.{Entry}
use Rattle.engines.specs.Engine.{Step}

-- nothing changed, and the answer says whether that is all that was asked
pub record Stays (done : Bool) (links values : List ℕ) (list : Entry) (free : Free) (r : Step (List ℕ)) : Type 0 where
  pub said : r.done ≡ done
  pub same_entry : r.entry ≡ list
  pub same_free : r.free ≡ free
  pub same_links : r.links ≡ links
  pub same_values : r.values ≡ values

-- the sizes of both slices, and the list's share and limit
pub record Preserves (links values : List ℕ) (list : Entry) (r : Step (List ℕ)) : Type 0 where
  pub same_links : length r.links ≡ length links
  pub same_values : length r.values ≡ length values
  pub share : r.entry.share ≡ list.share
  pub limit : r.entry.limit ≡ list.limit
