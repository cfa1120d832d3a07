-- In the book a call on one list changes that list's entry and the free record, and nothing else.
use Rattle.std.specs.Prelude.{◌≡◌, ◌≢◌, List, ℕ, length, set}
use Rattle.books.specs.declared.Free.{Free}
use Rattle.books.specs.declared.Entry.{Entry}
use Rattle.books.specs.Book.{entry_at, AnyBook}
use Rattle.shapes.specs.Shape.{Shape, chain_at}
use Rattle.shapes.specs.Ends.{contents}

-- the book with another entry for list l, and another free record
abbrev pub with_list : AnyBook → ℕ → Entry → Free → AnyBook
with_list b l e free = record { places = b.places; lists = b.lists; entries = set b.entries l e; free = free }

-- in the book only list l's entry and the free record may change, and of the entry not its share and limit
pub record OtherEntries (b : AnyBook) (l : ℕ) (after : AnyBook) : Type 0 where
  pub same_places : after.places ≡ b.places
  pub same_lists : after.lists ≡ b.lists
  pub same_entries : length after.entries ≡ length b.entries
  pub others : (k : ℕ) → k ≢ l → entry_at after.entries k ≡ entry_at b.entries k
  pub share : (entry_at after.entries l).share ≡ (entry_at b.entries l).share
  pub limit : (entry_at after.entries l).limit ≡ (entry_at b.entries l).limit

-- every other list holds the same values in the same slots
abbrev pub OtherLists : List ℕ → Shape → ℕ → List ℕ → Type 0
OtherLists values s l after = (k : ℕ) → k ≢ l → contents after (chain_at s k) ≡ contents values (chain_at s k)
