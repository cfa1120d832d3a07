-- 02 d): what a quick call asks of the numbers that it takes as they are. As tests that run, and in 02 d)'s words.
use Rattle.std.specs.Prelude.{◌⊎◌, Bool, true, cond, not, ◌&&◌, List, [], ◌∷◌, ℕ, ◌+◌, ◌-◌, ◌<◌, ltb, leb, take}
use Rattle.books.specs.declared.Entry.{Entry}
use Rattle.books.specs.Book.{null_slot, entry_at, AnyBook}
use Rattle.chains.specs.Count.{count}

-- ---- in words. `size` is N

-- "17 before 4 for an L outside 1 to 8": the book has so many places
abbrev pub ListsOutside : AnyBook → Type 0
ListsOutside b = (b.lists < 1) ⊎ (b.places < b.lists)

-- "a stored count of the L lists or of the free slots above N-1"
abbrev pub CountAbove : ℕ → AnyBook → Type 0
CountAbove size b = ((k : ℕ) × (k < b.lists) × (size - 1 < (entry_at b.entries k).length)) ⊎ (size - 1 < b.free.count)

-- of the slots whose cells a call would read or write: one "isn't from 1 to N-1", or "two such slots that a sound pool keeps apart are the same"
pub data BadSlots (size : ℕ) (slots : List ℕ) : Type 0 where
  outside : (y : ℕ) → 0 < count y slots → (y < 1) ⊎ (size - 1 < y) → BadSlots size slots
  twice : (y : ℕ) → 1 < count y slots → BadSlots size slots

-- "a count would leave 0 to N-1": in a push the list's length, which goes up, and the free count, which goes down; in a pop the free count, which goes up
abbrev pub PushLeaves : ℕ → (length free : ℕ) → Type 0
PushLeaves size length free = (size - 1 < length + 1) ⊎ (free < 1)

abbrev pub PopLeaves : ℕ → (free : ℕ) → Type 0
PopLeaves size free = size - 1 < free + 1

-- ---- as they run

abbrev pub lists_inside : AnyBook → Bool
lists_inside b = ltb 0 b.lists && leb b.lists b.places

-- every stored length is below N
unfoldable pub lengths_fit : ℕ → List Entry → Bool
lengths_fit size [] = true
lengths_fit size (e ∷ es) = ltb e.length size && lengths_fit size es

abbrev pub counts_fit : ℕ → AnyBook → Bool
counts_fit size b = ltb b.free.count size && lengths_fit size (take b.lists b.entries)

abbrev pub push_counts_fit : ℕ → (length free : ℕ) → Bool
push_counts_fit size length free = ltb (length + 1) size && ltb 0 free

abbrev pub pop_counts_fit : ℕ → (free : ℕ) → Bool
pop_counts_fit size free = ltb (free + 1) size
