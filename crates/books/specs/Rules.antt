-- 01's line on L, shares and limits, over a list of entries of any length.
use Rattle.std.specs.Prelude.{◌≡◌, List, [], ◌∷◌, ℕ, ◌+◌, ◌≤◌, ◌<◌, length, take}
use Rattle.books.specs.declared.Entry.{Entry}
use Rattle.books.specs.Book.{smallest_pool, largest_pool, zero_entry, entry_at, AnyBook}

-- 01: "N runs from 2 to 4,096"
pub record Size (size : ℕ) : Type 0 where
  pub least : smallest_pool ≤ size
  pub most : size ≤ largest_pool

-- what the entries' shares add up to
abbrev pub shares_of : List Entry → ℕ
shares_of [] = 0
shares_of (e ∷ es) = e.share + shares_of es

-- `size` is N, `lists` is L, and the book has room for `places` lists. "At most N-1" is said as "below N", which needs no difference
pub record Rules (size places lists : ℕ) (es : List Entry) : Type 0 where
  -- 01: "L is 1 to 8"
  pub least : 1 ≤ lists
  pub most : lists ≤ places
  -- each list has its entry
  pub there : lists ≤ length es
  -- 01: "share ≤ limit ≤ N-1 for each list"
  pub fair : (l : ℕ) → l < lists → ((entry_at es l).share ≤ (entry_at es l).limit) × ((entry_at es l).limit < size)
  -- 01: "the shares add up to at most N-1"
  pub fits : shares_of (take lists es) < size
  -- 01: "entries from L on are all 0"
  pub unused : (l : ℕ) → lists ≤ l → entry_at es l ≡ zero_entry

-- the rules of a book
abbrev pub BookRules : ℕ → AnyBook → Type 0
BookRules size b = Rules size b.places b.lists b.entries
