-- What setup makes of any pool: the values, the entries and the shape; and 01's line on L, shares and limits, of what its caller asks for.
use Rattle.std.specs.Prelude.{◌≡◌, cond, List, [], ◌∷◌, ℕ, zero, suc, ◌+◌, ◌-◌, ◌≤◌, ◌<◌, eqb, get_or, take, replicate}
use Rattle.books.specs.declared.Entry.{Entry}
use Rattle.books.specs.Book.{null_slot, wipe_word}
use Rattle.shapes.specs.Shape.{Shape}
use Rattle.shapes.specs.Ends.{new_of}

-- 01: "all values 0": slot 0 holds 0, and a free slot the wipe word
unfoldable pub fresh_value : ℕ → ℕ
fresh_value slot = cond (eqb slot null_slot) 0 wipe_word

-- the lists are empty, each with its share and limit
abbrev pub fresh_entry : List ℕ → List ℕ → ℕ → Entry
fresh_entry shares limits l = new_of (get_or shares l 0) (get_or limits l 0)

-- the numbers of a list added up
abbrev pub added_up : List ℕ → ℕ
added_up [] = 0
added_up (x ∷ xs) = x + added_up xs

-- the slots a, a + 1, and so on, n of them
abbrev pub slots_from : ℕ → ℕ → List ℕ
slots_from a zero = []
slots_from a (suc n) = a ∷ slots_from (suc a) n

-- the shape that a done setup leaves: the lists are empty, and every slot from 1 on is idle, in order
abbrev pub fresh_shape : ℕ → ℕ → Shape
fresh_shape size lists = record { chains = replicate lists []; idle = slots_from 1 (size - 1) }

-- list l's share and limit are the l-th of each; the book has room for `places` lists
pub record SetupRules (size places lists : ℕ) (shares limits : List ℕ) : Type 0 where
  -- 01: "L is 1 to 8"
  pub least : 1 ≤ lists
  pub most : lists ≤ places
  -- 01: "share ≤ limit ≤ N-1 for each list"
  pub fair : (l : ℕ) → l < lists → (get_or shares l 0 ≤ get_or limits l 0) × (get_or limits l 0 < size)
  -- 01: "the shares add up to at most N-1"
  pub fits : added_up (take lists shares) < size
  -- 01: "entries from L on are all 0"
  pub unused : (l : ℕ) → lists ≤ l → l < places → (get_or shares l 0 ≡ 0) × (get_or limits l 0 ≡ 0)
