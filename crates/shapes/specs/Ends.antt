-- The two ends of a list: of its entry, of a sequence of slots, and of the values that these hold.
use Rattle.std.specs.Prelude.{List, [], ◌∷◌, ◌++◌, map, reverse, ℕ}
use Rattle.books.specs.declared.Entry.{Entry}
use Rattle.books.specs.Book.{null_slot}
use Rattle.chains.specs.Chain.{cell, last_or}
use Rattle.shapes.specs.declared.End.{End}
use Rattle.shapes.specs.declared.End.TheVariants.{Front, Back}

-- 01: "an empty list has head and tail 0"; its length is 0
abbrev pub new_of : ℕ → ℕ → Entry
new_of share limit = record { head = null_slot; tail = null_slot; share = share; limit = limit; length = 0 }

-- the slot at an end
unfoldable pub near_of : End → Entry → ℕ
near_of Front list = list.head
near_of Back list = list.tail

-- the list with another slot at an end. The stored length stays, here and below: it is counted by the step that takes or releases a slot (`Counts`)
unfoldable pub with_near : End → ℕ → Entry → Entry
with_near Front slot list = record { head = slot; tail = list.tail; share = list.share; limit = list.limit; length = list.length }
with_near Back slot list = record { head = list.head; tail = slot; share = list.share; limit = list.limit; length = list.length }

-- the list with one slot at both ends
abbrev pub with_both : ℕ → Entry → Entry
with_both slot list = record { head = slot; tail = slot; share = list.share; limit = list.limit; length = list.length }

-- the list with no slot at either end
abbrev pub emptied : Entry → Entry
emptied list = record { head = null_slot; tail = null_slot; share = list.share; limit = list.limit; length = list.length }

abbrev pub opposite : End → End
opposite Front = Back
opposite Back = Front

-- a slot, or a value, at an end of a sequence
abbrev pub joined : End → ℕ → List ℕ → List ℕ
joined Front x xs = x ∷ xs
joined Back x xs = xs ++ x ∷ []

-- the values that the slots of a sequence hold (000: view)
abbrev pub contents : List ℕ → List ℕ → List ℕ
contents values xs = map (cell values) xs

-- the values of a list from an end on
abbrev pub from_end : End → List ℕ → List ℕ
from_end Front vs = vs
from_end Back vs = reverse vs

-- the slot at an end of a sequence, or none
abbrev pub end_slot : End → List ℕ → List ℕ
end_slot end [] = []
end_slot Front (x ∷ xs) = x ∷ []
end_slot Back (x ∷ xs) = last_or x xs ∷ []
