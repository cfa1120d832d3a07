-- The record of slots met, to be read as a set of slots below N: one byte a slot, 0 where the slot was not met. A slot that the record has no place for counts as met.
use Rattle.std.specs.Prelude.{Bool, cond, not, List, [], ◌∷◌, ℕ, zero, suc, ◌<◌, eqb, length, get_or, set}
use Rattle.books.specs.Book.{null_slot}

-- the record has a place for the slot
abbrev pub HasPlace : List ℕ → ℕ → Type 0
HasPlace met slot = slot < length met

unfoldable pub is_met_of : List ℕ → ℕ → Bool
is_met_of met slot = not (eqb (get_or met slot 1) 0)

-- 1 where the slot was met, else 0, so that how often a slot is met and how often it stands in a sequence can be added
abbrev pub seen : List ℕ → ℕ → ℕ
seen met y = cond (is_met_of met y) 1 0

unfoldable pub mark_of : List ℕ → ℕ → List ℕ
mark_of met slot = set met slot 1

-- the null slot's place is cleared
abbrev pub unmarked : List ℕ → List ℕ
unmarked met = set met null_slot 0

-- the slots of a sequence are marked, one after the other
abbrev pub mark_all : List ℕ → List ℕ → List ℕ
mark_all met [] = met
mark_all met (x ∷ xs) = mark_all (mark_of met x) xs

-- how many places of the record are not marked
unfoldable pub unmet : List ℕ → ℕ
unmet [] = 0
unmet (zero ∷ met) = suc (unmet met)
unmet (suc b ∷ met) = unmet met
