-- What may change, and where there is room, computed on each side: one list of a book, the other lists, a buffer from a place on, and the room for a push.
use mathlib.Core.Path.{◌≡◌, refl, ap}
use mathlib.Core.Logic.{◌≢◌, ◌⊎◌, inl, inr, ⊎_elim}
use mathlib.Core.List.{List, [], ◌∷◌}
use Prim.Native.Nat.{ℕ, zero, suc, ◌≤◌, ◌<◌}
use native.Mathlib.Omega.{arith}
use lib.Dec.{lit<}
use lib.ListN.{get_or}
use Rattle.books.specs.declared.Entry.{Entry}
use Rattle.books.specs.Book.{zero_entry, entry_at, AnyBook}
use Rattle.chains.specs.Chain.{first_or}
use Rattle.shapes.specs.Shape.{Shape, Room}
use Rattle.shapes.specs.Changes.{with_list, OtherEntries, OtherLists}
use Rattle.shapes.specs.Tests.{Keeps}

abbrev four : ℕ → ℕ → ℕ → ℕ → List ℕ
four a b c d = a ∷ b ∷ c ∷ d ∷ []

-- a list's ends and its length, all of one number, its share and its limit
abbrev entry : ℕ → ℕ → ℕ → Entry
entry slot share limit = record { head = slot; tail = slot; share = share; limit = limit; length = slot }

-- two lists and room for a third
abbrev book : Entry → Entry → AnyBook
book e f = record { places = 3; lists = 2; entries = e ∷ f ∷ zero_entry ∷ []; free = record { head = 1; count = 5 } }

pub list_changed : with_list (book (entry 0 2 5) (entry 0 1 3)) 1 (entry 4 7 8) (record { head = 6; count = 7 })
    ≡ record { places = 3; lists = 2; entries = entry 0 2 5 ∷ entry 4 7 8 ∷ zero_entry ∷ []; free = record { head = 6; count = 7 } }
list_changed = refl

-- list 1 has other ends
pub others_stay : OtherEntries (book (entry 0 2 5) (entry 0 1 3)) 1 (book (entry 0 2 5) (entry 4 1 3))
others_stay = record { same_places = refl; same_lists = refl; same_entries = refl; others = others; share = refl; limit = refl }
  where
    others : (k : ℕ) → k ≢ 1 → entry_at (book (entry 0 2 5) (entry 4 1 3)).entries k ≡ entry_at (book (entry 0 2 5) (entry 0 1 3)).entries k
    others zero d = refl
    others (suc zero) d = absurd (d refl)
    others (suc (suc k)) d = refl

-- list 0 has other ends; list 1 has another share; and another limit
pub others_moved : (OtherEntries (book (entry 0 2 5) (entry 0 1 3)) 1 (book (entry 4 2 5) (entry 0 1 3)) → ⊥)
    × (OtherEntries (book (entry 0 2 5) (entry 0 1 3)) 1 (book (entry 0 2 5) (entry 0 2 3)) → ⊥)
    × (OtherEntries (book (entry 0 2 5) (entry 0 1 3)) 1 (book (entry 0 2 5) (entry 0 1 4)) → ⊥)
others_moved = (λ o. omega (arith, ap (λ (e : Entry). e.head) (o.others 0 (λ e. omega (arith, e)))), λ o. omega (arith, o.share), λ o. omega (arith, o.limit))

-- list 0 has slot 1, and list 1 slot 2; two are free
abbrev shape : Shape
shape = record { chains = (1 ∷ []) ∷ (2 ∷ []) ∷ []; idle = 3 ∷ 4 ∷ [] }

-- the value of slot 2 is another
pub lists_moved : OtherLists (four 0 5 6 0) shape 0 (four 0 5 7 0) → ⊥
lists_moved o = omega (arith, ap (first_or 0) (o 1 (λ e. omega (arith, e))))

-- a list that has its share has room where one slot more is free than the lists lack, and one that has not its share has room
pub room_tried : Room (entry 1 1 2 ∷ entry 2 2 2 ∷ []) shape 0 × Room (entry 1 2 2 ∷ entry 2 3 3 ∷ []) shape 0
room_tried = (record { under = lit< tt; enough = inr (lit< tt) }, record { under = lit< tt; enough = inl (lit< tt) })

-- none has one at its limit, or with its share where just what the lists lack is free
pub no_room : (Room (entry 1 0 1 ∷ entry 2 0 2 ∷ []) shape 0 → ⊥) × (Room (entry 1 1 2 ∷ entry 2 3 3 ∷ []) shape 0 → ⊥)
no_room = (λ r. omega (arith, r.under), λ r. ⊎_elim (λ h. omega (arith, h)) (λ h. omega (arith, h)) r.enough)

-- of four places two from the second on may change
pub keeps_tried : Keeps (four 1 2 3 4) 1 2 (four 1 8 9 4)
keeps_tried = record { size = refl; sooner = sooner; later = later }
  where
    sooner : (i : ℕ) → i < 1 → get_or (four 1 8 9 4) i 0 ≡ get_or (four 1 2 3 4) i 0
    sooner zero h = refl
    sooner (suc i) h = absurd (omega (arith, h))

    later : (i : ℕ) → 3 ≤ i → get_or (four 1 8 9 4) i 0 ≡ get_or (four 1 2 3 4) i 0
    later zero h = absurd (omega (arith, h))
    later (suc zero) h = absurd (omega (arith, h))
    later (suc (suc zero)) h = absurd (omega (arith, h))
    later (suc (suc (suc i))) h = refl

-- and neither the one before them nor the one after them may, nor the length
pub keeps_broken : (Keeps (four 1 2 3 4) 1 2 (four 7 8 9 4) → ⊥) × (Keeps (four 1 2 3 4) 1 2 (four 1 8 9 7) → ⊥) × (Keeps (four 1 2 3 4) 1 2 (1 ∷ 8 ∷ 9 ∷ []) → ⊥)
keeps_broken = (λ k. omega (arith, k.sooner 0 (lit< tt)), λ k. omega (arith, k.later 3 (lit< tt)), λ k. omega (arith, k.size))
