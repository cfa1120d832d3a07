-- A walk along a chain, with no links in it: which slots it passes, and whether it came to the end. One definition for every chain of every engine.
use Rattle.std.specs.Prelude.{◌≡◌, ◌≢◌, Bool, true, false, cond, not, ◌&&◌, List, [], ◌∷◌, ℕ, zero, suc, ◌+◌, ◌≤◌, ◌<◌, ltb, eqb, length}
use Rattle.books.specs.Book.{null_slot, wipe_word}
use Rattle.chains.specs.Count.{count}
use Rattle.chains.specs.Chain.{cell, first_or}
use Rattle.shapes.specs.Met.{is_met_of, seen, mark_of, mark_all, unmet}

-- the slots that were passed, and whether the next one was null
pub record Path : Type 0 where
  pub ok : Bool
  pub slots : List ℕ

abbrev pub passing : ℕ → Path → Path
passing slot path = record { ok = path.ok; slots = slot ∷ path.slots }

-- `onward p x` is the slot after x, with p before it, and `fits p x` says that x's links fit p.
-- From `slot`, with `before` before it: a slot of N or more, one that was met, or one whose links do not fit is not passed. `walk_from` has more steps than there are slots to mark, so they never run out
unfoldable pub walk_on : (onward : ℕ → ℕ → ℕ) (fits : ℕ → ℕ → Bool) (size : ℕ) → ℕ → List ℕ → ℕ → ℕ → Path
walk_on onward fits size zero met before slot = record { ok = false; slots = [] }
walk_on onward fits size (suc steps) met before slot =
    cond (eqb slot null_slot)
    (record { ok = true; slots = [] })
    (cond (ltb slot size && not (is_met_of met slot))
    (cond (fits before slot)
    (passing slot (walk_on onward fits size steps (mark_of met slot) slot (onward before slot)))
    (record { ok = false; slots = [] }))
    (record { ok = false; slots = [] }))

-- a walk goes over a record that has a place for each slot, and in which the null slot is not met
unfoldable pub walkable : ℕ → List ℕ → Bool
walkable size met = eqb size (length met) && not (is_met_of met null_slot)

-- any other is refused: no slot is passed
abbrev pub no_path : Path
no_path = record { ok = false; slots = [] }

abbrev pub walk_from : (onward : ℕ → ℕ → ℕ) (fits : ℕ → ℕ → Bool) → ℕ → List ℕ → ℕ → Path
walk_from onward fits size met head = cond (walkable size met) (walk_on onward fits size (suc (unmet met)) met null_slot head) no_path

-- the sequence is one that the walk goes along, from its first slot, with p before it, to its end
abbrev pub Tied : (onward : ℕ → ℕ → ℕ) (fits : ℕ → ℕ → Bool) → ℕ → List ℕ → Type 0
Tied onward fits p [] = Unit
Tied onward fits p (x ∷ xs) = (fits p x ≡ true) × (onward p x ≡ first_or 0 xs) × Tied onward fits x xs

-- what is so of the slots that a walk passes: they are from 1 to N-1, none was met or is passed twice, and marking them marks just these
pub record Passes (size : ℕ) (met slots : List ℕ) : Type 0 where
  pub marks : (y : ℕ) → seen (mark_all met slots) y ≡ seen met y + count y slots
  pub inside : (y : ℕ) → 0 < count y slots → (0 < y) × (y < size)
  pub once : (y : ℕ) → seen met y + count y slots ≤ 1

-- the lower of a slot and the least one so far, which is 0 for none
abbrev pub lower : ℕ → ℕ → ℕ
lower slot least = cond (eqb least null_slot) slot (cond (ltb slot least) slot least)

-- the lowest slot of a sequence whose value is not the wipe word, from the least one so far on
abbrev pub unwiped_from : List ℕ → List ℕ → ℕ → ℕ
unwiped_from values [] least = least
unwiped_from values (x ∷ xs) least = unwiped_from values xs (cond (eqb (cell values x) wipe_word) least (lower x least))

-- `low` is a slot of the sequence whose value is not the wipe word, and no lower one is so
pub record Lowest (values xs : List ℕ) (low : ℕ) : Type 0 where
  pub inside : 0 < count low xs
  pub not_wiped : cell values low ≢ wipe_word
  pub lowest : (y : ℕ) → 0 < count y xs → cell values y ≢ wipe_word → low ≤ y
