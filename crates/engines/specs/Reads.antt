-- What a read gives, on any cells: the values along a list's chain, and the buffer that holds them from a place on. And what emptying a list gives.
use Rattle.std.specs.Prelude.{Bool, true, false, cond, not, ◌&&◌, List, [], ◌∷◌, ◌++◌, ℕ, zero, suc, ◌+◌, leb, ltb, eqb, length, take, drop}
use Rattle.books.specs.declared.Free.{Free}
use Rattle.books.specs.declared.Entry.{Entry}
use Rattle.books.specs.Book.{null_slot}
use Rattle.chains.specs.Chain.{cell}
use Rattle.shapes.specs.declared.End.{End}
use Rattle.shapes.specs.declared.End.TheVariants.{Front}
use Rattle.engines.specs.Engine.{Engine, Step}
use Rattle.engines.specs.Counted.{counted_pop}

-- is the number a slot of a pool with so many links and so many values?
unfoldable pub is_slot : ℕ → ℕ → ℕ → Bool
is_slot size value_count slot = not (eqb slot null_slot) && (ltb slot size && ltb slot value_count)

-- the values of at most `most` slots, from `slot` on, with `before` before it. The null slot, or a number that is no slot, ends them
unfoldable pub values_along : (onward : ℕ → ℕ → ℕ) (size : ℕ) (values : List ℕ) → ℕ → ℕ → ℕ → List ℕ
values_along onward size values zero before slot = []
values_along onward size values (suc most) before slot =
    cond (is_slot size (length values) slot)
    (cell values slot ∷ values_along onward size values most slot (onward before slot))
    []

module _ (E : Engine) (end : End) (links : E.Links) (values : List ℕ) (start : ℕ) (buffer : List ℕ) (at : ℕ) where
  -- the values that a read from an end writes: as many as there is room for from `at` on, and none where `at` is past the buffer's end
  abbrev pub values_read : List ℕ
  values_read = cond (leb at (length buffer)) (values_along (E.onward end links) (E.size links) values (length (drop at buffer)) null_slot start) []

  -- how many there are
  abbrev pub count_read : ℕ
  count_read = length values_read

  -- the buffer then. 01: "Every other place keeps what it held"
  abbrev pub buffer_after : List ℕ
  buffer_after = take at buffer ++ values_read ++ drop (at + length values_read) buffer

-- the front is popped so many times, up to the first refusal
unfoldable pub clear_on : (E : Engine) → ℕ → E.Links → List ℕ → Entry → Free → Step E.Links
clear_on E zero links values list free = record { done = true; value = 0; entry = list; free = free; links = links; values = values }
clear_on E (suc count) links values list free =
    let gone = counted_pop E Front links values list free in
    cond gone.done
    (clear_on E count gone.links gone.values gone.entry gone.free)
    (record { done = false; value = 0; entry = gone.entry; free = gone.free; links = gone.links; values = gone.values })
