-- Emptying a list of the XOR list in one go along it, on any cells: as it runs. That this is popping the front until nothing is left is the law `clear_along_lem`.
use Rattle.std.specs.Prelude.{true, cond, ◌&&◌, List, ℕ, zero, suc, ltb, length, set}
use Rattle.std.specs.Int.Bits.{bit_xor}
use Rattle.books.specs.declared.Free.{Free}
use Rattle.books.specs.declared.Entry.{Entry}
use Rattle.books.specs.Book.{null_slot, wipe_word}
use Rattle.books.specs.Outcome.{Outcome, outcome}
use Rattle.chains.specs.Chain.{cell}
use Rattle.shapes.specs.Ends.{emptied}
use Rattle.shapes.specs.Counts.{with_length, with_count, word_sum}
use Rattle.engines.specs.Engine.{Step}
use Rattle.engines.specs.OnList.{OnList, stepped_on_list}
use Rattle.xor.specs.Engine.{xor}

-- At most `count` slots from `slot` on, with `before` before it: each one's link becomes the free head so far, its value the wipe word, and it becomes the free head; its link as it was leads on.
-- A number that has no link or no value ends it
unfoldable pub clear_along : ℕ → List ℕ → List ℕ → ℕ → ℕ → Free → Outcome Free
clear_along zero links values before slot free = outcome free links values
clear_along (suc count) links values before slot free =
    cond (ltb slot (length links) && ltb slot (length values))
    (clear_along count (set links slot free.head) (set values slot wipe_word) slot (bit_xor (cell links slot) before) (record { head = slot; count = free.count }))
    (outcome free links values)

-- what that leaves, as the step that emptied the list: its length is 0, and `free` slots are free
abbrev pub cleared : Entry → ℕ → Outcome Free → Step (List ℕ)
cleared list free r = record { done = true; value = 0; entry = with_length 0 (emptied list); free = with_count free r.answer; links = r.links; values = r.values }

-- the same of one list's entry and the free record, the free count in its word
unfoldable pub clear_on_list : List ℕ → List ℕ → Entry → Free → OnList xor
clear_on_list links values list free = stepped_on_list xor links values list free 0 (cleared list (word_sum free.count list.length) (clear_along list.length links values null_slot list.head free))
