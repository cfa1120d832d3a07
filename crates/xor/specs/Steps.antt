-- What a push and a pop at either end give, and what they leave of both slices, on any cells.
use Rattle.std.specs.Prelude.{Bool, true, false, cond, not, ◌&&◌, List, ℕ, eqb, set}
use Rattle.std.specs.Int.Bits.{bit_xor}
use Rattle.books.specs.declared.Free.{Free}
use Rattle.books.specs.declared.Entry.{Entry}
use Rattle.books.specs.Book.{null_slot}
use Rattle.books.specs.Outcome.{Outcome, outcome}
use Rattle.chains.specs.Chain.{cell}
use Rattle.xor.specs.Slot.{in_pool}
use Rattle.shapes.specs.Records.{Released}
use Rattle.xor.specs.Slots.{take_of, release_of}
use Rattle.shapes.specs.declared.End.{End}
use Rattle.shapes.specs.Records.{PushStep}
use Rattle.shapes.specs.Records.{PopStep}
use Rattle.shapes.specs.Ends.{near_of, with_near, with_both, emptied}

-- ---- an entry and its ends

-- `near` is a slot of the pool other than `slot`
unfoldable pub is_beside : List ℕ → List ℕ → ℕ → ℕ → Bool
is_beside links values near slot = not (eqb near slot) && in_pool links values near

-- ---- push

abbrev pub done_push : Entry → Free → PushStep
done_push list free = record { done = true; entry = list; free = free }

abbrev pub refused_push : Entry → Free → PushStep
refused_push list free = record { done = false; entry = list; free = free }

module _ (links values : List ℕ) (list : Entry) (free : Free) (value : ℕ) where
  -- a refusal, and the cells as they were
  abbrev pub not_pushed : Outcome PushStep
  not_pushed = outcome (refused_push list free) links values

  -- `slot` is the list's only one, and `rest` is idle. 01: "the first slot has link 0"
  abbrev pub pushed_alone : ℕ → Free → Outcome PushStep
  pushed_alone slot rest = outcome (done_push (with_both slot list) rest) (set links slot null_slot) (set values slot value)

  -- 000's push_empty_case: only an empty list has a first value
  unfoldable pub push_empty_of : Outcome PushStep
  push_empty_of =
      let said = take_of links values free in
      cond (eqb list.tail null_slot)
      (cond said.done (pushed_alone said.slot said.free) not_pushed)
      not_pushed

module _ (end : End) (links values : List ℕ) (list : Entry) (free : Free) (value : ℕ) where
  -- `slot` stands at the end, where `near` stood: the link of `near` is XORed with `slot`, and the link of `slot` is `near`
  abbrev pub pushed_beside : ℕ → ℕ → Free → Outcome PushStep
  pushed_beside near slot rest =
      outcome (done_push (with_near end slot list) rest)
      (set (set links near (bit_xor (cell links near) slot)) slot near)
      (set values slot value)

  unfoldable pub push_beside_of : Outcome PushStep
  push_beside_of =
      let said = take_of links values free in
      let near = near_of end list in
      cond said.done
      (cond (is_beside links values near said.slot) (pushed_beside near said.slot said.free) (not_pushed links values list free value))
      (not_pushed links values list free value)

  -- 01: "both pushes test the tail only"
  unfoldable pub push_of : Outcome PushStep
  push_of = cond (eqb list.tail null_slot) (push_empty_of links values list free value) push_beside_of

-- ---- pop

-- 01: "A refused pop returns value 0"
abbrev pub refused_pop : Entry → Free → PopStep
refused_pop list free = record { done = false; value = 0; entry = list; free = free }

-- a slot that held `value` was released, and the list is `list` then
abbrev pub done_pop : ℕ → Entry → Released → PopStep
done_pop value list freed = record { done = freed.done; value = value; entry = list; free = freed.free }

abbrev pub handed_out : ℕ → Entry → Outcome Released → Outcome PopStep
handed_out value list gone = outcome (done_pop value list gone.answer) gone.links gone.values

-- 01: "the neighbour's link is XORed with the slot that left"
abbrev pub unlinked : ℕ → ℕ → Outcome Released → Outcome Released
unlinked near slot gone = outcome gone.answer (set gone.links near (bit_xor (cell gone.links near) slot)) gone.values

module _ (end : End) (links values : List ℕ) (list : Entry) (free : Free) where
  -- a refusal, and the cells as they were
  abbrev pub not_popped : Outcome PopStep
  not_popped = outcome (refused_pop list free) links values

  -- `slot`, the only one of its list, leaves. 01: "a pop that reads link 0 sets head and tail to 0"
  abbrev pub last_leaves : ℕ → Outcome PopStep
  last_leaves slot = handed_out (cell values slot) (emptied list) (release_of links values slot free)

  -- `slot` leaves, and `near` stands at the end then
  abbrev pub end_leaves : ℕ → ℕ → Outcome PopStep
  end_leaves slot near = handed_out (cell values slot) (with_near end near list) (unlinked near slot (release_of links values slot free))

  unfoldable pub pop_of : Outcome PopStep
  pop_of =
      let slot = near_of end list in
      let near = cell links slot in
      cond (in_pool links values slot)
      (cond (eqb near null_slot) (last_leaves slot)
      (cond (is_beside links values near slot) (end_leaves slot near) not_popped))
      not_popped
