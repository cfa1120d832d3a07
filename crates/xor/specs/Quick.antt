-- 02 d) of the XOR list: when a quick call gives each number, on any cells and any book, and what a done one leaves there.
use Rattle.std.specs.Prelude.{◌≡◌, true, List, ℕ, ◌+◌, ◌<◌, length}
use Rattle.books.specs.declared.Entry.{Entry}
use Rattle.books.specs.Book.{null_slot, entry_at, AnyBook}
use Rattle.books.specs.Outcome.{Outcome, outcome}
use Rattle.books.specs.Place.{no_place}
use Rattle.chains.specs.Count.{count}
use Rattle.chains.specs.Chain.{cell}
use Rattle.shapes.specs.declared.End.{End}
use Rattle.shapes.specs.Records.{PushStep}
use Rattle.shapes.specs.Records.{PopStep}
use Rattle.shapes.specs.Ends.{near_of}
use Rattle.shapes.specs.Changes.{OtherEntries}
use Rattle.shapes.specs.Numbers.{Condition}
use Rattle.shapes.specs.Quick.{BadSlots}
use Rattle.engines.specs.Calls.{Called}
use Rattle.engines.specs.QuickConditions.{quick_push_conditions, quick_pop_conditions}
use Rattle.xor.specs.Engine.{xor}
use Rattle.xor.specs.StepDone.{touched_by_push, touched_by_pop, PushDone, PopDone}

-- a done call as a step on list l: its entry and the free record afterwards, and every cell
abbrev pub push_left : ℕ → Called xor → Outcome PushStep
push_left l r = outcome (record { done = true; entry = entry_at r.book.entries l; free = r.book.free }) r.links r.values

abbrev pub pop_left : ℕ → Called xor → Outcome PopStep
pop_left l r = outcome (record { done = true; value = r.value; entry = entry_at r.book.entries l; free = r.book.free }) r.links r.values

module _ (links values : List ℕ) (b : AnyBook) (l : ℕ) (end : End) where
  abbrev e : Entry
  e = entry_at b.entries l

  -- the slots whose cells a quick push, and a quick pop, would read or write
  abbrev pub push_slots : List ℕ
  push_slots = touched_by_push end e b.free

  abbrev pub pop_slots : List ℕ
  pop_slots = touched_by_pop end links e

  -- ---- when each number is given, in order

  abbrev pub xor_push_conditions : List Condition
  xor_push_conditions = quick_push_conditions xor links values b l (BadSlots (length links) push_slots)

  abbrev pub xor_pop_conditions : List Condition
  xor_pop_conditions = quick_pop_conditions xor links values b l (BadSlots (length links) pop_slots)

  -- ---- what a done call leaves: "01's steps with the stored counts taken as they are"

  pub record QuickPushes (value : ℕ) (r : Called xor) : Type 0 where
    pub unplaced : r.place ≡ no_place
    pub no_value : r.value ≡ 0
    -- each slot that it touches is from 1 to N-1
    pub inside : (y : ℕ) → 0 < count y push_slots → (0 < y) × (y < length links)
    -- its cells, the list's ends and the free head, and that no other cell changes
    pub step : PushDone end links values e b.free value (push_left l r)
    pub longer : (entry_at r.book.entries l).length ≡ e.length + 1
    pub fewer : r.book.free.count + 1 ≡ b.free.count
    pub book : OtherEntries b l r.book

  pub record QuickPops (r : Called xor) : Type 0 where
    pub unplaced : r.place ≡ no_place
    pub inside : (y : ℕ) → 0 < count y pop_slots → (0 < y) × (y < length links)
    pub step : PopDone end links values e b.free (pop_left l r)
    pub shorter : (entry_at r.book.entries l).length + 1 ≡ e.length
    pub more : r.book.free.count ≡ b.free.count + 1
    pub book : OtherEntries b l r.book

  -- ---- what no quick call writes, done or refused: the cells of slot 0, and none past the pool

  abbrev pub NullKept : Called xor → Type 0
  NullKept r = (cell r.links null_slot ≡ cell links null_slot) × (cell r.values null_slot ≡ cell values null_slot) × (length r.links ≡ length links) × (length r.values ≡ length values)

  -- ---- what it reads: other cells of slices as long may hold anything

  -- the links of the slots from 1 to N-1 among these are the same
  abbrev pub SameLinks : List ℕ → List ℕ → Type 0
  SameLinks links' slots = (length links' ≡ length links) × ((y : ℕ) → 0 < count y slots → 0 < y → y < length links → cell links' y ≡ cell links y)

  -- and the value of the slot at the end
  abbrev pub SameValue : List ℕ → Type 0
  SameValue values' = (length values' ≡ length values) × (0 < near_of end e → near_of end e < length values → cell values' (near_of end e) ≡ cell values (near_of end e))

  -- they answer the same, and leave the same book
  pub record SameAnswer (r r' : Called xor) : Type 0 where
    pub number : r'.number ≡ r.number
    pub value : r'.value ≡ r.value
    pub book : r'.book ≡ r.book
