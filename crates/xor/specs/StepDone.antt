-- What the laws say of a push and a pop, in 01's, 02's and 000's words, over the answer and the cells alone.
use Rattle.std.specs.Prelude.{◌≡◌, ◌≢◌, true, false, cond, List, [], ◌∷◌, ◌++◌, ℕ, ◌≤◌, ◌<◌, eqb}
use Rattle.std.specs.Int.Bits.{bit_xor}
use Rattle.books.specs.declared.Free.{Free}
use Rattle.books.specs.declared.Entry.{Entry}
use Rattle.books.specs.Book.{null_slot, wipe_word}
use Rattle.books.specs.Outcome.{Outcome}
use Rattle.chains.specs.Count.{count}
use Rattle.chains.specs.Chain.{cell, first_or, last_or, LiveChain, IdleChain}
use Rattle.xor.specs.Slot.{InPool}
use Rattle.xor.specs.SlotDone.{Frame}
use Rattle.shapes.specs.declared.End.{End}
use Rattle.shapes.specs.Records.{PushStep}
use Rattle.shapes.specs.Records.{PopStep}
use Rattle.shapes.specs.Ends.{near_of, opposite, joined, contents}

-- ---- when a step is done

-- each of them is a slot from 1 to N-1, and no two are the same
pub record Apart (links values ys : List ℕ) : Type 0 where
  pub slots : (y : ℕ) → 0 < count y ys → InPool links values y
  pub once : (y : ℕ) → count y ys ≤ 1

-- a slot, or no slot where the number that leads to it is null
abbrev pub unless_null : ℕ → ℕ → List ℕ
unless_null lead slot = cond (eqb lead null_slot) [] (slot ∷ [])

-- 02 d): the slots "whose cells it would read or write": the free head and, where the tail says that the list has one, the end slot
abbrev pub touched_by_push : End → Entry → Free → List ℕ
touched_by_push end list free = free.head ∷ unless_null list.tail (near_of end list)

-- the slot that leaves and its neighbour. 02 d): "A link that is only copied is not such a slot, nor is a neighbour link of 0 in a pop"
abbrev pub touched_by_pop : End → List ℕ → Entry → List ℕ
touched_by_pop end links list = near_of end list ∷ unless_null (cell links (near_of end list)) (cell links (near_of end list))

-- ---- what a done step leaves

-- the cells hold the list `xs` and the idle chain `fs`
pub record CellsHold (links values : List ℕ) (list : Entry) (free : Free) (xs fs : List ℕ) : Type 0 where
  pub apart : Apart links values (xs ++ fs)
  -- 01: "each list's head and tail are the first and last slot of its sequence, both 0 when it is empty"
  pub head : list.head ≡ first_or 0 xs
  pub tail : list.tail ≡ last_or 0 xs
  pub live : LiveChain links xs
  -- 01: "the free head is the first free slot or 0"
  pub free_head : free.head ≡ first_or 0 fs
  pub idle : IdleChain links fs

-- slot s left the idle chain for an end of the list `xs`, with the value
pub record CellsJoin (end : End) (s value : ℕ) (values xs fs : List ℕ) (r : Outcome PushStep) : Type 0 where
  pub done : r.answer.done ≡ true
  pub held : CellsHold r.links r.values r.answer.entry r.answer.free (joined end s xs) fs
  pub holds : contents r.values (joined end s xs) ≡ joined end value (contents values xs)

-- slot s left the list for the front of the idle chain, wiped, and its value was handed out
pub record CellsLeave (end : End) (s : ℕ) (values xs fs : List ℕ) (r : Outcome PopStep) : Type 0 where
  pub done : r.answer.done ≡ true
  pub held : CellsHold r.links r.values r.answer.entry r.answer.free xs (s ∷ fs)
  pub holds : joined end r.answer.value (contents r.values xs) ≡ contents values (joined end s xs)
  pub wiped : cell r.values s ≡ wipe_word

-- ---- what a step leaves on any cells

-- a refused push: everything is as it was
pub record PushRefused (links values : List ℕ) (list : Entry) (free : Free) (r : Outcome PushStep) : Type 0 where
  pub done : r.answer.done ≡ false
  pub same_entry : r.answer.entry ≡ list
  pub same_free : r.answer.free ≡ free
  pub same_links : r.links ≡ links
  pub same_values : r.values ≡ values

-- 02 c)'s counts are the calls' to keep: a step leaves the list's length and the free count as it found them
pub record NotCounted (list : Entry) (free : Free) (entry : Entry) (left : Free) : Type 0 where
  pub same_length : entry.length ≡ list.length
  pub same_count : left.count ≡ free.count

-- a done push: the slot at the free head is taken, stores the value and is linked as 000 does
pub record PushDone (end : End) (links values : List ℕ) (list : Entry) (free : Free) (value : ℕ) (r : Outcome PushStep) : Type 0 where
  pub done : r.answer.done ≡ true
  pub rest : r.answer.free.head ≡ cell links free.head
  pub stored : cell r.values free.head ≡ value
  -- the list had no slot. 01: "the first slot has link 0"
  pub first : list.tail ≡ null_slot
      → (r.answer.entry.head ≡ free.head) × (r.answer.entry.tail ≡ free.head) × (cell r.links free.head ≡ null_slot)
  -- it had one
  pub next : list.tail ≢ null_slot
      → (near_of end r.answer.entry ≡ free.head) × (near_of (opposite end) r.answer.entry ≡ near_of (opposite end) list)
      × (cell r.links free.head ≡ near_of end list) × (cell r.links (near_of end list) ≡ bit_xor (cell links (near_of end list)) free.head)
  -- 01: "Only the new slot, the old end slot and, in the book, that list's ends and the free head change", and in a call, by 02 c), the counts
  pub share : r.answer.entry.share ≡ list.share
  pub limit : r.answer.entry.limit ≡ list.limit
  pub frame : Frame links values r.links r.values (touched_by_push end list free) (free.head ∷ [])

-- a refused pop: value 0, and everything is as it was
pub record PopRefused (links values : List ℕ) (list : Entry) (free : Free) (r : Outcome PopStep) : Type 0 where
  pub done : r.answer.done ≡ false
  pub no_value : r.answer.value ≡ 0
  pub same_entry : r.answer.entry ≡ list
  pub same_free : r.answer.free ≡ free
  pub same_links : r.links ≡ links
  pub same_values : r.values ≡ values

-- a done pop. 01: "The slot's value becomes 0 and the slot becomes the free head, its link the old free head"
pub record PopDone (end : End) (links values : List ℕ) (list : Entry) (free : Free) (r : Outcome PopStep) : Type 0 where
  pub done : r.answer.done ≡ true
  pub value : r.answer.value ≡ cell values (near_of end list)
  pub wiped : cell r.values (near_of end list) ≡ wipe_word
  pub freed : r.answer.free.head ≡ near_of end list
  pub link : cell r.links (near_of end list) ≡ free.head
  -- 01: "a pop that reads link 0 sets head and tail to 0"
  pub last : cell links (near_of end list) ≡ null_slot → (r.answer.entry.head ≡ null_slot) × (r.answer.entry.tail ≡ null_slot)
  -- 01: "otherwise the neighbour's link is XORed with the slot that left"
  pub next : cell links (near_of end list) ≢ null_slot
      → (near_of end r.answer.entry ≡ cell links (near_of end list)) × (near_of (opposite end) r.answer.entry ≡ near_of (opposite end) list)
      × (cell r.links (cell links (near_of end list)) ≡ bit_xor (cell links (cell links (near_of end list))) (near_of end list))
  -- 01: "Only it, its neighbour and, in the book, that list's ends and the free head change", and in a call, by 02 c), the counts
  pub share : r.answer.entry.share ≡ list.share
  pub limit : r.answer.entry.limit ≡ list.limit
  pub frame : Frame links values r.links r.values (touched_by_pop end links list) (near_of end list ∷ [])
