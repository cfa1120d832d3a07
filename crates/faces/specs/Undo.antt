-- 02 a) of the C functions: what it is for a pop to take the push before it straight back, and for a push to put back what the pop before it took.
use Rattle.std.specs.Prelude.{◌≡◌, List, ℕ, length}
use Rattle.books.specs.Book.{eight}
use Rattle.books.specs.Place.{no_place}
use Rattle.books.specs.Outcome.{Outcome}
use Rattle.books.specs.Words.{book_from}
use Rattle.shapes.specs.declared.End.{End}
use Rattle.shapes.specs.declared.End.TheVariants.{Front, Back}
use Rattle.shapes.specs.Moves.{Call}
use Rattle.shapes.specs.Ledger.{Ledger, one_pair}
use Rattle.engines.specs.Moves.{State}
use Rattle.engines.specs.Undo.{SameHoldings}
use Rattle.xor.specs.Engine.{xor}
use Rattle.faces.specs.Face.{Changed, Handed, push_back_face, push_front_face, pop_back_face, pop_front_face}
use Rattle.faces.specs.Trace.{Memory, memory_changed, memory_handed, returned_by, memory_by, noted_for}

-- the pool that the memory holds, as the laws over any engine have it
abbrev pub state_in : Memory → State xor
state_in m = record { links = m.links; values = m.values; book = eight (book_from m.words) }

module _ (links values words : List ℕ) where
  -- every link, every value and every word of the book is as before
  pub record MemoryBefore (after : Memory) : Type 0 where
    pub same_links : after.links ≡ links
    pub same_values : after.values ≡ values
    pub same_words : after.words ≡ words

  -- a pop that takes the push before it back: it returns 0, and the value stands at `value`
  pub record FaceTakenBack (value : ℕ) (r : Outcome Handed) : Type 0 where
    pub number : r.answer.number ≡ 0
    pub unplaced : r.answer.place ≡ no_place
    pub handed : r.answer.value ≡ value
    pub restored : MemoryBefore (memory_handed r)

  -- a push that puts back what the pop before it took: it returns 0
  pub record FacePutBack (r : Outcome Changed) : Type 0 where
    pub number : r.answer.number ≡ 0
    pub unplaced : r.answer.place ≡ no_place
    pub restored : MemoryBefore (memory_changed r)

  -- the weaker law of each: it returns 0, and each list's sequence of values, each length and the number of free slots are as before
  abbrev pub HoldingsBefore : Memory → Type 0
  HoldingsBefore after = SameHoldings xor (state_in (record { links = links; values = values; words = words })) (state_in after)

  pub record FaceTakenHeld (value : ℕ) (r : Outcome Handed) : Type 0 where
    pub number : r.answer.number ≡ 0
    pub handed : r.answer.value ≡ value
    pub holdings : HoldingsBefore (memory_handed r)

  pub record FacePutHeld (r : Outcome Changed) : Type 0 where
    pub number : r.answer.number ≡ 0
    pub holdings : HoldingsBefore (memory_changed r)

-- 02 a), its first half: after a push that returned 0, the pop at the same end of that list, on the memory that the push left. The book has 43 words, as in C
abbrev pub PushesUndone : Type 0
PushesUndone = (links values words : List ℕ) → length words ≡ 43 → (l value : ℕ)
    → (let r = push_back_face links values words l value in r.answer.number ≡ 0 → FaceTakenBack links values words value (pop_back_face r.links r.values r.answer.book l))
    × (let r = push_front_face links values words l value in r.answer.number ≡ 0 → FaceTakenBack links values words value (pop_front_face r.links r.values r.answer.book l))

-- its second half: after a pop that returned 0, and so in a sound pool, the push of its value at the same end of that list
abbrev pub PopsUndone : Type 0
PopsUndone = (links values words : List ℕ) → length words ≡ 43 → (l : ℕ)
    → (let r = pop_back_face links values words l in r.answer.number ≡ 0 → FacePutBack links values words (push_back_face r.links r.values r.answer.book l r.answer.value))
    × (let r = pop_front_face links values words l in r.answer.number ≡ 0 → FacePutBack links values words (push_front_face r.links r.values r.answer.book l r.answer.value))

-- what a pop at either end writes to `value`, and on a sound pool a quick one too
abbrev pub handed_to : Memory → End → ℕ → ℕ
handed_to m Front l = (pop_front_face m.links m.values m.words l).answer.value
handed_to m Back l = (pop_back_face m.links m.values m.words l).answer.value

-- ---- in a trace of the C functions, a call that returned 0 and the one that takes it back

module _ (m : Memory) (ledger : Ledger) (l : ℕ) (call back : Call) where
  -- the second returns 0 too, and the ledger notes one push and one pop more of list l while every list holds the same
  pub record MemoryNoted : Type 0 where
    pub done_too : returned_by (memory_by m call) back ≡ 0
    pub account : noted_for (memory_by m call) back (noted_for m call ledger) ≡ one_pair l ledger

  -- and the memory is as it was
  pub record MemoryUndone : Type 0 where
    pub pair : MemoryNoted
    pub same_memory : memory_by (memory_by m call) back ≡ m

  -- the weaker law: and what each list holds is as it was
  pub record MemoryHeld : Type 0 where
    pub pair : MemoryNoted
    pub holdings : HoldingsBefore m.links m.values m.words (memory_by (memory_by m call) back)
