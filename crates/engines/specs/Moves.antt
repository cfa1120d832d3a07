-- The nine calls on a pool that is set up, and the quick ones, as moves, over any engine: what a call is made on, the number that it gives, and what it leaves. And what a list holds there, as upstream's `view` has it.
use Rattle.std.specs.Prelude.{◌≡◌, List, ℕ, ◌<◌}
use Rattle.books.specs.Place.{Place, place_in}
use Rattle.books.specs.Book.{null_slot, wipe_word, AnyBook}
use Rattle.chains.specs.Count.{count}
use Rattle.chains.specs.Chain.{cell}
use Rattle.shapes.specs.declared.End.TheVariants.{Front, Back}
use Rattle.shapes.specs.Ends.{contents}
use Rattle.shapes.specs.Shape.{Shape, chain_at, joined_up}
use Rattle.shapes.specs.Moves.{Move, check, ask_length, push_back, push_front, pop_back, pop_front, read_forward, read_backward, clear, QuickMove, quick_push_back, quick_push_front, quick_pop_back, quick_pop_front, Call, checked, quick}
use Rattle.engines.specs.Engine.{Engine}
use Rattle.engines.specs.Sound.{SoundBook}
use Rattle.engines.specs.Calls.{Called, check_call, length_call, push_call, pop_call, clear_call, read_call}
use Rattle.engines.specs.Quick.{quick_push, quick_pop}

-- every slice and the newest book
pub record State (E : Engine) : Type 0 where
  pub links : E.Links
  pub values : List ℕ
  pub book : AnyBook

-- the state that a call leaves
abbrev pub left : {E : Engine} → Called E → State E
left r = record { links = r.links; values = r.values; book = r.book }

module _ (E : Engine) where
  -- the number that the call gives
  abbrev pub number_of : State E → Move → ℕ
  number_of st check = (check_call E st.links st.values st.book).number
  number_of st (ask_length l) = (length_call E st.links st.values st.book l).refusal.number
  number_of st (push_back l value) = (push_call E st.links st.values st.book l Back value).number
  number_of st (push_front l value) = (push_call E st.links st.values st.book l Front value).number
  number_of st (pop_back l) = (pop_call E st.links st.values st.book l Back).number
  number_of st (pop_front l) = (pop_call E st.links st.values st.book l Front).number
  number_of st (read_forward l buffer at) = (read_call E st.links st.values st.book l Front buffer at).answer.refusal.number
  number_of st (read_backward l buffer at) = (read_call E st.links st.values st.book l Back buffer at).answer.refusal.number
  number_of st (clear l) = (clear_call E st.links st.values st.book l).number

  -- the place that goes with it
  abbrev pub place_given : State E → Move → Place
  place_given st check = place_in (check_call E st.links st.values st.book)
  place_given st (ask_length l) = place_in (length_call E st.links st.values st.book l).refusal
  place_given st (push_back l value) = (push_call E st.links st.values st.book l Back value).place
  place_given st (push_front l value) = (push_call E st.links st.values st.book l Front value).place
  place_given st (pop_back l) = (pop_call E st.links st.values st.book l Back).place
  place_given st (pop_front l) = (pop_call E st.links st.values st.book l Front).place
  place_given st (read_forward l buffer at) = place_in (read_call E st.links st.values st.book l Front buffer at).answer.refusal
  place_given st (read_backward l buffer at) = place_in (read_call E st.links st.values st.book l Back buffer at).answer.refusal
  place_given st (clear l) = (clear_call E st.links st.values st.book l).place

  -- what the call leaves. Check, length and the reads are lent the slices to read alone, and return no book
  abbrev pub after : State E → Move → State E
  after st check = st
  after st (ask_length l) = st
  after st (push_back l value) = left (push_call E st.links st.values st.book l Back value)
  after st (push_front l value) = left (push_call E st.links st.values st.book l Front value)
  after st (pop_back l) = left (pop_call E st.links st.values st.book l Back)
  after st (pop_front l) = left (pop_call E st.links st.values st.book l Front)
  after st (read_forward l buffer at) = st
  after st (read_backward l buffer at) = st
  after st (clear l) = left (clear_call E st.links st.values st.book l)

  -- 02 d): what a quick call answers and leaves
  abbrev pub quick_called : State E → QuickMove → Called E
  quick_called st (quick_push_back l value) = quick_push E st.links st.values st.book l Back value
  quick_called st (quick_push_front l value) = quick_push E st.links st.values st.book l Front value
  quick_called st (quick_pop_back l) = quick_pop E st.links st.values st.book l Back
  quick_called st (quick_pop_front l) = quick_pop E st.links st.values st.book l Front

  -- the number of any call, and what it leaves
  abbrev pub number_of_call : State E → Call → ℕ
  number_of_call st (checked m) = number_of st m
  number_of_call st (quick q) = (quick_called st q).number

  abbrev pub after_call : State E → Call → State E
  after_call st (checked m) = after st m
  after_call st (quick q) = left (quick_called st q)

  -- 01: "popping the front until the list is empty": pops at the front of list l, each done, until one gives 5
  pub data PoppedOut (l : ℕ) : State E → State E → Type 0 where
    ends : {st : State E} → number_of st (pop_front l) ≡ 5 → PoppedOut l st st
    goes : {st t : State E} → number_of st (pop_front l) ≡ 0 → PoppedOut l (after st (pop_front l)) t → PoppedOut l st t

  -- the pool is sound (upstream: `wf`), list l is one of its lists, and holds the values vs (upstream: `view`)
  pub record View (st : State E) (l : ℕ) (vs : List ℕ) : Type 0 where
    pub shape : Shape
    pub sound : SoundBook E st.links st.values st.book shape
    pub listed : l < st.book.lists
    pub holds : contents st.values (chain_at shape l) ≡ vs

  -- the pool is sound: there is a sound shape
  abbrev pub SoundState : State E → Type 0
  SoundState st = (s : Shape) × SoundBook E st.links st.values st.book s

  -- apart from what `Sound` asks of a free slot: every slot from 1 to N-1 that stands in no list's sequence holds the wipe word
  abbrev pub UnlistedWiped : State E → Shape → Type 0
  UnlistedWiped st s = (y : ℕ) → null_slot < y → y < E.size st.links → count y (joined_up s.chains) ≡ 0 → cell st.values y ≡ wipe_word

  -- the pool is sound, and that is so
  abbrev pub FreeWiped : State E → Type 0
  FreeWiped st = (s : Shape) × SoundBook E st.links st.values st.book s × UnlistedWiped st s
