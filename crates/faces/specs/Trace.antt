-- Demand 3 of the C functions: a trace of calls of include/flailreeve.h's ten functions and its four quick ones on what the firmware lends, and what holds at every point of it.
use Rattle.std.specs.Prelude.{◌≡◌, ◌↔◌, ◌≢◌, cond, List, [], ◌∷◌, ◌++◌, reverse, ℕ, ◌+◌, ◌*◌, ◌-◌, ◌≤◌, ◌<◌, eqb, length, get_or, take, drop}
use Rattle.books.specs.Place.{Place, no_place}
use Rattle.books.specs.Book.{null_slot, wipe_word, eight}
use Rattle.books.specs.Outcome.{Outcome}
use Rattle.books.specs.Words.{book_from}
use Rattle.chains.specs.Chain.{cell}
use Rattle.books.specs.Tabulate.{tabulate}
use Rattle.chains.specs.Count.{count}
use Rattle.shapes.specs.Ends.{contents}
use Rattle.shapes.specs.Shape.{Shape, chain_at, joined_up}
use Rattle.shapes.specs.Setup.{added_up}
use Rattle.shapes.specs.Moves.{Move, check, ask_length, push_back, push_front, pop_back, pop_front, read_forward, read_backward, clear, QuickMove, quick_push_back, quick_push_front, quick_pop_back, quick_pop_front, checked_of, Call, move_of}
use Rattle.shapes.specs.Moves as M
use Rattle.shapes.specs.Ledger.{Ledger, nothing_noted, noted_done}
use Rattle.engines.specs.Trace.{others_lack}
use Rattle.xor.specs.Sound.{XorBook}
use Rattle.faces.specs.Face.{Prepared, Changed, Handed, told, shown, setup_face, check_face, length_face, push_back_face, push_front_face, pop_back_face, pop_front_face, read_forward_face, read_backward_face, clear_face}
use Rattle.faces.specs.Quick.{QuickPushed, QuickPopped, quick_push_back_face, quick_push_front_face, quick_pop_back_face, quick_pop_front_face}

-- what the firmware lends: both slices, and the book's words
pub record Memory : Type 0 where
  pub links : List ℕ
  pub values : List ℕ
  pub words : List ℕ

-- what it holds when setup returns, when a push or a clear does, and when a pop does
abbrev pub memory_prepared : Outcome Prepared → Memory
memory_prepared r = record { links = r.links; values = r.values; words = r.answer.book }

abbrev pub memory_changed : Outcome Changed → Memory
memory_changed r = record { links = r.links; values = r.values; words = r.answer.book }

abbrev pub memory_handed : Outcome Handed → Memory
memory_handed r = record { links = r.links; values = r.values; words = r.answer.book }

-- the number that the function returns
abbrev pub returned : Memory → Move → ℕ
returned m check = (check_face m.links m.values m.words).number
returned m (ask_length l) = (length_face m.links m.values m.words l).number
returned m (push_back l value) = (push_back_face m.links m.values m.words l value).answer.number
returned m (push_front l value) = (push_front_face m.links m.values m.words l value).answer.number
returned m (pop_back l) = (pop_back_face m.links m.values m.words l).answer.number
returned m (pop_front l) = (pop_front_face m.links m.values m.words l).answer.number
returned m (read_forward l buffer at) = (read_forward_face m.links m.values m.words l buffer at).number
returned m (read_backward l buffer at) = (read_backward_face m.links m.values m.words l buffer at).number
returned m (clear l) = (clear_face m.links m.values m.words l).answer.number

-- what it writes to `place`
abbrev pub place_written : Memory → Move → Place
place_written m check = (check_face m.links m.values m.words).place
place_written m (ask_length l) = (length_face m.links m.values m.words l).place
place_written m (push_back l value) = (push_back_face m.links m.values m.words l value).answer.place
place_written m (push_front l value) = (push_front_face m.links m.values m.words l value).answer.place
place_written m (pop_back l) = (pop_back_face m.links m.values m.words l).answer.place
place_written m (pop_front l) = (pop_front_face m.links m.values m.words l).answer.place
place_written m (read_forward l buffer at) = (read_forward_face m.links m.values m.words l buffer at).place
place_written m (read_backward l buffer at) = (read_backward_face m.links m.values m.words l buffer at).place
place_written m (clear l) = (clear_face m.links m.values m.words l).answer.place

-- what the memory holds then. Check, length and the reads are lent it to read alone
abbrev pub memory_after : Memory → Move → Memory
memory_after m check = m
memory_after m (ask_length l) = m
memory_after m (push_back l value) = memory_changed (push_back_face m.links m.values m.words l value)
memory_after m (push_front l value) = memory_changed (push_front_face m.links m.values m.words l value)
memory_after m (pop_back l) = memory_handed (pop_back_face m.links m.values m.words l)
memory_after m (pop_front l) = memory_handed (pop_front_face m.links m.values m.words l)
memory_after m (read_forward l buffer at) = m
memory_after m (read_backward l buffer at) = m
memory_after m (clear l) = memory_changed (clear_face m.links m.values m.words l)

-- ---- the quick functions

abbrev pub memory_quick_pushed : Outcome QuickPushed → Memory
memory_quick_pushed r = record { links = r.links; values = r.values; words = r.answer.book }

abbrev pub memory_quick_popped : Outcome QuickPopped → Memory
memory_quick_popped r = record { links = r.links; values = r.values; words = r.answer.book }

-- the number that a quick function returns
abbrev pub quick_returned : Memory → QuickMove → ℕ
quick_returned m (quick_push_back l value) = (quick_push_back_face m.links m.values m.words l value).answer.number
quick_returned m (quick_push_front l value) = (quick_push_front_face m.links m.values m.words l value).answer.number
quick_returned m (quick_pop_back l) = (quick_pop_back_face m.links m.values m.words l).answer.number
quick_returned m (quick_pop_front l) = (quick_pop_front_face m.links m.values m.words l).answer.number

-- what the memory holds then
abbrev pub quick_memory : Memory → QuickMove → Memory
quick_memory m (quick_push_back l value) = memory_quick_pushed (quick_push_back_face m.links m.values m.words l value)
quick_memory m (quick_push_front l value) = memory_quick_pushed (quick_push_front_face m.links m.values m.words l value)
quick_memory m (quick_pop_back l) = memory_quick_popped (quick_pop_back_face m.links m.values m.words l)
quick_memory m (quick_pop_front l) = memory_quick_popped (quick_pop_front_face m.links m.values m.words l)

-- ---- any function but setup

abbrev pub returned_by : Memory → Call → ℕ
returned_by m (M.checked move) = returned m move
returned_by m (M.quick q) = quick_returned m q

abbrev pub memory_by : Memory → Call → Memory
memory_by m (M.checked move) = memory_after m move
memory_by m (M.quick q) = quick_memory m q

-- a refused call adds nothing to the ledger
abbrev pub noted_for : Memory → Call → Ledger → Ledger
noted_for m call ledger = cond (eqb (returned_by m call) 0) (noted_done (move_of call) ledger) ledger

-- "Take an accepted setup, let only the other nine calls touch that pool": any of them, one after the other, done or refused. 02 d): "any mixture of quick and checked calls". The words that setup is lent may hold anything, and be of any number
pub data FaceTrace (lists : ℕ) (shares limits : List ℕ) : Memory → Ledger → Type 0 where
  started : (links values words : List ℕ) → (setup_face links values lists shares limits words).answer.number ≡ 0
      → FaceTrace lists shares limits (memory_prepared (setup_face links values lists shares limits words)) nothing_noted
  continued : {m : Memory} {ledger : Ledger} → FaceTrace lists shares limits m ledger → (call : Call) → FaceTrace lists shares limits (memory_by m call) (noted_for m call ledger)

-- what is so of the number that each push of a value on list l returns: at either end, checked and quick
abbrev pub EachReturn : Memory → ℕ → ℕ → (ℕ → Type 0) → Type 0
EachReturn m l value Is =
    Is (returned m (push_back l value)) × Is (returned m (push_front l value))
    × Is (quick_returned m (quick_push_back l value)) × Is (quick_returned m (quick_push_front l value))

-- what demand 3 says at any point of a trace, sentence by sentence, of the numbers that the C functions return. `s` is the sound shape: the slots that each list holds, and the free ones
pub record FaceDemand3 (lists : ℕ) (shares limits : List ℕ) (m : Memory) (ledger : Ledger) (s : Shape) : Type 0 where
  -- the words are all there, and the pool is sound by the reader's page, with the book that they are
  pub all_words : length m.words ≡ 43
  pub sound : XorBook m.links m.values (book_from m.words) s
  -- L, the shares and the limits in the words are the setup's
  pub as_many : get_or m.words 0 0 ≡ lists
  pub granted : (l : ℕ) → l < lists → (get_or m.words (5 * l + 3) 0 ≡ get_or shares l 0) × (get_or m.words (5 * l + 4) 0 ≡ get_or limits l 0)
  -- "A list holds its pushes done less its pops done since the setup or its last clear": as many, and these values in this order
  pub holds : (l : ℕ) → l < lists → length (chain_at s l) + ledger.pops l ≡ ledger.pushes l
  -- 02 c): and so say the words; the free count is N-1 less what all lists hold
  pub lengths : (l : ℕ) → l < lists → get_or m.words (5 * l + 5) 0 + ledger.pops l ≡ ledger.pushes l
  pub free_count : get_or m.words 42 0 + added_up (tabulate lists (λ l. ledger.pushes l - ledger.pops l)) + 1 ≡ length m.links
  pub sequence : (l : ℕ) → l < lists → contents m.values (chain_at s l) ≡ ledger.held l
  -- "slots from 1 on that no list holds are free"; demand 2: "Every free slot's value is zero after a done call", and after a refused one too
  pub freed : (y : ℕ) → null_slot < y → y < length m.links → count y (joined_up s.chains) ≡ 0 → count y s.idle ≡ 1
  pub wiped : (y : ℕ) → null_slot < y → y < length m.links → count y (joined_up s.chains) ≡ 0 → cell m.values y ≡ wipe_word
  -- "After any calls, no list holds more than its limit"
  pub within : (l : ℕ) → l < lists → length (chain_at s l) ≤ get_or limits l 0
  -- "A list below its share is never refused a push"
  pub served : (l value : ℕ) → l < lists → length (chain_at s l) < get_or shares l 0 → EachReturn m l value (λ n. n ≡ 0)
  -- "A push on an existing list gets 6 exactly at its limit"
  pub six : (l value : ℕ) → l < lists → EachReturn m l value (λ n. n ≡ 6 ↔ (length (chain_at s l) ≡ get_or limits l 0))
  -- "it gets 7 exactly when it is under its limit, has its share, and the free slots are no more than what the other lists still lack of theirs"
  pub seven : (l value : ℕ) → l < lists
      → let Tight = (length (chain_at s l) < get_or limits l 0) × (get_or shares l 0 ≤ length (chain_at s l)) × (length s.idle ≤ others_lack (eight (book_from m.words)) s l) in
      EachReturn m l value (λ n. n ≡ 7 ↔ Tight)
  -- and where it gets neither it is done
  pub taken : (l value : ℕ) → l < lists → EachReturn m l value (λ n. n ≢ 6 → n ≢ 7 → n ≡ 0)
  -- the check finds it sound; no call of a trace is refused by 1, or by one of 9 to 16, and none names a place
  pub accepted : returned m check ≡ 0
  pub never : (move : Move) → (returned m move ≢ 1) × ((k : ℕ) → 9 ≤ k → k ≤ 16 → returned m move ≢ k)
  pub nowhere : (move : Move) → place_written m move ≡ no_place
  -- 02 d): and no quick one by 1 or 17; each returns what the checked function would, and leaves the same memory; a quick pop writes the same value
  pub never_quick : (q : QuickMove) → (quick_returned m q ≢ 1) × (quick_returned m q ≢ 17)
  pub as_checked : (q : QuickMove) → (quick_returned m q ≡ returned m (checked_of q)) × (quick_memory m q ≡ memory_after m (checked_of q))
  pub same_value : (l : ℕ)
      → ((quick_pop_back_face m.links m.values m.words l).answer.value ≡ (pop_back_face m.links m.values m.words l).answer.value)
      × ((quick_pop_front_face m.links m.values m.words l).answer.value ≡ (pop_front_face m.links m.values m.words l).answer.value)

-- what the calls give on a list of the trace that holds the values `vs`, and that a clear leaves nothing of them
pub record FaceList (m : Memory) (s : Shape) (l : ℕ) (vs : List ℕ) : Type 0 where
  pub as_long : length_face m.links m.values m.words l ≡ told 0 no_place (length vs)
  -- a pop is done where there is a value, and hands out the one at its end; it gives 5 exactly where there is none
  pub last : (v : ℕ) (rest : List ℕ) → vs ≡ rest ++ v ∷ [] → (returned m (pop_back l) ≡ 0) × ((pop_back_face m.links m.values m.words l).answer.value ≡ v)
  pub first : (v : ℕ) (rest : List ℕ) → vs ≡ v ∷ rest → (returned m (pop_front l) ≡ 0) × ((pop_front_face m.links m.values m.words l).answer.value ≡ v)
  pub five : (returned m (pop_back l) ≡ 5 ↔ (length vs ≡ 0)) × (returned m (pop_front l) ≡ 5 ↔ (length vs ≡ 0))
  -- a read writes the values from place `at` on, backward reversed, and every other place keeps what it held; where they do not fit it gives 8, and the buffer stays
  pub forward : (buffer : List ℕ) (at : ℕ) → at + length vs ≤ length buffer
      → read_forward_face m.links m.values m.words l buffer at ≡ shown 0 no_place (length vs) (take at buffer ++ vs ++ drop (at + length vs) buffer)
  pub backward : (buffer : List ℕ) (at : ℕ) → at + length vs ≤ length buffer
      → read_backward_face m.links m.values m.words l buffer at ≡ shown 0 no_place (length vs) (take at buffer ++ reverse vs ++ drop (at + length vs) buffer)
  pub too_small : (buffer : List ℕ) (at : ℕ) → length buffer < at + length vs
      → (read_forward_face m.links m.values m.words l buffer at ≡ shown 8 no_place 0 buffer) × (read_backward_face m.links m.values m.words l buffer at ≡ shown 8 no_place 0 buffer)
  -- a clear is done, and each slot that the list had holds the wipe word then
  pub cleared : returned m (clear l) ≡ 0
  pub nothing_left : (y : ℕ) → 0 < count y (chain_at s l) → cell (memory_after m (clear l)).values y ≡ wipe_word
