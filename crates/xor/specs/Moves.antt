-- The ten calls and the quick ones by name as moves of a pool with its book of eight, and the traces that they make: demand 3's premise, said of what the promises cite.
use Rattle.std.specs.Prelude.{◌≡◌, cond, List, ℕ, eqb}
use Rattle.books.specs.declared.Book.{Book}
use Rattle.books.specs.declared.Answer.{Answer}
use Rattle.books.specs.declared.Popped.{Popped}
use Rattle.books.specs.Place.{Place, place_in}
use Rattle.books.specs.Book.{eight}
use Rattle.books.specs.Outcome.{Outcome}
use Rattle.shapes.specs.Moves.{Move, check, ask_length, push_back, push_front, pop_back, pop_front, read_forward, read_backward, clear, QuickMove, quick_push_back, quick_push_front, quick_pop_back, quick_pop_front, Call, checked, quick, move_of}
use Rattle.shapes.specs.Ledger.{Ledger, nothing_noted, noted_done}
use Rattle.engines.specs.Moves.{State}
use Rattle.xor.specs.Engine.{xor}
use Rattle.xor.specs.Ten.{setup_of, check_of, length_of, push_back_of, push_front_of, pop_back_of, pop_front_of, read_forward_of, read_backward_of, clear_of}
use Rattle.xor.specs.Four.{quick_push_back_of, quick_push_front_of, quick_pop_back_of, quick_pop_front_of}

-- the two slices and the newest book
pub record Pool : Type 0 where
  pub links : List ℕ
  pub values : List ℕ
  pub book : Book

-- the same as the laws over any engine have it
abbrev pub state_of : Pool → State xor
state_of p = record { links = p.links; values = p.values; book = eight p.book }

-- what a call leaves, and what a pop leaves
abbrev pub pool_left : Outcome Answer → Pool
pool_left r = record { links = r.links; values = r.values; book = r.answer.book }

abbrev pub pool_popped : Outcome Popped → Pool
pool_popped r = record { links = r.links; values = r.values; book = r.answer.book }

-- the number that the call gives
abbrev pub number_given : Pool → Move → ℕ
number_given p check = (check_of p.links p.values p.book).number
number_given p (ask_length l) = (length_of p.links p.values p.book l).refusal.number
number_given p (push_back l value) = (push_back_of p.links p.values p.book l value).answer.refusal.number
number_given p (push_front l value) = (push_front_of p.links p.values p.book l value).answer.refusal.number
number_given p (pop_back l) = (pop_back_of p.links p.values p.book l).answer.given.refusal.number
number_given p (pop_front l) = (pop_front_of p.links p.values p.book l).answer.given.refusal.number
number_given p (read_forward l buffer at) = (read_forward_of p.links p.values p.book l buffer at).answer.refusal.number
number_given p (read_backward l buffer at) = (read_backward_of p.links p.values p.book l buffer at).answer.refusal.number
number_given p (clear l) = (clear_of p.links p.values p.book l).answer.refusal.number

-- the place that goes with it
abbrev pub place_named : Pool → Move → Place
place_named p check = place_in (check_of p.links p.values p.book)
place_named p (ask_length l) = place_in (length_of p.links p.values p.book l).refusal
place_named p (push_back l value) = place_in (push_back_of p.links p.values p.book l value).answer.refusal
place_named p (push_front l value) = place_in (push_front_of p.links p.values p.book l value).answer.refusal
place_named p (pop_back l) = place_in (pop_back_of p.links p.values p.book l).answer.given.refusal
place_named p (pop_front l) = place_in (pop_front_of p.links p.values p.book l).answer.given.refusal
place_named p (read_forward l buffer at) = place_in (read_forward_of p.links p.values p.book l buffer at).answer.refusal
place_named p (read_backward l buffer at) = place_in (read_backward_of p.links p.values p.book l buffer at).answer.refusal
place_named p (clear l) = place_in (clear_of p.links p.values p.book l).answer.refusal

-- what the call leaves. Check, length and the reads are lent the slices to read alone, and return no book
abbrev pub pool_after : Pool → Move → Pool
pool_after p check = p
pool_after p (ask_length l) = p
pool_after p (push_back l value) = pool_left (push_back_of p.links p.values p.book l value)
pool_after p (push_front l value) = pool_left (push_front_of p.links p.values p.book l value)
pool_after p (pop_back l) = pool_popped (pop_back_of p.links p.values p.book l)
pool_after p (pop_front l) = pool_popped (pop_front_of p.links p.values p.book l)
pool_after p (read_forward l buffer at) = p
pool_after p (read_backward l buffer at) = p
pool_after p (clear l) = pool_left (clear_of p.links p.values p.book l)

-- ---- 02 d)

-- the number that a quick call gives
abbrev pub quick_given : Pool → QuickMove → ℕ
quick_given p (quick_push_back l value) = (quick_push_back_of p.links p.values p.book l value).answer.refusal.number
quick_given p (quick_push_front l value) = (quick_push_front_of p.links p.values p.book l value).answer.refusal.number
quick_given p (quick_pop_back l) = (quick_pop_back_of p.links p.values p.book l).answer.given.refusal.number
quick_given p (quick_pop_front l) = (quick_pop_front_of p.links p.values p.book l).answer.given.refusal.number

-- what it leaves
abbrev pub quick_after : Pool → QuickMove → Pool
quick_after p (quick_push_back l value) = pool_left (quick_push_back_of p.links p.values p.book l value)
quick_after p (quick_push_front l value) = pool_left (quick_push_front_of p.links p.values p.book l value)
quick_after p (quick_pop_back l) = pool_popped (quick_pop_back_of p.links p.values p.book l)
quick_after p (quick_pop_front l) = pool_popped (quick_pop_front_of p.links p.values p.book l)

-- ---- any call, checked or quick

abbrev pub given_by : Pool → Call → ℕ
given_by p (checked m) = number_given p m
given_by p (quick q) = quick_given p q

abbrev pub after_by : Pool → Call → Pool
after_by p (checked m) = pool_after p m
after_by p (quick q) = quick_after p q

-- a refused call adds nothing to the ledger
abbrev pub noted_by : Pool → Call → Ledger → Ledger
noted_by p c ledger = cond (eqb (given_by p c) 0) (noted_done (move_of c) ledger) ledger

-- "Take an accepted setup, let only the other nine calls touch that pool, each with its slices and the newest book": any of them, one after the other, done or refused. 02 d): "any mixture of quick and checked calls"
pub data PoolTrace (lists : ℕ) (shares limits : List ℕ) : Pool → Ledger → Type 0 where
  begun : (links values : List ℕ) → (setup_of links values lists shares limits).answer.refusal.number ≡ 0
      → PoolTrace lists shares limits (pool_left (setup_of links values lists shares limits)) nothing_noted
  called : {p : Pool} {ledger : Ledger} → PoolTrace lists shares limits p ledger → (c : Call) → PoolTrace lists shares limits (after_by p c) (noted_by p c ledger)
