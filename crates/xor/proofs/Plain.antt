-- An answer on the book of eight is the call's own, and nothing is lost; each of the ten names is its call over the XOR engine, and each move is one of the ten.
use mathlib.Core.Path.{◌≡◌, refl, sym}
use mathlib.Core.List.{List}
use Prim.Native.Nat.{ℕ}
use Rattle.books.specs.declared.Book.{Book}
use Rattle.books.specs.Book.{most_lists, AnyBook, eight, book_of}
use Rattle.books.specs.Place.{place_in}
use Rattle.shapes.specs.declared.End.{End}
use Rattle.shapes.specs.declared.End.TheVariants.{Front, Back}
use Rattle.shapes.specs.Moves.{Move, check, ask_length, push_back, push_front, pop_back, pop_front, read_forward, read_backward, clear, QuickMove, quick_push_back, quick_push_front, quick_pop_back, quick_pop_front, Call, checked, quick}
use Rattle.shapes.proofs.Numbers.{decided_ind}
use Rattle.engines.specs.Calls.{Called, setup_tests, list_tests, push_tests, pop_tests, setup_call, check_call, length_call, push_call, pop_call, read_call, clear_call}
use Rattle.engines.specs.Quick.{quick_push_tests, quick_pop_tests, quick_push, quick_pop}
use Rattle.engines.specs.Moves.{left, number_of, place_given, after, quick_called, number_of_call, after_call}
use Rattle.xor.specs.Engine.{xor}
use Rattle.xor.specs.Ten.{as_answer, as_popped, setup_of, check_of, length_of, push_back_of, push_front_of, pop_back_of, pop_front_of, read_forward_of, read_backward_of, clear_of}
use Rattle.xor.specs.Four.{quick_push_back_of, quick_push_front_of, quick_pop_back_of, quick_pop_front_of}
use Rattle.xor.specs.Moves.{Pool, state_of, pool_left, number_given, place_named, pool_after, quick_given, quick_after, given_by, after_by}

module _ (r : Called xor) where
  pub answer_plain : ((as_answer r).answer.refusal.number ≡ r.number) × (place_in (as_answer r).answer.refusal ≡ r.place) × ((as_answer r).answer.book ≡ book_of r.book) × ((as_answer r).links ≡ r.links) × ((as_answer r).values ≡ r.values)
  answer_plain = (refl, refl, refl, refl, refl)

  pub popped_plain : ((as_popped r).answer.given.refusal.number ≡ r.number) × (place_in (as_popped r).answer.given.refusal ≡ r.place) × ((as_popped r).answer.given.value ≡ r.value)
      × ((as_popped r).answer.book ≡ book_of r.book) × ((as_popped r).links ≡ r.links) × ((as_popped r).values ≡ r.values)
  popped_plain = (refl, refl, refl, refl, refl, refl)

-- ---- each name of Ten.antt is the call over the XOR engine on the book of eight, so that what is proved of that holds of it

module _ (links values : List ℕ) where
  pub setup_named : (lists : ℕ) (shares limits : List ℕ) → setup_of links values lists shares limits ≡ as_answer (setup_call xor 8 links values lists shares limits)
  setup_named lists shares limits = refl

  module _ (b : Book) where
    pub check_named : check_of links values b ≡ check_call xor links values (eight b)
    check_named = refl

    module _ (l : ℕ) where
      pub length_named : length_of links values b l ≡ length_call xor links values (eight b) l
      length_named = refl

      pub push_back_named : (value : ℕ) → push_back_of links values b l value ≡ as_answer (push_call xor links values (eight b) l Back value)
      push_back_named value = refl

      pub push_front_named : (value : ℕ) → push_front_of links values b l value ≡ as_answer (push_call xor links values (eight b) l Front value)
      push_front_named value = refl

      pub pop_back_named : pop_back_of links values b l ≡ as_popped (pop_call xor links values (eight b) l Back)
      pop_back_named = refl

      pub pop_front_named : pop_front_of links values b l ≡ as_popped (pop_call xor links values (eight b) l Front)
      pop_front_named = refl

      pub read_forward_named : (buffer : List ℕ) (at : ℕ) → read_forward_of links values b l buffer at ≡ read_call xor links values (eight b) l Front buffer at
      read_forward_named buffer at = refl

      pub read_backward_named : (buffer : List ℕ) (at : ℕ) → read_backward_of links values b l buffer at ≡ read_call xor links values (eight b) l Back buffer at
      read_backward_named buffer at = refl

      pub clear_named : clear_of links values b l ≡ as_answer (clear_call xor links values (eight b) l)
      clear_named = refl

      -- and so is each name of Four.antt
      pub quick_named : (value : ℕ) → (quick_push_back_of links values b l value ≡ as_answer (quick_push xor links values (eight b) l Back value))
          × (quick_push_front_of links values b l value ≡ as_answer (quick_push xor links values (eight b) l Front value))
          × (quick_pop_back_of links values b l ≡ as_popped (quick_pop xor links values (eight b) l Back))
          × (quick_pop_front_of links values b l ≡ as_popped (quick_pop xor links values (eight b) l Front))
      quick_named value = (refl, refl, refl, refl)

-- ---- a call leaves the number of places, so that the book of eight is told back whole

-- a book with eight places, told back and made any book again, is itself
again : (b : AnyBook) → b.places ≡ most_lists → eight (book_of b) ≡ b
again b e = λ i. record { places = sym e i; lists = b.lists; entries = b.entries; free = b.free }

module _ (links values : List ℕ) (b : AnyBook) (l : ℕ) where
  push_places : (end : End) (value : ℕ) → (push_call xor links values b l end value).book.places ≡ b.places
  unfolding push_call
  push_places end value = decided_ind _ _ (λ (r : Called xor). r.book.places ≡ b.places) (push_tests xor links values b l) (λ k. refl) (λ k. refl)

  pop_places : (end : End) → (pop_call xor links values b l end).book.places ≡ b.places
  unfolding pop_call
  pop_places end = decided_ind _ _ (λ (r : Called xor). r.book.places ≡ b.places) (pop_tests xor links values b l) (λ k. refl) (λ k. refl)

  quick_push_places : (end : End) (value : ℕ) → (quick_push xor links values b l end value).book.places ≡ b.places
  unfolding quick_push
  quick_push_places end value = decided_ind _ _ (λ (r : Called xor). r.book.places ≡ b.places) (quick_push_tests xor links values b l end value) (λ k. refl) (λ k. refl)

  quick_pop_places : (end : End) → (quick_pop xor links values b l end).book.places ≡ b.places
  unfolding quick_pop
  quick_pop_places end = decided_ind _ _ (λ (r : Called xor). r.book.places ≡ b.places) (quick_pop_tests xor links values b l end) (λ k. refl) (λ k. refl)

  clear_places : (clear_call xor links values b l).book.places ≡ b.places
  unfolding clear_call
  clear_places = decided_ind _ _ (λ (r : Called xor). r.book.places ≡ b.places) (list_tests xor links values b l) (λ k. refl) (λ k. refl)

setup_places : (links values : List ℕ) (lists : ℕ) (shares limits : List ℕ) → (setup_call xor most_lists links values lists shares limits).book.places ≡ most_lists
unfolding setup_call
setup_places links values lists shares limits =
    decided_ind _ _ (λ (r : Called xor). r.book.places ≡ most_lists) (setup_tests xor most_lists links values lists shares limits) (λ k. refl) (λ k. refl)

same_state_lem : (r : Called xor) → r.book.places ≡ most_lists → state_of (pool_left (as_answer r)) ≡ left r
same_state_lem r e = λ i. record { links = r.links; values = r.values; book = again r.book e i }

-- ---- each move has the number of its call, and leaves what that leaves

-- what setup leaves
pub setup_left : (links values : List ℕ) (lists : ℕ) (shares limits : List ℕ) → state_of (pool_left (setup_of links values lists shares limits)) ≡ left (setup_call xor most_lists links values lists shares limits)
setup_left links values lists shares limits = same_state_lem (setup_call xor most_lists links values lists shares limits) (setup_places links values lists shares limits)

-- the number of every call by name is the one that the laws over any engine speak of
pub number_told : (p : Pool) (m : Move) → number_given p m ≡ number_of xor (state_of p) m
number_told p check = refl
number_told p (ask_length l) = refl
number_told p (push_back l value) = refl
number_told p (push_front l value) = refl
number_told p (pop_back l) = refl
number_told p (pop_front l) = refl
number_told p (read_forward l buffer at) = refl
number_told p (read_backward l buffer at) = refl
number_told p (clear l) = refl

-- and so is its place
pub place_told : (p : Pool) (m : Move) → place_named p m ≡ place_given xor (state_of p) m
place_told p check = refl
place_told p (ask_length l) = refl
place_told p (push_back l value) = refl
place_told p (push_front l value) = refl
place_told p (pop_back l) = refl
place_told p (pop_front l) = refl
place_told p (read_forward l buffer at) = refl
place_told p (read_backward l buffer at) = refl
place_told p (clear l) = refl

-- and so is what it leaves
pub after_told : (p : Pool) (m : Move) → state_of (pool_after p m) ≡ after xor (state_of p) m
after_told p check = refl
after_told p (ask_length l) = refl
after_told p (push_back l value) = same_state_lem (push_call xor p.links p.values (eight p.book) l Back value) (push_places p.links p.values (eight p.book) l Back value)
after_told p (push_front l value) = same_state_lem (push_call xor p.links p.values (eight p.book) l Front value) (push_places p.links p.values (eight p.book) l Front value)
after_told p (pop_back l) = same_state_lem (pop_call xor p.links p.values (eight p.book) l Back) (pop_places p.links p.values (eight p.book) l Back)
after_told p (pop_front l) = same_state_lem (pop_call xor p.links p.values (eight p.book) l Front) (pop_places p.links p.values (eight p.book) l Front)
after_told p (read_forward l buffer at) = refl
after_told p (read_backward l buffer at) = refl
after_told p (clear l) = same_state_lem (clear_call xor p.links p.values (eight p.book) l) (clear_places p.links p.values (eight p.book) l)

-- ---- and of the quick calls

pub quick_number_told : (p : Pool) (q : QuickMove) → quick_given p q ≡ (quick_called xor (state_of p) q).number
quick_number_told p (quick_push_back l value) = refl
quick_number_told p (quick_push_front l value) = refl
quick_number_told p (quick_pop_back l) = refl
quick_number_told p (quick_pop_front l) = refl

pub quick_after_told : (p : Pool) (q : QuickMove) → state_of (quick_after p q) ≡ left (quick_called xor (state_of p) q)
quick_after_told p (quick_push_back l value) = same_state_lem (quick_push xor p.links p.values (eight p.book) l Back value) (quick_push_places p.links p.values (eight p.book) l Back value)
quick_after_told p (quick_push_front l value) = same_state_lem (quick_push xor p.links p.values (eight p.book) l Front value) (quick_push_places p.links p.values (eight p.book) l Front value)
quick_after_told p (quick_pop_back l) = same_state_lem (quick_pop xor p.links p.values (eight p.book) l Back) (quick_pop_places p.links p.values (eight p.book) l Back)
quick_after_told p (quick_pop_front l) = same_state_lem (quick_pop xor p.links p.values (eight p.book) l Front) (quick_pop_places p.links p.values (eight p.book) l Front)

-- ---- of any call, checked or quick

pub number_told_by : (p : Pool) (c : Call) → given_by p c ≡ number_of_call xor (state_of p) c
number_told_by p (checked m) = number_told p m
number_told_by p (quick q) = quick_number_told p q

pub after_told_by : (p : Pool) (c : Call) → state_of (after_by p c) ≡ after_call xor (state_of p) c
after_told_by p (checked m) = after_told p m
after_told_by p (quick q) = quick_after_told p q
