-- The ten functions of the C face: what each returns, what it writes to the words that it is handed for its answer and for the place, and all that it leaves.
use Rattle.std.specs.Prelude.{List, ℕ}
use Rattle.books.specs.Outcome.{Outcome, outcome}
use Rattle.books.specs.declared.Answer.{Answer}
use Rattle.books.specs.declared.Popped.{Popped}
use Rattle.books.specs.Place.{Place, place_in}
use Rattle.xor.specs.Ten.{setup_of, check_of, length_of, push_back_of, push_front_of, pop_back_of, pop_front_of, read_forward_of, read_backward_of, clear_of}
use Rattle.shapes.specs.Tests.{ReadLeft}
use Rattle.books.specs.Words.{book_from}
use Rattle.faces.specs.Words.{kept}

-- setup, which has no place: the number, and the lent book
pub record Prepared : Type 0 where
  pub number : ℕ
  pub book : List ℕ

abbrev pub prepared : ℕ → List ℕ → Prepared
prepared number book = record { number = number; book = book }

-- check: the number, and what stands at `place`
pub record Checked : Type 0 where
  pub number : ℕ
  pub place : Place

abbrev pub checked : ℕ → Place → Checked
checked number place = record { number = number; place = place }

-- the pushes and clear: the number, what stands at `place`, and the lent book
pub record Changed : Type 0 where
  pub number : ℕ
  pub place : Place
  pub book : List ℕ

abbrev pub changed : ℕ → Place → List ℕ → Changed
changed number place book = record { number = number; place = place; book = book }

-- the pops: the number, what stands at `place` and at `value`, and the lent book
pub record Handed : Type 0 where
  pub number : ℕ
  pub place : Place
  pub value : ℕ
  pub book : List ℕ

abbrev pub handed : ℕ → Place → ℕ → List ℕ → Handed
handed number place value book = record { number = number; place = place; value = value; book = book }

-- length: the number, and what stands at `place` and at `length`
pub record Told : Type 0 where
  pub number : ℕ
  pub place : Place
  pub length : ℕ

abbrev pub told : ℕ → Place → ℕ → Told
told number place length = record { number = number; place = place; length = length }

-- the reads: the number, what stands at `place` and at `count`, and the buffer
pub record Shown : Type 0 where
  pub number : ℕ
  pub place : Place
  pub count : ℕ
  pub buffer : List ℕ

abbrev pub shown : ℕ → Place → ℕ → List ℕ → Shown
shown number place count buffer = record { number = number; place = place; count = count; buffer = buffer }

-- what a by-value call gives, with its book kept in the lent words
abbrev pub as_prepared : List ℕ → Outcome Answer → Outcome Prepared
as_prepared words r = outcome (prepared r.answer.refusal.number (kept r.answer.refusal.number words r.answer.book)) r.links r.values

abbrev pub as_changed : List ℕ → Outcome Answer → Outcome Changed
as_changed words r =
    let refusal = r.answer.refusal in
    outcome (changed refusal.number (place_in refusal) (kept refusal.number words r.answer.book)) r.links r.values

abbrev pub as_handed : List ℕ → Outcome Popped → Outcome Handed
as_handed words r =
    let given = r.answer.given in
    outcome (handed given.refusal.number (place_in given.refusal) given.value (kept given.refusal.number words r.answer.book)) r.links r.values

abbrev pub as_shown : ReadLeft → Shown
as_shown r = shown r.answer.refusal.number (place_in r.answer.refusal) r.answer.count r.buffer

module _ (links values : List ℕ) where
  abbrev pub setup_face : ℕ → List ℕ → List ℕ → List ℕ → Outcome Prepared
  setup_face lists shares limits words = as_prepared words (setup_of links values lists shares limits)

  module _ (words : List ℕ) where
    abbrev pub check_face : Checked
    check_face = let r = check_of links values (book_from words) in checked r.number (place_in r)

    module _ (l : ℕ) where
      abbrev pub length_face : Told
      length_face = let r = length_of links values (book_from words) l in told r.refusal.number (place_in r.refusal) r.length

      abbrev pub push_back_face : ℕ → Outcome Changed
      push_back_face value = as_changed words (push_back_of links values (book_from words) l value)

      abbrev pub push_front_face : ℕ → Outcome Changed
      push_front_face value = as_changed words (push_front_of links values (book_from words) l value)

      abbrev pub pop_back_face : Outcome Handed
      pop_back_face = as_handed words (pop_back_of links values (book_from words) l)

      abbrev pub pop_front_face : Outcome Handed
      pop_front_face = as_handed words (pop_front_of links values (book_from words) l)

      abbrev pub read_forward_face : List ℕ → ℕ → Shown
      read_forward_face buffer at = as_shown (read_forward_of links values (book_from words) l buffer at)

      abbrev pub read_backward_face : List ℕ → ℕ → Shown
      read_backward_face buffer at = as_shown (read_backward_of links values (book_from words) l buffer at)

      abbrev pub clear_face : Outcome Changed
      clear_face = as_changed words (clear_of links values (book_from words) l)
