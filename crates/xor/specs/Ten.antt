-- The ten calls of the XOR list on the book of eight entries, each under its own name: what the promises cite, and what the demands are proved of.
use Rattle.std.specs.Prelude.{List, ℕ}
use Rattle.books.specs.declared.Book.{Book}
use Rattle.books.specs.declared.Refusal.{Refusal}
use Rattle.books.specs.declared.Answer.{Answer}
use Rattle.books.specs.declared.Popped.{Popped}
use Rattle.books.specs.declared.Length.{Length}
use Rattle.books.specs.Book.{most_lists, eight, book_of}
use Rattle.books.specs.Outcome.{Outcome, outcome}
use Rattle.books.specs.Place.{refusal_of}
use Rattle.shapes.specs.declared.End.TheVariants.{Front, Back}
use Rattle.shapes.specs.Tests.{ReadLeft}
use Rattle.engines.specs.Calls.{Called, setup_call, check_call, length_call, push_call, pop_call, clear_call, read_call}
use Rattle.xor.specs.Engine.{xor}

-- the answers of the book of eight entries, with both slices
abbrev pub as_answer : Called xor → Outcome Answer
as_answer r = outcome (record { refusal = refusal_of r.number r.place; book = book_of r.book }) r.links r.values

abbrev pub as_popped : Called xor → Outcome Popped
as_popped r = outcome (record { given = record { refusal = refusal_of r.number r.place; value = r.value }; book = book_of r.book }) r.links r.values

module _ (links values : List ℕ) where
  abbrev pub setup_of : ℕ → List ℕ → List ℕ → Outcome Answer
  setup_of lists shares limits = as_answer (setup_call xor most_lists links values lists shares limits)

module _ (links values : List ℕ) (b : Book) where
  abbrev pub check_of : Refusal
  check_of = check_call xor links values (eight b)

  module _ (l : ℕ) where
    abbrev pub length_of : Length
    length_of = length_call xor links values (eight b) l

    abbrev pub push_back_of : ℕ → Outcome Answer
    push_back_of value = as_answer (push_call xor links values (eight b) l Back value)

    abbrev pub push_front_of : ℕ → Outcome Answer
    push_front_of value = as_answer (push_call xor links values (eight b) l Front value)

    abbrev pub pop_back_of : Outcome Popped
    pop_back_of = as_popped (pop_call xor links values (eight b) l Back)

    abbrev pub pop_front_of : Outcome Popped
    pop_front_of = as_popped (pop_call xor links values (eight b) l Front)

    abbrev pub read_forward_of : List ℕ → ℕ → ReadLeft
    read_forward_of buffer at = read_call xor links values (eight b) l Front buffer at

    abbrev pub read_backward_of : List ℕ → ℕ → ReadLeft
    read_backward_of buffer at = read_call xor links values (eight b) l Back buffer at

    abbrev pub clear_of : Outcome Answer
    clear_of = as_answer (clear_call xor links values (eight b) l)
