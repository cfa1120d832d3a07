-- How the code says what the calls on a list answer: an error is the refusal, and what was changed of one list is put back into the book.
use Rattle.std.specs.Prelude.{ℕ, Result, Ok, Err}
use Rattle.books.specs.declared.Answer.{Answer}
use Rattle.books.specs.declared.Book.{Book}
use Rattle.books.specs.declared.Popped.{Popped}
use Rattle.books.specs.declared.Read.{Read}
use Rattle.books.specs.declared.Refused.{Refused}
use Rattle.books.specs.Book.{eight, book_of}
use Rattle.books.specs.Errors.{refusal_by}
use Rattle.books.specs.Place.{numbered}
use Rattle.shapes.specs.declared.Chains.{Chains}
use Rattle.shapes.specs.Changes.{with_list}
use Rattle.shapes.specs.Records.{Looked}
use Rattle.shapes.specs.Faults.{looked_by}
use Rattle.shapes.specs.Tests.{read_of}

-- what the check and the test of the list tell: what the lists lack, and the list's chains beside it
abbrev pub listed_by : Result (ℕ × Chains) Refused → Looked
listed_by (Ok (lacks, chains)) = looked_by (Ok lacks)
listed_by (Err refused) = looked_by (Err refused)

-- the answer of a call that changes the book, and of a pop with its value
abbrev pub answer_by : Book → ℕ → Result Chains Refused → Answer
answer_by book list (Ok after) = record { refusal = numbered 0; book = book_of (with_list (eight book) list after.list after.idle) }
answer_by book list (Err refused) = record { refusal = refusal_by refused; book = book }

abbrev pub popped_answer_by : Book → ℕ → Result Chains Refused → ℕ → Popped
popped_answer_by book list change value = let r = answer_by book list change in record { given = record { refusal = r.refusal; value = value }; book = r.book }

-- how many values were read
abbrev pub read_by : Result ℕ Refused → Read
read_by (Ok count) = read_of (numbered 0) count
read_by (Err refused) = read_of (refusal_by refused) 0
