-- The answer of a by-value call, put together from what the lent call returns and the book that it leaves.
use Rattle.books.specs.declared.Book.{Book}
use Rattle.books.specs.declared.Refusal.{Refusal}
use Rattle.books.specs.declared.Answer.{Answer}
use Rattle.books.specs.declared.Popped.{Popped}
use Rattle.books.specs.declared.Value.{Value}

abbrev pub pushed : Refusal → Book → Answer
pushed refusal book = record { refusal = refusal; book = book }

abbrev pub popped : Value → Book → Popped
popped given book = record { given = given; book = book }
