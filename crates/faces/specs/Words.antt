-- The lent words after a call of the C face.
use Rattle.std.specs.Prelude.{cond, List, ℕ, eqb}
use Rattle.books.specs.declared.Book.{Book}
use Rattle.books.specs.Book.{words_of}

-- those of the book that it returned where it is done, and else as they were
unfoldable pub kept : ℕ → List ℕ → Book → List ℕ
kept number words book = cond (eqb number 0) (words_of book) words
