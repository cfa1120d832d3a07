-- 02 d)'s four quick calls of the XOR list on the book of eight entries, each under its own name: what the promises cite, and what the laws are proved of.
use Rattle.std.specs.Prelude.{List, ℕ}
use Rattle.books.specs.declared.Book.{Book}
use Rattle.books.specs.declared.Answer.{Answer}
use Rattle.books.specs.declared.Popped.{Popped}
use Rattle.books.specs.Book.{eight}
use Rattle.books.specs.Outcome.{Outcome}
use Rattle.shapes.specs.declared.End.TheVariants.{Front, Back}
use Rattle.engines.specs.Quick.{quick_push, quick_pop}
use Rattle.xor.specs.Engine.{xor}
use Rattle.xor.specs.Ten.{as_answer, as_popped}

module _ (links values : List ℕ) (b : Book) (l : ℕ) where
  abbrev pub quick_push_back_of : ℕ → Outcome Answer
  quick_push_back_of value = as_answer (quick_push xor links values (eight b) l Back value)

  abbrev pub quick_push_front_of : ℕ → Outcome Answer
  quick_push_front_of value = as_answer (quick_push xor links values (eight b) l Front value)

  abbrev pub quick_pop_back_of : Outcome Popped
  quick_pop_back_of = as_popped (quick_pop xor links values (eight b) l Back)

  abbrev pub quick_pop_front_of : Outcome Popped
  quick_pop_front_of = as_popped (quick_pop xor links values (eight b) l Front)
