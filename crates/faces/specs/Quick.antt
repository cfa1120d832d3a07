-- 02 d)'s four quick functions of the C face: what each returns, what a pop writes to `value`, and all that it leaves. They have no place.
use Rattle.std.specs.Prelude.{◌≡◌, List, ℕ}
use Rattle.books.specs.Book.{words_of}
use Rattle.books.specs.Outcome.{Outcome, outcome}
use Rattle.books.specs.declared.Answer.{Answer}
use Rattle.books.specs.declared.Popped.{Popped}
use Rattle.books.specs.Words.{book_from}
use Rattle.xor.specs.Four.{quick_push_back_of, quick_push_front_of, quick_pop_back_of, quick_pop_front_of}
use Rattle.faces.specs.Words.{kept}

-- the pushes: the number, and the lent book
pub record QuickPushed : Type 0 where
  pub number : ℕ
  pub book : List ℕ

abbrev pub quick_pushed : ℕ → List ℕ → QuickPushed
quick_pushed number book = record { number = number; book = book }

-- the pops: the number, what stands at `value`, and the lent book
pub record QuickPopped : Type 0 where
  pub number : ℕ
  pub value : ℕ
  pub book : List ℕ

abbrev pub quick_popped : ℕ → ℕ → List ℕ → QuickPopped
quick_popped number value book = record { number = number; value = value; book = book }

-- what a by-value call gives, with its book kept in the lent words
abbrev pub as_quick_pushed : List ℕ → Outcome Answer → Outcome QuickPushed
as_quick_pushed words r = outcome (quick_pushed r.answer.refusal.number (kept r.answer.refusal.number words r.answer.book)) r.links r.values

abbrev pub as_quick_popped : List ℕ → Outcome Popped → Outcome QuickPopped
as_quick_popped words r =
    let given = r.answer.given in
    outcome (quick_popped given.refusal.number given.value (kept given.refusal.number words r.answer.book)) r.links r.values

module _ (links values words : List ℕ) (l : ℕ) where
  abbrev pub quick_push_back_face : ℕ → Outcome QuickPushed
  quick_push_back_face value = as_quick_pushed words (quick_push_back_of links values (book_from words) l value)

  abbrev pub quick_push_front_face : ℕ → Outcome QuickPushed
  quick_push_front_face value = as_quick_pushed words (quick_push_front_of links values (book_from words) l value)

  abbrev pub quick_pop_back_face : Outcome QuickPopped
  quick_pop_back_face = as_quick_popped words (quick_pop_back_of links values (book_from words) l)

  abbrev pub quick_pop_front_face : Outcome QuickPopped
  quick_pop_front_face = as_quick_popped words (quick_pop_front_of links values (book_from words) l)

-- ---- what each owes

-- the number, the book, word by word, and both slices are those of the by-value call
pub record SameQuickPush (o : Outcome Answer) (r : Outcome QuickPushed) : Type 0 where
  pub same_number : r.answer.number ≡ o.answer.refusal.number
  pub same_book : r.answer.book ≡ words_of o.answer.book
  pub same_links : r.links ≡ o.links
  pub same_values : r.values ≡ o.values

-- of a pop, the value too
pub record SameQuickPop (o : Outcome Popped) (r : Outcome QuickPopped) : Type 0 where
  pub same_number : r.answer.number ≡ o.answer.given.refusal.number
  pub same_value : r.answer.value ≡ o.answer.given.value
  pub same_book : r.answer.book ≡ words_of o.answer.book
  pub same_links : r.links ≡ o.links
  pub same_values : r.values ≡ o.values

-- a refused one leaves the lent book and both slices as they were
pub record NotQuickPushed (links values words : List ℕ) (r : Outcome QuickPushed) : Type 0 where
  pub book_stays : r.answer.book ≡ words
  pub links_stay : r.links ≡ links
  pub values_stay : r.values ≡ values

-- and a refused pop writes 0 to `value`
pub record NotQuickPopped (links values words : List ℕ) (r : Outcome QuickPopped) : Type 0 where
  pub no_value : r.answer.value ≡ 0
  pub book_stays : r.answer.book ≡ words
  pub links_stay : r.links ≡ links
  pub values_stay : r.values ≡ values

-- a promise allows one result: what one run leaves and, with a mark, what another does
abbrev pub OneQuickPush : Outcome QuickPushed → Type 0
OneQuickPush o = (n n' : ℕ) (book book' links links' values values' : List ℕ) → outcome (quick_pushed n book) links values ≡ o → outcome (quick_pushed n' book') links' values' ≡ o
    → (n ≡ n') × (book ≡ book') × (links ≡ links') × (values ≡ values')

abbrev pub OneQuickPop : Outcome QuickPopped → Type 0
OneQuickPop o = (n n' v v' : ℕ) (book book' links links' values values' : List ℕ) → outcome (quick_popped n v book) links values ≡ o → outcome (quick_popped n' v' book') links' values' ≡ o
    → (n ≡ n') × (v ≡ v') × (book ≡ book') × (links ≡ links') × (values ≡ values')
