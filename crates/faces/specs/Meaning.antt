-- What a function of the C face owes: the same as the by-value call that it stands for, nothing changed where it is refused, and one result.
use Rattle.std.specs.Prelude.{◌≡◌, List, ℕ}
use Rattle.books.specs.Book.{words_of}
use Rattle.books.specs.Place.{Place, place_in}
use Rattle.books.specs.declared.Refusal.{Refusal}
use Rattle.books.specs.Outcome.{Outcome, outcome}
use Rattle.books.specs.declared.Answer.{Answer}
use Rattle.books.specs.declared.Popped.{Popped}
use Rattle.books.specs.declared.Length.{Length}
use Rattle.shapes.specs.Tests.{ReadLeft}
use Rattle.faces.specs.Face.{Prepared, prepared, Checked, checked, Changed, changed, Handed, handed, Told, told, Shown, shown}

-- a done setup: the number, the book, word by word, and both slices are those of the by-value call
pub record SameSetup (o : Outcome Answer) (r : Outcome Prepared) : Type 0 where
  pub same_number : r.answer.number ≡ o.answer.refusal.number
  pub same_book : r.answer.book ≡ words_of o.answer.book
  pub same_links : r.links ≡ o.links
  pub same_values : r.values ≡ o.values

-- of a push and a clear, the place too
pub record SameChange (o : Outcome Answer) (r : Outcome Changed) : Type 0 where
  pub same_number : r.answer.number ≡ o.answer.refusal.number
  pub same_place : r.answer.place ≡ place_in o.answer.refusal
  pub same_book : r.answer.book ≡ words_of o.answer.book
  pub same_links : r.links ≡ o.links
  pub same_values : r.values ≡ o.values

-- of a pop, the value too
pub record SamePop (o : Outcome Popped) (r : Outcome Handed) : Type 0 where
  pub same_number : r.answer.number ≡ o.answer.given.refusal.number
  pub same_place : r.answer.place ≡ place_in o.answer.given.refusal
  pub same_value : r.answer.value ≡ o.answer.given.value
  pub same_book : r.answer.book ≡ words_of o.answer.book
  pub same_links : r.links ≡ o.links
  pub same_values : r.values ≡ o.values

-- of check, the number and the place
pub record SameCheck (o : Refusal) (r : Checked) : Type 0 where
  pub same_number : r.number ≡ o.number
  pub same_place : r.place ≡ place_in o

-- of length, the number, the place and the length
pub record SameLength (o : Length) (r : Told) : Type 0 where
  pub same_number : r.number ≡ o.refusal.number
  pub same_place : r.place ≡ place_in o.refusal
  pub same_length : r.length ≡ o.length

-- of a read, the number, the place, the count and the buffer
pub record SameRead (o : ReadLeft) (r : Shown) : Type 0 where
  pub same_number : r.number ≡ o.answer.refusal.number
  pub same_place : r.place ≡ place_in o.answer.refusal
  pub same_count : r.count ≡ o.answer.count
  pub same_buffer : r.buffer ≡ o.buffer

-- a refused setup leaves the lent book and both slices as they were
pub record NotPrepared (links values words : List ℕ) (r : Outcome Prepared) : Type 0 where
  pub book_stays : r.answer.book ≡ words
  pub links_stay : r.links ≡ links
  pub values_stay : r.values ≡ values

-- and so does any other refused call
pub record NotChanged (links values words : List ℕ) (r : Outcome Changed) : Type 0 where
  pub book_stays : r.answer.book ≡ words
  pub links_stay : r.links ≡ links
  pub values_stay : r.values ≡ values

-- and a refused pop writes 0 to `value`
pub record NotPopped (links values words : List ℕ) (r : Outcome Handed) : Type 0 where
  pub no_value : r.answer.value ≡ 0
  pub book_stays : r.answer.book ≡ words
  pub links_stay : r.links ≡ links
  pub values_stay : r.values ≡ values

-- a refused read writes 0 to `count`, and leaves the buffer
pub record NotRead (buffer : List ℕ) (r : Shown) : Type 0 where
  pub no_count : r.count ≡ 0
  pub buffer_stays : r.buffer ≡ buffer

-- ---- what it is for a promise of each kind to allow one result: what one run leaves and, with a mark, what another does

abbrev pub OneSetup : Outcome Prepared → Type 0
OneSetup o = (n n' : ℕ) (book book' links links' values values' : List ℕ) → outcome (prepared n book) links values ≡ o → outcome (prepared n' book') links' values' ≡ o
    → (n ≡ n') × (book ≡ book') × (links ≡ links') × (values ≡ values')

abbrev pub OneCheck : Checked → Type 0
OneCheck o = (n n' : ℕ) (p p' : Place) → checked n p ≡ o → checked n' p' ≡ o → (n ≡ n') × (p ≡ p')

abbrev pub OneChange : Outcome Changed → Type 0
OneChange o = (n n' : ℕ) (p p' : Place) (book book' links links' values values' : List ℕ) → outcome (changed n p book) links values ≡ o → outcome (changed n' p' book') links' values' ≡ o
    → (n ≡ n') × (p ≡ p') × (book ≡ book') × (links ≡ links') × (values ≡ values')

abbrev pub OnePop : Outcome Handed → Type 0
OnePop o = (n n' v v' : ℕ) (p p' : Place) (book book' links links' values values' : List ℕ) → outcome (handed n p v book) links values ≡ o → outcome (handed n' p' v' book') links' values' ≡ o
    → (n ≡ n') × (p ≡ p') × (v ≡ v') × (book ≡ book') × (links ≡ links') × (values ≡ values')

abbrev pub OneLength : Told → Type 0
OneLength o = (n n' v v' : ℕ) (p p' : Place) → told n p v ≡ o → told n' p' v' ≡ o → (n ≡ n') × (p ≡ p') × (v ≡ v')

abbrev pub OneRead : Shown → Type 0
OneRead o = (n n' v v' : ℕ) (p p' : Place) (buffer buffer' : List ℕ) → shown n p v buffer ≡ o → shown n' p' v' buffer' ≡ o → (n ≡ n') × (p ≡ p') × (v ≡ v') × (buffer ≡ buffer')
