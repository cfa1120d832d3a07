-- What runs below every face: a push and a pop on one list, handed its entry and the free record, and a push what the check found that the lists lack, with the counts in their words; and setup but for the book.
use Rattle.std.specs.Prelude.{List, ℕ}
use Rattle.books.specs.declared.Free.{Free}
use Rattle.books.specs.declared.Entry.{Entry}
use Rattle.books.specs.Book.{AnyBook}
use Rattle.books.specs.Place.{no_place}
use Rattle.shapes.specs.Records.{ListChange}
use Rattle.shapes.specs.declared.End.{End}
use Rattle.shapes.specs.Counts.{word_up, word_down}
use Rattle.shapes.specs.Changes.{with_list}
use Rattle.shapes.specs.Numbers.{decided}
use Rattle.shapes.specs.Tests.{push_own_tests, pop_own_tests}
use Rattle.engines.specs.Engine.{Engine, Step}
use Rattle.engines.specs.Counted.{if_made}
use Rattle.engines.specs.Calls.{Called, setup_call}

-- what it gives back: the number, the value that is handed out, 0 for none, the entry, the free record and the cells
pub record OnList (E : Engine) : Type 0 where
  pub number : ℕ
  pub value : ℕ
  pub entry : Entry
  pub free : Free
  pub links : E.Links
  pub values : List ℕ

-- a function's answer, with the word that it was lent for the value and the slices
abbrev pub on_list : {E : Engine} → ListChange → ℕ → E.Links → List ℕ → OnList E
on_list r value links values = record { number = r.number; value = value; entry = r.entry; free = r.free; links = links; values = values }

module _ (E : Engine) (links : E.Links) (values : List ℕ) (list : Entry) (free : Free) where
  -- a refusal: all is as it was
  abbrev pub not_on_list : ℕ → OnList E
  not_on_list number = record { number = number; value = 0; entry = list; free = free; links = links; values = values }

  abbrev pub stepped_on_list : ℕ → Step E.Links → OnList E
  stepped_on_list value r = record { number = 0; value = value; entry = r.entry; free = r.free; links = r.links; values = r.values }

  -- 6, 7 or 0
  unfoldable pub push_on : ℕ → End → ℕ → OnList E
  push_on lacking end value = decided (push_own_tests list list.length lacking free.count) (stepped_on_list 0 (if_made (word_up list.length) (word_down free.count) (E.push end links values list free value))) not_on_list

  -- 5 or 0
  unfoldable pub pop_on : End → OnList E
  pop_on end = let r = if_made (word_down list.length) (word_up free.count) (E.pop end links values list free) in decided (pop_own_tests list.length) (stepped_on_list r.value r) not_on_list

-- put back into the book
abbrev pub put_back : {E : Engine} → AnyBook → ℕ → OnList E → Called E
put_back b l r = record { number = r.number; place = no_place; value = r.value; book = with_list b l r.entry r.free; links = r.links; values = r.values }

-- ---- setup but for the book

pub record LaidOut (E : Engine) : Type 0 where
  pub number : ℕ
  pub links : E.Links
  pub values : List ℕ

abbrev pub laid_out : {E : Engine} → ℕ → E.Links → List ℕ → LaidOut E
laid_out number links values = record { number = number; links = links; values = values }

-- the number of setup, and the cells that it leaves
abbrev pub lay_out_of : (E : Engine) (places : ℕ) → E.Links → List ℕ → ℕ → List ℕ → List ℕ → LaidOut E
lay_out_of E places links values lists shares limits =
    let r = setup_call E places links values lists shares limits in
    laid_out r.number r.links r.values
