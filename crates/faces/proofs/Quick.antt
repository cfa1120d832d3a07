-- 02 d) of the C face: each quick function does what the by-value call does, where it is refused changes nothing, and its promise allows one result.
use mathlib.Core.Path.{◌≡◌, refl, sym, ap, ◌∙◌}
use mathlib.Core.Logic.{◌≢◌}
use mathlib.Core.List.{List}
use Prim.Native.Nat.{ℕ}
use lib.ListN.{length}
use Rattle.books.specs.Book.{AnyBook, eight, book_of}
use Rattle.books.specs.Outcome.{Outcome}
use Rattle.books.specs.Words.{book_from}
use Rattle.shapes.specs.declared.End.TheVariants.{Front, Back}
use Rattle.engines.specs.Calls.{Called}
use Rattle.engines.specs.Done.{Refused}
use Rattle.engines.specs.Quick.{quick_push, quick_pop}
use Rattle.engines.proofs.QuickGiven.{quick_push_refused, quick_pop_refused}
use Rattle.xor.specs.Engine.{xor}
use Rattle.xor.specs.Ten.{as_answer, as_popped}
use Rattle.xor.specs.Four.{quick_push_back_of, quick_push_front_of, quick_pop_back_of, quick_pop_front_of}
use Rattle.faces.specs.Quick.{QuickPushed, QuickPopped, as_quick_pushed, as_quick_popped, quick_push_back_face, quick_push_front_face, quick_pop_back_face, quick_pop_front_face, SameQuickPush, SameQuickPop, NotQuickPushed, NotQuickPopped, OneQuickPush, OneQuickPop}
use Rattle.faces.proofs.Kept.{kept_refused}
use Rattle.faces.proofs.Exact.{same_words_lem}

-- ---- said once for both ends

module _ (links values words : List ℕ) (r : Called xor) (f : r.number ≢ 0 → Refused xor links values (eight (book_from words)) r) where
  push_same : length words ≡ 43 → SameQuickPush (as_answer r) (as_quick_pushed words (as_answer r))
  push_same h = record { same_number = refl; same_book = same_words_lem links values words h _ _ (λ d. ap book_of (f d).same_book); same_links = refl; same_values = refl }

  pop_same : length words ≡ 43 → SameQuickPop (as_popped r) (as_quick_popped words (as_popped r))
  pop_same h = record { same_number = refl; same_value = refl; same_book = same_words_lem links values words h _ _ (λ d. ap book_of (f d).same_book); same_links = refl; same_values = refl }

  push_not : r.number ≢ 0 → NotQuickPushed links values words (as_quick_pushed words (as_answer r))
  push_not d = record { book_stays = kept_refused _ words _ d; links_stay = (f d).same_links; values_stay = (f d).same_values }

  pop_not : r.number ≢ 0 → NotQuickPopped links values words (as_quick_popped words (as_popped r))
  pop_not d = record { no_value = (f d).no_value; book_stays = kept_refused _ words _ d; links_stay = (f d).same_links; values_stay = (f d).same_values }

one_push : (o : Outcome QuickPushed) → OneQuickPush o
one_push o n n' book book' links links' values values' e f =
    let g = e ∙ sym f in
    (ap (λ (x : Outcome QuickPushed). x.answer.number) g, ap (λ (x : Outcome QuickPushed). x.answer.book) g, ap (λ (x : Outcome QuickPushed). x.links) g, ap (λ (x : Outcome QuickPushed). x.values) g)

one_pop : (o : Outcome QuickPopped) → OneQuickPop o
one_pop o n n' v v' book book' links links' values values' e f =
    let g = e ∙ sym f in
    (ap (λ (x : Outcome QuickPopped). x.answer.number) g, ap (λ (x : Outcome QuickPopped). x.answer.value) g, ap (λ (x : Outcome QuickPopped). x.answer.book) g, ap (λ (x : Outcome QuickPopped). x.links) g, ap (λ (x : Outcome QuickPopped). x.values) g)

-- ---- the four functions

module _ (links values words : List ℕ) (l : ℕ) where
  abbrev b : AnyBook
  b = eight (book_from words)

  module _ (value : ℕ) where
    pub quick_push_back_same : length words ≡ 43 → SameQuickPush (quick_push_back_of links values (book_from words) l value) (quick_push_back_face links values words l value)
    quick_push_back_same = push_same links values words (quick_push xor links values b l Back value) (quick_push_refused xor links values b l Back value)

    pub quick_push_front_same : length words ≡ 43 → SameQuickPush (quick_push_front_of links values (book_from words) l value) (quick_push_front_face links values words l value)
    quick_push_front_same = push_same links values words (quick_push xor links values b l Front value) (quick_push_refused xor links values b l Front value)

    pub face_quick_push_back_refused : (quick_push_back_face links values words l value).answer.number ≢ 0 → NotQuickPushed links values words (quick_push_back_face links values words l value)
    face_quick_push_back_refused = push_not links values words (quick_push xor links values b l Back value) (quick_push_refused xor links values b l Back value)

    pub face_quick_push_front_refused : (quick_push_front_face links values words l value).answer.number ≢ 0 → NotQuickPushed links values words (quick_push_front_face links values words l value)
    face_quick_push_front_refused = push_not links values words (quick_push xor links values b l Front value) (quick_push_refused xor links values b l Front value)

    pub quick_push_face_one : OneQuickPush (quick_push_back_face links values words l value) × OneQuickPush (quick_push_front_face links values words l value)
    quick_push_face_one = (one_push _, one_push _)

  pub quick_pop_back_same : length words ≡ 43 → SameQuickPop (quick_pop_back_of links values (book_from words) l) (quick_pop_back_face links values words l)
  quick_pop_back_same = pop_same links values words (quick_pop xor links values b l Back) (quick_pop_refused xor links values b l Back)

  pub quick_pop_front_same : length words ≡ 43 → SameQuickPop (quick_pop_front_of links values (book_from words) l) (quick_pop_front_face links values words l)
  quick_pop_front_same = pop_same links values words (quick_pop xor links values b l Front) (quick_pop_refused xor links values b l Front)

  pub face_quick_pop_back_refused : (quick_pop_back_face links values words l).answer.number ≢ 0 → NotQuickPopped links values words (quick_pop_back_face links values words l)
  face_quick_pop_back_refused = pop_not links values words (quick_pop xor links values b l Back) (quick_pop_refused xor links values b l Back)

  pub face_quick_pop_front_refused : (quick_pop_front_face links values words l).answer.number ≢ 0 → NotQuickPopped links values words (quick_pop_front_face links values words l)
  face_quick_pop_front_refused = pop_not links values words (quick_pop xor links values b l Front) (quick_pop_refused xor links values b l Front)

  pub quick_pop_face_one : OneQuickPop (quick_pop_back_face links values words l) × OneQuickPop (quick_pop_front_face links values words l)
  quick_pop_face_one = (one_pop _, one_pop _)
