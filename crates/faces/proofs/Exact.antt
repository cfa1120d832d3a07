-- Each function of the C face does what the by-value call does, and where it is refused changes nothing.
use mathlib.Core.Path.{◌≡◌, refl, sym, ap, ◌∙◌}
use mathlib.Core.Logic.{◌≢◌}
use mathlib.Core.List.{List}
use Prim.Native.Nat.{ℕ}
use native.Mathlib.Decide.{ℕ_discrete}
use lib.ListN.{length}
use Rattle.books.specs.declared.Book.{Book}
use Rattle.books.specs.Book.{most_lists, words_of, AnyBook, eight, book_of}
use Rattle.shapes.specs.declared.End.TheVariants.{Front, Back}
use Rattle.xor.specs.Ten.{setup_of, as_answer, as_popped, check_of, length_of, push_back_of, push_front_of, pop_back_of, pop_front_of, read_forward_of, read_backward_of, clear_of}
use Rattle.engines.specs.Calls.{Called, push_call, pop_call, clear_call}
use Rattle.engines.specs.Done.{Refused}
use Rattle.engines.proofs.Fresh.{setup_refused}
use Rattle.engines.proofs.Outcomes.{push_refused, pop_refused, clear_refused, read_refused, length_refused}
use Rattle.xor.specs.Engine.{xor}
use Rattle.books.specs.Words.{book_from}
use Rattle.faces.specs.Words.{kept}
use Rattle.faces.specs.Face.{as_changed, as_handed, setup_face, check_face, length_face, push_back_face, push_front_face, pop_back_face, pop_front_face, read_forward_face, read_backward_face, clear_face}
use Rattle.faces.specs.Meaning.{SameSetup, SameCheck, SameChange, SamePop, SameLength, SameRead, NotPrepared, NotChanged, NotPopped, NotRead}
use Rattle.books.proofs.Flat.{words_kept}
use Rattle.faces.proofs.Kept.{kept_done, kept_refused}

-- ---- said once for the calls that change the pool

module _ (links values words : List ℕ) (h : length words ≡ 43) where
  -- the words at exit are those of the book, which a refused call returns as it went in
  pub same_words_lem : (number : ℕ) (b : Book) → (number ≢ 0 → b ≡ book_from words) → kept number words b ≡ words_of b
  same_words_lem number b f = go (ℕ_discrete number 0)
    where
      go : Dec (number ≡ 0) → kept number words b ≡ words_of b
      go (yes e) = kept_done number words b e
      go (no d) = kept_refused number words b d ∙ sym (words_kept words h) ∙ ap words_of (sym (f d))

  module _ (r : Called xor) (f : r.number ≢ 0 → Refused xor links values (eight (book_from words)) r) where
    back : r.number ≢ 0 → book_of r.book ≡ book_from words
    back d = ap book_of (f d).same_book

    change_same : SameChange (as_answer r) (as_changed words (as_answer r))
    change_same = record { same_number = refl; same_place = refl; same_book = same_words_lem _ _ back; same_links = refl; same_values = refl }

    pop_same : SamePop (as_popped r) (as_handed words (as_popped r))
    pop_same = record { same_number = refl; same_place = refl; same_value = refl; same_book = same_words_lem _ _ back; same_links = refl; same_values = refl }

module _ (links values words : List ℕ) (r : Called xor) (f : r.number ≢ 0 → Refused xor links values (eight (book_from words)) r) where
  change_not : (as_changed words (as_answer r)).answer.number ≢ 0 → NotChanged links values words (as_changed words (as_answer r))
  change_not d = record { book_stays = kept_refused _ words _ d; links_stay = (f d).same_links; values_stay = (f d).same_values }

  pop_not : (as_handed words (as_popped r)).answer.number ≢ 0 → NotPopped links values words (as_handed words (as_popped r))
  pop_not d = record { no_value = (f d).no_value; book_stays = kept_refused _ words _ d; links_stay = (f d).same_links; values_stay = (f d).same_values }

-- ---- the ten functions

module _ (links values : List ℕ) where
  -- setup: where it is done, the by-value call's book; where it is refused, the lent book stays, and not the all-zero book
  module _ (lists : ℕ) (shares limits words : List ℕ) where
    pub face_setup_number : (setup_face links values lists shares limits words).answer.number ≡ (setup_of links values lists shares limits).answer.refusal.number
    face_setup_number = refl

    pub setup_same : (setup_face links values lists shares limits words).answer.number ≡ 0
        → SameSetup (setup_of links values lists shares limits) (setup_face links values lists shares limits words)
    setup_same e = record { same_number = refl; same_book = kept_done _ words _ e; same_links = refl; same_values = refl }

    pub face_setup_refused : (setup_face links values lists shares limits words).answer.number ≢ 0 → NotPrepared links values words (setup_face links values lists shares limits words)
    face_setup_refused d =
        let R = setup_refused xor most_lists links values lists shares limits d in
        record { book_stays = kept_refused _ words _ d; links_stay = R.same_links; values_stay = R.same_values }

  pub check_same : (words : List ℕ) → SameCheck (check_of links values (book_from words)) (check_face links values words)
  check_same words = record { same_number = refl; same_place = refl }

  module _ (words : List ℕ) (l : ℕ) where
    abbrev b : AnyBook
    b = eight (book_from words)

    pub length_same : SameLength (length_of links values (book_from words) l) (length_face links values words l)
    length_same = record { same_number = refl; same_place = refl; same_length = refl }

    pub face_length_refused : (length_face links values words l).number ≢ 0 → (length_face links values words l).length ≡ 0
    face_length_refused = length_refused xor links values b l

    module _ (value : ℕ) where
      pub face_push_back_refused : (push_back_face links values words l value).answer.number ≢ 0 → NotChanged links values words (push_back_face links values words l value)
      face_push_back_refused = change_not links values words (push_call xor links values b l Back value) (push_refused xor links values b l Back value)

      pub face_push_front_refused : (push_front_face links values words l value).answer.number ≢ 0 → NotChanged links values words (push_front_face links values words l value)
      face_push_front_refused = change_not links values words (push_call xor links values b l Front value) (push_refused xor links values b l Front value)

      pub push_back_same : length words ≡ 43 → SameChange (push_back_of links values (book_from words) l value) (push_back_face links values words l value)
      push_back_same h = change_same links values words h (push_call xor links values b l Back value) (push_refused xor links values b l Back value)

      pub push_front_same : length words ≡ 43 → SameChange (push_front_of links values (book_from words) l value) (push_front_face links values words l value)
      push_front_same h = change_same links values words h (push_call xor links values b l Front value) (push_refused xor links values b l Front value)

    pub face_pop_back_refused : (pop_back_face links values words l).answer.number ≢ 0 → NotPopped links values words (pop_back_face links values words l)
    face_pop_back_refused = pop_not links values words (pop_call xor links values b l Back) (pop_refused xor links values b l Back)

    pub face_pop_front_refused : (pop_front_face links values words l).answer.number ≢ 0 → NotPopped links values words (pop_front_face links values words l)
    face_pop_front_refused = pop_not links values words (pop_call xor links values b l Front) (pop_refused xor links values b l Front)

    pub pop_back_same : length words ≡ 43 → SamePop (pop_back_of links values (book_from words) l) (pop_back_face links values words l)
    pop_back_same h = pop_same links values words h (pop_call xor links values b l Back) (pop_refused xor links values b l Back)

    pub pop_front_same : length words ≡ 43 → SamePop (pop_front_of links values (book_from words) l) (pop_front_face links values words l)
    pop_front_same h = pop_same links values words h (pop_call xor links values b l Front) (pop_refused xor links values b l Front)

    pub face_clear_refused : (clear_face links values words l).answer.number ≢ 0 → NotChanged links values words (clear_face links values words l)
    face_clear_refused = change_not links values words (clear_call xor links values b l) (clear_refused xor links values b l)

    pub clear_same : length words ≡ 43 → SameChange (clear_of links values (book_from words) l) (clear_face links values words l)
    clear_same h = change_same links values words h (clear_call xor links values b l) (clear_refused xor links values b l)

    module _ (buffer : List ℕ) (at : ℕ) where
      pub read_forward_same : SameRead (read_forward_of links values (book_from words) l buffer at) (read_forward_face links values words l buffer at)
      read_forward_same = record { same_number = refl; same_place = refl; same_count = refl; same_buffer = refl }

      pub read_backward_same : SameRead (read_backward_of links values (book_from words) l buffer at) (read_backward_face links values words l buffer at)
      read_backward_same = record { same_number = refl; same_place = refl; same_count = refl; same_buffer = refl }

      pub face_read_forward_refused : (read_forward_face links values words l buffer at).number ≢ 0 → NotRead buffer (read_forward_face links values words l buffer at)
      face_read_forward_refused d =
          let R = read_refused xor links values b l Front buffer at d in
          record { no_count = R.no_count; buffer_stays = R.same_buffer }

      pub face_read_backward_refused : (read_backward_face links values words l buffer at).number ≢ 0 → NotRead buffer (read_backward_face links values words l buffer at)
      face_read_backward_refused d =
          let R = read_refused xor links values b l Back buffer at d in
          record { no_count = R.no_count; buffer_stays = R.same_buffer }
