-- What a call on a list of the C face answers and keeps in the lent words, told from what the same call answers by value.
use Rattle.std.specs.Prelude.{◌≡◌, ◌≢◌, ℕ, List, Result, Ok, Err, IsErrAnd}
use mathlib.Core.Path.{refl, sym, ap, ◌∙◌}
use Rattle.books.specs.declared.Answer.{Answer}
use Rattle.books.specs.declared.Popped.{Popped}
use Rattle.books.specs.declared.Entry.{Entry}
use Rattle.books.specs.declared.Number.{Number}
use Rattle.books.specs.declared.Refused.{Refused}
use Rattle.books.specs.Book.{eight, book_of, entry_at, words_of}
use Rattle.books.specs.Errors.{error_number, number_by, refusal_told, refused_by_number}
use Rattle.books.specs.Outcome.{Outcome, outcome}
use Rattle.books.specs.Place.{place_in, no_place}
use Rattle.books.specs.Words.{book_from}
use Rattle.shapes.specs.declared.Chains.{Chains}
use Rattle.shapes.specs.Changes.{with_list}
use Rattle.pools.specs.Kept.{with_ends}
use Rattle.pools.proofs.Found.{handed_on}
use Rattle.shares.specs.Answers.{answer_by, popped_answer_by}
use Rattle.shares.proofs.Listed.{refused_there}
use Rattle.engines.specs.Calls.{pop_call}
use Rattle.engines.proofs.Outcomes.{pop_refused}
use Rattle.shapes.specs.declared.End.{End}
use Rattle.xor.specs.Engine.{xor}
use Rattle.xor.specs.Ten.{as_popped}
use Rattle.faces.proofs.Kept.{kept_done, kept_refused}
use Rattle.faces.specs.Face.{Handed, changed, handed, as_changed, as_handed}
use Rattle.faces.specs.Quick.{quick_pushed, quick_popped, as_quick_pushed, as_quick_popped}
use Rattle.abi.proofs.Thin.{changed_by, handed_by, quick_pushed_by, quick_popped_by}
use Rattle.abi.proofs.Granted.{Granted, ends_again}

module _ (words : List ℕ) (l : ℕ) {links values : List ℕ} where
  -- ---- a refused call keeps the words

  module _ (refused : Refused) (r : Result (Unit {0}) Refused) (h : IsErrAnd r (λ x. x ≡ refused)) where
    pub change_stops : {o : Outcome Answer} → outcome (answer_by (book_from words) l (Err refused)) links values ≡ o
        → outcome (changed (refusal_told r).number (place_in (refusal_told r)) words) links values ≡ as_changed words o
    change_stops g = rw (handed_on r refused h) (changed_by words refl refl (sym (kept_refused _ _ _ (refused_there refused))) g)

    pub pop_kept_stops : {value : ℕ} {o : Outcome Popped} → outcome (popped_answer_by (book_from words) l (Err refused) value) links values ≡ o
        → outcome (handed (refusal_told r).number (place_in (refusal_told r)) value words) links values ≡ as_handed words o
    pop_kept_stops g = rw (handed_on r refused h) (handed_by words refl refl refl (sym (kept_refused _ _ _ (refused_there refused))) g)

  -- of a quick call, which has no place
  module _ (number : Number) (r : Result (Unit {0}) Number) (h : IsErrAnd r (λ x. x ≡ number)) where
    pub quick_push_stops : {o : Outcome Answer} → outcome (answer_by (book_from words) l (Err (refused_by_number number))) links values ≡ o
        → outcome (quick_pushed (number_by r) words) links values ≡ as_quick_pushed words o
    quick_push_stops g = rw (handed_on r number h) (quick_pushed_by words refl (sym (kept_refused _ _ _ (refused_there (refused_by_number number)))) g)

    pub quick_pop_stops : {value : ℕ} {o : Outcome Popped} → outcome (popped_answer_by (book_from words) l (Err (refused_by_number number)) value) links values ≡ o
        → outcome (quick_popped (number_by r) value words) links values ≡ as_quick_popped words o
    quick_pop_stops g = rw (handed_on r number h) (quick_popped_by words refl refl (sym (kept_refused _ _ _ (refused_there (refused_by_number number)))) g)

-- ---- a done call keeps the list's ends and length and the free record

module _ (words : List ℕ) (l : ℕ) (after : Chains) {kept_words : List ℕ} (w : kept_words ≡ words_of (book_of (with_list (eight (book_from words)) l (with_ends after.list.head after.list.tail after.list.length (entry_at (book_from words).entries l)) after.idle))) (g : Granted (entry_at (book_from words).entries l) after.list) where
  whole : kept_words ≡ words_of (answer_by (book_from words) l (Ok after)).book
  whole = w ∙ ap (λ (e : Entry). words_of (book_of (with_list (eight (book_from words)) l e after.idle))) (ends_again after.list (entry_at (book_from words).entries l) g)

  module _ {links values : List ℕ} where
    pub change_done : {o : Outcome Answer} → outcome (answer_by (book_from words) l (Ok after)) links values ≡ o → outcome (changed 0 no_place kept_words) links values ≡ as_changed words o
    change_done q = changed_by words refl refl (whole ∙ sym (kept_done _ _ _ refl)) q

    pub pop_kept_done : {value : ℕ} {o : Outcome Popped} → outcome (popped_answer_by (book_from words) l (Ok after) value) links values ≡ o → outcome (handed 0 no_place value kept_words) links values ≡ as_handed words o
    pop_kept_done q = handed_by words refl refl refl (whole ∙ sym (kept_done _ _ _ refl)) q

    pub quick_push_done : {o : Outcome Answer} → outcome (answer_by (book_from words) l (Ok after)) links values ≡ o → outcome (quick_pushed 0 kept_words) links values ≡ as_quick_pushed words o
    quick_push_done q = quick_pushed_by words refl (whole ∙ sym (kept_done _ _ _ refl)) q

    pub quick_pop_done : {value : ℕ} {o : Outcome Popped} → outcome (popped_answer_by (book_from words) l (Ok after) value) links values ≡ o → outcome (quick_popped 0 value kept_words) links values ≡ as_quick_popped words o
    quick_pop_done q = quick_popped_by words refl refl (whole ∙ sym (kept_done _ _ _ refl)) q

-- a refused pop writes 0 to the lent word, so that a 0 there changes nothing
module _ (links values words : List ℕ) (l : ℕ) (end : End) where
  pub none_handed : (o : Outcome Handed) → o ≡ as_handed words (as_popped (pop_call xor links values (eight (book_from words)) l end)) → o.answer.number ≢ 0
      → outcome (handed o.answer.number o.answer.place 0 o.answer.book) o.links o.values ≡ as_handed words (as_popped (pop_call xor links values (eight (book_from words)) l end))
  none_handed o e d =
      ap (λ (v : ℕ). outcome (handed o.answer.number o.answer.place v o.answer.book) o.links o.values)
      (sym (ap (λ (x : Outcome Handed). x.answer.value) e ∙ (pop_refused xor links values (eight (book_from words)) l end (λ z. d (ap (λ (x : Outcome Handed). x.answer.number) e ∙ z))).no_value))
      ∙ e
