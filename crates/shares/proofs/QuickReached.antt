-- What each quick call answers at each of its returns, told from what the functions that it calls promise.
use Rattle.std.specs.Prelude.{◌≡◌, ℕ, ◌<◌, ◌≢◌, List, length, take}
use mathlib.Core.Path.{sym, ap, ◌∙◌}
use native.Mathlib.Omega.{arith}
use Rattle.books.specs.declared.Book.{Book}
use Rattle.books.specs.declared.Answer.{Answer}
use Rattle.books.specs.declared.Popped.{Popped}
use Rattle.books.specs.declared.Refusal.{Refusal}
use Rattle.books.specs.Place.{numbered}
use Rattle.books.specs.Book.{entry_at, AnyBook, eight, book_of, words_of}
use Rattle.books.specs.Words.{book_from}
use Rattle.books.specs.Outcome.{outcome}
use Rattle.shapes.specs.declared.End.{End}
use Rattle.shapes.specs.Records.{ListChange}
use Rattle.shapes.specs.Shape.{stored_lacks}
use Rattle.shapes.specs.Changes.{with_list}
use Rattle.shapes.specs.Numbers.{first_that}
use Rattle.engines.specs.OnList.{OnList, on_list, put_back}
use Rattle.engines.specs.Quick.{quick_list_tests, quick_push_on, quick_pop_on, quick_push, quick_pop}
use Rattle.engines.proofs.QuickGiven.{quick_passed, quick_early, quick_push_on_list, quick_pop_on_list}
use Rattle.xor.specs.Engine.{xor}
use Rattle.xor.specs.Ten.{as_answer, as_popped}
use Rattle.shares.proofs.Reached.{words_book}

-- the answer of a push, and of a pop
abbrev answer : Refusal → Book → Answer
answer refusal book = record { refusal = refusal; book = book }

abbrev popped : Refusal → ℕ → Book → Popped
popped refusal value book = record { given = record { refusal = refusal; value = value }; book = book }

-- the first tests on the words of a book are those on the book, and so is what the lists lack
module _ (links values : List ℕ) {words : List ℕ} (book : Book) (l : ℕ) (h : length book.entries ≡ 8) (w : words ≡ words_of book) where
  pub early_of_words : {n : ℕ} → n ≡ first_that (quick_list_tests xor links values (eight (book_from words)) l) → n ≡ first_that (quick_list_tests xor links values (eight book) l)
  early_of_words e = e ∙ ap (λ (b : Book). first_that (quick_list_tests xor links values (eight b) l)) (words_book book h w)

  pub lacks_of_words : {n : ℕ} → n ≡ stored_lacks (take (book_from words).lists (book_from words).entries) → n ≡ stored_lacks (take book.lists book.entries)
  lacks_of_words e = e ∙ ap (λ (b : Book). stored_lacks (take b.lists b.entries)) (words_book book h w)

-- `number` is what the first tests gave
module _ (links values : List ℕ) (b : AnyBook) (l : ℕ) {number : ℕ} (e : number ≡ first_that (quick_list_tests xor links values b l)) where
  -- ---- one of them applies

  module _ (d : number ≢ 0) (end : End) {refusal : Refusal} (p : refusal ≡ numbered number) where
    pub quick_push_early : (value : ℕ) → outcome (answer refusal (book_of b)) links values ≡ as_answer (quick_push xor links values b l end value)
    unfolding quick_push
    quick_push_early value = rw (p, e) (ap as_answer (sym (quick_early xor links values b l _ _ (λ z. d (e ∙ z)))))

    pub quick_pop_early : {r : Popped} → r ≡ popped refusal 0 (book_of b) → outcome r links values ≡ as_popped (quick_pop xor links values b l end)
    unfolding quick_pop
    quick_pop_early q = rw (q, p, e) (ap as_popped (sym (quick_early xor links values b l _ _ (λ z. d (e ∙ z)))))

  -- ---- none of them does

  module _ (z : number ≡ 0) where
    -- the list has a place in the book
    pub quick_inside : {k : ℕ} → k ≡ l → k < b.places
    quick_inside p = let P = quick_passed xor links values b l (sym e ∙ z) in omega (arith, p, P.listed, P.inside)

    -- what runs on the list, put back into the book
    module _ {k : ℕ} (p : k ≡ l) {r : ListChange} {new_links new_values : List ℕ} {after : Book} (h : after ≡ book_of (with_list b k r.entry r.free)) (end : End) {refusal : Refusal} (s : refusal ≡ numbered r.number) where
      pub quick_push_put : (value : ℕ) {lacks : ℕ} → lacks ≡ stored_lacks (take b.lists b.entries)
          → on_list r 0 new_links new_values ≡ quick_push_on xor end links values (entry_at b.entries k) b.free lacks value
          → outcome (answer refusal after) new_links new_values ≡ as_answer (quick_push xor links values b l end value)
      quick_push_put value a q =
          rw (s, h, p) (ap (λ (x : OnList xor). as_answer (put_back b l x)) (rw (p, a) at q) ∙ ap as_answer (sym (quick_push_on_list xor links values b l (sym e ∙ z) end value)))

      pub quick_pop_put : {value : ℕ} {whole : Popped} → whole ≡ popped refusal value after
          → on_list r value new_links new_values ≡ quick_pop_on xor end links values (entry_at b.entries k) b.free
          → outcome whole new_links new_values ≡ as_popped (quick_pop xor links values b l end)
      quick_pop_put w q =
          rw (w, s, h, p) (ap (λ (x : OnList xor). as_popped (put_back b l x)) (rw p at q) ∙ ap as_popped (sym (quick_pop_on_list xor links values b l (sym e ∙ z) end)))
