-- What each call on a list answers at each of its returns, told from what the functions that it calls promise.
use Rattle.std.specs.Prelude.{◌≡◌, ℕ, ◌<◌, ◌≢◌, List, [], length, take}
use mathlib.Core.Path.{refl, sym, ap, ◌∙◌}
use native.Mathlib.Omega.{arith}
use Rattle.books.specs.declared.Book.{Book}
use Rattle.books.specs.declared.Answer.{Answer}
use Rattle.books.specs.declared.Popped.{Popped}
use Rattle.books.specs.declared.Length.{Length}
use Rattle.books.specs.declared.Read.{Read}
use Rattle.books.specs.Place.{Place, refusal_of, numbered}
use Rattle.books.specs.declared.Refusal.{Refusal}
use Rattle.books.specs.Book.{entry_at, AnyBook, book_of, words_of}
use Rattle.books.specs.Words.{book_from}
use Rattle.books.proofs.Flat.{book_kept}
use Rattle.books.specs.Outcome.{outcome}
use Rattle.shapes.specs.declared.End.{End}
use Rattle.shapes.specs.Records.{ListChange}
use Rattle.shapes.specs.Shape.{stored_lacks}
use Rattle.shapes.specs.Records.{Looked}
use Rattle.shapes.specs.Ends.{near_of}
use Rattle.shapes.specs.Changes.{with_list}
use Rattle.shapes.specs.Faults.{answering}
use Rattle.shapes.specs.Numbers.{Test, first_that}
use Rattle.shapes.specs.Tests.{push_own_tests, pop_own_tests, read_own_tests, read_left, read_of}
use Rattle.engines.specs.Engine.{Step}
use Rattle.engines.specs.Reads.{count_read, buffer_after}
use Rattle.engines.specs.Calls.{found_of, not_called, stepped, on_list_of, length_call, push_call, pop_call, clear_call, read_call}
use Rattle.engines.specs.OnList.{OnList, on_list, push_on, pop_on, put_back}
use Rattle.engines.proofs.OnList.{push_on_list, pop_on_list}
use Rattle.engines.proofs.Looking.{on_list_place, own_place, on_list_found, read_count, by_list, by_call, goes}
use Rattle.xor.specs.Along.{clear_on_list}
use Rattle.xor.specs.Engine.{xor}
use Rattle.xor.specs.Ten.{as_answer, as_popped}
use Rattle.xor.proofs.Along.{clear_found}
use Rattle.xor.proofs.Lawful.{xor_lawful}

-- the book that its words are
pub words_book : {words : List ℕ} (book : Book) → length book.entries ≡ 8 → words ≡ words_of book → book_from words ≡ book
words_book book h w = ap book_from w ∙ book_kept book h

-- the answer of a call that changes the book, and of a pop
abbrev answer : Refusal → Book → Answer
answer refusal book = record { refusal = refusal; book = book }

abbrev popped : Refusal → ℕ → Book → Popped
popped refusal value book = record { given = record { refusal = refusal; value = value }; book = book }

-- `seen` is what the test of 1, 9 to 16 and 4 gave
module _ (links values : List ℕ) (b : AnyBook) (l : ℕ) (seen : Looked) (e : seen ≡ on_list_of xor links values b l) where
  -- the tests of a push, a pop and a read of their own
  abbrev many : ℕ
  many = (entry_at b.entries l).length

  abbrev push_own : List Test
  push_own = push_own_tests (entry_at b.entries l) many (stored_lacks (take b.lists b.entries)) b.free.count

  abbrev read_own : List ℕ → ℕ → List Test
  read_own buffer at = read_own_tests many (length buffer) at

  -- ---- 1, 9 to 16 or 4 applies

  module _ (d : seen.refusal.number ≢ 0) where
    applies : (on_list_of xor links values b l).refusal.number ≢ 0
    applies = rw e at d

    -- the answer, and what the call makes of its number
    whole : seen.refusal ≡ answering (found_of xor links values b).fault (on_list_of xor links values b l).refusal.number
    whole = ap (λ (x : Looked). x.refusal) e ∙ on_list_place xor links values b l applies

    pub length_early : ◌≡◌ {A = Length} (record { refusal = seen.refusal; length = 0 }) (length_call xor links values b l)
    unfolding length_call
    length_early = rw whole (sym (by_list xor links values b l [] _ _ applies))

    pub clear_early : outcome (answer seen.refusal (book_of b)) links values ≡ as_answer (clear_call xor links values b l)
    unfolding clear_call
    clear_early = rw whole (ap as_answer (sym (by_list xor links values b l [] _ (not_called xor links values b (found_of xor links values b).fault) applies)))

    pub push_early : (end : End) (value : ℕ) → outcome (answer seen.refusal (book_of b)) links values ≡ as_answer (push_call xor links values b l end value)
    unfolding push_call
    push_early end value = rw whole (ap as_answer (sym (by_list xor links values b l push_own _ (not_called xor links values b (found_of xor links values b).fault) applies)))

    pub pop_early : (end : End) {r : Popped} → r ≡ popped seen.refusal 0 (book_of b) → outcome r links values ≡ as_popped (pop_call xor links values b l end)
    unfolding pop_call
    pop_early end p = rw (p, whole) (ap as_popped (sym (by_list xor links values b l (pop_own_tests many) _ (not_called xor links values b (found_of xor links values b).fault) applies)))

    pub read_early : (end : End) (buffer : List ℕ) (at : ℕ) {r : Read} → r ≡ read_of seen.refusal 0 → read_left r buffer ≡ read_call xor links values b l end buffer at
    unfolding read_call
    read_early end buffer at p = rw (p, whole) (sym (by_list xor links values b l (read_own buffer at) _ (λ n. read_left (read_of (answering (found_of xor links values b).fault n) 0) buffer) applies))

  -- ---- none of them applies

  module _ (z : seen.refusal.number ≡ 0) where
    passes : (on_list_of xor links values b l).refusal.number ≡ 0
    passes = rw e at z

    found : seen.found ≡ found_of xor links values b
    found = ap (λ (r : Looked). r.found) e ∙ on_list_found xor links values b l passes

    -- the length is the book's own
    pub length_went : {n : ℕ} → n ≡ many → ◌≡◌ {A = Length} (record { refusal = numbered 0; length = n }) (length_call xor links values b l)
    unfolding length_call
    length_went h = rw h (sym (goes xor links values b l [] _ _ passes refl))

    -- a push, a pop and a clear on the list, put back into the book
    module _ {k : ℕ} (p : k ≡ l) {r : ListChange} {new_links new_values : List ℕ} {after : Book} (h : after ≡ book_of (with_list b k r.entry r.free)) (end : End) where
      pub push_put : (value : ℕ)
          → on_list r 0 new_links new_values ≡ push_on xor links values (entry_at b.entries k) b.free seen.found.lacks end value
          → outcome (answer (numbered r.number) after) new_links new_values ≡ as_answer (push_call xor links values b l end value)
      push_put value q =
          rw (h, p) (ap (λ (x : OnList xor). as_answer (put_back b l x)) (rw (p, found) at q) ∙ ap as_answer (sym (push_on_list xor links values b l passes xor_lawful end value)))

      pub pop_put : {value : ℕ} {whole : Popped} → whole ≡ popped (numbered r.number) value after
          → on_list r value new_links new_values ≡ pop_on xor links values (entry_at b.entries k) b.free end
          → outcome whole new_links new_values ≡ as_popped (pop_call xor links values b l end)
      pop_put w q =
          rw (w, h, p) (ap (λ (x : OnList xor). as_popped (put_back b l x)) (rw p at q) ∙ ap as_popped (sym (pop_on_list xor links values b l passes xor_lawful end)))

    pub clear_put : {k : ℕ} → k ≡ l → {r : ListChange} {new_links new_values : List ℕ} {after : Book} → after ≡ book_of (with_list b k r.entry r.free)
        → on_list r 0 new_links new_values ≡ clear_on_list links values (entry_at b.entries k) b.free
        → outcome (answer (numbered r.number) after) new_links new_values ≡ as_answer (clear_call xor links values b l)
    unfolding clear_call clear_on_list
    clear_put p h q =
        let (cleared-so, fits) = clear_found links values b l passes in
        rw (h, p)
        (ap (λ (x : OnList xor). as_answer (put_back b l x)) (rw (p, fits) at q)
        ∙ ap (λ (x : Step (List ℕ)). as_answer (stepped xor links values b l 0 x)) (sym cleared-so)
        ∙ ap as_answer (sym (goes xor links values b l [] _ (not_called xor links values b (found_of xor links values b).fault) passes refl)))

    -- a read's
    module _ (end : End) (buffer : List ℕ) (at : ℕ) {n : ℕ} (m : n ≡ many) (number : ℕ) (t : number ≡ first_that (read_own_tests n (length buffer) at)) where
      own_read : number ≡ first_that (read_own buffer at)
      own_read = t ∙ ap (λ (k : ℕ). first_that (read_own_tests k (length buffer) at)) m

      pub read_full : number ≢ 0 → {r : Read} → r ≡ read_of (numbered number) 0 → read_left r buffer ≡ read_call xor links values b l end buffer at
      unfolding read_call
      read_full d h =
          let k = rw own_read at d in
          let p = own_place xor links values b l _ k passes in
          rw (h, own_read)
          (ap (λ (x : Place). read_left (read_of (refusal_of (first_that (read_own buffer at)) x) 0) buffer) (sym p)
          ∙ sym (by_call xor links values b l (read_own buffer at) _ (λ n. read_left (read_of (answering (found_of xor links values b).fault n) 0) buffer) passes k))

      module _ (done : number ≡ 0) (k start : ℕ) (p : k ≡ l) (s : start ≡ near_of end (entry_at b.entries k)) where
        from : start ≡ near_of end (entry_at b.entries l)
        from = rw p at s

        pub read_count_fits : {count : ℕ} → count ≡ count_read xor end links values start buffer at → count < 65536
        read_count_fits h = omega (arith, h, ap (λ (x : ℕ). count_read xor end links values x buffer at) from, read_count xor links values b l xor_lawful end buffer at passes (sym own_read ∙ done))

        pub read_went : {count : ℕ} {left : List ℕ} → (count ≡ count_read xor end links values start buffer at) × (left ≡ buffer_after xor end links values start buffer at)
            → read_left (read_of (numbered 0) count) left ≡ read_call xor links values b l end buffer at
        unfolding read_call
        read_went (h, g) =
            rw (h, g, from) (sym (goes xor links values b l (read_own buffer at) _ (λ n. read_left (read_of (answering (found_of xor links values b).fault n) 0) buffer) passes (sym own_read ∙ done)))
