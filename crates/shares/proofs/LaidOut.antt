-- Setup from what `lay_out` leaves: which book goes with which number.
use Rattle.std.specs.Prelude.{◌≡◌, ℕ, ◌-◌, ◌%◌, ◌≤◌, ◌≢◌, List, length}
use mathlib.Core.Path.{refl, sym, ap, ◌∙◌}
use native.Mathlib.Omega.{arith, div_fact, mod_fact}
use native.Mathlib.Decide.{ℕ_discrete}
use Rattle.books.specs.declared.Book.{Book}
use Rattle.books.specs.Place.{Place, no_place, refusal_of, numbered}
use Rattle.books.specs.Book.{most_lists, zero_book, book_of}
use Rattle.books.specs.Outcome.{outcome}
use Rattle.shapes.specs.Numbers.{first_that}
use Rattle.shapes.proofs.Numbers.{decided_refused, decided_done, decided_ind}
use Rattle.engines.specs.Calls.{Called, fresh_book_of, zero_book_of, setup_tests, set_up, setup_call}
use Rattle.engines.specs.OnList.{LaidOut, laid_out, lay_out_of}
use Rattle.engines.proofs.Fresh.{setup_sound, setup_keeps}
use Rattle.xor.proofs.Lawful.{xor_lawful}
use Rattle.xor.specs.Engine.{xor}
use Rattle.xor.specs.Ten.{setup_of}

module _ (links values : List ℕ) (lists : ℕ) (shares limits : List ℕ) where
  abbrev call : Called xor
  call = setup_call xor most_lists links values lists shares limits

  -- which book goes with which number
  book_of_lem : (r : ℕ) (book : Book) → r ≡ call.number → (r ≢ 0 → book ≡ zero_book) → (r ≡ 0 → book ≡ book_of (fresh_book_of (length links - 1) most_lists lists shares limits)) → book ≡ book_of call.book
  unfolding setup_call
  book_of_lem r book e f g = go (ℕ_discrete (first_that (setup_tests xor most_lists links values lists shares limits)) 0)
    where
      refused : ℕ → Called xor
      refused n = record { number = n; place = no_place; value = 0; book = zero_book_of most_lists; links = links; values = values }

      go : Dec (first_that (setup_tests xor most_lists links values lists shares limits) ≡ 0) → book ≡ book_of call.book
      go (yes z) =
          let d = decided_done (set_up xor most_lists links values lists shares limits) refused (setup_tests xor most_lists links values lists shares limits) z in
          g (e ∙ ap (λ (x : Called xor). x.number) d) ∙ sym (ap (λ (x : Called xor). book_of x.book) d)
      go (no n) =
          let d = decided_refused (set_up xor most_lists links values lists shares limits) refused (setup_tests xor most_lists links values lists shares limits) n in
          f (λ z. n (sym (ap (λ (x : Called xor). x.number) d) ∙ sym e ∙ z)) ∙ sym (ap (λ (x : Called xor). book_of x.book) d)

  -- setup sets no place
  unplaced : call.place ≡ no_place
  unfolding setup_call
  unplaced = decided_ind _ _ (λ (x : Called xor). x.place ≡ no_place) (setup_tests xor most_lists links values lists shares limits) (λ k. refl) (λ k. refl)

  pub setup_whole : {r : ℕ} {l v : List ℕ} (book : Book) → laid_out {E = xor} r l v ≡ lay_out_of xor most_lists links values lists shares limits
      → (r ≢ 0 → book ≡ zero_book) → (r ≡ 0 → book ≡ book_of (fresh_book_of (length links - 1) most_lists lists shares limits))
      → outcome (record { refusal = numbered r; book = book }) l v ≡ setup_of links values lists shares limits
  setup_whole {r} {l} {v} book q f g =
      ap (λ (b : Book). outcome (record { refusal = numbered r; book = b }) l v) (book_of_lem r book (ap (λ (x : LaidOut xor). x.number) q) f g)
      ∙ ap (λ (x : LaidOut xor). outcome (record { refusal = numbered x.number; book = book_of call.book }) x.links x.values) q
      ∙ ap (λ (p : Place). outcome (record { refusal = refusal_of call.number p; book = book_of call.book }) call.links call.values) (sym unplaced)

  -- after a done setup all slots but the null slot are free, in 16 bits
  pub free_told : {r size free : ℕ} {l v : List ℕ} → laid_out {E = xor} r l v ≡ lay_out_of xor most_lists links values lists shares limits → r ≡ 0 → size ≡ length links → free ≡ (size - 1) % 65536 → free ≡ length links - 1
  free_told {r} {size} {free} q z n f =
      let fit = (setup_sound xor_lawful most_lists links values lists shares limits (sym (ap (λ (x : LaidOut xor). x.number) q) ∙ z)).pool.fit in
      let most : length links ≤ 4096 = rw (setup_keeps xor_lawful most_lists links values lists shares limits (sym (ap (λ (x : LaidOut xor). x.number) q) ∙ z)).same_size at fit.size.most in
      omega (arith, f, n, most, div_fact (size - 1) 65535, mod_fact (size - 1) 65535)
