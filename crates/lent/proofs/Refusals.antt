-- A lent call that is refused leaves the lent book and both slices as they were, and a refused pop hands out 0.
use mathlib.Core.Path.{◌≡◌, refl, ap, ◌∙◌}
use mathlib.Core.Logic.{◌≢◌}
use mathlib.Core.List.{List}
use Prim.Native.Nat.{ℕ}
use Rattle.books.specs.declared.Book.{Book}
use Rattle.books.specs.declared.Refusal.{Refusal}
use Rattle.books.specs.Book.{eight, book_of}
use Rattle.books.specs.Outcome.{Outcome, outcome}
use Rattle.shapes.specs.declared.End.TheVariants.{Front, Back}
use Rattle.books.specs.declared.Answer.{Answer}
use Rattle.books.specs.declared.Popped.{Popped}
use Rattle.books.specs.declared.Value.{Value}
use Rattle.engines.specs.Calls.{Called, push_call, pop_call}
use Rattle.xor.specs.Ten.{as_answer, as_popped, push_back_of, push_front_of, pop_back_of, pop_front_of}
use Rattle.engines.specs.Done.{Refused}
use Rattle.engines.proofs.Outcomes.{push_refused, pop_refused}
use Rattle.xor.specs.Engine.{xor}
use Rattle.lent.specs.Lent.{pushed, popped}

-- nothing is lost where an answer is put together
pub lent_pushed_plain : (r : Refusal) (k : Book) → ((pushed r k).refusal ≡ r) × ((pushed r k).book ≡ k)
lent_pushed_plain r k = (refl, refl)

pub lent_popped_plain : (r : Value) (k : Book) → ((popped r k).given ≡ r) × ((popped r k).book ≡ k)
lent_popped_plain r k = (refl, refl)

module _ {links values : List ℕ} {b : Book} (c : Called xor) (f : c.number ≢ 0 → Refused xor links values (eight b) c) {after left : List ℕ} {k : Book} where
  push_stays : {r : Refusal} → outcome (pushed r k) after left ≡ as_answer c → r.number ≢ 0 → (k ≡ b) × (after ≡ links) × (left ≡ values)
  push_stays e d =
      let R = f (λ z. d (ap (λ (x : Outcome Answer). x.answer.refusal.number) e ∙ z)) in (
        ap (λ (x : Outcome Answer). x.answer.book) e ∙ ap book_of R.same_book,
        ap (λ (x : Outcome Answer). x.links) e ∙ R.same_links,
        ap (λ (x : Outcome Answer). x.values) e ∙ R.same_values,
      )

  pop_stays : {r : Value} → outcome (popped r k) after left ≡ as_popped c → r.refusal.number ≢ 0 → (r.value ≡ 0) × (k ≡ b) × (after ≡ links) × (left ≡ values)
  pop_stays e d =
      let R = f (λ z. d (ap (λ (x : Outcome Popped). x.answer.given.refusal.number) e ∙ z)) in (
        ap (λ (x : Outcome Popped). x.answer.given.value) e ∙ R.no_value,
        ap (λ (x : Outcome Popped). x.answer.book) e ∙ ap book_of R.same_book,
        ap (λ (x : Outcome Popped). x.links) e ∙ R.same_links,
        ap (λ (x : Outcome Popped). x.values) e ∙ R.same_values,
      )

-- `r` is what a call returns, `k`, `after` and `left` the book and the slices that it leaves
module _ (links values : List ℕ) (b : Book) (l : ℕ) {after left : List ℕ} {k : Book} where
  pub lent_push_back_refused : (value : ℕ) {r : Refusal} → outcome (pushed r k) after left ≡ push_back_of links values b l value → r.number ≢ 0 → (k ≡ b) × (after ≡ links) × (left ≡ values)
  lent_push_back_refused value = push_stays (push_call xor links values (eight b) l Back value) (push_refused xor links values (eight b) l Back value)

  pub lent_push_front_refused : (value : ℕ) {r : Refusal} → outcome (pushed r k) after left ≡ push_front_of links values b l value → r.number ≢ 0 → (k ≡ b) × (after ≡ links) × (left ≡ values)
  lent_push_front_refused value = push_stays (push_call xor links values (eight b) l Front value) (push_refused xor links values (eight b) l Front value)

  pub lent_pop_back_refused : {r : Value} → outcome (popped r k) after left ≡ pop_back_of links values b l → r.refusal.number ≢ 0 → (r.value ≡ 0) × (k ≡ b) × (after ≡ links) × (left ≡ values)
  lent_pop_back_refused = pop_stays (pop_call xor links values (eight b) l Back) (pop_refused xor links values (eight b) l Back)

  pub lent_pop_front_refused : {r : Value} → outcome (popped r k) after left ≡ pop_front_of links values b l → r.refusal.number ≢ 0 → (r.value ≡ 0) × (k ≡ b) × (after ≡ links) × (left ≡ values)
  lent_pop_front_refused = pop_stays (pop_call xor links values (eight b) l Front) (pop_refused xor links values (eight b) l Front)
