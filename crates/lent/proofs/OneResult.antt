-- Two results that the promise of a lent call allows are equal: what it returns, the book at exit, and both slices.
use mathlib.Core.Path.{◌≡◌, ap}
use mathlib.Core.List.{List}
use Prim.Native.Nat.{ℕ}
use Rattle.books.specs.declared.Book.{Book}
use Rattle.books.specs.declared.Refusal.{Refusal}
use Rattle.books.specs.Outcome.{outcome}
use Rattle.books.specs.declared.Answer.{Answer}
use Rattle.books.specs.declared.Popped.{Popped}
use Rattle.books.specs.declared.Value.{Value}
use Rattle.xor.specs.Ten.{push_back_of, push_front_of, pop_back_of, pop_front_of}
use Rattle.xor.proofs.OneResult.{push_back_one, push_front_one, pop_back_one, pop_front_one}
use Rattle.lent.specs.Lent.{pushed, popped}

-- the answers of the by-value calls come apart again
module _ {after after' left left' : List ℕ} {k k' : Book} where
  push_parts : {r r' : Refusal} → (pushed r k ≡ pushed r' k') × (after ≡ after') × (left ≡ left') → (r ≡ r') × (k ≡ k') × (after ≡ after') × (left ≡ left')
  push_parts e = (ap (λ (x : Answer). x.refusal) e.0, ap (λ (x : Answer). x.book) e.0, e.1, e.2)

  pop_parts : {r r' : Value} → (popped r k ≡ popped r' k') × (after ≡ after') × (left ≡ left') → (r ≡ r') × (k ≡ k') × (after ≡ after') × (left ≡ left')
  pop_parts e = (ap (λ (x : Popped). x.given) e.0, ap (λ (x : Popped). x.book) e.0, e.1, e.2)

-- `k`, `after` and `left` are the book and the slices that one run leaves, with a mark those of another
module _ (links values : List ℕ) (b : Book) (l : ℕ) {after after' left left' : List ℕ} {k k' : Book} where
  pub lent_push_back_one : (value : ℕ) {r r' : Refusal} → outcome (pushed r k) after left ≡ push_back_of links values b l value → outcome (pushed r' k') after' left' ≡ push_back_of links values b l value
      → (r ≡ r') × (k ≡ k') × (after ≡ after') × (left ≡ left')
  lent_push_back_one value e f = push_parts (push_back_one links values b l value e f)

  pub lent_push_front_one : (value : ℕ) {r r' : Refusal} → outcome (pushed r k) after left ≡ push_front_of links values b l value → outcome (pushed r' k') after' left' ≡ push_front_of links values b l value
      → (r ≡ r') × (k ≡ k') × (after ≡ after') × (left ≡ left')
  lent_push_front_one value e f = push_parts (push_front_one links values b l value e f)

  pub lent_pop_back_one : {r r' : Value} → outcome (popped r k) after left ≡ pop_back_of links values b l → outcome (popped r' k') after' left' ≡ pop_back_of links values b l
      → (r ≡ r') × (k ≡ k') × (after ≡ after') × (left ≡ left')
  lent_pop_back_one e f = pop_parts (pop_back_one links values b l e f)

  pub lent_pop_front_one : {r r' : Value} → outcome (popped r k) after left ≡ pop_front_of links values b l → outcome (popped r' k') after' left' ≡ pop_front_of links values b l
      → (r ≡ r') × (k ≡ k') × (after ≡ after') × (left ≡ left')
  lent_pop_front_one e f = pop_parts (pop_front_one links values b l e f)
