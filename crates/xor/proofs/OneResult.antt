-- Two results that a promise allows are equal: of the slot layer and of a read, and of the ten calls by name.
use mathlib.Core.Path.{◌≡◌, refl, ap}
use mathlib.Core.Bool.{true≢false}
use mathlib.Core.List.{List}
use Prim.Native.Nat.{ℕ}
use Rattle.books.specs.declared.Book.{Book}
use Rattle.books.specs.declared.Refusal.{Refusal}
use Rattle.books.specs.Outcome.{outcome}
use Rattle.books.proofs.OneResult.{one_answer, one_outcome}
use Rattle.books.specs.declared.Answer.{Answer}
use Rattle.books.specs.declared.Popped.{Popped}
use Rattle.books.specs.declared.Length.{Length}
use Rattle.books.specs.declared.Read.{Read}
use Rattle.books.specs.declared.Free.{Free}
use Rattle.std.specs.Prelude.{Option, Some, None}
use Rattle.xor.specs.Slots.{Said, said_by}
use Rattle.xor.specs.Ten.{setup_of, check_of, length_of, push_back_of, push_front_of, pop_back_of, pop_front_of, read_forward_of, read_backward_of, clear_of}
use Rattle.shapes.specs.Tests.{ReadLeft, read_left}

-- the slot layer answers with an `Option`: what it says leaves no choice between its cases
pub taken_one : (free : Free) {o : Said} (r r' : Option (ℕ × Free)) → said_by free r ≡ o → said_by free r' ≡ o → r ≡ r'
taken_one free (Some (slot, rest)) (Some (slot', rest')) e f = let g = one_answer e f in λ i. Some ((g i).slot, (g i).free)
taken_one free (Some (slot, rest)) None e f = absurd (true≢false (ap (λ (x : Said). x.done) (one_answer e f)))
taken_one free None (Some (slot, rest)) e f = absurd (true≢false (ap (λ (x : Said). x.done) (one_answer f e)))
taken_one free None None e f = refl

-- a read's answer with the buffer
pub one_read : {o : ReadLeft} {r r' : Read} {buffer buffer' : List ℕ} → read_left r buffer ≡ o → read_left r' buffer' ≡ o → (r ≡ r') × (buffer ≡ buffer')
one_read e f =
    let g = one_answer e f in
    (ap (λ (x : ReadLeft). x.answer) g, ap (λ (x : ReadLeft). x.buffer) g)

-- ---- the ten calls: `after` and `left` are what one run leaves, with a mark what another does

module _ (links values : List ℕ) where
  pub setup_one : (lists : ℕ) (shares limits : List ℕ) {r r' : Answer} {after after' left left' : List ℕ}
      → outcome r after left ≡ setup_of links values lists shares limits → outcome r' after' left' ≡ setup_of links values lists shares limits
      → (r ≡ r') × (after ≡ after') × (left ≡ left')
  setup_one lists shares limits e f = one_outcome e f

  module _ (b : Book) where
    pub check_one : {r r' : Refusal} → r ≡ check_of links values b → r' ≡ check_of links values b → r ≡ r'
    check_one e f = one_answer e f

    module _ (l : ℕ) where
      pub length_one : {r r' : Length} → r ≡ length_of links values b l → r' ≡ length_of links values b l → r ≡ r'
      length_one e f = one_answer e f

      pub push_back_one : (value : ℕ) {r r' : Answer} {after after' left left' : List ℕ} → outcome r after left ≡ push_back_of links values b l value → outcome r' after' left' ≡ push_back_of links values b l value
          → (r ≡ r') × (after ≡ after') × (left ≡ left')
      push_back_one value e f = one_outcome e f

      pub push_front_one : (value : ℕ) {r r' : Answer} {after after' left left' : List ℕ} → outcome r after left ≡ push_front_of links values b l value → outcome r' after' left' ≡ push_front_of links values b l value
          → (r ≡ r') × (after ≡ after') × (left ≡ left')
      push_front_one value e f = one_outcome e f

      pub pop_back_one : {r r' : Popped} {after after' left left' : List ℕ} → outcome r after left ≡ pop_back_of links values b l → outcome r' after' left' ≡ pop_back_of links values b l
          → (r ≡ r') × (after ≡ after') × (left ≡ left')
      pop_back_one e f = one_outcome e f

      pub pop_front_one : {r r' : Popped} {after after' left left' : List ℕ} → outcome r after left ≡ pop_front_of links values b l → outcome r' after' left' ≡ pop_front_of links values b l
          → (r ≡ r') × (after ≡ after') × (left ≡ left')
      pop_front_one e f = one_outcome e f

      pub read_forward_one : (buffer : List ℕ) (at : ℕ) {r r' : Read} {left left' : List ℕ} → read_left r left ≡ read_forward_of links values b l buffer at → read_left r' left' ≡ read_forward_of links values b l buffer at
          → (r ≡ r') × (left ≡ left')
      read_forward_one buffer at e f = one_read e f

      pub read_backward_one : (buffer : List ℕ) (at : ℕ) {r r' : Read} {left left' : List ℕ} → read_left r left ≡ read_backward_of links values b l buffer at → read_left r' left' ≡ read_backward_of links values b l buffer at
          → (r ≡ r') × (left ≡ left')
      read_backward_one buffer at e f = one_read e f

      pub clear_one : {r r' : Answer} {after after' left left' : List ℕ} → outcome r after left ≡ clear_of links values b l → outcome r' after' left' ≡ clear_of links values b l
          → (r ≡ r') × (after ≡ after') × (left ≡ left')
      clear_one e f = one_outcome e f
