-- 02 a) of the lent calls, from their promises: a push and the pop that follows it at that end, and a pop and the push that puts back what it handed out.
use mathlib.Core.Path.{◌≡◌, sym, ap, subst, ◌∙◌}
use mathlib.Core.List.{List}
use Prim.Native.Nat.{ℕ}
use Rattle.books.specs.declared.Book.{Book}
use Rattle.books.specs.declared.Refusal.{Refusal}
use Rattle.books.specs.declared.Value.{Value}
use Rattle.books.specs.declared.Answer.{Answer}
use Rattle.books.specs.declared.Popped.{Popped}
use Rattle.books.specs.Outcome.{Outcome, outcome}
use Rattle.xor.specs.Ten.{push_back_of, push_front_of, pop_back_of, pop_front_of}
use Rattle.xor.specs.Undo.{TakenBack, PutBack, TakenHeld, PutHeld}
use Rattle.xor.proofs.Undo.{push_back_undone, push_front_undone, pop_back_undone, pop_front_undone, push_back_held, push_front_held, pop_back_held, pop_front_held}
use Rattle.lent.specs.Lent.{pushed, popped}

-- `k`, `after` and `left` are the book and the slices that the first call leaves, with a mark those that the second leaves
module _ (links values : List ℕ) (b : Book) (l : ℕ) {after left after' left' : List ℕ} {k k' : Book} {r : Refusal} {g : Value} where
  -- what holds of the by-value calls, one after the other, holds of the lent ones
  popped_next : (o : Outcome Answer) (next : List ℕ → List ℕ → Book → ℕ → Outcome Popped) (P : Outcome Popped → Type 0) → (o.answer.refusal.number ≡ 0 → P (next o.links o.values o.answer.book l))
      → outcome (pushed r k) after left ≡ o → r.number ≡ 0 → outcome (popped g k') after' left' ≡ next after left k l → P (outcome (popped g k') after' left')
  popped_next o next P law e z f =
      subst P (sym (f ∙ (λ i. next (e i).links (e i).values (e i).answer.book l))) (law (sym (ap (λ (x : Outcome Answer). x.answer.refusal.number) e) ∙ z))

  pushed_next : (o : Outcome Popped) (next : List ℕ → List ℕ → Book → ℕ → ℕ → Outcome Answer) (P : Outcome Answer → Type 0)
      → (o.answer.given.refusal.number ≡ 0 → P (next o.links o.values o.answer.book l o.answer.given.value))
      → outcome (popped g k) after left ≡ o → g.refusal.number ≡ 0 → outcome (pushed r k') after' left' ≡ next after left k l g.value → P (outcome (pushed r k') after' left')
  pushed_next o next P law e z f =
      subst P (sym (f ∙ (λ i. next (e i).links (e i).values (e i).answer.book l (e i).answer.given.value))) (law (sym (ap (λ (x : Outcome Popped). x.answer.given.refusal.number) e) ∙ z))

  -- ---- everything is as it was

  pub lent_push_back_undone : (value : ℕ) → outcome (pushed r k) after left ≡ push_back_of links values b l value → r.number ≡ 0
      → outcome (popped g k') after' left' ≡ pop_back_of after left k l → TakenBack links values b value (outcome (popped g k') after' left')
  lent_push_back_undone value = popped_next _ pop_back_of (TakenBack links values b value) (push_back_undone links values b l value)

  pub lent_push_front_undone : (value : ℕ) → outcome (pushed r k) after left ≡ push_front_of links values b l value → r.number ≡ 0
      → outcome (popped g k') after' left' ≡ pop_front_of after left k l → TakenBack links values b value (outcome (popped g k') after' left')
  lent_push_front_undone value = popped_next _ pop_front_of (TakenBack links values b value) (push_front_undone links values b l value)

  pub lent_pop_back_undone : outcome (popped g k) after left ≡ pop_back_of links values b l → g.refusal.number ≡ 0
      → outcome (pushed r k') after' left' ≡ push_back_of after left k l g.value → PutBack links values b (outcome (pushed r k') after' left')
  lent_pop_back_undone = pushed_next _ push_back_of (PutBack links values b) (pop_back_undone links values b l)

  pub lent_pop_front_undone : outcome (popped g k) after left ≡ pop_front_of links values b l → g.refusal.number ≡ 0
      → outcome (pushed r k') after' left' ≡ push_front_of after left k l g.value → PutBack links values b (outcome (pushed r k') after' left')
  lent_pop_front_undone = pushed_next _ push_front_of (PutBack links values b) (pop_front_undone links values b l)

  -- ---- the weaker law of each: what the lists hold, and how many slots are free

  pub lent_push_back_held : (value : ℕ) → outcome (pushed r k) after left ≡ push_back_of links values b l value → r.number ≡ 0
      → outcome (popped g k') after' left' ≡ pop_back_of after left k l → TakenHeld links values b value (outcome (popped g k') after' left')
  lent_push_back_held value = popped_next _ pop_back_of (TakenHeld links values b value) (push_back_held links values b l value)

  pub lent_push_front_held : (value : ℕ) → outcome (pushed r k) after left ≡ push_front_of links values b l value → r.number ≡ 0
      → outcome (popped g k') after' left' ≡ pop_front_of after left k l → TakenHeld links values b value (outcome (popped g k') after' left')
  lent_push_front_held value = popped_next _ pop_front_of (TakenHeld links values b value) (push_front_held links values b l value)

  pub lent_pop_back_held : outcome (popped g k) after left ≡ pop_back_of links values b l → g.refusal.number ≡ 0
      → outcome (pushed r k') after' left' ≡ push_back_of after left k l g.value → PutHeld links values b (outcome (pushed r k') after' left')
  lent_pop_back_held = pushed_next _ push_back_of (PutHeld links values b) (pop_back_held links values b l)

  pub lent_pop_front_held : outcome (popped g k) after left ≡ pop_front_of links values b l → g.refusal.number ≡ 0
      → outcome (pushed r k') after' left' ≡ push_front_of after left k l g.value → PutHeld links values b (outcome (pushed r k') after' left')
  lent_pop_front_held = pushed_next _ push_front_of (PutHeld links values b) (pop_front_held links values b l)
