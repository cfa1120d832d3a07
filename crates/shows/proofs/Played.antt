-- One call after the other: the next on what the last one left, or none after a refusal.
use mathlib.Core.Path.{◌≡◌, ap, ◌∙◌}
use mathlib.Core.List.{List}
use Prim.Native.Nat.{ℕ}
use borrow.Author.Tests.{eq-eqb, ne_eqb}
use Rattle.books.specs.declared.Book.{Book}
use Rattle.books.specs.Outcome.{Outcome}
use Rattle.books.specs.declared.Answer.{Answer}
use Rattle.books.specs.declared.Popped.{Popped}
use Rattle.xor.specs.Ten.{setup_of, push_back_of, push_front_of, pop_back_of, pop_front_of}
use Rattle.shows.specs.Demo.{five, next_back, next_front, next_pop, pushed_of, gone_of, popped_of}

-- ---- pushes

module _ (value : ℕ) (r : Outcome Answer) where
  module _ (h : r.answer.refusal.number ≡ 0 → ⊥) where
    pub back_stops : next_back value r ≡ r
    unfolding next_back
    back_stops = rw (ne_eqb r.answer.refusal.number 0 h)

    pub front_stops : next_front value r ≡ r
    unfolding next_front
    front_stops = rw (ne_eqb r.answer.refusal.number 0 h)

  module _ (z : r.answer.refusal.number ≡ 0) where
    pub back_goes : {q : Outcome Answer} → q ≡ push_back_of r.links r.values r.answer.book 0 value → q ≡ next_back value r
    unfolding next_back
    back_goes e = rw (eq-eqb r.answer.refusal.number 0 z) e

    pub front_goes : {q : Outcome Answer} → q ≡ push_front_of r.links r.values r.answer.book 0 value → q ≡ next_front value r
    unfolding next_front
    front_goes e = rw (eq-eqb r.answer.refusal.number 0 z) e

-- the calls one after the other
pub pushed_by : (links values : List ℕ) {o p q r : Outcome Answer} → o ≡ setup_of links values 1 five five → p ≡ next_back 2 o → q ≡ next_back 3 p → r ≡ next_front 1 q → r ≡ pushed_of links values
unfolding pushed_of
pushed_by links values a b c d = d ∙ ap (next_front 1) (c ∙ ap (next_back 3) (b ∙ ap (next_back 2) a))

-- ---- pops

module _ (r : Outcome Popped) where
  pub pop_stops : (r.answer.given.refusal.number ≡ 0 → ⊥) → next_pop r ≡ r
  unfolding next_pop
  pop_stops h = rw (ne_eqb r.answer.given.refusal.number 0 h)

  pub pop_goes_lem : r.answer.given.refusal.number ≡ 0 → {q : Outcome Popped} → q ≡ pop_front_of r.links r.values r.answer.book 0 → q ≡ next_pop r
  unfolding next_pop
  pop_goes_lem z e = rw (eq-eqb r.answer.given.refusal.number 0 z) e

pub popped_by : (links values : List ℕ) (book : Book) {o p q : Outcome Popped} → o ≡ pop_back_of links values book 0 → p ≡ next_pop o → q ≡ next_pop p → gone_of o p q ≡ popped_of links values book
unfolding popped_of
popped_by links values book a b c =
    let d = b ∙ ap next_pop a in
    let e = c ∙ ap next_pop d in
    λ i. gone_of (a i) (d i) (e i)
