-- What stands in the buffer at each of the demonstration's ends.
use mathlib.Core.Path.{◌≡◌, refl, sym, ap, subst, ◌∙◌}
use mathlib.Core.List.{List}
use Prim.Native.Nat.{ℕ, ◌+◌, ◌^◌, ◌≤◌, ◌<◌}
use native.Mathlib.Decide.{ℕ_discrete}
use native.Mathlib.Nat.{zero-add}
use native.Mathlib.Omega.{arith}
use lib.ListN.{length}
use borrow.Author.Tests.{eq-eqb, ne_eqb}
use Rattle.books.specs.Outcome.{Outcome}
use Rattle.wording.specs.Digits.{Written}
use Rattle.books.specs.declared.Answer.{Answer}
use Rattle.shapes.specs.Numbers.{Given, this, later}
use Rattle.engines.specs.Conditions.{setup_conditions}
use Rattle.xor.specs.Engine.{xor}
use Rattle.xor.specs.Ten.{setup_of}
use Rattle.engines.proofs.Fresh.{setup_given}
use Rattle.wording.proofs.Pieces.{at_most_bytes, both_in}
use Rattle.shows.specs.declared.Gone.{Gone}
use Rattle.shows.specs.Demo.{five, next_back, next_front, pushed_of, popped_of, refusal_line, pushed_lines, popped_lines, shown_pops, shown_of}
use Rattle.shows.proofs.Rows.{three_size, refusal_size}
use Rattle.shows.proofs.Played.{back_stops, front_stops}

-- ---- the pushes

pushed_size : length pushed_lines ≤ 87
pushed_size = three_size _ 2 3 1 (omega arith) (omega arith) (omega arith)

-- their lines leave room for as many more
pub pushed_count : {before : List ℕ} {n : ℕ} {mid : List ℕ} → Written pushed_lines before 0 n mid → n ≤ 87
pushed_count W = omega (arith, at_most_bytes W, pushed_size)

-- ---- the pops

module _ (gone : Gone) where
  pub pops_refused : (gone.number ≡ 0 → ⊥) → shown_pops gone ≡ refusal_line gone.number
  unfolding shown_pops
  pops_refused h = rw (ne_eqb gone.number 0 h)

  pub pops_done : gone.number ≡ 0 → shown_pops gone ≡ popped_lines gone.last gone.first gone.left
  unfolding shown_pops
  pops_done z = rw (eq-eqb gone.number 0 z)

  pops_size : gone.last < 2 ^ 64 → gone.first < 2 ^ 64 → gone.left < 2 ^ 64 → length (shown_pops gone) ≤ 87
  pops_size p q r = go (ℕ_discrete gone.number 0)
    where
      go : Dec (gone.number ≡ 0) → length (shown_pops gone) ≤ 87
      go (yes z) = rw (pops_done z) (three_size _ gone.last gone.first gone.left p q r)
      go (no h) = rw (pops_refused h) (omega (arith, refusal_size gone.number))

-- ---- all

module _ (links values : List ℕ) {r : Outcome Answer} (e : r ≡ pushed_of links values) {before : List ℕ} {n : ℕ} {after : List ℕ} where
  -- a push was refused, or the setup
  pub at_pushes : (r.answer.refusal.number ≡ 0 → ⊥) → Written (refusal_line r.answer.refusal.number) before 0 n after → Written (shown_of links values) before 0 n after
  unfolding shown_of
  at_pushes h W = rw (sym e, ne_eqb r.answer.refusal.number 0 h) W

  pub at_pops : r.answer.refusal.number ≡ 0 → {g : Outcome Gone} → g ≡ popped_of r.links r.values r.answer.book
      → g.answer.last < 2 ^ 64 → g.answer.first < 2 ^ 64 → g.answer.left < 2 ^ 64 → 192 ≤ length before → {m : ℕ} {mid : List ℕ}
      → Written pushed_lines before 0 n mid → Written (shown_pops g.answer) mid n m after → Written (shown_of links values) before 0 (n + m) after
  unfolding shown_of
  at_pops z {g} d p q s room {m} {mid} W U =
      rw (sym e, eq-eqb r.answer.refusal.number 0 z, sym d)
      (both_in pushed_lines (shown_pops g.answer) before 0 (omega (arith, pushed_size, pops_size g.answer p q s)) W
      (subst (λ at. Written (shown_pops g.answer) mid at m after) (sym (zero-add n)) U))

-- ---- a refusal

module _ (links values : List ℕ) (d : length links ≡ length values → ⊥) where
  abbrev made : Outcome Answer
  made = setup_of links values 1 five five

  unequal_made : made.answer.refusal.number ≡ 1
  unequal_made = go (setup_given xor 8 links values 1 five five)
    where
      go : {n : ℕ} → Given (setup_conditions xor links values 8 1 five five) n → n ≡ 1
      go (this h) = refl
      go (later k g) = absurd (k (λ f. d f.same))

  -- no push follows
  unequal_pushed : next_front 1 (next_back 3 (next_back 2 made)) ≡ made
  unequal_pushed = ap (next_front 1) (ap (next_back 3) (back_stops 2 made no) ∙ back_stops 3 made no) ∙ front_stops 1 made no
    where
      no : made.answer.refusal.number ≡ 0 → ⊥
      no z = omega (arith, unequal_made)

  -- where the slices differ in length, the text of 1 is all that is shown
  pub unequal_shown : shown_of links values ≡ refusal_line 1
  unfolding shown_of pushed_of
  unequal_shown = rw (unequal_pushed, unequal_made)
