-- Laws of a walk over any engine: it passes each slot once, it comes to its end exactly along a tied sequence of slots that were not met, and such a sequence is the only one from its first slot.
use mathlib.Core.Path.{◌≡◌, refl, sym, ap, ◌∙◌}
use mathlib.Core.Logic.{◌≢◌}
use mathlib.Core.Bool.{Bool, true, false, not, ◌&&◌}
use mathlib.Core.List.{List, [], ◌∷◌}
use Prim.Native.Nat.{ℕ, zero, suc, ◌+◌, ◌≤◌, ◌<◌}
use native.Mathlib.Nat.{not-suc-le-zero}
use native.Mathlib.Decide.{ℕ_discrete, dec_lt}
use native.Mathlib.Omega.{arith}
use lib.Dec.{eqb, ltb}
use lib.ListN.{length}
use borrow.Author.Tests.{eq-eqb, ne_eqb, eqb-true, eqb-false, lt-ltb, ltb-true, not-true}
use Rattle.books.specs.Book.{null_slot}
use Rattle.books.proofs.Tests.{and_both, not_both, cond_ind}
use Rattle.chains.specs.Count.{count}
use Rattle.chains.specs.Chain.{first_or}
use Rattle.chains.proofs.Count.{hit_same, hit_other, count_apart, count_first}
use Rattle.shapes.specs.Met.{is_met_of, seen, mark_of, mark_all, unmet}
use Rattle.shapes.specs.Walk.{Path, passing, walk_on, walkable, walk_from, Tied, Passes}
use Rattle.shapes.proofs.Seen.{seen_le, seen_unmet, seen_mark, unmet_mark, mark_length}

-- ---- the slots that a walk passes

module _ (size : ℕ) where
  -- each slot in turn is from 1 to N-1 and was not met
  abbrev pub Fresh : List ℕ → List ℕ → Type 0
  Fresh met [] = Unit
  Fresh met (x ∷ xs) = (0 < x) × (x < size) × (is_met_of met x ≡ false) × Fresh (mark_of met x) xs

  fresh_marks : (met xs : List ℕ) → Fresh met xs → (y : ℕ) → seen (mark_all met xs) y ≡ seen met y + count y xs
  fresh_marks met [] f y = omega arith
  fresh_marks met (x ∷ xs) f y = omega (arith, fresh_marks (mark_of met x) xs f.3 y, seen_mark met x y f.2)

  fresh_inside : (met xs : List ℕ) → Fresh met xs → (y : ℕ) → 0 < count y xs → (0 < y) × (y < size)
  fresh_inside met [] f y h = absurd (not-suc-le-zero h)
  fresh_inside met (x ∷ xs) f y h = go (ℕ_discrete y x) (λ k. fresh_inside (mark_of met x) xs f.3 y k)
    where
      go : Dec (y ≡ x) → (0 < count y xs → (0 < y) × (y < size)) → (0 < y) × (y < size)
      go (yes e) r = rw e (f.0, f.1)
      go (no e) r = r (omega (arith, hit_other y x e))

  pub fresh_passes : (met xs : List ℕ) → Fresh met xs → Passes size met xs
  fresh_passes met xs f =
      record { marks = fresh_marks met xs f; inside = fresh_inside met xs f; once = λ y. omega (arith, fresh_marks met xs f y, seen_le (mark_all met xs) y) }

  pub to_fresh : (met xs : List ℕ) → ((y : ℕ) → 0 < count y xs → (0 < y) × (y < size)) → ((y : ℕ) → seen met y + count y xs ≤ 1) → Fresh met xs
  to_fresh met [] r u = tt
  to_fresh met (x ∷ xs) r u =
      let m : is_met_of met x ≡ false = seen_unmet met x (omega (arith, u x, hit_same x)) in
      let (p, q) = r x (omega (arith, hit_same x)) in
      (p, q, m, to_fresh (mark_of met x) xs (λ y h. r y (omega arith)) (λ y. omega (arith, u y, seen_mark met x y m)))

module _ (onward : ℕ → ℕ → ℕ) (fits : ℕ → ℕ → Bool) (size : ℕ) where
  walk_on_fresh : (steps : ℕ) (met : List ℕ) (before slot : ℕ) → Fresh size met (walk_on onward fits size steps met before slot).slots
  unfolding walk_on
  walk_on_fresh zero met before slot = tt
  walk_on_fresh (suc steps) met before slot =
      let P : Path → Type 0 = λ p. Fresh size met p.slots in
      cond_ind P (eqb slot null_slot) (λ e. tt)
      (λ e. cond_ind P (ltb slot size && not (is_met_of met slot))
      (λ h. cond_ind P (fits before slot)
      (λ g. let n = eqb-false slot null_slot e in
      let (b, m) = and_both (ltb slot size) (not (is_met_of met slot)) h in
      (omega arith, ltb-true slot size b, not-true (is_met_of met slot) m, walk_on_fresh steps (mark_of met slot) slot _))
      (λ g. tt))
      (λ h. tt))

  -- whether it comes to its end or not, a walk passes slots that were not met, each once, and marks just these
  pub walk_fresh : (met : List ℕ) (head : ℕ) → Passes size met (walk_from onward fits size met head).slots
  walk_fresh met head =
      cond_ind (λ (p : Path). Passes size met p.slots) (walkable size met)
      (λ w. fresh_passes size met _ (walk_on_fresh (suc (unmet met)) met null_slot head))
      (λ w. fresh_passes size met [] tt)

  on_only : (steps : ℕ) (met : List ℕ) (before slot : ℕ) → (walk_on onward fits size steps met before slot).ok ≡ true
      → (slot ≡ first_or 0 (walk_on onward fits size steps met before slot).slots) × Tied onward fits before (walk_on onward fits size steps met before slot).slots
  unfolding walk_on
  on_only zero met before slot = λ h. not_both true refl (sym h)
  on_only (suc steps) met before slot =
      let P : Path → Type 0 = λ p. p.ok ≡ true → (slot ≡ first_or 0 p.slots) × Tied onward fits before p.slots in
      cond_ind P (eqb slot null_slot) (λ e h. (eqb-true slot null_slot e, tt))
      (λ e. cond_ind P (ltb slot size && not (is_met_of met slot))
      (λ k. cond_ind P (fits before slot)
      (λ g h. let (f, c) = on_only steps (mark_of met slot) slot (onward before slot) h in (refl, (g, f, c)))
      (λ g h. not_both true refl (sym h)))
      (λ k h. not_both true refl (sym h)))

  -- a walk that comes to its end has passed a tied sequence
  pub walk_only : (met : List ℕ) (head : ℕ) → (walk_from onward fits size met head).ok ≡ true
      → (head ≡ first_or 0 (walk_from onward fits size met head).slots) × Tied onward fits 0 (walk_from onward fits size met head).slots
  walk_only met head =
      cond_ind (λ (p : Path). p.ok ≡ true → (head ≡ first_or 0 p.slots) × Tied onward fits 0 p.slots) (walkable size met)
      (λ w h. on_only (suc (unmet met)) met null_slot head h)
      (λ w h. not_both true refl (sym h))

  -- one slot is passed
  pub pass_on : (steps : ℕ) (met : List ℕ) (before slot : ℕ) → slot ≢ null_slot → slot < size → is_met_of met slot ≡ false → fits before slot ≡ true
      → walk_on onward fits size (suc steps) met before slot ≡ passing slot (walk_on onward fits size steps (mark_of met slot) slot (onward before slot))
  unfolding walk_on
  pass_on steps met before slot n h m g = rw (ne_eqb slot null_slot n, lt-ltb slot size h, m, g)

  on_finds : (steps : ℕ) (met : List ℕ) (before : ℕ) (xs : List ℕ) → Tied onward fits before xs → Fresh size met xs → unmet met < steps
      → walk_on onward fits size steps met before (first_or 0 xs) ≡ record { ok = true; slots = xs }
  unfolding walk_on
  on_finds zero met before xs c f u = absurd (not-suc-le-zero u)
  on_finds (suc steps) met before [] c f u = refl
  on_finds (suc steps) met before (x ∷ xs) c f u =
      pass_on steps met before x (λ e. omega (arith, f.0)) f.1 f.2 c.0
      ∙ ap (λ n. passing x (walk_on onward fits size steps (mark_of met x) x n)) c.1
      ∙ ap (passing x) (on_finds steps (mark_of met x) x xs c.2 f.3 (omega (arith, unmet_mark met x f.2)))

  -- a tied sequence of slots that were not met is walked to its end
  pub walk_finds : (met xs : List ℕ) → walkable size met ≡ true → Tied onward fits 0 xs → ((y : ℕ) → 0 < count y xs → (0 < y) × (y < size)) → ((y : ℕ) → seen met y + count y xs ≤ 1)
      → walk_from onward fits size met (first_or 0 xs) ≡ record { ok = true; slots = xs }
  walk_finds met xs w t r u = rw w (on_finds (suc (unmet met)) met null_slot xs t (to_fresh size met xs r u) (omega arith))

-- two tied sequences without the null slot, from the same first slot, are the same
pub tied_one : (onward : ℕ → ℕ → ℕ) (fits : ℕ → ℕ → Bool) (p : ℕ) (xs ys : List ℕ) → count 0 xs ≡ 0 → count 0 ys ≡ 0 → Tied onward fits p xs → Tied onward fits p ys
    → first_or 0 xs ≡ first_or 0 ys → xs ≡ ys
tied_one onward fits p [] [] a b c d e = refl
tied_one onward fits p [] (y ∷ ys) a b c d e = absurd (count_apart (y ∷ ys) (count_first y ys) b (sym e))
tied_one onward fits p (x ∷ xs) [] a b c d e = absurd (count_apart (x ∷ xs) (count_first x xs) a e)
tied_one onward fits p (x ∷ xs) (y ∷ ys) a b c d e =
    let f : first_or 0 xs ≡ first_or 0 ys = sym c.1 ∙ ap (onward p) e ∙ d.1 in
    let d' : Tied onward fits x ys = rw (← e) at d.2 in
    λ i. e i ∷ tied_one onward fits x xs ys (omega arith) (omega arith) c.2 d' f i

-- ---- the record of slots met

-- each slot that is marked for the first time is one less to meet
pub pass_unmet : (met xs : List ℕ) → ((y : ℕ) → seen met y + count y xs ≤ 1) → length xs + unmet (mark_all met xs) ≡ unmet met
pass_unmet met [] u = omega arith
pass_unmet met (x ∷ xs) u =
    let f = seen_unmet met x (omega (arith, u x, hit_same x)) in
    omega (arith, unmet_mark met x f, pass_unmet (mark_of met x) xs (λ y. omega (arith, u y, seen_mark met x y f)))

pub walkable_both : (size : ℕ) (met : List ℕ) → walkable size met ≡ true → (size ≡ length met) × (is_met_of met null_slot ≡ false)
unfolding walkable
walkable_both size met w = let (e, n) = and_both (eqb size (length met)) (not (is_met_of met null_slot)) w in (eqb-true _ _ e, not-true (is_met_of met null_slot) n)

-- a record with a place for each slot, and in which the null slot is not seen, is walkable
pub walkable_where : (size : ℕ) (met : List ℕ) → size ≡ length met → seen met null_slot ≡ 0 → walkable size met ≡ true
unfolding walkable
walkable_where size met e n = rw (eq-eqb _ _ e, seen_unmet met null_slot n)

-- a walk leaves a record that may be walked over again
pub walkable_passed : (size : ℕ) (met slots : List ℕ) → Passes size met slots → walkable size met ≡ true → walkable size (mark_all met slots) ≡ true
walkable_passed size met slots p w =
    let (e, n) = walkable_both size met w in
    let zero-met : seen met null_slot ≡ 0 = rw n in
    walkable_where size (mark_all met slots) (e ∙ sym (mark_length met slots)) (omega (arith, p.marks null_slot, zero-met, none (dec_lt 0 (count null_slot slots))))
  where
    none : Dec (0 < count null_slot slots) → count null_slot slots ≡ 0
    none (yes h) = absurd (not-suc-le-zero (p.inside null_slot h).0)
    none (no h) = omega arith
