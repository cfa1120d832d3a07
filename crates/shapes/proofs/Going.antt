-- A walk on its way, for the invariant of a loop that walks: the slots passed so far, and the path from here.
use mathlib.Core.Path.{◌≡◌, refl, sym, ap, subst, ◌∙◌}
use mathlib.Core.Logic.{◌≢◌}
use mathlib.Core.Bool.{Bool, true, false, not}
use mathlib.Core.List.{List, [], ◌∷◌, ◌++◌, append_assoc, append-nil}
use Prim.Native.Nat.{ℕ, suc, ◌+◌, ◌≤◌, ◌<◌}
use native.Mathlib.Decide.{ℕ_discrete, dec_lt}
use native.Mathlib.Omega.{arith}
use lib.Dec.{eqb}
use lib.ListN.{length, length-append}
use borrow.Author.Tests.{eq-eqb, ne_eqb, lt-ltb, le-ltb}
use Rattle.books.specs.Book.{null_slot}
use Rattle.books.proofs.Tests.{not_both}
use Rattle.chains.specs.Chain.{last_or}
use Rattle.chains.proofs.Chain.{last-append}
use Rattle.shapes.specs.Met.{HasPlace, is_met_of, mark_of, unmarked, mark_all, unmet}
use Rattle.shapes.specs.Walk.{Path, passing, walk_on, walkable, walk_from}
use Rattle.shapes.proofs.Walks.{pass_on, walkable_both}
use Rattle.shapes.proofs.Seen.{mark_length, unmet_mark, unmet_le, mark_met, mark_other, mark_comm, marked-length, met_past, met_place, unmark_mark}

mark_append : (met xs ys : List ℕ) → mark_all met (xs ++ ys) ≡ mark_all (mark_all met xs) ys
mark_append met [] ys = refl
mark_append met (x ∷ xs) ys = mark_append (mark_of met x) xs ys

-- the slots of `passed`, and then a path
abbrev beyond : List ℕ → Path → Path
beyond passed path = record { ok = path.ok; slots = passed ++ path.slots }

whole : {passed : List ℕ} (ok : Bool) → beyond passed (record { ok = ok; slots = [] }) ≡ record { ok = ok; slots = passed }
whole {passed} ok = rw (append-nil passed)

module _ (onward : ℕ → ℕ → ℕ) (fits : ℕ → ℕ → Bool) (size : ℕ) where
  -- ---- one step

  module _ (steps : ℕ) (met : List ℕ) (before slot : ℕ) where
    pub end_here : slot ≡ null_slot → walk_on onward fits size (suc steps) met before slot ≡ record { ok = true; slots = [] }
    unfolding walk_on
    end_here e = rw (eq-eqb slot null_slot e)

    stop_past : slot ≢ null_slot → size ≤ slot → walk_on onward fits size (suc steps) met before slot ≡ record { ok = false; slots = [] }
    unfolding walk_on
    stop_past n h = rw (ne_eqb slot null_slot n, le-ltb slot size h)

    stop_met : slot ≢ null_slot → slot < size → is_met_of met slot ≡ true → walk_on onward fits size (suc steps) met before slot ≡ record { ok = false; slots = [] }
    unfolding walk_on
    stop_met n h m = rw (ne_eqb slot null_slot n, lt-ltb slot size h, m)

  -- ---- a walk on its way: the slots `passed` so far, and the path from here

  pub record Going (start : List ℕ) (head : ℕ) (passed met : List ℕ) (slot many : ℕ) : Type 0 where
    pub path : walk_from onward fits size start head ≡ beyond passed (walk_on onward fits size (suc (unmet met)) met (last_or null_slot passed) slot)
    pub counted : many ≡ length passed
    pub marked : met ≡ mark_all start passed
    pub left : many + unmet met ≡ unmet start

  going_start : (start : List ℕ) (head : ℕ) → walkable size start ≡ true → Going start head [] start head 0
  going_start start head w = record { path = rw w; counted = refl; marked = refl; left = omega arith }

-- the slot is passed, or the walk ends before it
module _ {onward : ℕ → ℕ → ℕ} {fits : ℕ → ℕ → Bool} {size : ℕ} {start : List ℕ} {head : ℕ} {passed met : List ℕ} {slot many : ℕ} (g : Going onward fits size start head passed met slot many) where
  on : slot ≢ null_slot → slot < size → is_met_of met slot ≡ false → fits (last_or null_slot passed) slot ≡ true
      → Going onward fits size start head (passed ++ slot ∷ []) (mark_of met slot) (onward (last_or null_slot passed) slot) (many + 1)
  on n h m f =
      record {
        path = g.path
            ∙ ap (λ k. beyond passed (walk_on onward fits size (suc k) met (last_or null_slot passed) slot)) (sym (unmet_mark met slot m))
            ∙ ap (beyond passed) (pass_on onward fits size (suc (unmet (mark_of met slot))) met (last_or null_slot passed) slot n h m f)
            ∙ regroup (last_or null_slot (passed ++ slot ∷ [])) (sym (last-append null_slot passed (slot ∷ [])));
        counted = omega (arith, g.counted, length-append passed (slot ∷ []));
        marked = ap (λ l. mark_of l slot) g.marked ∙ sym (mark_append start passed (slot ∷ []));
        left = omega (arith, g.left, unmet_mark met slot m);
      }
    where
      regroup : (last : ℕ) → slot ≡ last
          → beyond passed (passing slot (walk_on onward fits size (suc (unmet (mark_of met slot))) (mark_of met slot) slot (onward (last_or null_slot passed) slot)))
          ≡ beyond (passed ++ slot ∷ []) (walk_on onward fits size (suc (unmet (mark_of met slot))) (mark_of met slot) last (onward (last_or null_slot passed) slot))
      regroup last e = rw (← e, append_assoc passed (slot ∷ []) _)

  going_on : {met' : List ℕ} {slot' : ℕ} → slot ≢ null_slot → slot < size → is_met_of met slot ≡ false → fits (last_or null_slot passed) slot ≡ true
      → met' ≡ mark_of met slot → slot' ≡ onward (last_or null_slot passed) slot
      → Going onward fits size start head (passed ++ slot ∷ []) met' slot' (many + 1)
  going_on n h m f d e = rw (d, e) (on n h m f)

  going_end : slot ≡ null_slot → walk_from onward fits size start head ≡ record { ok = true; slots = passed }
  going_end e = g.path ∙ ap (beyond passed) (end_here onward fits size (unmet met) met (last_or null_slot passed) slot e) ∙ whole true

  going_past : slot ≢ null_slot → size ≤ slot → walk_from onward fits size start head ≡ record { ok = false; slots = passed }
  going_past n h = g.path ∙ ap (beyond passed) (stop_past onward fits size (unmet met) met (last_or null_slot passed) slot n h) ∙ whole false

  going_met : slot ≢ null_slot → slot < size → is_met_of met slot ≡ true → walk_from onward fits size start head ≡ record { ok = false; slots = passed }
  going_met n h m = g.path ∙ ap (beyond passed) (stop_met onward fits size (unmet met) met (last_or null_slot passed) slot n h m) ∙ whole false

  going_length : length met ≡ length start
  going_length = ap length g.marked ∙ mark_length start passed

-- ---- the same over the code's record, in which the null slot is marked while the walk goes

pub record Guarded (onward : ℕ → ℕ → ℕ) (fits : ℕ → ℕ → Bool) (size : ℕ) (start : List ℕ) (head : ℕ) (passed real : List ℕ) (slot many : ℕ) : Type 0 where
  pub met : List ℕ
  pub going : Going onward fits size start head passed met slot many
  pub unseen : is_met_of met null_slot ≡ false
  pub sized : size ≡ length met
  pub guard : real ≡ mark_of met null_slot

-- the record that a walk is lent has a place for the null slot, and is the same again without its mark
module _ (size : ℕ) (lent : List ℕ) (w : walkable size lent ≡ true) where
  pub null_place : HasPlace lent null_slot
  null_place = met_place lent null_slot (walkable_both size lent w).1

  unguarded : {real : List ℕ} → real ≡ mark_of lent null_slot → unmarked real ≡ lent
  unguarded e = ap unmarked e ∙ unmark_mark lent (walkable_both size lent w).1

-- a walk begins once the null slot is marked
pub guarded_start : (onward : ℕ → ℕ → ℕ) (fits : ℕ → ℕ → Bool) (size : ℕ) (lent : List ℕ) (head : ℕ) {real : List ℕ} → walkable size lent ≡ true → real ≡ mark_of lent null_slot
    → Guarded onward fits size (unmarked real) head [] real head 0
guarded_start onward fits size lent head {real} w e =
    let (s, n) = walkable_both size lent w in
    subst (λ start. Guarded onward fits size start head [] real head 0) (sym (unguarded size lent w e))
    (record { met = lent; going = going_start onward fits size lent head w; unseen = n; sized = s; guard = e })

-- the same walk, over the record as it was lent and from the same head
pub guarded_from : {onward : ℕ → ℕ → ℕ} {fits : ℕ → ℕ → Bool} {size : ℕ} {lent real₀ : List ℕ} {head head' : ℕ} {passed real : List ℕ} {slot many : ℕ} → walkable size lent ≡ true → real₀ ≡ mark_of lent null_slot → head ≡ head'
    → Guarded onward fits size (unmarked real₀) head passed real slot many → Guarded onward fits size lent head' passed real slot many
guarded_from {onward} {fits} {size} {lent} {passed = passed} {real = real} {slot = slot} {many = many} w m e g = rw (← unguarded size lent w m, ← e) g

-- and with a count that is the same
pub guarded_counted : {onward : ℕ → ℕ → ℕ} {fits : ℕ → ℕ → Bool} {size : ℕ} {start : List ℕ} {head : ℕ} {passed real : List ℕ} {slot many many' : ℕ}
    → many ≡ many' → Guarded onward fits size start head passed real slot many → Guarded onward fits size start head passed real slot many'
guarded_counted e g = rw (← e) g

module _ {onward : ℕ → ℕ → ℕ} {fits : ℕ → ℕ → Bool} {size : ℕ} {start : List ℕ} {head : ℕ} {passed real : List ℕ} {slot many : ℕ} (g : Guarded onward fits size start head passed real slot many) where
  -- a slot that is not met there is a slot, and was not met
  fresh : is_met_of real slot ≡ false → (slot ≢ null_slot) × (is_met_of g.met slot ≡ false)
  fresh m =
      let u : is_met_of (mark_of g.met null_slot) slot ≡ false = sym (ap (λ l. is_met_of l slot) g.guard) ∙ m in
      let n : slot ≢ null_slot = λ e. not_both _ (mark_met g.met null_slot) (ap (is_met_of (mark_of g.met null_slot)) (sym e) ∙ u) in
      (n, sym (mark_other g.met null_slot slot n) ∙ u)

  -- the record keeps its length
  pub guarded_length : length real ≡ size
  guarded_length = ap length g.guard ∙ marked-length g.met null_slot ∙ sym g.sized

  -- a slot that is not met has a link and a place in the record
  pub guarded_place : is_met_of real slot ≡ false → (slot < size) × HasPlace real slot
  guarded_place m = let h = met_place real slot m in (omega (arith, h, guarded_length), h)

  pub guarded_on : {real' : List ℕ} {slot' : ℕ} → is_met_of real slot ≡ false → fits (last_or null_slot passed) slot ≡ true
      → real' ≡ mark_of real slot → slot' ≡ onward (last_or null_slot passed) slot
      → Guarded onward fits size start head (passed ++ slot ∷ []) real' slot' (many + 1)
  guarded_on m f d e =
      let (n, u) = fresh m in
      let h = (guarded_place m).0 in
      record {
        met = mark_of g.met slot;
        going = going_on g.going n h u f refl e;
        unseen = mark_other g.met slot null_slot (λ k. n (sym k)) ∙ g.unseen;
        sized = g.sized ∙ sym (marked-length g.met slot);
        guard = d ∙ ap (λ l. mark_of l slot) g.guard ∙ mark_comm g.met null_slot slot (λ k. n (sym k));
      }

  -- there is a place for the null
  some : 0 < length g.met
  some = met_place g.met null_slot g.unseen

  -- where it stops, it came to the end if it stopped at the null
  pub guarded_stops : is_met_of real slot ≡ true → walk_from onward fits size start head ≡ record { ok = eqb slot null_slot; slots = passed }
  guarded_stops m = go (ℕ_discrete slot null_slot) (dec_lt slot size)
    where
      go : Dec (slot ≡ null_slot) → Dec (slot < size) → walk_from onward fits size start head ≡ record { ok = eqb slot null_slot; slots = passed }
      go (yes e) d = going_end g.going e ∙ rw (eq-eqb slot null_slot e)
      go (no n) (yes h) = going_met g.going n h (sym (mark_other g.met null_slot slot n) ∙ sym (ap (λ l. is_met_of l slot) g.guard) ∙ m) ∙ rw (ne_eqb slot null_slot n)
      go (no n) (no h) = going_past g.going n (omega arith) ∙ rw (ne_eqb slot null_slot n)

  -- the null slot's mark is taken away, and what is left are the slots passed
  pub guarded_back : unmarked real ≡ mark_all start passed
  guarded_back = ap unmarked g.guard ∙ unmark_mark g.met g.unseen ∙ g.going.marked

  -- then a slot that the walk stopped at is not met exactly if it is the null
  pub guarded_null : is_met_of real slot ≡ true → not (is_met_of (unmarked real) slot) ≡ eqb slot null_slot
  guarded_null m = ap (λ l. not (is_met_of l slot)) (ap unmarked g.guard ∙ unmark_mark g.met g.unseen) ∙ go (ℕ_discrete slot null_slot) (dec_lt slot size)
    where
      go : Dec (slot ≡ null_slot) → Dec (slot < size) → not (is_met_of g.met slot) ≡ eqb slot null_slot
      go (yes e) d = rw (e, g.unseen)
      go (no n) (yes h) = rw (ne_eqb slot null_slot n, ← (mark_other g.met null_slot slot n), ← g.guard, m)
      go (no n) (no h) = rw (ne_eqb slot null_slot n, met_past g.met slot (omega (arith, g.sized)))

  -- the null slot has a place there, and there are places enough to count by
  pub guarded_some : HasPlace real null_slot
  guarded_some = omega (arith, some, guarded_length, g.sized)

  pub guarded_room : is_met_of real slot ≡ false → many < size
  guarded_room m = omega (arith, g.going.left, unmet_mark g.met slot (fresh m).1, unmet_le start, g.sized, going_length g.going)
