-- The check and then the test of the list, as code takes them, and that together with the call's own tests they decide.
use mathlib.Core.Path.{◌≡◌, refl, sym, ap, ◌∙◌}
use mathlib.Core.Logic.{◌≢◌}
use mathlib.Core.Bool.{Bool, true, false, cond, not, ◌&&◌}
use mathlib.Core.List.{List, ◌++◌}
use Prim.Native.Nat.{ℕ, suc, ◌-◌, ◌<◌}
use native.Mathlib.Omega.{arith}
use lib.Dec.{leb, eqb}
use lib.ListN.{length}
use borrow.Author.Tests.{eqb-true, eqb-false, eq-eqb, ne_eqb, leb-false, lt-leb}
use Rattle.books.specs.declared.Refusal.{Refusal}
use Rattle.books.specs.Book.{entry_at, AnyBook}
use Rattle.books.specs.Place.{no_place, numbered}
use Rattle.books.proofs.Tests.{not_both}
use Rattle.shapes.specs.declared.End.{End}
use Rattle.shapes.specs.Records.{Looked}
use Rattle.shapes.specs.Shape.{Shape}
use Rattle.shapes.specs.Ends.{near_of}
use Rattle.shapes.specs.Numbers.{Test, first_that, decided}
use Rattle.shapes.specs.Tests.{read_own_tests}
use Rattle.shapes.specs.Faults.{place_for, answering, refused_by}
use Rattle.shapes.proofs.Numbers.{Numbered, nil, cons, first_first, first_then, decided_refused, decided_done}
use Rattle.engines.specs.Engine.{Engine}
use Rattle.engines.specs.Sound.{Fit, SoundBook}
use Rattle.engines.specs.Laws.{Lawful}
use Rattle.engines.specs.Check.{sizes_fit, check_found, look_of}
use Rattle.engines.specs.Reads.{count_read}
use Rattle.engines.specs.Calls.{check_tests, list_tests, check_call, on_list_of}
use Rattle.engines.proofs.Checked.{fits_exactly, found_exactly}
use Rattle.engines.proofs.Found.{stored-length, shorter}
use Rattle.engines.proofs.Reading.{reads}
use Rattle.engines.proofs.Outcomes.{placed}
use Rattle.engines.proofs.Ruled.{KnownFault, known_fault, not_rule, no_place_lem}

-- ---- the number that the check gives

module _ (E : Engine) (links : E.Links) (values : List ℕ) (b : AnyBook) where
  pub look_number : (look_of E links values b).refusal.number ≡ first_that (check_tests E links values b)
  unfolding look_of
  look_number = go (sizes_fit E links values) (eqb (check_found E links values b).fault.rule 0) refl refl
    where
      go : (s n : Bool) → sizes_fit E links values ≡ s → eqb (check_found E links values b).fault.rule 0 ≡ n
          → (look_of E links values b).refusal.number ≡ first_that (check_tests E links values b)
      go true true e f = rw (e, f)
      go true false e f = rw (e, f)
      go false n e f = rw e

-- number 0 sets no place
pub look_whole : (E : Engine) (links : E.Links) (values : List ℕ) (b : AnyBook) → (look_of E links values b).refusal.number ≡ 0 → (look_of E links values b).refusal ≡ numbered 0
unfolding look_of
look_whole E links values b = go (sizes_fit E links values) (eqb (check_found E links values b).fault.rule 0) refl refl
  where
    go : (s n : Bool) → sizes_fit E links values ≡ s → eqb (check_found E links values b).fault.rule 0 ≡ n → (look_of E links values b).refusal.number ≡ 0 → (look_of E links values b).refusal ≡ numbered 0
    go true true e f z = rw (e, f)
    go true false e f z = absurd (eqb-false (check_found E links values b).fault.rule 0 f (rw (e, f) at z))
    go false n e f z = let k : ◌≡◌ {A = ℕ} 1 0 = rw e at z in absurd (omega arith)

-- as a call of its own it answers the same
pub look_check : (E : Engine) (links : E.Links) (values : List ℕ) (b : AnyBook) → (look_of E links values b).refusal ≡ check_call E links values b
unfolding look_of check_call decided
look_check E links values b = go (sizes_fit E links values) (eqb (check_found E links values b).fault.rule 0) refl refl
  where
    go : (s n : Bool) → sizes_fit E links values ≡ s → eqb (check_found E links values b).fault.rule 0 ≡ n → (look_of E links values b).refusal ≡ check_call E links values b
    go true true e f = rw (e, f)
    go true false e f = rw (e, f, f, eq-eqb (check_found E links values b).fault.rule (check_found E links values b).fault.rule refl)
    go false n e f = rw (e, ne_eqb (check_found E links values b).fault.rule 1 (not_rule (known_fault E links values b) 1 (λ k. omega arith) (omega arith)))

pub check_whole : (E : Engine) (links : E.Links) (values : List ℕ) (b : AnyBook) → (check_call E links values b).number ≡ 0 → check_call E links values b ≡ numbered 0
check_whole E links values b z = sym (look_check E links values b) ∙ look_whole E links values b (ap (λ (r : Refusal). r.number) (look_check E links values b) ∙ z)

-- ---- the check, and then the test of the list

-- `seen` is what the check gave, and `early` the answer after the test of the list
module _ (E : Engine) (links : E.Links) (values : List ℕ) (b : AnyBook) (l : ℕ) (seen : Looked) (e : seen ≡ look_of E links values b) (early : Refusal) (n : early ≡ cond (eqb seen.refusal.number 0 && leb b.lists l) (numbered 4) seen.refusal) where
  -- together they say what `on_list_of` says
  both : cond (eqb early.number 0) seen (refused_by early) ≡ on_list_of E links values b l
  unfolding on_list_of look_of
  both = go (sizes_fit E links values) (eqb (check_found E links values b).fault.rule 0) (leb b.lists l) refl refl refl
    where
      go : (x y z : Bool) → sizes_fit E links values ≡ x → eqb (check_found E links values b).fault.rule 0 ≡ y → leb b.lists l ≡ z → cond (eqb early.number 0) seen (refused_by early) ≡ on_list_of E links values b l
      go true true true ex ey ez = simp (n, e, ex, ey, ez)
      go true true false ex ey ez = simp (n, e, ex, ey, ez)
      go true false z ex ey ez = simp (n, e, ex, ey)
      go false y z ex ey ez = simp (n, e, ex)

  pub early_stopped : early.number ≢ 0 → refused_by early ≡ on_list_of E links values b l
  early_stopped d = rw (ne_eqb early.number 0 d) at both

  pub early_passed : early.number ≡ 0 → (seen ≡ on_list_of E links values b l) × (seen.refusal.number ≡ 0)
  early_passed z = (rw (eq-eqb early.number 0 z) at both, go (eqb seen.refusal.number 0) refl)
    where
      go : (x : Bool) → eqb seen.refusal.number 0 ≡ x → seen.refusal.number ≡ 0
      go true ex = eqb-true _ _ ex
      go false ex = sym (ap (λ (r : Refusal). r.number) (rw ex at n)) ∙ z

-- ---- once 1, 9 to 16 and 4 do not apply

module _ (E : Engine) (links : E.Links) (values : List ℕ) (b : AnyBook) (l : ℕ) where
  pub on_list_number : (on_list_of E links values b l).refusal.number ≡ first_that (list_tests E links values b l)
  unfolding on_list_of look_of
  on_list_number = go (sizes_fit E links values) (eqb (check_found E links values b).fault.rule 0) (leb b.lists l) refl refl refl
    where
      go : (x y z : Bool) → sizes_fit E links values ≡ x → eqb (check_found E links values b).fault.rule 0 ≡ y → leb b.lists l ≡ z → (on_list_of E links values b l).refusal.number ≡ first_that (list_tests E links values b l)
      go true true true ex ey ez = rw (ex, ey, ez)
      go true true false ex ey ez = rw (ex, ey, ez)
      go true false z ex ey ez = rw (ex, ey, ey)
      go false y z ex ey ez = rw ex

  pub on_list_passed : (on_list_of E links values b l).refusal.number ≡ 0 → Fit E links values × ((check_found E links values b).fault.rule ≡ 0) × (l < b.lists)
  unfolding on_list_of look_of
  on_list_passed n = go (sizes_fit E links values) (eqb (check_found E links values b).fault.rule 0) (leb b.lists l) refl refl refl
    where
      no : (k : ℕ) → (on_list_of E links values b l).refusal.number ≡ k → 0 < k → ⊥
      no k e p = omega (arith, n)

      rule : ℕ
      rule = (check_found E links values b).fault.rule

      at_rule : sizes_fit E links values ≡ true → eqb (check_found E links values b).fault.rule 0 ≡ false → (on_list_of E links values b l).refusal.number ≡ (check_found E links values b).fault.rule
      at_rule ex ey = simp (ex, ey)

      go : (x y z : Bool) → sizes_fit E links values ≡ x → eqb (check_found E links values b).fault.rule 0 ≡ y → leb b.lists l ≡ z → Fit E links values × ((check_found E links values b).fault.rule ≡ 0) × (l < b.lists)
      go true true true ex ey ez = absurd (no 4 (rw (ex, ey, ez)) (omega arith))
      go true true false ex ey ez = ((fits_exactly E links values).0 ex, eqb-true _ _ ey, leb-false _ _ ez)
      go true false z ex ey ez = absurd (eqb-false rule 0 ey (sym (at_rule ex ey) ∙ n))
      go false y z ex ey ez = absurd (no 1 (rw ex) (omega arith))

  pub on_list_found : (on_list_of E links values b l).refusal.number ≡ 0 → (on_list_of E links values b l).found ≡ check_found E links values b
  unfolding on_list_of look_of
  on_list_found n = go (on_list_passed n)
    where
      go : Fit E links values × ((check_found E links values b).fault.rule ≡ 0) × (l < b.lists) → (on_list_of E links values b l).found ≡ check_found E links values b
      go (f, z, below) = rw ((fits_exactly E links values).1 f, eq-eqb (check_found E links values b).fault.rule 0 z, lt-leb b.lists l below)

  -- then there is a sound shape, with the list in it
  pub on_list_sound : Lawful E → (on_list_of E links values b l).refusal.number ≡ 0 → (s : Shape) × SoundBook E links values b s × (l < b.lists)
  on_list_sound L n =
      let (f, z, below) = on_list_passed n in
      let (s, S) = (found_exactly L links values b f).0 z in
      (s, S, below)

  pub on_list_below : Lawful E → (on_list_of E links values b l).refusal.number ≡ 0 → (l < b.places) × (l < length b.entries)
  on_list_below L n = let (s, S, below) = on_list_sound L n in (omega (arith, S.rules.most), omega (arith, S.rules.there))

  pub on_list-length : Lawful E → (on_list_of E links values b l).refusal.number ≡ 0 → (entry_at b.entries l).length < 4096
  on_list-length L n = let (s, S, below) = on_list_sound L n in omega (arith, stored-length S l below, shorter S l below)

  -- a read that is not refused counts fewer than 4,096 values
  pub read_count : Lawful E → (end : End) (buffer : List ℕ) (at : ℕ) → (on_list_of E links values b l).refusal.number ≡ 0 → first_that (read_own_tests (entry_at b.entries l).length (length buffer) at) ≡ 0
      → count_read E end links values (near_of end (entry_at b.entries l)) buffer at < 4096
  read_count L end buffer at n z =
      let (s, S, below) = on_list_sound L n in
      let (p, q) = placed (entry_at b.entries l).length (length buffer) at z in
      omega (arith, (reads L S l below end buffer at (omega (arith, stored-length S l below))).counted, shorter S l below)

  -- where it is refused, the place is that which goes with the number
  pub on_list_place : (on_list_of E links values b l).refusal.number ≢ 0 → (on_list_of E links values b l).refusal ≡ answering (check_found E links values b).fault (on_list_of E links values b l).refusal.number
  unfolding on_list_of look_of
  on_list_place = go (sizes_fit E links values) (eqb (check_found E links values b).fault.rule 0) (leb b.lists l) refl refl refl
    where
      known : KnownFault (check_found E links values b).fault
      known = known_fault E links values b

      go : (x y z : Bool) → sizes_fit E links values ≡ x → eqb (check_found E links values b).fault.rule 0 ≡ y → leb b.lists l ≡ z → (on_list_of E links values b l).refusal.number ≢ 0
          → (on_list_of E links values b l).refusal ≡ answering (check_found E links values b).fault (on_list_of E links values b l).refusal.number
      go true true true ex ey ez d = rw (ex, ey, ez, ne_eqb (check_found E links values b).fault.rule 4 (not_rule known 4 (λ k. omega arith) (omega arith)))
      go true true false ex ey ez d = absurd (d (rw (ex, ey, ez)))
      go true false z ex ey ez d = simp (ex, ey, eq-eqb (check_found E links values b).fault.rule (check_found E links values b).fault.rule refl)
      go false y z ex ey ez d = rw (ex, ne_eqb (check_found E links values b).fault.rule 1 (not_rule known 1 (λ k. omega arith) (omega arith)))

  -- where it is not, no place goes with a number of the call's own
  pub own_place : (number : ℕ) → number ≢ 0 → (on_list_of E links values b l).refusal.number ≡ 0 → place_for (check_found E links values b).fault number ≡ no_place
  own_place number d n = no_place_lem (check_found E links values b).fault number (λ e. d (sym e ∙ (on_list_passed n).1))

  -- ---- what the call then gives

  suc_ne_zero : (n : ℕ) → suc n ≢ 0
  suc_ne_zero n e = omega arith

  pub list_numbered : Numbered (list_tests E links values b l)
  list_numbered = cons (λ h. suc_ne_zero 0) (cons broken (cons (λ h. suc_ne_zero 3) nil))
    where
      broken : not (eqb (check_found E links values b).fault.rule 0) ≡ true → (check_found E links values b).fault.rule ≢ 0
      broken h z = not_both true refl (sym (rw z at h))

  module _ {A : Type 0} (us : List Test) (done : A) (refused : ℕ → A) where
    -- 1, 9 to 16 or 4 decides
    pub by_list : (on_list_of E links values b l).refusal.number ≢ 0 → decided (list_tests E links values b l ++ us) done refused ≡ refused (on_list_of E links values b l).refusal.number
    by_list d =
        let e : first_that (list_tests E links values b l ++ us) ≡ (on_list_of E links values b l).refusal.number = first_first (list_tests E links values b l) us (λ k. d (on_list_number ∙ k)) ∙ sym on_list_number in
        decided_refused done refused (list_tests E links values b l ++ us) (λ k. d (sym e ∙ k)) ∙ ap refused e

    -- a test of the call's own decides
    pub by_call : (on_list_of E links values b l).refusal.number ≡ 0 → first_that us ≢ 0 → decided (list_tests E links values b l ++ us) done refused ≡ refused (first_that us)
    by_call n d =
        let e : first_that (list_tests E links values b l ++ us) ≡ first_that us = first_then us list_numbered (sym on_list_number ∙ n) in
        decided_refused done refused (list_tests E links values b l ++ us) (λ k. d (sym e ∙ k)) ∙ ap refused e

    -- none applies
    pub goes : (on_list_of E links values b l).refusal.number ≡ 0 → first_that us ≡ 0 → decided (list_tests E links values b l ++ us) done refused ≡ done
    goes n z = decided_done done refused (list_tests E links values b l ++ us) (first_then us list_numbered (sym on_list_number ∙ n) ∙ z)
