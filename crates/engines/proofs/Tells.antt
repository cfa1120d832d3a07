-- What a look tells, over any engine: 1, the first rule that is broken with its place, or what was found in the sound shape.
use mathlib.Core.Path.{◌≡◌, refl, sym, ap, ◌∙◌}
use mathlib.Core.Logic.{◌↔◌, ◌≢◌}
use mathlib.Core.Bool.{Bool, true, false}
use mathlib.Core.List.{List}
use Prim.Native.Nat.{ℕ}
use native.Mathlib.Omega.{arith}
use lib.Dec.{eqb}
use borrow.Author.Tests.{eqb-true, eqb-false}
use Rattle.books.specs.declared.Refusal.{Refusal}
use Rattle.books.specs.Book.{AnyBook}
use Rattle.books.specs.Place.{numbered}
use Rattle.books.proofs.Tests.{not_both}
use Rattle.shapes.specs.Records.{Fault}
use Rattle.shapes.specs.Shape.{Shape}
use Rattle.shapes.specs.Faults.{fault, naming}
use Rattle.engines.specs.Engine.{Engine}
use Rattle.engines.specs.Sound.{Fit, SoundBook}
use Rattle.engines.specs.Laws.{Lawful}
use Rattle.engines.specs.FirstFault.{Breaks}
use Rattle.engines.specs.Check.{sizes_fit, check_found, look_of}
use Rattle.engines.specs.Look.{Tells}
use Rattle.engines.proofs.Checked.{fits_exactly, found_exactly}
use Rattle.engines.proofs.Found.{found_fine, found_lacks}
use Rattle.engines.proofs.FirstFault.{fault_exactly, sound_unbroken}
use Rattle.engines.proofs.Ruled.{known_fault, not_rule}

-- two answers with other numbers are not the same
other_number : {A : Type 0} {r q : Refusal} → r.number ≢ q.number → r ≡ q → A
other_number d e = absurd (d (ap (λ (x : Refusal). x.number) e))

-- what names a fault names no other
pub named_one : {f g : Fault} → naming f ≡ naming g → f ≡ g
named_one {f} {g} e = λ i. fault (e i).number (e i).list (e i).position

module _ {E : Engine} (L : Lawful E) (links : E.Links) (values : List ℕ) (b : AnyBook) where
  abbrev rule : ℕ
  rule = (check_found E links values b).fault.rule

  no : {A : Type 0} {m n : ℕ} → m ≡ n → m ≢ n → A
  no e d = absurd (d e)

  pub look_tells : Tells E links values b (look_of E links values b)
  unfolding look_of
  look_tells = go (sizes_fit E links values) (eqb rule 0) refl refl
    where
      go : (x y : Bool) → sizes_fit E links values ≡ x → eqb rule 0 ≡ y → Tells E links values b (look_of E links values b)
      go true true ex ey =
          let f = (fits_exactly E links values).0 ex in
          let (s, S) = (found_exactly L links values b f).0 (eqb-true _ _ ey) in
          rw (ex, ey)
          (record {
            one = (other_number (λ k. omega arith), λ n. absurd (n f));
            named = λ g d u. (λ e. absurd (d (sym (ap (λ (x : Refusal). x.number) e))), λ (h, B). absurd (sound_unbroken L links values b f S B));
            fine = (λ e. (s, S), λ T. refl);
            nothing = λ d. absurd (d refl);
            clean = λ e. found_fine L S;
            lacking = λ e t T. found_lacks L T;
          })
      go true false ex ey =
          let f = (fits_exactly E links values).0 ex in
          let some : rule ≢ 0 = eqb-false rule 0 ey in
          rw (ex, ey)
          (record {
            one = (λ e. absurd (not_rule (known_fault E links values b) 1 (λ k. omega arith) (omega arith) (ap (λ (x : Refusal). x.number) e)), λ n. absurd (n f));
            named = λ g d u. (λ e. (f, (fault_exactly L links values b f g d).0 (named_one e)), λ (h, B). ap naming ((fault_exactly L links values b f g d).1 B));
            fine = (λ e. absurd (some (ap (λ (x : Refusal). x.number) e)), λ S. absurd (some ((found_exactly L links values b f).1 S)));
            nothing = λ d. refl;
            clean = λ e. no e some;
            lacking = λ e. no e some;
          })
      go false y ex ey =
          let unfit : Fit E links values → ⊥ = λ f. not_both (sizes_fit E links values) ((fits_exactly E links values).1 f) ex in
          rw ex
          (record {
            one = (λ e. unfit, λ n. refl);
            named = λ g d u. (λ e. absurd (u (sym (ap (λ (x : Refusal). x.number) e))), λ (f, B). absurd (unfit f));
            fine = (other_number (λ k. omega arith), λ (s, S). absurd (unfit S.pool.fit));
            nothing = λ d. refl;
            clean = λ e. no e (λ k. omega arith);
            lacking = λ e. no e (λ k. omega arith);
          })
