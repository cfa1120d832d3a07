-- 02 b) over any engine: the fault that the check gives is the first rule that is broken, with its list and position, and there is one such only.
use mathlib.Core.Path.{◌≡◌, refl, sym, ap, subst, ◌∙◌}
use mathlib.Core.Logic.{◌↔◌, ◌≢◌, ◌⊎◌, inl, inr}
use mathlib.Core.Bool.{Bool, true, false}
use mathlib.Core.List.{List}
use Prim.Native.Nat.{ℕ}
use native.Mathlib.Omega.{arith}
use lib.ListN.{take}
use Rattle.books.specs.Book.{AnyBook}
use Rattle.books.specs.Test.{keeps_rules}
use Rattle.books.proofs.Tests.{not_both}
use Rattle.books.proofs.Rules.{keeps_rules_lem}
use Rattle.shapes.specs.Records.{Fault}
use Rattle.shapes.specs.Records.{Found}
use Rattle.shapes.specs.Shape.{Shape}
use Rattle.shapes.specs.Faults.{fault, no_fault}
use Rattle.engines.specs.Engine.{Engine}
use Rattle.engines.specs.Sound.{Fit, Sound, SoundBook}
use Rattle.engines.specs.Laws.{Lawful}
use Rattle.engines.specs.FirstFault.{PoolBreaks, Breaks}
use Rattle.engines.specs.FirstFault.Breaks.{nine, later}
use Rattle.engines.specs.Check.{pool_found, check_found}
use Rattle.engines.proofs.Broken.{pool_breaks, pool_some}
use Rattle.engines.proofs.Checked.{pool_rule}
use Rattle.engines.proofs.Found.{found_fine}

module _ {E : Engine} {links : E.Links} {values : List ℕ} {b : AnyBook} where
  -- a rule that is broken is not 0
  pub breaks_rule : {f : Fault} → Breaks E links values b f → f.rule ≢ 0
  breaks_rule (nine e n) = λ z. omega (arith, ap (λ f. f.rule) e)
  breaks_rule (later r B) = pool_rule B

module _ {E : Engine} (L : Lawful E) (links : E.Links) (values : List ℕ) (b : AnyBook) (fit : Fit E links values) where
  -- a pool with its book breaks a rule first, or is sound
  pub breaks_some : ((f : Fault) × Breaks E links values b f) ⊎ ((s : Shape) × SoundBook E links values b s)
  breaks_some = go (keeps_rules (E.size links) b) refl
    where
      pool : keeps_rules (E.size links) b ≡ true
          → ((f : Fault) × PoolBreaks E links values (take b.lists b.entries) b.free f) ⊎ ((s : Shape) × Sound E links values (take b.lists b.entries) b.free s)
          → ((f : Fault) × Breaks E links values b f) ⊎ ((s : Shape) × SoundBook E links values b s)
      pool e (inl (f, B)) = inl (f, later ((keeps_rules_lem (E.size links) b).0 e) B)
      pool e (inr (s, S)) = inr (s, record { rules = (keeps_rules_lem (E.size links) b).0 e; pool = S })

      go : (k : Bool) → keeps_rules (E.size links) b ≡ k → ((f : Fault) × Breaks E links values b f) ⊎ ((s : Shape) × SoundBook E links values b s)
      go true e = pool e (pool_some L links values (take b.lists b.entries) b.free fit)
      go false e = inl (fault 9 0 0, nine refl (λ r. not_both _ ((keeps_rules_lem (E.size links) b).1 r) e))

  module _ where
    rules_broken_lem : keeps_rules (E.size links) b ≡ false → (check_found E links values b).fault ≡ fault 9 0 0
    unfolding check_found
    rules_broken_lem e = rw e

    rules_kept : keeps_rules (E.size links) b ≡ true → check_found E links values b ≡ pool_found E links values (take b.lists b.entries) b.free
    unfolding check_found
    rules_kept e = rw e

    -- the check gives the rule that is first broken
    pub breaks_found : {f : Fault} → Breaks E links values b f → (check_found E links values b).fault ≡ f
    breaks_found (nine e n) = rules_broken_lem (go (keeps_rules (E.size links) b) refl) ∙ sym e
      where
        go : (k : Bool) → keeps_rules (E.size links) b ≡ k → k ≡ false
        go true i = absurd (n ((keeps_rules_lem (E.size links) b).0 i))
        go false i = refl
    breaks_found (later r B) =
        ap (λ (f : Found). f.fault) (rules_kept ((keeps_rules_lem (E.size links) b).1 r)) ∙ pool_breaks L links values (take b.lists b.entries) b.free fit B

    -- and gives nothing else: no fault on a sound pool, or the rule that is first broken
    pub first_fault : (((check_found E links values b).fault ≡ no_fault) × ((s : Shape) × SoundBook E links values b s)) ⊎ Breaks E links values b (check_found E links values b).fault
    first_fault = go breaks_some
      where
        go : ((f : Fault) × Breaks E links values b f) ⊎ ((s : Shape) × SoundBook E links values b s)
            → (((check_found E links values b).fault ≡ no_fault) × ((s : Shape) × SoundBook E links values b s)) ⊎ Breaks E links values b (check_found E links values b).fault
        go (inl (f, B)) = inr (subst (Breaks E links values b) (sym (breaks_found B)) B)
        go (inr (s, S)) = inl (found_fine L S, (s, S))

    -- 02 b): what the check names is exactly the first rule broken
    pub fault_exactly : (f : Fault) → f.rule ≢ 0 → (check_found E links values b).fault ≡ f ↔ Breaks E links values b f
    fault_exactly f n = (λ e. go e first_fault, breaks_found)
      where
        go : (check_found E links values b).fault ≡ f
            → (((check_found E links values b).fault ≡ no_fault) × ((s : Shape) × SoundBook E links values b s)) ⊎ Breaks E links values b (check_found E links values b).fault
            → Breaks E links values b f
        go e (inl (z, S)) = absurd (n (ap (λ f. f.rule) (sym e ∙ z)))
        go e (inr B) = subst (Breaks E links values b) e B

  -- one rule only is the first that is broken, at one list and position
  pub only_fault : {f g : Fault} → Breaks E links values b f → Breaks E links values b g → f ≡ g
  only_fault F G = sym (breaks_found F) ∙ breaks_found G

  -- and none is where the pool is sound
  pub sound_unbroken : {f : Fault} {s : Shape} → SoundBook E links values b s → Breaks E links values b f → ⊥
  sound_unbroken S B = breaks_rule B (ap (λ f. f.rule) (sym (breaks_found B) ∙ found_fine L S))
