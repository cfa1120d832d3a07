-- The check over any engine finds no fault exactly where the pool is sound, and what it gathers is said of the sound shape.
use mathlib.Core.Path.{◌≡◌, refl, sym, ap, ◌∙◌}
use mathlib.Core.Logic.{◌↔◌, ◌≢◌, ◌⊎◌, inl, inr}
use mathlib.Core.Bool.{Bool, true, false}
use mathlib.Core.List.{List}
use Prim.Native.Nat.{ℕ, ◌≤◌, ◌<◌}
use native.Mathlib.Omega.{arith}
use lib.ListN.{length, take}
use borrow.Author.Tests.{eqb-true, eq-eqb}
use Rattle.books.specs.declared.Free.{Free}
use Rattle.books.specs.declared.Entry.{Entry}
use Rattle.books.specs.Book.{AnyBook}
use Rattle.books.specs.Test.{keeps_rules}
use Rattle.books.proofs.Tests.{and_both, both_and}
use Rattle.books.proofs.Rules.{size_fits_lem, keeps_rules_lem}
use Rattle.shapes.specs.Walk.{Path}
use Rattle.shapes.specs.Records.{Fault}
use Rattle.shapes.specs.Records.{Found}
use Rattle.shapes.specs.Shape.{Shape, chain_at, lacks}
use Rattle.shapes.specs.Faults.{no_fault}
use Rattle.engines.specs.Engine.{Engine}
use Rattle.engines.specs.Sound.{Fit, Sound, SoundBook}
use Rattle.engines.specs.Laws.{Lawful}
use Rattle.engines.specs.FirstFault.{NullZero, AllChained, PoolBreaks}
use Rattle.engines.specs.FirstFault.PoolBreaks.{ten, eleven, twelve, thirteen, fourteen, fifteen, sixteen}
use Rattle.engines.specs.Check.{sizes_fit, idle_found, pool_found, check_found}
use Rattle.engines.proofs.Shape.{at_most}
use Rattle.engines.proofs.Chains.{round_of, path_of, all_sums, all_path}
use Rattle.engines.proofs.Broken.{null_exactly, pool_idle, gives_none, pool_breaks, pool_some}

-- the test of the sizes is true exactly where they fit
pub fits_exactly : (E : Engine) (links : E.Links) (values : List ℕ) → sizes_fit E links values ≡ true ↔ Fit E links values
unfolding sizes_fit
fits_exactly E links values = (
  λ h. let (p, q) = and_both _ _ h in let (u, v) = and_both _ _ q in record { even = p; same = eqb-true _ _ u; size = (size_fits_lem (E.size links)).0 v },
  λ f. both_and _ _ f.even (both_and _ _ (eq-eqb _ _ f.same) ((size_fits_lem (E.size links)).1 f.size)),
)

-- ---- on a sound pool

module _ {E : Engine} {links : E.Links} {values : List ℕ} {es : List Entry} {free : Free} {s : Shape} (S : Sound E links values es free s) where
  pub sound_null : NullZero E links values
  sound_null = record { link = S.null_link; value = S.null_value }

  pub sound_chained : AllChained E links es free s
  sound_chained =
      record {
        chained = record { lists = S.lists; entry = S.entry; live = S.live };
        free_record = S.free_record;
        idle = S.idle;
        distinct = record { inside = S.only; once = at_most S };
      }

-- a rule that is broken is not 0
pub pool_rule : {E : Engine} {links : E.Links} {values : List ℕ} {es : List Entry} {free : Free} {f : Fault} → PoolBreaks E links values es free f → f.rule ≢ 0
pool_rule (ten e n) = λ z. omega (arith, ap (λ f. f.rule) e)
pool_rule (eleven e z b) = λ z. omega (arith, ap (λ f. f.rule) e)
pool_rule (twelve e z b) = λ z. omega (arith, ap (λ f. f.rule) e)
pool_rule (thirteen e z a b) = λ z. omega (arith, ap (λ f. f.rule) e)
pool_rule (fourteen e z a c b) = λ z. omega (arith, ap (λ f. f.rule) e)
pool_rule (fifteen e z a c w b) = λ z. omega (arith, ap (λ f. f.rule) e)
pool_rule (sixteen e z a c w v b) = λ z. omega (arith, ap (λ f. f.rule) e)

module _ {E : Engine} (L : Lawful E) (links : E.Links) (values : List ℕ) (es : List Entry) (free : Free) (fit : Fit E links values) where
  module _ (s : Shape) (S : Sound E links values es free s) where
    found_is : pool_found E links values es free ≡ idle_found (E.size links) values free (length es) (round_of E links es) (path_of E links values es free)
    found_is = pool_idle E links values es free ((null_exactly L links values).1 (sound_null S)) (ap (λ f. f.rule) (all_sums L links values es free fit (sound_chained S)).fault)

    -- what the check finds on a sound pool
    pub sound_found : (pool_found E links values es free).fault ≡ no_fault
    sound_found = gives_none L links values es free fit (sound_null S) (sound_chained S) S.once S.wiped (record { short = S.short; spare = S.spare }) S.counted S.free_counted

    pub sound_lacks : (pool_found E links values es free).lacks ≡ lacks es s.chains
    sound_lacks = ap (λ (f : Found). f.lacks) found_is ∙ omega (arith, (all_sums L links values es free fit (sound_chained S)).lacking)

  -- the pool has no fault exactly where there is a sound shape
  pub pool_exactly : (pool_found E links values es free).fault.rule ≡ 0 ↔ ((s : Shape) × Sound E links values es free s)
  pool_exactly = (λ h. to h (pool_some L links values es free fit), λ (s, S). ap (λ f. f.rule) (sound_found s S))
    where
      to : (pool_found E links values es free).fault.rule ≡ 0 → ((f : Fault) × PoolBreaks E links values es free f) ⊎ ((s : Shape) × Sound E links values es free s)
          → (s : Shape) × Sound E links values es free s
      to h (inl (f, B)) = absurd (pool_rule B (sym (ap (λ f. f.rule) (pool_breaks L links values es free fit B)) ∙ h))
      to h (inr S) = S

-- demand 2: the check accepts exactly the pools that 01 calls sound, whatever the book's number of places
pub found_exactly : {E : Engine} (L : Lawful E) (links : E.Links) (values : List ℕ) (b : AnyBook) → Fit E links values
    → (check_found E links values b).fault.rule ≡ 0 ↔ ((s : Shape) × SoundBook E links values b s)
unfolding check_found
found_exactly {E} L links values b f = (λ h. to (keeps_rules (E.size links) b) refl h, λ (s, S). from s S)
  where
    to : (k : Bool) → keeps_rules (E.size links) b ≡ k → (check_found E links values b).fault.rule ≡ 0 → (s : Shape) × SoundBook E links values b s
    to true e h =
        let (s, S) = (pool_exactly L links values (take b.lists b.entries) b.free f).0 (rw e at h) in
        (s, record { rules = (keeps_rules_lem (E.size links) b).0 e; pool = S })
    to false e h = let k : ◌≡◌ {A = ℕ} 9 0 = rw e at h in absurd (omega arith)

    from : (s : Shape) → SoundBook E links values b s → (check_found E links values b).fault.rule ≡ 0
    from s S = rw ((keeps_rules_lem (E.size links) b).1 S.rules) ((pool_exactly L links values (take b.lists b.entries) b.free f).1 (s, S.pool))
