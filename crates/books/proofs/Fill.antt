-- A loop that fills a list from the front, place by place: what holds after k places, and at the end.
use mathlib.Core.Path.{◌≡◌, refl, sym, ◌∙◌}
use mathlib.Core.List.{List}
use Prim.Native.Nat.{ℕ, ◌+◌, ◌≤◌, ◌<◌}
use native.Mathlib.Nat.{not-suc-le-zero}
use native.Mathlib.Decide.{ℕ_discrete}
use native.Mathlib.Omega.{arith}
use lib.ListN.{length, get_or, set, length-set}
use lib.Seq.{get_or-set_same, get_or-set_other, ext_get_or}
use Rattle.books.specs.Tabulate.{tabulate}
use Rattle.books.proofs.Tabulate.{tabulate-length, tabulate_at}

pub record Filling {A : Type 0} (d : A) (f : ℕ → A) (before now : List A) (k : ℕ) : Type 0 where
  pub size : length now ≡ length before
  pub filled : (y : ℕ) → y < k → get_or now y d ≡ f y

module _ {A : Type 0} (d : A) (f : ℕ → A) where
  pub fill_none : (xs : List A) → Filling d f xs xs 0
  fill_none xs = record { size = refl; filled = λ y h. absurd (not-suc-le-zero h) }

  pub fill_more : (before now : List A) (k : ℕ) (a : A) → Filling d f before now k → k < length now → a ≡ f k → Filling d f before (set now k a) (k + 1)
  fill_more before now k a F h e = record { size = length-set now k a ∙ F.size; filled = λ y c. go y c (ℕ_discrete y k) }
    where
      go : (y : ℕ) → y < k + 1 → Dec (y ≡ k) → get_or (set now k a) y d ≡ f y
      go y c (yes i) = rw i (get_or-set_same now k a d h ∙ e)
      go y c (no i) = get_or-set_other now k y a d i ∙ F.filled y (omega arith)

  pub fill_all : (before now : List A) (k n : ℕ) → Filling d f before now k → length before ≡ n → n ≤ k → now ≡ tabulate n f
  fill_all before now k n F e h =
      ext_get_or d now (tabulate n f) (F.size ∙ e ∙ sym (tabulate-length n f))
      (λ y c. F.filled y (omega (arith, F.size)) ∙ sym (tabulate_at d n f y (omega (arith, F.size))))
