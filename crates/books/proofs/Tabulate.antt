-- A list given by what stands at each of its places: its length, and each place.
use mathlib.Core.Path.{◌≡◌, refl, ap}
use Prim.Native.Nat.{ℕ, zero, suc, ◌<◌}
use native.Mathlib.Nat.{le_of_suc-le-suc, not-suc-le-zero}
use lib.ListN.{length, get_or}
use Rattle.books.specs.Tabulate.{tabulate}

pub tabulate-length : {A : Type 0} (n : ℕ) (f : ℕ → A) → length (tabulate n f) ≡ n
unfolding tabulate
tabulate-length zero f = refl
tabulate-length (suc n) f = ap suc (tabulate-length n (λ y. f (suc y)))

pub tabulate_at : {A : Type 0} (d : A) (n : ℕ) (f : ℕ → A) (y : ℕ) → y < n → get_or (tabulate n f) y d ≡ f y
unfolding tabulate
tabulate_at d zero f y h = absurd (not-suc-le-zero h)
tabulate_at d (suc n) f zero h = refl
tabulate_at d (suc n) f (suc y) h = tabulate_at d n (λ z. f (suc z)) y (le_of_suc-le-suc h)
