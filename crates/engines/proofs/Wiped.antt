-- What is said of the free slots after a done call apart from `Sound`, `UnlistedWiped`, on both sides and for every value. What calls leave in them is computed in `Turns`.
use mathlib.Core.Path.{refl}
use mathlib.Core.Logic.{◌≢◌}
use mathlib.Core.List.{[], ◌∷◌}
use Prim.Native.Nat.{ℕ, zero, suc}
use native.Mathlib.Omega.{arith}
use lib.Dec.{lit<}
use Rattle.shapes.specs.Shape.{Shape}
use Rattle.engines.specs.Moves.{State, UnlistedWiped}
use Rattle.books.specs.Tried.{entry, none}
use Rattle.engines.specs.Trial.{trial, pool}

-- N = 4: slot 2 is a list's, slots 1 and 3 are no list's; these are the values of slots 0 to 3
abbrev holding : ℕ → ℕ → ℕ → ℕ → State trial
holding a b c d = pool (0 ∷ 3 ∷ 0 ∷ 0 ∷ []) (0 ∷ 0 ∷ 0 ∷ 0 ∷ []) (a ∷ b ∷ c ∷ d ∷ []) 1 (entry 2 2 0 3 1 ∷ none 7) 1

abbrev middle : Shape
middle = record { chains = (2 ∷ []) ∷ []; idle = [] }

-- the list's slot may hold any value; the first and the last slot none but 0
pub unlisted_held : (v w : ℕ) → UnlistedWiped trial (holding v 0 w 0) middle
unlisted_held v w zero low high none = absurd (omega (arith, low))
unlisted_held v w (suc zero) low high none = refl
unlisted_held v w (suc (suc zero)) low high none = absurd (omega (arith, none))
unlisted_held v w (suc (suc (suc zero))) low high none = refl
unlisted_held v w (suc (suc (suc (suc y)))) low high none = refl

pub unlisted_asked : (v : ℕ) → v ≢ 0 → (UnlistedWiped trial (holding 0 v 9 0) middle → ⊥) × (UnlistedWiped trial (holding 0 0 9 v) middle → ⊥)
unlisted_asked v d = (λ u. d (u 1 (lit< tt) (lit< tt) refl), λ u. d (u 3 (lit< tt) (lit< tt) refl))
