-- The test `is_beside` is true exactly at a slot of the pool other than the given one.
use mathlib.Core.Path.{◌≡◌}
use mathlib.Core.Logic.{◌↔◌, ◌≢◌}
use mathlib.Core.Bool.{true}
use mathlib.Core.List.{List}
use Prim.Native.Nat.{ℕ}
use borrow.Author.Tests.{eqb-false, ne_eqb, not-true}
use Rattle.books.proofs.Tests.{and_both, both_and, not_is}
use Rattle.xor.specs.Slot.{InPool}
use Rattle.xor.proofs.Slot.{in_pool_lem}
use Rattle.xor.specs.Steps.{is_beside}

module _ (links values : List ℕ) (near slot : ℕ) where
  pub beside_iff : is_beside links values near slot ≡ true ↔ (near ≢ slot) × InPool links values near
  unfolding is_beside
  beside_iff = (
    λ h. let p = and_both _ _ h in (eqb-false near slot (not-true _ p.0), (in_pool_lem links values near).0 p.1),
    λ q. both_and _ _ (not_is (ne_eqb near slot q.0)) ((in_pool_lem links values near).1 q.1),
  )
