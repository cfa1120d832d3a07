-- The test `in_pool` is true exactly at the slots from 1 to N-1.
use mathlib.Core.Path.{◌≡◌}
use mathlib.Core.Logic.{◌↔◌, ◌≢◌}
use mathlib.Core.Bool.{true, false}
use mathlib.Core.List.{List}
use Prim.Native.Nat.{ℕ}
use native.Mathlib.Omega.{arith}
use borrow.Author.Tests.{ltb-true, lt-ltb, eqb-false, ne_eqb, not-true}
use Rattle.books.specs.Book.{null_slot}
use Rattle.books.proofs.Tests.{and_both, both_and, not_is, not_both}
use Rattle.xor.specs.Slot.{InPool, in_pool}

module _ (links values : List ℕ) (slot : ℕ) where
  pub in_pool_lem : in_pool links values slot ≡ true ↔ InPool links values slot
  unfolding in_pool
  in_pool_lem = (
    λ h. let a = and_both _ _ h in
        let b = and_both _ _ a.1 in
        let n : slot ≢ null_slot = eqb-false _ _ (not-true _ a.0) in
        record { not_null = omega arith; has_link = ltb-true _ _ b.0; has_value = ltb-true _ _ b.1 },
    λ p. both_and _ _ (not_is (ne_eqb slot null_slot (λ e. omega (arith, p.not_null)))) (both_and _ _ (lt-ltb _ _ p.has_link) (lt-ltb _ _ p.has_value)),
  )

  pub not_in_pool : in_pool links values slot ≡ false → InPool links values slot → ⊥
  not_in_pool h p = not_both (in_pool links values slot) (in_pool_lem.1 p) h
