-- The turns of the loop that empties a list.
use mathlib.Core.Path.{◌≡◌, refl}
use mathlib.Core.Logic.{◌⊎◌, inl, inr}
use mathlib.Core.Bool.{and-false}
use mathlib.Core.List.{List}
use Prim.Native.Nat.{ℕ, zero, suc, ◌-◌, ◌≤◌, ◌<◌}
use native.Mathlib.Nat.{not-suc-le-zero}
use native.Mathlib.Omega.{arith}
use lib.Bits.{bit_xor}
use lib.ListN.{length, set}
use borrow.Author.Tests.{lt-ltb, le-ltb}
use Rattle.books.specs.Book.{wipe_word}
use Rattle.books.specs.Outcome.{Outcome, outcome}
use Rattle.books.specs.declared.Free.{Free}
use Rattle.chains.specs.Chain.{cell}
use Rattle.xor.specs.Along.{clear_along}

-- with so many slots left, at `slot` with `last` before it, what is to come is what was to come from the start; and what is stored in a link is small enough for one
pub record Emptying (links₀ values₀ links values : List ℕ) (slot last head stored left : ℕ) (whole : Outcome Free) : Type 0 where
  pub same_links : length links ≡ length links₀
  pub same_values : length values ≡ length values₀
  pub small : (slot < 65536) × (last < 65536) × (head < 65536)
  pub comes : clear_along left links values last slot (record { head = head; count = stored }) ≡ whole

module _ (links values : List ℕ) (slot last head stored : ℕ) where
  pub along_none : (left : ℕ) → left ≤ 0 → outcome (record { head = head; count = stored }) links values ≡ clear_along left links values last slot (record { head = head; count = stored })
  unfolding clear_along
  along_none zero h = refl
  along_none (suc left) h = absurd (not-suc-le-zero h)

  pub along_turn : (left : ℕ) → 0 < left → slot < length links → slot < length values
      → clear_along (left - 1) (set links slot head) (set values slot wipe_word) slot (bit_xor (cell links slot) last) (record { head = slot; count = stored }) ≡ clear_along left links values last slot (record { head = head; count = stored })
  unfolding clear_along
  along_turn zero h p q = absurd (not-suc-le-zero h)
  along_turn (suc left) h p q =
      let k : suc left - 1 ≡ left = omega arith in
      rw (lt-ltb slot (length links) p, lt-ltb slot (length values) q, k)

  -- a number that lacks one of the two cells
  pub along_stops : (left : ℕ) → (length links ≤ slot) ⊎ (length values ≤ slot) → outcome (record { head = head; count = stored }) links values ≡ clear_along left links values last slot (record { head = head; count = stored })
  unfolding clear_along
  along_stops zero h = refl
  along_stops (suc left) (inl h) = rw (le-ltb slot (length links) h)
  along_stops (suc left) (inr h) = rw (le-ltb slot (length values) h, and-false)
