-- Two tests in one, and case analysis over a choice by a test.
use mathlib.Core.Path.{◌≡◌, refl}
use mathlib.Core.Bool.{Bool, true, false, cond, not, ◌&&◌}
use Prim.Native.Nat.{ℕ}
use native.Mathlib.Decide.{ℕ_discrete}
use native.Mathlib.Omega.{arith}
use lib.Bits.{bit_or, or_zero_l, or_add_and, and_le_l, and_le_r}
use lib.Dec.{eqb}
use borrow.Author.Tests.{ne_eqb}

pub and_both : (a b : Bool) → a && b ≡ true → (a ≡ true) × (b ≡ true)
and_both true b h = (refl, h)
and_both false b h = absurd (let z : ◌≡◌ {A = ℕ} 0 1 = cc in omega arith)

pub both_and : (a b : Bool) → a ≡ true → b ≡ true → a && b ≡ true
both_and true b p q = q
both_and false b p q = p

pub not_is : {b : Bool} → b ≡ false → not b ≡ true
not_is e = rw e

pub not_both : {A : Type 0} (b : Bool) → b ≡ true → b ≡ false → A
not_both b p q = absurd (let z : ◌≡◌ {A = ℕ} 0 1 = cc in omega arith)

-- what holds of each branch where it is taken holds of the choice
pub cond_ind : {A : Type 0} (P : A → Type 0) (b : Bool) {x y : A} → (b ≡ true → P x) → (b ≡ false → P y) → P (cond b x y)
cond_ind P true f g = f refl
cond_ind P false f g = g refl

-- ---- numbers gathered into one by their bits

pub or_none : (a b : ℕ) → bit_or a b ≡ 0 → (a ≡ 0) × (b ≡ 0)
or_none a b h = (omega (arith, or_add_and a b, and_le_r a b), omega (arith, or_add_and a b, and_le_l a b))

-- the gathered number is 0 exactly where both are
pub or_zero : (a b : ℕ) → eqb (bit_or a b) 0 ≡ eqb a 0 && eqb b 0
or_zero a b = go (ℕ_discrete a 0)
  where
    go : Dec (a ≡ 0) → eqb (bit_or a b) 0 ≡ eqb a 0 && eqb b 0
    go (yes e) = rw (e, or_zero_l b)
    go (no d) = rw (ne_eqb a 0 d, ne_eqb (bit_or a b) 0 (λ h. d (or_none a b h).0))

-- tests taken one after the other, from the left or from the right
pub and_in_turn : (a b c d e : Bool) → (((a && b) && c) && d) && e ≡ a && (b && (c && (d && e)))
and_in_turn true true true d e = refl
and_in_turn true true false d e = refl
and_in_turn true false c d e = refl
and_in_turn false b c d e = refl
