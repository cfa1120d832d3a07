-- Which arm of the choice a number takes, for the proof of the code that writes a text.
use mathlib.Core.Path.{◌≡◌, sym, subst}
use mathlib.Core.List.{List}
use Prim.Native.Nat.{ℕ, zero, suc, ◌+◌, ◌≤◌, ◌<◌}
use native.Mathlib.Omega.{arith}
use Rattle.wording.specs.Digits.{Written}
use Rattle.wording.specs.Texts.{unknown, text_of}
use Rattle.wording.proofs.Texts.{above_known}

-- the bytes that the arm for k writes are k's text
pub chosen : (k : ℕ) {n : ℕ} {before : List ℕ} {at r : ℕ} {after : List ℕ} → n ≡ k → Written (text_of k) before at r after → Written (text_of n) before at r after
chosen k {n} {before} {at} {r} {after} e W = subst (λ m. Written (text_of m) before at r after) (sym e) W

-- n is none of the k numbers from `first` on, said of one after the other
abbrev pub Passed : ℕ → ℕ → ℕ → Type 0
Passed first n zero = Unit {0}
Passed first n (suc k) = Passed first n k × (n ≡ first + k → ⊥)

-- such a number, if it is not below `first`, is past them all
pub past : (first k n : ℕ) → first ≤ n → Passed first n k → first + k ≤ n
past first zero n h r = omega arith
past first (suc k) n h r = omega (arith, past first k n h r.0, r.1)

pub by_default : {n : ℕ} {before : List ℕ} {at r : ℕ} {after : List ℕ} → 17 < n → Written unknown before at r after → Written (text_of n) before at r after
by_default {n} {before} {at} {r} {after} h W = subst (λ t. Written t before at r after) (sym (above_known n h)) W
