-- A slot comes to the front of a chain or leaves it, and what the ends of a sequence without the null slot say of it.
use mathlib.Core.Path.{◌≡◌, sym, ap, ◌∙◌}
use mathlib.Core.Logic.{◌≢◌}
use mathlib.Core.List.{List, [], ◌∷◌}
use Prim.Native.Nat.{ℕ, zero, suc, ◌≤◌, ◌<◌}
use native.Mathlib.Nat.{not-suc-le-zero, zero-lt-suc}
use native.Mathlib.Omega.{arith}
use lib.Bits.{bit_xor, xor_comm}
use Rattle.chains.specs.Count.{hit, count}
use Rattle.chains.specs.Chain.{first_or, last_or, following}
use Rattle.chains.proofs.Count.{hit_same, count_apart, count_first}
use Rattle.chains.proofs.Xor.{xor_cancel_out}
use Rattle.chains.proofs.Chain.{Chain, chain_frame}

-- ---- the ends

-- a first slot is in its sequence
pub first_in : (xs : List ℕ) → 0 < first_or 0 xs → 0 < count (first_or 0 xs) xs
first_in [] h = absurd (not-suc-le-zero h)
first_in (x ∷ xs) h = count_first x xs

pub last_in : (p : ℕ) (xs : List ℕ) → 0 < count (last_or p xs) (p ∷ xs)
last_in p [] = count_first p []
last_in p (x ∷ xs) = omega (arith, last_in x xs)

-- a slot that is not in a sequence is not its first
pub first_apart : (xs : List ℕ) (y : ℕ) → 0 < y → count y xs ≡ 0 → y ≢ first_or 0 xs
first_apart [] y p z e = omega arith
first_apart (x ∷ xs) y p z e = omega (arith, ap (hit y) (sym e), hit_same y)

-- slots are not null
pub first_not_null : (x : ℕ) (xs : List ℕ) → count 0 (x ∷ xs) ≡ 0 → 0 < x
first_not_null zero xs h = omega arith
first_not_null (suc x) xs h = zero-lt-suc x

pub last_not_null : (x : ℕ) (xs : List ℕ) → 0 < x → count 0 xs ≡ 0 → 0 < last_or x xs
last_not_null x [] p z = p
last_not_null x (y ∷ ys) p z = last_not_null y ys (first_not_null y ys z) (omega arith)

-- ---- the front of a live chain

-- the sequence xs with f in front: f's cell is the old first slot, and the old first slot's cell is xored with f
pub push_chain : (at at' : ℕ → ℕ) (f : ℕ) (xs : List ℕ) → ((y : ℕ) → count y xs ≤ 1) → count 0 xs ≡ 0
    → at' f ≡ first_or 0 xs → (0 < first_or 0 xs → at' (first_or 0 xs) ≡ bit_xor (at (first_or 0 xs)) f)
    → ((y : ℕ) → 0 < count y xs → y ≢ first_or 0 xs → at' y ≡ at y)
    → Chain bit_xor at 0 xs 0 → Chain bit_xor at' 0 (f ∷ xs) 0
push_chain at at' f [] u z a s o c = (a, tt)
push_chain at at' f (x ∷ xs) u z a s o c = (
  a,
  (
    s (first_not_null x xs z) ∙ ap (λ r. bit_xor r f) c.0 ∙ xor_comm (first_or 0 xs) f,
    chain_frame bit_xor at at' x xs 0 (λ y p. o y (omega arith) (count_apart xs {y = y} {z = x} p (omega (arith, u x, hit_same x)))) c.1,
  ),
)

-- the sequence without its first slot f: the new first slot's cell is xored with f
pub pop_chain : (at at' : ℕ → ℕ) (f : ℕ) (xs : List ℕ) → ((y : ℕ) → count y xs ≤ 1) → count 0 xs ≡ 0
    → (0 < first_or 0 xs → at' (first_or 0 xs) ≡ bit_xor (at (first_or 0 xs)) f)
    → ((y : ℕ) → 0 < count y xs → y ≢ first_or 0 xs → at' y ≡ at y)
    → Chain bit_xor at 0 (f ∷ xs) 0 → Chain bit_xor at' 0 xs 0
pop_chain at at' f [] u z s o c = tt
pop_chain at at' f (x ∷ xs) u z s o c = (
  s (first_not_null x xs z) ∙ ap (λ r. bit_xor r f) c.1.0 ∙ xor_cancel_out f (first_or 0 xs),
  chain_frame bit_xor at at' x xs 0 (λ y p. o y (omega arith) (count_apart xs {y = y} {z = x} p (omega (arith, u x, hit_same x)))) c.1.1,
)

-- ---- the front of an idle chain

-- which slot stands before the first idle one does not matter
pub idle_any : (at : ℕ → ℕ) (p r : ℕ) (xs : List ℕ) → Chain following at p xs 0 → Chain following at r xs 0
idle_any at p r [] c = tt
idle_any at p r (x ∷ xs) c = c
