-- The laws of XOR: associative, cancelling.
use mathlib.Core.Path.{◌≡◌, refl, sym, ap, ◌∙◌}
use Prim.Native.Nat.{ℕ, zero, suc, ◌/◌, ◌%◌, ◌<◌}
use native.Mathlib.Nat.{le_of_suc-le-suc, not-suc-le-zero, mod-lt, zero-lt-suc}
use lib.Arith.{bin_ind, digits_div, digits_mod}
use lib.Bits.{bit_xor, differ, xor_step, xor_comm, xor_self, xor_zero_r}
use lib.Dec.{lit<}

-- a digit is 0 or 1
bit : (P : ℕ → Type 0) → P 0 → P 1 → (n : ℕ) → P (n % 2)
bit P z o n = go (n % 2) (mod-lt n (zero-lt-suc 1))
  where
    go : (d : ℕ) → d < 2 → P d
    go zero h = z
    go (suc zero) h = o
    go (suc (suc d)) h = absurd (not-suc-le-zero (le_of_suc-le-suc (le_of_suc-le-suc h)))

bit_lt : (a b : ℕ) → differ (a % 2) (b % 2) < 2
bit_lt a b = bit (λ x. differ x (b % 2) < 2) (mod-lt b (zero-lt-suc 1)) (bit (λ y. differ 1 y < 2) (lit< tt) (lit< tt) b) a

bit_assoc : (a b c : ℕ) → differ (differ (a % 2) (b % 2)) (c % 2) ≡ differ (a % 2) (differ (b % 2) (c % 2))
bit_assoc a b c =
    bit (λ x. differ (differ x (b % 2)) (c % 2) ≡ differ x (differ (b % 2) (c % 2))) refl
    (bit (λ y. differ (differ 1 y) (c % 2) ≡ differ 1 (differ y (c % 2))) refl (bit (λ z. differ 0 z ≡ differ 1 (differ 1 z)) refl refl c) b) a

xor_half : (a b : ℕ) → bit_xor a b / 2 ≡ bit_xor (a / 2) (b / 2)
xor_half a b = ap (λ x. x / 2) (xor_step a b) ∙ digits_div (bit_xor (a / 2) (b / 2)) (bit_lt a b)

xor_bit : (a b : ℕ) → bit_xor a b % 2 ≡ differ (a % 2) (b % 2)
xor_bit a b = ap (λ x. x % 2) (xor_step a b) ∙ digits_mod (bit_xor (a / 2) (b / 2)) (bit_lt a b)

pub xor_assoc : (a b c : ℕ) → bit_xor (bit_xor a b) c ≡ bit_xor a (bit_xor b c)
xor_assoc =
    bin_ind (λ a. (b c : ℕ) → bit_xor (bit_xor a b) c ≡ bit_xor a (bit_xor b c)) (λ b c. refl)
    (λ a ih b c.
    xor_step (bit_xor a b) c
    ∙ rw (xor_half a b, xor_bit a b, ih (b / 2) (c / 2), bit_assoc a b c, ← (xor_half b c), ← (xor_bit b c)) (sym (xor_step a (bit_xor b c))))

pub xor_cancel_r : (a b : ℕ) → bit_xor (bit_xor a b) b ≡ a
xor_cancel_r a b = xor_assoc a b b ∙ rw xor_self (xor_zero_r a)

pub xor_cancel_l : (a b : ℕ) → bit_xor a (bit_xor a b) ≡ b
xor_cancel_l a b = sym (xor_assoc a a b) ∙ rw xor_self refl

pub xor_cancel_out : (a b : ℕ) → bit_xor (bit_xor a b) a ≡ b
xor_cancel_out a b = ap (λ x. bit_xor x a) (xor_comm a b) ∙ xor_cancel_r b a
