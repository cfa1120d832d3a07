-- What the lists lack, or a number with its place, is found again in the one number that it is put into.
use mathlib.Core.Path.{◌≡◌, refl, sym, ap, ◌∙◌}
use mathlib.Core.Logic.{◌≢◌}
use Prim.Native.Nat.{ℕ, ◌+◌, ◌*◌, ◌/◌, ◌%◌, ◌<◌}
use native.Mathlib.Decide.{ℕ_discrete}
use native.Mathlib.Omega.{arith, div_fact, mod_fact}
use borrow.Author.Tests.{ne_eqb}
use Rattle.shapes.specs.Records.{Looked}
use Rattle.pools.specs.Word.{fine, broken_at, told_by, NoMore}

low : (a b : ℕ) → a < 65536 → (a + 65536 * b) % 65536 ≡ a
low a b h = omega (arith, h, div_fact (a + 65536 * b) 65535, mod_fact (a + 65536 * b) 65535)

high : (a b : ℕ) → a < 65536 → (a + 65536 * b) / 65536 ≡ b
high a b h = omega (arith, h, div_fact (a + 65536 * b) 65535, mod_fact (a + 65536 * b) 65535)

pub low_word_zero : (b : ℕ) → 65536 * b % 65536 ≡ 0
low_word_zero b = omega (arith, div_fact (65536 * b) 65535, mod_fact (65536 * b) 65535)

whole : (b : ℕ) → 65536 * b / 65536 ≡ b
whole b = omega (arith, div_fact (65536 * b) 65535, mod_fact (65536 * b) 65535)

small : (a : ℕ) → a < 65536 → a % 65536 ≡ a
small a h = omega (arith, h, div_fact a 65535, mod_fact a 65535)

pub lacks_again : (lacks : ℕ) → told_by (65536 * lacks) ≡ fine lacks
lacks_again lacks = rw (low_word_zero lacks, whole lacks) refl

-- a number that has these three, of which the first is not 0
made_broken : (word : ℕ) {rule list place : ℕ} → word % 65536 ≡ rule → rule ≢ 0 → word / 65536 % 65536 ≡ list → word / 65536 / 65536 % 65536 ≡ place → told_by word ≡ broken_at rule list place
made_broken word {rule} e d f g = rw (e, ne_eqb rule 0 d, f, g) refl

pub place_again : (rule list place : ℕ) → rule ≢ 0 → rule < 65536 → list < 65536 → place < 65536 → told_by (rule + 65536 * (list + 65536 * place)) ≡ broken_at rule list place
place_again rule list place d p q r =
    let rest = list + 65536 * place in
    let word = rule + 65536 * rest in
    let one : word / 65536 ≡ rest = high rule rest p in
    made_broken word
    (low rule rest p)
    d
    (ap (λ (n : ℕ). n % 65536) one ∙ low list place q)
    (ap (λ (n : ℕ). n / 65536 % 65536) one ∙ ap (λ (n : ℕ). n % 65536) (high list place q) ∙ small place r)

-- what the low 16 bits are, they tell
number_told : (word : ℕ) → (told_by word).refusal.number ≡ word % 65536
number_told word = go (ℕ_discrete (word % 65536) 0)
  where
    go : Dec (word % 65536 ≡ 0) → (told_by word).refusal.number ≡ word % 65536
    go (yes z) = rw z
    go (no d) = rw (ne_eqb (word % 65536) 0 d)

-- two words that tell the same are one
pub told_one : (a b : ℕ) → NoMore a → NoMore b → told_by a ≡ told_by b → a ≡ b
told_one a b p q e = go (ℕ_discrete (a % 65536) 0)
  where
    n : a % 65536 ≡ b % 65536
    n = sym (number_told a) ∙ ap (λ (x : Looked). x.refusal.number) e ∙ number_told b

    split : (word : ℕ) → word ≡ word % 65536 + 65536 * (word / 65536 % 65536 + 65536 * (word / 65536 / 65536 % 65536 + 65536 * (word / 65536 / 65536 / 65536)))
    split word =
        omega (arith, div_fact word 65535, mod_fact word 65535, div_fact (word / 65536) 65535, mod_fact (word / 65536) 65535, div_fact (word / 65536 / 65536) 65535, mod_fact (word / 65536 / 65536) 65535)

    top : (word : ℕ) → word < 281474976710656 → word / 65536 / 65536 / 65536 ≡ 0
    top word h =
        omega (arith, h, div_fact word 65535, mod_fact word 65535, div_fact (word / 65536) 65535, mod_fact (word / 65536) 65535, div_fact (word / 65536 / 65536) 65535, mod_fact (word / 65536 / 65536) 65535)

    go : Dec (a % 65536 ≡ 0) → a ≡ b
    go (yes z) =
        let w : b % 65536 ≡ 0 = sym n ∙ z in
        let f : fine (a / 65536) ≡ fine (b / 65536) = rw (z, w) at e in
        omega (arith, z, w, div_fact a 65535, mod_fact a 65535, div_fact b 65535, mod_fact b 65535, ap (λ (x : Looked). x.found.lacks) f)
    go (no d) =
        let k : b % 65536 ≢ 0 = λ z. d (n ∙ z) in
        let f : broken_at (a % 65536) (a / 65536 % 65536) (a / 65536 / 65536 % 65536) ≡ broken_at (b % 65536) (b / 65536 % 65536) (b / 65536 / 65536 % 65536) = rw (ne_eqb (a % 65536) 0 d, ne_eqb (b % 65536) 0 k) at e in
        omega (arith, n, split a, split b, top a (p d), top b (q k), ap (λ (x : Looked). x.refusal.list) f, ap (λ (x : Looked). x.refusal.position) f)
