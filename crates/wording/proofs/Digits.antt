-- The digits that are worked out are the decimal digits of the number, and no others are.
use mathlib.Core.Path.{◌≡◌, refl, sym, ap, ◌∙◌}
use mathlib.Core.Logic.{◌⊎◌, inl, inr, ◌↔◌}
use mathlib.Core.Bool.{Bool, true, false}
use mathlib.Core.List.{List, [], ◌∷◌, ◌++◌}
use Prim.Native.Nat.{ℕ, zero, suc, ◌+◌, ◌*◌, ◌/◌, ◌%◌, ◌^◌, ◌≤◌, ◌<◌}
use native.Mathlib.Nat.{mul_assoc, mul-le-mul_right, pow-suc, pow-le-pow_right, one-le-pow, div-add-mod', div-eq_of_lt, mul-add-div_right}
use native.Mathlib.Omega.{arith}
use lib.Dec.{ltb}
use lib.ListN.{length, get_or, length-append}
use borrow.Author.Tests.{ltb-true, ltb-false}
use Rattle.wording.specs.Digits.{value_of, Decimal, digits_on, digits_of, bytes_of}

abbrev Small : List ℕ → Type 0
Small ds = (i : ℕ) → i < length ds → get_or ds i 0 < 10

abbrev Front : List ℕ → Type 0
Front ds = (ds ≡ 0 ∷ []) ⊎ (0 < get_or ds 0 0)

-- ---- a digit more

value_last : (ds : List ℕ) (d : ℕ) → value_of (ds ++ d ∷ []) ≡ value_of ds * 10 + d
value_last [] d = omega arith
value_last (e ∷ ds) d =
    let k : length (ds ++ d ∷ []) ≡ suc (length ds) = omega (arith, length-append ds (d ∷ [])) in
    let p : e * 10 ^ length (ds ++ d ∷ []) ≡ e * 10 ^ length ds * 10 = ap (λ m. e * 10 ^ m) k ∙ ap (λ m. e * m) (pow-suc 10 (length ds)) ∙ sym (mul_assoc e (10 ^ length ds) 10) in
    omega (arith, p, value_last ds d)

small_last : (ds : List ℕ) (d : ℕ) → Small ds → d < 10 → Small (ds ++ d ∷ [])
small_last [] d s h zero l = h
small_last [] d s h (suc i) l = absurd (omega arith)
small_last (e ∷ ds) d s h zero l = s 0 (omega arith)
small_last (e ∷ ds) d s h (suc i) l = small_last ds d (λ j k. s (suc j) (omega arith)) h i (omega arith)

decimal_one : (n : ℕ) → n < 10 → Decimal n (n ∷ [])
decimal_one n h = record { value = omega arith; small = small_last [] n (λ i l. absurd (omega arith)) h; front = front n }
  where
    front : (n : ℕ) → Front (n ∷ [])
    front zero = inl refl
    front (suc n) = inr (omega arith)

decimal_more : (n : ℕ) (ds : List ℕ) → 10 ≤ n → Decimal (n / 10) ds → Decimal n (ds ++ (n % 10) ∷ [])
decimal_more n ds h D =
    record {
      value = value_last ds (n % 10) ∙ ap (λ v. v * 10 + n % 10) D.value ∙ div-add-mod' n 10;
      small = small_last ds (n % 10) D.small (omega arith);
      front = inr (front ds D.value D.front);
    }
  where
    front : (ds : List ℕ) → value_of ds ≡ n / 10 → Front ds → 0 < get_or (ds ++ (n % 10) ∷ []) 0 0
    front [] v f = absurd (omega arith)
    front (d ∷ ds) v (inl e) = absurd (omega (arith, ap value_of e))
    front (d ∷ ds) v (inr p) = p

-- ---- how much digits are worth

below : (ds : List ℕ) → Small ds → value_of ds < 10 ^ length ds
below [] s = omega arith
below (d ∷ ds) s =
    let h : d < 10 = s 0 (omega arith) in
    let m : d ≤ 9 = omega arith in
    omega (arith, below ds (λ i l. s (suc i) (omega arith)), mul-le-mul_right (10 ^ length ds) m, pow-suc 10 (length ds))

least : (d : ℕ) (ds : List ℕ) → 0 < d → 10 ^ length ds ≤ value_of (d ∷ ds)
least d ds h = omega (arith, mul-le-mul_right (10 ^ length ds) h)

positive : (ds : List ℕ) → 0 < get_or ds 0 0 → 0 < value_of ds
positive [] h = h
positive (d ∷ ds) h = omega (arith, least d ds h, one-le-pow (length ds) 10 (omega arith))

-- ---- one number, one sequence

first_digit : (p d v : ℕ) → v < p → (d * p + v) / p ≡ d
first_digit p d v h = let z : 0 < p = omega arith in omega (arith, mul-add-div_right z d v, div-eq_of_lt h)

-- as many digits, worth the same, are the same
same_digits : (xs ys : List ℕ) → length xs ≡ length ys → Small xs → Small ys → value_of xs ≡ value_of ys → xs ≡ ys
same_digits [] [] l s t v = refl
same_digits [] (y ∷ ys) l s t v = absurd (omega arith)
same_digits (x ∷ xs) [] l s t v = absurd (omega arith)
same_digits (x ∷ xs) (y ∷ ys) l s t v =
    let k : length xs ≡ length ys = omega arith in
    let s' : Small xs = λ i h. s (suc i) (omega arith) in
    let t' : Small ys = λ i h. t (suc i) (omega arith) in
    let w : x * 10 ^ length ys + value_of xs ≡ y * 10 ^ length ys + value_of ys = rw k at v in
    let b : value_of xs < 10 ^ length ys = rw k at (below xs s') in
    let e : x ≡ y = sym (first_digit (10 ^ length ys) x (value_of xs) b) ∙ ap (λ n. n / 10 ^ length ys) w ∙ first_digit (10 ^ length ys) y (value_of ys) (below ys t') in
    let r = same_digits xs ys k s' t' (omega (arith, ap (λ n. n * 10 ^ length ys) e)) in
    cc

-- no fewer digits are worth as much, where the first of the others is not 0
no_fewer : (xs : List ℕ) (y : ℕ) (ys : List ℕ) → Small xs → 0 < y → value_of xs ≡ value_of (y ∷ ys) → length xs ≤ length ys → ⊥
no_fewer xs y ys s h v l = omega (arith, below xs s, pow-le-pow_right {n = 10} (omega arith) l, least y ys h)

same_front : (xs ys : List ℕ) → Small xs → Small ys → value_of xs ≡ value_of ys → 0 < get_or xs 0 0 → 0 < get_or ys 0 0 → xs ≡ ys
same_front [] ys s t v p q = absurd (omega arith)
same_front (x ∷ xs) [] s t v p q = absurd (omega arith)
same_front (x ∷ xs) (y ∷ ys) s t v p q =
    same_digits (x ∷ xs) (y ∷ ys) (omega (arith, no_fewer (x ∷ xs) y ys s q v, no_fewer (y ∷ ys) x xs t p (sym v))) s t v

pub decimal_unique : {n : ℕ} {xs ys : List ℕ} → Decimal n xs → Decimal n ys → xs ≡ ys
decimal_unique {n} {xs} {ys} D E = go D.front E.front
  where
    go : Front xs → Front ys → xs ≡ ys
    go (inl e) (inl f) = e ∙ sym f
    go (inl e) (inr q) = absurd (omega (arith, D.value, E.value, ap value_of e, positive ys q))
    go (inr p) (inl f) = absurd (omega (arith, D.value, E.value, ap value_of f, positive xs p))
    go (inr p) (inr q) = same_front xs ys D.small E.small (D.value ∙ sym E.value) p q

-- ---- the digits that are worked out

-- any number of steps above n is enough
decimal_on : (steps n : ℕ) → n < steps → Decimal n (digits_on steps n)
unfolding digits_on
decimal_on zero n h = absurd (omega arith)
decimal_on (suc steps) n h = go (λ k. decimal_on steps (n / 10) k) (ltb n 10) refl
  where
    go : (n / 10 < steps → Decimal (n / 10) (digits_on steps (n / 10))) → (b : Bool) → ltb n 10 ≡ b → Decimal n (digits_on (suc steps) n)
    go f true e = rw (e, digits_on) (decimal_one n (ltb-true n 10 e))
    go f false e = rw (e, digits_on) (let l = ltb-false n 10 e in decimal_more n (digits_on steps (n / 10)) l (f (omega arith)))

pub digits_decimal : (n : ℕ) → Decimal n (digits_of n)
digits_decimal n = decimal_on (suc n) n (omega arith)

-- a sequence is the decimal digits of n exactly where it is the one that is worked out
pub digits_exactly : (n : ℕ) (ds : List ℕ) → Decimal n ds ↔ ds ≡ digits_of n
digits_exactly n ds = (λ D. decimal_unique D (digits_decimal n), λ e. rw e (digits_decimal n))

pub digits_one : (n : ℕ) → n < 10 → digits_of n ≡ n ∷ []
digits_one n h = decimal_unique (digits_decimal n) (decimal_one n h)

pub digits_more : (n : ℕ) → 10 ≤ n → digits_of n ≡ digits_of (n / 10) ++ (n % 10) ∷ []
digits_more n h = decimal_unique (digits_decimal n) (decimal_more n (digits_of (n / 10)) h (digits_decimal (n / 10)))

pub some_digit : (n : ℕ) → 0 < length (digits_of n)
some_digit n = go (digits_of n) (digits_decimal n).front
  where
    go : (ds : List ℕ) → Front ds → 0 < length ds
    go [] (inl e) = omega (arith, ap length e)
    go [] (inr p) = p
    go (d ∷ ds) f = omega arith

-- a number of 64 bits has at most twenty digits
pub at_most_twenty : (n : ℕ) → n < 2 ^ 64 → length (digits_of n) ≤ 20
at_most_twenty n h = go (digits_of n) (digits_decimal n).value (digits_decimal n).front
  where
    go : (ds : List ℕ) → value_of ds ≡ n → Front ds → length ds ≤ 20
    go ds v (inl e) = omega (arith, ap length e)
    go [] v (inr p) = omega arith
    go (d ∷ ds) v (inr p) =
        let no : 20 ≤ length ds → ⊥ = λ l. omega (arith, pow-le-pow_right {n = 10} (omega arith) l, least d ds p) in
        omega arith

-- ---- some numbers, computed

-- the largest of 64 bits
pub largest_digits : digits_of 18446744073709551615 ≡ 1 ∷ 8 ∷ 4 ∷ 4 ∷ 6 ∷ 7 ∷ 4 ∷ 4 ∷ 0 ∷ 7 ∷ 3 ∷ 7 ∷ 0 ∷ 9 ∷ 5 ∷ 5 ∷ 1 ∷ 6 ∷ 1 ∷ 5 ∷ []
unfolding digits_on
largest_digits = refl

-- each of the ten digits as its byte, and 0 alone
pub ten_bytes : bytes_of 9876543210 ≡ 57 ∷ 56 ∷ 55 ∷ 54 ∷ 53 ∷ 52 ∷ 51 ∷ 50 ∷ 49 ∷ 48 ∷ []
unfolding digits_on
ten_bytes = refl

pub zero_bytes : bytes_of 0 ≡ 48 ∷ []
unfolding digits_on
zero_bytes = refl
