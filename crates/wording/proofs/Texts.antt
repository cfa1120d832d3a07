-- Each number has its own text, none is empty, every byte can be shown, and none has more than 64 bytes: by two computed tests.
use mathlib.Core.Path.{◌≡◌, sym, subst, ◌∙◌}
use mathlib.Core.Bool.{Bool, true, false, not, ◌&&◌}
use mathlib.Core.List.{List, [], ◌∷◌, ◌++◌}
use Prim.Native.Nat.{ℕ, zero, suc, ◌+◌, ◌≤◌, ◌<◌}
use native.Mathlib.Omega.{arith}
use native.Mathlib.Decide.{dec_le}
use lib.Dec.{T, ltb, leb, eqb, ltb→lt, leb→le, eqb_refl, T_not}
use lib.ListN.{length, get_or, get_or-append, get_or-eq_default}
use Rattle.wording.specs.Digits.{Written}
use Rattle.wording.specs.Texts.{known, unknown, text_of, Printable, most_bytes}

both : (a b : Bool) → T (a && b) → T a × T b
both true b h = (tt, h)
both false b h = absurd h

-- ---- what one test says of every text

abbrev every : {A : Type 0} → (A → Bool) → List A → Bool
every test [] = true
every test (x ∷ xs) = test x && every test xs

-- what passes for the default and for every one passes at every place
at_every : {A : Type 0} (test : A → Bool) (d : A) (xs : List A) → T (test d) → T (every test xs) → (i : ℕ) → T (test (get_or xs i d))
at_every test d [] p h i = p
at_every test d (x ∷ xs) p h zero = (both (test x) (every test xs) h).0
at_every test d (x ∷ xs) p h (suc i) = at_every test d xs p (both (test x) (every test xs) h).1 i

-- what passes for every one passes at every place that there is
at_each : {A : Type 0} (test : A → Bool) (d : A) (xs : List A) → T (every test xs) → (i : ℕ) → i < length xs → T (test (get_or xs i d))
at_each test d [] h i l = absurd (omega arith)
at_each test d (x ∷ xs) h zero l = (both (test x) (every test xs) h).0
at_each test d (x ∷ xs) h (suc i) l = at_each test d xs (both (test x) (every test xs) h).1 i (omega arith)

abbrev is_printable : ℕ → Bool
is_printable byte = leb 32 byte && leb byte 126

abbrev is_text : List ℕ → Bool
is_text text = ltb 0 (length text) && (leb (length text) most_bytes && every is_printable text)

text_passes : (n : ℕ) → T (is_text (text_of n))
unfolding text_of
text_passes n = at_every is_text unknown known tt tt n

module _ (n : ℕ) where
  split : T (ltb 0 (length (text_of n))) × T (leb (length (text_of n)) most_bytes) × T (every is_printable (text_of n))
  split =
      let (a, h) = both (ltb 0 (length (text_of n))) (leb (length (text_of n)) most_bytes && every is_printable (text_of n)) (text_passes n) in
      let (b, e) = both (leb (length (text_of n)) most_bytes) (every is_printable (text_of n)) h in
      (a, b, e)

  -- no text is empty
  pub some_byte : 0 < length (text_of n)
  some_byte = ltb→lt 0 (length (text_of n)) split.0

  pub no_longer : length (text_of n) ≤ most_bytes
  no_longer = leb→le (length (text_of n)) most_bytes split.1

  -- each byte can be shown
  pub all_printable : (i : ℕ) → i < length (text_of n) → Printable (get_or (text_of n) i 0)
  all_printable i h =
      let b = get_or (text_of n) i 0 in
      let (l, m) = both (leb 32 b) (leb b 126) (at_each is_printable 0 (text_of n) split.2 i h) in
      (leb→le 32 b l, leb→le b 126 m)

  -- where there is room for `most_bytes`, every text is written
  pub room_enough : {before : List ℕ} {at r : ℕ} {after : List ℕ} → Written (text_of n) before at r after → at + most_bytes ≤ length before → r ≡ length (text_of n)
  room_enough W h = (W.fits (omega (arith, no_longer))).0

-- every number above 17 has the one text
pub above_known : (n : ℕ) → 17 < n → text_of n ≡ unknown
unfolding text_of
above_known n h = get_or-eq_default known unknown h

-- ---- no two are the same

abbrev same : List ℕ → List ℕ → Bool
same [] [] = true
same [] (y ∷ ys) = false
same (x ∷ xs) [] = false
same (x ∷ xs) (y ∷ ys) = eqb x y && same xs ys

join : (a b : Bool) → T a → T b → T (a && b)
join true b p q = q
join false b p q = p

same_self_lem : (xs : List ℕ) → T (same xs xs)
same_self_lem [] = tt
same_self_lem (x ∷ xs) = join (eqb x x) (same xs xs) (eqb_refl x) (same_self_lem xs)

abbrev differs : List ℕ → List ℕ → Bool
differs t u = not (same t u)

-- each differs from all that follow it
abbrev apart : List (List ℕ) → Bool
apart [] = true
apart (t ∷ ts) = every (differs t) ts && apart ts

never_same : (d t : List ℕ) (ts : List (List ℕ)) → T (every (differs t) ts) → (i : ℕ) → i < length ts → t ≡ get_or ts i d → ⊥
never_same d t ts h i l e =
    T_not (same t (get_or ts i d)) (at_each (differs t) d ts h i l) (subst (λ (u : List ℕ). T (same t u)) e (same_self_lem t))

one_place : (d : List ℕ) (ts : List (List ℕ)) → T (apart ts) → (i j : ℕ) → i < length ts → j < length ts → get_or ts i d ≡ get_or ts j d → i ≡ j
one_place d [] h i j l m e = absurd (omega arith)
one_place d (t ∷ ts) h zero zero l m e = omega arith
one_place d (t ∷ ts) h zero (suc j) l m e = absurd (never_same d t ts (both (every (differs t) ts) (apart ts) h).0 j (omega arith) e)
one_place d (t ∷ ts) h (suc i) zero l m e = absurd (never_same d t ts (both (every (differs t) ts) (apart ts) h).0 i (omega arith) (sym e))
one_place d (t ∷ ts) h (suc i) (suc j) l m e =
    let k = one_place d ts (both (every (differs t) ts) (apart ts) h).1 i j (omega arith) (omega arith) e in
    omega arith

-- the eighteen, and after them the one for every other number
place : (n : ℕ) → n ≤ 18 → get_or (known ++ unknown ∷ []) n unknown ≡ text_of n
unfolding text_of
place n h = go (dec_le 18 n)
  where
    go : Dec (18 ≤ n) → get_or (known ++ unknown ∷ []) n unknown ≡ text_of n
    go (yes l) = let e : n ≡ 18 = omega arith in rw e
    go (no l) = get_or-append known (unknown ∷ []) unknown n (omega arith)

-- no two of 0 to 17 have the same text, and none has the text of the numbers above, of which 18 is one
pub texts_differ : (m n : ℕ) → m ≤ 18 → n ≤ 18 → text_of m ≡ text_of n → m ≡ n
texts_differ m n p q e = one_place unknown (known ++ unknown ∷ []) tt m n (omega arith) (omega arith) (place m p ∙ e ∙ sym (place n q))
