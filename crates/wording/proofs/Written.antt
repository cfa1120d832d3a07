-- What a buffer holds after each way out of the digit writer, and what follows from the promise place by place.
use mathlib.Core.Path.{◌≡◌, refl, sym, ap, ◌∙◌}
use mathlib.Core.Logic.{◌⊎◌, inl, inr, ◌↔◌}
use mathlib.Core.List.{List, [], ◌∷◌, ◌++◌, map, append_assoc, append-nil}
use Prim.Native.Nat.{ℕ, suc, ◌+◌, ◌-◌, ◌/◌, ◌%◌, ◌^◌, ◌≤◌, ◌<◌}
use native.Mathlib.Nat.{le_of_eq, zero-add}
use native.Mathlib.Omega.{arith}
use native.Mathlib.Decide.{dec_le}
use lib.ListN.{length, get_or, take, drop, set, length-append, length-drop, length-map, take-append-drop, drop_of_length-le, get_or-append}
use lib.Seq.{length-take-le, length_front, take_all, drop-cons, drop-drop, drop-append-le, set_at, get_or-take, get_or-drop, get_or-append-add}
use Rattle.wording.specs.Digits.{digits_of, ascii_of, bytes_of, Written}
use Rattle.wording.proofs.Digits.{digits_one, digits_more, some_digit, at_most_twenty}

-- ---- the bytes

pub bytes_one : (n : ℕ) → n < 10 → bytes_of n ≡ ascii_of n ∷ []
bytes_one n h = ap (map ascii_of) (digits_one n h)

last_byte : (ds : List ℕ) (d : ℕ) → map ascii_of (ds ++ d ∷ []) ≡ map ascii_of ds ++ ascii_of d ∷ []
last_byte [] d = refl
last_byte (e ∷ ds) d = ap (λ bs. ascii_of e ∷ bs) (last_byte ds d)

pub bytes_more : (n : ℕ) → 10 ≤ n → bytes_of n ≡ bytes_of (n / 10) ++ ascii_of (n % 10) ∷ []
bytes_more n h = ap (map ascii_of) (digits_more n h) ∙ last_byte (digits_of (n / 10)) (n % 10)

pub some_digit_byte : (n : ℕ) → 0 < length (bytes_of n)
some_digit_byte n = omega (arith, length-map (digits_of n) ascii_of, some_digit n)

pub twenty_bytes : (n : ℕ) → n < 2 ^ 64 → length (bytes_of n) ≤ 20
twenty_bytes n h = omega (arith, length-map (digits_of n) ascii_of, at_most_twenty n h)

-- ---- the ways out of `put`

pub bytes_refused : (bytes before : List ℕ) (at : ℕ) → length before < at + length bytes → Written bytes before at 0 before
bytes_refused bytes before at h = record { fits = λ l. absurd (omega arith); short = λ l. (refl, refl) }

pub one_written : (b : ℕ) (before : List ℕ) → 0 < length before → Written (b ∷ []) before 0 1 (set before 0 b)
one_written b [] h = absurd (omega arith)
one_written b (x ∷ xs) h = record { fits = λ l. (refl, refl); short = λ l. absurd (omega arith) }

-- the bytes but the last were to go into all places but the last, and `part` is what these hold then
module _ (bytes before : List ℕ) (b : ℕ) (some : 0 < length before) (part : List ℕ) (count : ℕ) (W : Written bytes (take (length before - 1) before) 0 count part) where
  rest_size : length (take (length before - 1) before) ≡ length before - 1
  rest_size = length-take-le (length before - 1) before (omega arith)

  -- a place is left for the last byte
  pub last_free : count < length before
  last_free = go (dec_le (length bytes) (length before - 1))
    where
      go : Dec (length bytes ≤ length before - 1) → count < length before
      go (yes l) = omega (arith, (W.fits (omega (arith, rest_size))).0)
      go (no l) = omega (arith, (W.short (omega (arith, rest_size))).0)

  pub last_place : length part ≡ length (take (length before - 1) before) → count < length (part ++ drop (length before - 1) before)
  last_place k = rw (length_front before part (length before - 1) k) last_free

  pub last_refused : 0 < length bytes → count ≡ 0 → Written (bytes ++ b ∷ []) before 0 0 (part ++ drop (length before - 1) before)
  last_refused h z = go (dec_le (length bytes) (length before - 1))
    where
      go : Dec (length bytes ≤ length before - 1) → Written (bytes ++ b ∷ []) before 0 0 (part ++ drop (length before - 1) before)
      go (yes l) = absurd (omega (arith, (W.fits (omega (arith, rest_size))).0))
      go (no l) =
          rw ((W.short (omega (arith, rest_size))).1, take-append-drop (length before - 1) before)
          (bytes_refused (bytes ++ b ∷ []) before 0 (omega (arith, length-append bytes (b ∷ []))))

  -- all places: the bytes, the one that the last is stored to, and the rest as they were
  whole : length bytes ≤ length before - 1 → part ++ drop (length before - 1) before ≡ bytes ++ get_or before (length bytes) 0 ∷ drop (suc (length bytes)) before
  whole l =
      ap (λ zs. zs ++ drop (length before - 1) before) ((W.fits (omega (arith, rest_size))).1 ∙ ap (λ n. bytes ++ drop n (take (length before - 1) before)) (zero-add (length bytes)))
      ∙ append_assoc bytes (drop (length bytes) (take (length before - 1) before)) (drop (length before - 1) before)
      ∙ ap (λ zs. bytes ++ zs)
      (sym (drop-append-le (length bytes) (take (length before - 1) before) (drop (length before - 1) before) (omega (arith, rest_size)))
      ∙ ap (drop (length bytes)) (take-append-drop (length before - 1) before)
      ∙ drop-cons before (length bytes) 0 (omega arith))

  pub last_written : 0 < count → Written (bytes ++ b ∷ []) before 0 (count + 1) (set (part ++ drop (length before - 1) before) count b)
  last_written h = go (dec_le (length bytes) (length before - 1))
    where
      go : Dec (length bytes ≤ length before - 1) → Written (bytes ++ b ∷ []) before 0 (count + 1) (set (part ++ drop (length before - 1) before) count b)
      go (yes l) =
          let k : count ≡ length bytes = (W.fits (omega (arith, rest_size))).0 in
          let j : 0 + length (bytes ++ b ∷ []) ≡ suc (length bytes) = omega (arith, length-append bytes (b ∷ [])) in
          record {
            fits = λ m. (
              omega arith,
              ap (λ zs. set zs count b) (whole l)
                  ∙ set_at bytes (get_or before (length bytes) 0) (drop (suc (length bytes)) before) b count (sym k)
                  ∙ sym (append_assoc bytes (b ∷ []) (drop (suc (length bytes)) before))
                  ∙ ap (λ n. bytes ++ b ∷ [] ++ drop n before) (sym j),
            );
            short = λ m. absurd (omega arith);
          }
      go (no l) = absurd (omega (arith, (W.short (omega (arith, rest_size))).0))

-- ---- the whole buffer

-- the part from `at` on was written
pub part_written : (bytes before : List ℕ) (at count : ℕ) (part : List ℕ) → at ≤ length before
    → Written bytes (take (length before - at) (drop at before)) 0 count part
    → Written bytes before at count (take at before ++ (part ++ drop (length before - at) (drop at before)))
part_written bytes before at count part h W₀ =
    rw (drop_of_length-le (drop at before) (le_of_eq (length-drop at before)), append-nil part)
    (record {
      fits = λ l.
          let f = W.fits (omega (arith, length-drop at before)) in (
            f.0,
            ap (λ zs. take at before ++ zs) (f.1 ∙ ap (λ n. bytes ++ drop n (drop at before)) (zero-add (length bytes)) ∙ ap (λ zs. bytes ++ zs) (drop-drop (length bytes) at before))
                ∙ sym (append_assoc (take at before) bytes (drop (at + length bytes) before)),
          );
      short = λ l.
          let f = W.short (omega (arith, length-drop at before)) in
          (f.0, ap (λ zs. take at before ++ zs) f.1 ∙ take-append-drop at before);
    })
  where
    W : Written bytes (drop at before) 0 count part
    W = rw (take_all (length before - at) (drop at before) (le_of_eq (length-drop at before))) at W₀

-- ---- what follows from the promise

module _ {bytes before : List ℕ} {at count : ℕ} {after : List ℕ} (W : Written bytes before at count after) where
  -- none is counted exactly where they do not all fit
  pub refused_exactly : 0 < length bytes → count ≡ 0 ↔ length before < at + length bytes
  refused_exactly h = (λ z. go z (dec_le (at + length bytes) (length before)), λ l. (W.short l).0)
    where
      go : count ≡ 0 → Dec (at + length bytes ≤ length before) → length before < at + length bytes
      go z (yes l) = absurd (omega (arith, (W.fits l).0))
      go z (no l) = omega arith

  -- what is counted, and what the buffer holds then, is determined
  pub written_once : {n : ℕ} {other : List ℕ} → Written bytes before at n other → (count ≡ n) × (after ≡ other)
  written_once {n} {other} U = go (dec_le (at + length bytes) (length before))
    where
      go : Dec (at + length bytes ≤ length before) → (count ≡ n) × (after ≡ other)
      go (yes l) = ((W.fits l).0 ∙ sym (U.fits l).0, (W.fits l).1 ∙ sym (U.fits l).1)
      go (no l) = let s : length before < at + length bytes = omega arith in ((W.short s).0 ∙ sym (U.short s).0, (W.short s).1 ∙ sym (U.short s).1)

  -- every place before `at`, and every one past what is counted, is as it was
  pub other_bytes_kept : (i : ℕ) → (i < at) ⊎ (at + count ≤ i) → get_or after i 0 ≡ get_or before i 0
  other_bytes_kept i o = go o (dec_le (at + length bytes) (length before))
    where
      first : at + length bytes ≤ length before → length (take at before ++ bytes) ≡ at + length bytes
      first l = omega (arith, length-append (take at before) bytes, length-take-le at before (omega arith))

      ahead : at + length bytes ≤ length before → at + count ≤ i
          → (i ≡ length (take at before ++ bytes) + (i - (at + length bytes))) × (at + length bytes + (i - (at + length bytes)) ≡ i)
      ahead l h = omega (arith, first l, (W.fits l).0)

      go : (i < at) ⊎ (at + count ≤ i) → Dec (at + length bytes ≤ length before) → get_or after i 0 ≡ get_or before i 0
      go o (no l) = ap (λ zs. get_or zs i 0) (W.short (omega arith)).1
      go (inl h) (yes l) =
          ap (λ zs. get_or zs i 0) (W.fits l).1
          ∙ get_or-append (take at before ++ bytes) (drop (at + length bytes) before) 0 i (omega (arith, first l))
          ∙ get_or-append (take at before) bytes 0 i (omega (arith, length-take-le at before (omega arith)))
          ∙ get_or-take at before i 0 h
      go (inr h) (yes l) =
          ap (λ zs. get_or zs i 0) (W.fits l).1
          ∙ ap (λ n. get_or (take at before ++ bytes ++ drop (at + length bytes) before) n 0) (ahead l h).0
          ∙ get_or-append-add (take at before ++ bytes) (drop (at + length bytes) before) (i - (at + length bytes)) 0
          ∙ get_or-drop (at + length bytes) before (i - (at + length bytes)) 0
          ∙ ap (λ n. get_or before n 0) (ahead l h).1

  -- of the places counted, each holds its byte
  pub each_byte : (i : ℕ) → i < count → get_or after (at + i) 0 ≡ get_or bytes i 0
  each_byte i h = go (dec_le (at + length bytes) (length before))
    where
      go : Dec (at + length bytes ≤ length before) → get_or after (at + i) 0 ≡ get_or bytes i 0
      go (no l) = absurd (omega (arith, (W.short (omega arith)).0))
      go (yes l) =
          let k : length (take at before) ≡ at = length-take-le at before (omega arith) in
          ap (λ zs. get_or zs (at + i) 0) (W.fits l).1
          ∙ get_or-append (take at before ++ bytes) (drop (at + length bytes) before) 0 (at + i) (omega (arith, k, length-append (take at before) bytes, (W.fits l).0))
          ∙ ap (λ n. get_or (take at before ++ bytes) (n + i) 0) (sym k)
          ∙ get_or-append-add (take at before) bytes i 0
