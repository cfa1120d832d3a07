-- Bytes put into a buffer: what it holds when all are in, and that pieces put one after the other are one piece.
use mathlib.Core.Path.{◌≡◌, refl, sym, ap, ◌∙◌}
use mathlib.Core.List.{List, ◌++◌, append_assoc}
use Prim.Native.Nat.{ℕ, ◌+◌, ◌≤◌}
use native.Mathlib.Omega.{arith}
use native.Mathlib.Decide.{dec_le}
use lib.ListN.{length, take, drop, length-append, length-drop}
use lib.Seq.{length-take-le, take-length, take_at, drop-append-add, drop-drop, paste}
use Rattle.wording.specs.Digits.{Written}

-- every byte is in
pub all_in : (bytes before : List ℕ) (at : ℕ) → at + length bytes ≤ length before → Written bytes before at (length bytes) (paste before at bytes (length bytes))
all_in bytes before at h =
    record { fits = λ l. (refl, ap (λ zs. take at before ++ zs ++ drop (at + length bytes) before) (take-length bytes)); short = λ l. absurd (omega arith) }

module _ {bytes before : List ℕ} {at r : ℕ} {after : List ℕ} (W : Written bytes before at r after) where
  -- no more is counted than there is
  pub at_most_bytes : r ≤ length bytes
  at_most_bytes = go (dec_le (at + length bytes) (length before))
    where
      go : Dec (at + length bytes ≤ length before) → r ≤ length bytes
      go (yes l) = omega (arith, (W.fits l).0)
      go (no l) = omega (arith, (W.short (omega arith)).0)

  -- what is counted lies in the buffer
  pub within_buffer : at ≤ length before → at + r ≤ length before
  within_buffer h = go (dec_le (at + length bytes) (length before))
    where
      go : Dec (at + length bytes ≤ length before) → at + r ≤ length before
      go (yes l) = omega (arith, (W.fits l).0)
      go (no l) = omega (arith, (W.short (omega arith)).0)

module _ (xs ys before : List ℕ) (at : ℕ) (room : at + length xs + length ys ≤ length before) where
  front_size : length (take at before ++ xs) ≡ at + length xs
  front_size = omega (arith, length-append (take at before) xs, length-take-le at before (omega arith))

  -- what the first piece leaves is as long as the buffer was
  mid_size : length (take at before ++ xs ++ drop (at + length xs) before) ≡ length before
  mid_size = omega (arith, length-append (take at before ++ xs) (drop (at + length xs) before), front_size, length-drop (at + length xs) before)

  rest_kept : drop (at + length xs + length ys) (take at before ++ xs ++ drop (at + length xs) before) ≡ drop (at + length (xs ++ ys)) before
  rest_kept =
      let k : at + length xs + length ys ≡ at + length (xs ++ ys) = omega (arith, length-append xs ys) in
      ap (λ n. drop (n + length ys) (take at before ++ xs ++ drop (at + length xs) before)) (sym front_size)
      ∙ drop-append-add (take at before ++ xs) (drop (at + length xs) before) (length ys)
      ∙ drop-drop (length ys) (at + length xs) before
      ∙ ap (λ n. drop n before) k

  whole : take (at + length xs) (take at before ++ xs ++ drop (at + length xs) before) ++ ys ++ drop (at + length xs + length ys) (take at before ++ xs ++ drop (at + length xs) before)
      ≡ take at before ++ (xs ++ ys) ++ drop (at + length (xs ++ ys)) before
  whole =
      ap (λ zs. zs ++ ys ++ drop (at + length xs + length ys) (take at before ++ xs ++ drop (at + length xs) before)) (take_at (take at before ++ xs) (drop (at + length xs) before) (at + length xs) front_size)
      ∙ ap (λ zs. take at before ++ xs ++ ys ++ zs) rest_kept
      ∙ ap (λ zs. zs ++ drop (at + length (xs ++ ys)) before) (append_assoc (take at before) xs ys)

  -- two pieces that both fit, one after the other, are one
  pub both_in : {n m : ℕ} {mid after : List ℕ} → Written xs before at n mid → Written ys mid (at + n) m after → Written (xs ++ ys) before at (n + m) after
  both_in {n} {m} {mid} {after} W U =
      let f = W.fits (omega arith) in
      let s : length mid ≡ length before = ap length f.1 ∙ mid_size in
      let g = U.fits (omega (arith, f.0)) in
      record {
        fits = λ l. (
          omega (arith, f.0, g.0, length-append xs ys),
          g.1 ∙ (λ i. take (at + f.0 i) (f.1 i) ++ ys ++ drop (at + f.0 i + length ys) (f.1 i)) ∙ whole,
        );
        short = λ l. absurd (omega (arith, length-append xs ys));
      }
