-- The pieces of a line, and the lines, put one after the other: how long they are, and what the buffer holds.
use mathlib.Core.List.{List, ◌++◌}
use Prim.Native.Nat.{ℕ, ◌+◌, ◌*◌, ◌^◌, ◌≤◌, ◌<◌}
use native.Mathlib.Omega.{arith}
use lib.ListN.{length, length-append}
use Rattle.wording.specs.Digits.{bytes_of, Written}
use Rattle.wording.proofs.Written.{twenty_bytes}
use Rattle.wording.specs.Texts.{text_of, line_end}
use Rattle.wording.proofs.Pieces.{both_in}
use Rattle.wording.proofs.Texts.{no_longer}
use Rattle.shows.specs.Demo.{line_of, refusal_line, three_of}

-- ---- a line

module _ (label : List ℕ) (number : ℕ) (small : number < 2 ^ 64) where
  pub line_size : length (line_of label number) ≤ length label + 21
  unfolding line_of
  line_size = omega (arith, length-append (label ++ bytes_of number) line_end, length-append label (bytes_of number), twenty_bytes number small)

  pub line_in : {before : List ℕ} {at i j k : ℕ} {mid late after : List ℕ} → at + (length label + 21) ≤ length before
      → Written label before at i mid → Written (bytes_of number) mid (at + i) j late → Written line_end late (at + (i + j)) k after
      → Written (line_of label number) before at (i + j + k) after
  unfolding line_of
  line_in {before} {at} h A B C =
      let l = twenty_bytes number small in
      both_in (label ++ bytes_of number) line_end before at (omega (arith, length-append label (bytes_of number))) (both_in label (bytes_of number) before at (omega arith) A B) C

-- ---- three lines

module _ (label : List ℕ) (x y z : ℕ) (p : x < 2 ^ 64) (q : y < 2 ^ 64) (r : z < 2 ^ 64) where
  pub three_size : length (three_of label x y z) ≤ 3 * (length label + 21)
  three_size =
      omega (
        arith,
        length-append (line_of label x ++ line_of label y) (line_of label z),
        length-append (line_of label x) (line_of label y),
        line_size label x p,
        line_size label y q,
        line_size label z r,
      )

  pub three_in : {before : List ℕ} {at i j k : ℕ} {mid late after : List ℕ} → at + 3 * (length label + 21) ≤ length before
      → Written (line_of label x) before at i mid → Written (line_of label y) mid (at + i) j late → Written (line_of label z) late (at + (i + j)) k after
      → Written (three_of label x y z) before at (i + j + k) after
  three_in {before} {at} h A B C =
      let k = line_size label x p in
      let l = line_size label y q in
      let m = line_size label z r in
      both_in (line_of label x ++ line_of label y) (line_of label z) before at (omega (arith, length-append (line_of label x) (line_of label y)))
      (both_in (line_of label x) (line_of label y) before at (omega arith) A B)
      C

-- ---- a refusal

module _ (number : ℕ) where
  pub refusal_size : length (refusal_line number) ≤ 65
  unfolding refusal_line
  refusal_size = omega (arith, length-append (text_of number) line_end, no_longer number)

  pub refusal_in : {before : List ℕ} {at i j : ℕ} {mid after : List ℕ} → at + 65 ≤ length before
      → Written (text_of number) before at i mid → Written line_end mid (at + i) j after → Written (refusal_line number) before at (i + j) after
  unfolding refusal_line
  refusal_in {before} {at} h A B = let l = no_longer number in both_in (text_of number) line_end before at (omega arith) A B
