-- The lines, put one after the other: how long they are, and what the buffer holds.
use mathlib.Core.Path.{◌≡◌, refl, sym, subst}
use mathlib.Core.List.{List, ◌++◌}
use Prim.Native.Nat.{ℕ, zero, suc, ◌+◌, ◌*◌, ◌^◌, ◌≤◌, ◌<◌}
use native.Mathlib.Nat.{zero-add}
use native.Mathlib.Numerals.{add-one}
use native.Mathlib.Omega.{arith}
use lib.ListN.{length, length-append}
use Rattle.wording.specs.Digits.{digits_on, bytes_of, Written}
use Rattle.wording.proofs.Written.{twenty_bytes}
use Rattle.wording.specs.Texts.{spelled, text_of, line_end}
use Rattle.wording.proofs.Pieces.{both_in}
use Rattle.wording.proofs.Texts.{no_longer}
use Rattle.wording.specs.Notices.{between, notice_of, notices_below, all_notices}

-- ---- a line

-- that of each number with a text of its own, and of the next, byte by byte
pub notices_tried : (notice_of 0 ≡ spelled "0: done\n")
    × (notice_of 1 ≡ spelled "1: the pool is too small or large, or its parts differ in length\n")
    × (notice_of 2 ≡ spelled "2: the lists, shares or limits asked for break the rules\n")
    × (notice_of 3 ≡ spelled "3: the pool or its book is damaged\n")
    × (notice_of 4 ≡ spelled "4: there is no such list\n")
    × (notice_of 5 ≡ spelled "5: the list is empty\n")
    × (notice_of 6 ≡ spelled "6: the list is at its limit\n")
    × (notice_of 7 ≡ spelled "7: no slot is free but those kept for other lists\n")
    × (notice_of 8 ≡ spelled "8: the buffer is too small\n")
    × (notice_of 9 ≡ spelled "9: the book's lists, shares or limits break the rules\n")
    × (notice_of 10 ≡ spelled "10: slot 0 is not zero\n")
    × (notice_of 11 ≡ spelled "11: a list's chain is broken\n")
    × (notice_of 12 ≡ spelled "12: the free chain is broken\n")
    × (notice_of 13 ≡ spelled "13: a slot is in no chain\n")
    × (notice_of 14 ≡ spelled "14: a free slot is not wiped\n")
    × (notice_of 15 ≡ spelled "15: a list is over its limit, or the shares are not covered\n")
    × (notice_of 16 ≡ spelled "16: a stored count is wrong\n")
    × (notice_of 17 ≡ spelled "17: a quick call cannot trust the book or a slot\n")
    × (notice_of 18 ≡ spelled "18: this version does not know the number\n")
unfolding notice_of text_of digits_on
notices_tried = (refl, refl, refl, refl, refl, refl, refl, refl, refl, refl, refl, refl, refl, refl, refl, refl, refl, refl, refl)

module _ (number : ℕ) (small : number < 2 ^ 16) where
  few : length (bytes_of number) ≤ 20
  few = twenty_bytes number (omega arith)

  pub notice_size : length (notice_of number) ≤ 87
  unfolding notice_of
  notice_size =
      omega (
        arith,
        length-append (bytes_of number ++ between ++ text_of number) line_end,
        length-append (bytes_of number ++ between) (text_of number),
        length-append (bytes_of number) between,
        few,
        no_longer number,
      )

  pub notice_in : {before : List ℕ} {at i j k l : ℕ} {early mid late after : List ℕ} → at + 87 ≤ length before
      → Written (bytes_of number) before at i early → Written between early (at + i) j mid → Written (text_of number) mid (at + (i + j)) k late → Written line_end late (at + (i + j + k)) l after
      → Written (notice_of number) before at (i + j + k + l) after
  unfolding notice_of
  notice_in {before} {at} h A B C D =
      let f = few in
      let t = no_longer number in
      both_in (bytes_of number ++ between ++ text_of number) line_end before at
      (omega (arith, length-append (bytes_of number ++ between) (text_of number), length-append (bytes_of number) between))
      (both_in (bytes_of number ++ between) (text_of number) before at (omega (arith, length-append (bytes_of number) between)) (both_in (bytes_of number) between before at (omega arith) A B) C)
      D

-- ---- the lines

below_size : (n : ℕ) → n ≤ 19 → length (notices_below n) ≤ 87 * n
unfolding notices_below
below_size zero h = omega arith
below_size (suc n) h = omega (arith, length-append (notices_below n) (notice_of n), notice_size n (omega arith), below_size n (omega arith))

pub none_in : (before : List ℕ) → Written (notices_below 0) before 0 0 before
unfolding notices_below
none_in before = record { fits = λ l. (refl, refl); short = λ l. absurd (omega arith) }

-- one line more, of any number
more : (n k : ℕ) → n ≤ 19 → k < 2 ^ 16 → {before : List ℕ} {at m : ℕ} {mid after : List ℕ} → 1800 ≤ length before
    → Written (notices_below n) before 0 at mid → Written (notice_of k) mid at m after → Written (notices_below n ++ notice_of k) before 0 (at + m) after
more n k h s {before} {at} {m} {mid} {after} room W U =
    both_in (notices_below n) (notice_of k) before 0 (omega (arith, below_size n h, notice_size k s)) W (subst (λ p. Written (notice_of k) mid p m after) (sym (zero-add at)) U)

pub next_in : (n : ℕ) → n < 19 → {before : List ℕ} {at m : ℕ} {mid after : List ℕ} → 1800 ≤ length before
    → Written (notices_below n) before 0 at mid → Written (notice_of n) mid at m after → Written (notices_below (n + 1)) before 0 (at + m) after
unfolding notices_below
next_in n h room W U = rw add-one (more n n (omega arith) (omega arith) room W U)

pub last_notice_in : {before : List ℕ} {at m : ℕ} {mid after : List ℕ} → 1800 ≤ length before
    → Written (notices_below 19) before 0 at mid → Written (notice_of 65535) mid at m after → Written all_notices before 0 (at + m) after
unfolding all_notices
last_notice_in = more 19 65535 (omega arith) (omega arith)
