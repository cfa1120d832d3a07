-- The lines that are shown: a number and its text on each.
use Rattle.std.specs.Prelude.{List, [], ◌++◌, ℕ, zero, suc}
use Rattle.wording.specs.Digits.{bytes_of}
use Rattle.wording.specs.Texts.{spelled, text_of, line_end}

-- what stands between a number and its text, and after it
abbrev pub between : List ℕ
between = spelled ": "

unfoldable pub notice_of : ℕ → List ℕ
notice_of number = bytes_of number ++ between ++ text_of number ++ line_end

-- the lines of the numbers below n
unfoldable pub notices_below : ℕ → List ℕ
notices_below zero = []
notices_below (suc n) = notices_below n ++ notice_of n

-- every number that a call gives, and two that none gives: the next, and the largest of 16 bits
unfoldable pub all_notices : List ℕ
all_notices = notices_below 19 ++ notice_of 65535
