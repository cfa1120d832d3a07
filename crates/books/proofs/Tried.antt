-- The books and sizes of `Tried` are told as they must be; the whole table of numbers; and the words of a book in their order. Computed.
use mathlib.Core.Path.{◌≡◌, refl}
use mathlib.Core.Bool.{true, false}
use mathlib.Core.List.{[], ◌∷◌}
use Rattle.books.specs.Book.{wipe_word, smallest_pool, largest_pool, words_of}
use Rattle.books.specs.Words.{book_from}
use Rattle.books.specs.Tabulate.{tabulate}
use Rattle.books.specs.Table.{may_give}
use Rattle.books.specs.Test.{is_fair, is_zero, gather, all_zero, keeps_rules}
use Rattle.books.specs.Tried.{ruled_tried, ruled_pass, sizes_said, numbered_book, numbers_from}

pub book_rules_tried : ruled_pass ruled_tried ≡ true
unfolding is_fair is_zero gather all_zero keeps_rules
book_rules_tried = refl

pub all_sizes_tried : sizes_said ≡ false ∷ false ∷ true ∷ true ∷ true ∷ true ∷ true ∷ true ∷ true ∷ false ∷ false ∷ false ∷ false ∷ false ∷ false ∷ false ∷ false ∷ []
all_sizes_tried = refl

-- 01: "every free slot's value is 0"; "N runs from 2 to 4,096"
pub constants_are : (wipe_word ≡ 0) × (smallest_pool ≡ 2) × (largest_pool ≡ 4096)
constants_are = (refl, refl, refl)

-- 01's table with 02 b)'s numbers, 02 c)'s, and 02 d)'s four calls and number, all of its fourteen rows and eighteen columns: no call gives 3,
-- each of 01's but setup gives 9 to 16, and 02 d)'s alone give 17
pub whole_table : tabulate 14 (λ call. tabulate 18 (may_give call)) ≡
    (true ∷ true ∷ true ∷ false ∷ false ∷ false ∷ false ∷ false ∷ false ∷ false ∷ false ∷ false ∷ false ∷ false ∷ false ∷ false ∷ false ∷ false ∷ [])
    ∷ (true ∷ true ∷ false ∷ false ∷ false ∷ false ∷ false ∷ false ∷ false ∷ true ∷ true ∷ true ∷ true ∷ true ∷ true ∷ true ∷ true ∷ false ∷ [])
    ∷ (true ∷ true ∷ false ∷ false ∷ true ∷ false ∷ false ∷ false ∷ false ∷ true ∷ true ∷ true ∷ true ∷ true ∷ true ∷ true ∷ true ∷ false ∷ [])
    ∷ (true ∷ true ∷ false ∷ false ∷ true ∷ false ∷ true ∷ true ∷ false ∷ true ∷ true ∷ true ∷ true ∷ true ∷ true ∷ true ∷ true ∷ false ∷ [])
    ∷ (true ∷ true ∷ false ∷ false ∷ true ∷ false ∷ true ∷ true ∷ false ∷ true ∷ true ∷ true ∷ true ∷ true ∷ true ∷ true ∷ true ∷ false ∷ [])
    ∷ (true ∷ true ∷ false ∷ false ∷ true ∷ true ∷ false ∷ false ∷ false ∷ true ∷ true ∷ true ∷ true ∷ true ∷ true ∷ true ∷ true ∷ false ∷ [])
    ∷ (true ∷ true ∷ false ∷ false ∷ true ∷ true ∷ false ∷ false ∷ false ∷ true ∷ true ∷ true ∷ true ∷ true ∷ true ∷ true ∷ true ∷ false ∷ [])
    ∷ (true ∷ true ∷ false ∷ false ∷ true ∷ false ∷ false ∷ false ∷ true ∷ true ∷ true ∷ true ∷ true ∷ true ∷ true ∷ true ∷ true ∷ false ∷ [])
    ∷ (true ∷ true ∷ false ∷ false ∷ true ∷ false ∷ false ∷ false ∷ true ∷ true ∷ true ∷ true ∷ true ∷ true ∷ true ∷ true ∷ true ∷ false ∷ [])
    ∷ (true ∷ true ∷ false ∷ false ∷ true ∷ false ∷ false ∷ false ∷ false ∷ true ∷ true ∷ true ∷ true ∷ true ∷ true ∷ true ∷ true ∷ false ∷ [])
    ∷ (true ∷ true ∷ false ∷ false ∷ true ∷ false ∷ true ∷ true ∷ false ∷ false ∷ false ∷ false ∷ false ∷ false ∷ false ∷ false ∷ false ∷ true ∷ [])
    ∷ (true ∷ true ∷ false ∷ false ∷ true ∷ false ∷ true ∷ true ∷ false ∷ false ∷ false ∷ false ∷ false ∷ false ∷ false ∷ false ∷ false ∷ true ∷ [])
    ∷ (true ∷ true ∷ false ∷ false ∷ true ∷ true ∷ false ∷ false ∷ false ∷ false ∷ false ∷ false ∷ false ∷ false ∷ false ∷ false ∷ false ∷ true ∷ [])
    ∷ (true ∷ true ∷ false ∷ false ∷ true ∷ true ∷ false ∷ false ∷ false ∷ false ∷ false ∷ false ∷ false ∷ false ∷ false ∷ false ∷ false ∷ true ∷ [])
    ∷ []
unfolding may_give tabulate
whole_table = refl

-- a book's words in their order, and the book that they are
pub words_tried : (words_of numbered_book ≡ numbers_from 1 43) × (book_from (numbers_from 1 43) ≡ numbered_book)
unfolding tabulate
words_tried = (refl, refl)
