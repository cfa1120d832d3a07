-- Document 01's numbers, computed: the constants, the sizes that it tries, and the all-zero book word by word.
use mathlib.Core.Path.{◌≡◌, refl}
use mathlib.Core.Bool.{true, false}
use mathlib.Core.List.{List, [], ◌∷◌}
use Prim.Native.Nat.{ℕ}
use lib.ListN.{replicate}
use Rattle.books.specs.declared.Entry.{Entry}
use Rattle.books.specs.declared.Book.{Book}
use Rattle.books.specs.Book.{null_slot, wipe_word, most_lists, zero_book, entry_words, words_of, AnyBook, eight, book_of}
use Rattle.books.specs.Outcome.{outcome}
use Rattle.books.specs.Test.{size_fits}

pub null_is : null_slot ≡ 0
null_is = refl

pub wipe_is : wipe_word ≡ 0
wipe_is = refl

pub eight_lists_lem : most_lists ≡ 8
eight_lists_lem = refl

-- 01: "N = 1 gives 1, N = 2 gives 0, N = 4,096 gives 0, N = 4,097 gives 1"
pub sizes_tried_lem : (size_fits 1 ≡ false) × (size_fits 2 ≡ true) × (size_fits 4096 ≡ true) × (size_fits 4097 ≡ false)
sizes_tried_lem = (refl, refl, refl, refl)

pub zero_words : words_of zero_book ≡ replicate 43 0
zero_words = refl

-- the words stand in the order of the records' fields
pub words_order : (lists free count : ℕ) (e : Entry) (es : List Entry)
    → (words_of (record { lists = lists; entries = []; free = record { head = free; count = count } }) ≡ lists ∷ free ∷ count ∷ []) × (entry_words (e ∷ es) ≡ e.head ∷ e.tail ∷ e.share ∷ e.limit ∷ e.length ∷ entry_words es)
words_order lists free count e es = (refl, refl)

-- an outcome is the answer and the two slices, and nothing is lost
pub outcome_plain : {A : Type 0} (answer : A) (links values : List ℕ)
    → ((outcome answer links values).answer ≡ answer) × ((outcome answer links values).links ≡ links) × ((outcome answer links values).values ≡ values)
outcome_plain answer links values = (refl, refl, refl)

-- the book of eight entries as one with any number of places, and told back: its L, its entries and its idle chain are its own
pub eight_plain : (b : Book) → ((eight b).places ≡ 8) × ((eight b).lists ≡ b.lists) × ((eight b).entries ≡ b.entries) × ((eight b).free ≡ b.free)
eight_plain b = (refl, refl, refl, refl)

pub book_plain : (b : AnyBook) → ((book_of b).lists ≡ b.lists) × ((book_of b).entries ≡ b.entries) × ((book_of b).free ≡ b.free)
book_plain b = (refl, refl, refl)
