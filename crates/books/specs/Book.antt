-- The constants that belong to the book, and the all-zero book.
use Rattle.std.specs.Prelude.{List, [], ◌∷◌, ◌++◌, ℕ, get_or, replicate}
use Rattle.books.specs.declared.Free.{Free}
use Rattle.books.specs.declared.Entry.{Entry}
use Rattle.books.specs.declared.Book.{Book}

-- 01: "Slot 0 is the null and never holds an element"
abbrev pub null_slot : ℕ
null_slot = 0

-- 01: "N runs from 2 to 4,096"
abbrev pub smallest_pool : ℕ
smallest_pool = 2

abbrev pub largest_pool : ℕ
largest_pool = 4096

-- what the value cell of a free slot holds: 01: "every free slot's value is 0"
abbrev pub wipe_word : ℕ
wipe_word = 0

-- 01: "for each of eight entries"
abbrev pub most_lists : ℕ
most_lists = 8

-- the entry of no list
abbrev pub zero_entry : Entry
zero_entry = record { head = 0; tail = 0; share = 0; limit = 0; length = 0 }

-- list l's entry
abbrev pub entry_at : List Entry → ℕ → Entry
entry_at es l = get_or es l zero_entry

abbrev pub zero_book : Book
zero_book = record { lists = 0; entries = replicate most_lists zero_entry; free = record { head = 0; count = 0 } }

-- a book with room for any number of lists: how many, how many lists there are, an entry for each, and the idle chain
pub record AnyBook : Type 0 where
  pub places : ℕ
  pub lists : ℕ
  pub entries : List Entry
  pub free : Free

-- the book of eight entries is one of them
abbrev pub eight : Book → AnyBook
eight b = record { places = most_lists; lists = b.lists; entries = b.entries; free = b.free }

-- and is told back from it
abbrev pub book_of : AnyBook → Book
book_of b = record { lists = b.lists; entries = b.entries; free = b.free }

-- the book as the words of its record, in their order
abbrev pub entry_words : List Entry → List ℕ
entry_words [] = []
entry_words (e ∷ es) = e.head ∷ e.tail ∷ e.share ∷ e.limit ∷ e.length ∷ entry_words es

abbrev pub words_of : Book → List ℕ
words_of b = b.lists ∷ entry_words b.entries ++ b.free.head ∷ b.free.count ∷ []
