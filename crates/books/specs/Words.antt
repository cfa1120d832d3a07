-- The book and the place as C has them. The book is 43 words, in the order of `struct flailreeve_book`: the book that the words are. The words of a book are `words_of`, beside the book's own definition. The place is two words, the list and the position.
use Rattle.std.specs.Prelude.{List, ℕ, ◌+◌, ◌*◌, get_or}
use Rattle.books.specs.declared.Entry.{Entry}
use Rattle.books.specs.declared.Book.{Book}
use Rattle.books.specs.Book.{most_lists}
use Rattle.books.specs.Place.{Place}
use Rattle.books.specs.Tabulate.{tabulate}

-- list l's entry: five words, after the first word and the entries before it
abbrev pub entry_from : List ℕ → ℕ → Entry
entry_from words l = record { head = get_or words (5 * l + 1) 0; tail = get_or words (5 * l + 2) 0; share = get_or words (5 * l + 3) 0; limit = get_or words (5 * l + 4) 0; length = get_or words (5 * l + 5) 0 }

abbrev pub entries_from : List ℕ → List Entry
entries_from words = tabulate most_lists (entry_from words)

abbrev pub book_from : List ℕ → Book
book_from words = record { lists = get_or words 0 0; entries = entries_from words; free = record { head = get_or words 41 0; count = get_or words 42 0 } }

-- the place, in the order of `struct flailreeve_place`
abbrev pub place_from : List ℕ → Place
place_from words = record { list = get_or words 0 0; position = get_or words 1 0 }
