-- 02 c): the stored counts. They stand in the book and belong to no engine. In the book each is a word of 16 bits; no count of a sound pool leaves it.
use Rattle.std.specs.Prelude.{ℕ, ◌+◌, ◌%◌}
use Rattle.books.specs.declared.Free.{Free}
use Rattle.books.specs.declared.Entry.{Entry}

-- the list with another stored length
abbrev pub with_length : ℕ → Entry → Entry
with_length n e = record { head = e.head; tail = e.tail; share = e.share; limit = e.limit; length = n }

-- the free record with another stored count
abbrev pub with_count : ℕ → Free → Free
with_count n free = record { head = free.head; count = n }

-- one more, one less, and so many more, in a word
abbrev pub word_up : ℕ → ℕ
word_up n = (n + 1) % 65536

abbrev pub word_down : ℕ → ℕ
word_down n = (n + 65535) % 65536

abbrev pub word_sum : ℕ → ℕ → ℕ
word_sum n m = (n + m) % 65536
