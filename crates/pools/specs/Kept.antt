-- What of a list's entry a call on the list may change.
use Rattle.std.specs.Prelude.{ℕ}
use Rattle.books.specs.declared.Entry.{Entry}

-- its ends and its length are these, and its share and limit stay
abbrev pub with_ends : ℕ → ℕ → ℕ → Entry → Entry
with_ends head tail length e = record { head = head; tail = tail; share = e.share; limit = e.limit; length = length }
