-- The text for each number, in the team's own words.
use Rattle.std.specs.Prelude.{List, [], ◌∷◌, ℕ, ◌≤◌, get_or}
use Prim.Native.Char.{code}
use Prim.Native.String.{String, [] as no_more, ◌∷◌ as ◌then◌}

-- a text's bytes: for each character its code
abbrev pub spelled : String → List ℕ
spelled no_more = []
spelled (c then s) = code c ∷ spelled s

-- the texts for 0 to 17, in this order
abbrev pub known : List (List ℕ)
known =
    spelled "done"
    ∷ spelled "the pool is too small or large, or its parts differ in length"
    ∷ spelled "the lists, shares or limits asked for break the rules"
    ∷ spelled "the pool or its book is damaged"
    ∷ spelled "there is no such list"
    ∷ spelled "the list is empty"
    ∷ spelled "the list is at its limit"
    ∷ spelled "no slot is free but those kept for other lists"
    ∷ spelled "the buffer is too small"
    ∷ spelled "the book's lists, shares or limits break the rules"
    ∷ spelled "slot 0 is not zero"
    ∷ spelled "a list's chain is broken"
    ∷ spelled "the free chain is broken"
    ∷ spelled "a slot is in no chain"
    ∷ spelled "a free slot is not wiped"
    ∷ spelled "a list is over its limit, or the shares are not covered"
    ∷ spelled "a stored count is wrong"
    ∷ spelled "a quick call cannot trust the book or a slot"
    ∷ []

-- the text for every other number
abbrev pub unknown : List ℕ
unknown = spelled "this version does not know the number"

unfoldable pub text_of : ℕ → List ℕ
text_of number = get_or known number unknown

-- a byte that any terminal shows: from the space to the tilde
abbrev pub Printable : ℕ → Type 0
Printable byte = (32 ≤ byte) × (byte ≤ 126)

-- no text has more bytes
abbrev pub most_bytes : ℕ
most_bytes = 64

-- what ends a line
abbrev pub line_end : List ℕ
line_end = spelled "\n"
