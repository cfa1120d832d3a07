-- 01's "L sequences of slots and one free sequence", and what they amount to beside a list of entries.
use Rattle.std.specs.Prelude.{◌⊎◌, List, [], ◌∷◌, ◌++◌, ℕ, ◌+◌, ◌-◌, ◌<◌, length, get_or, set}
use Rattle.books.specs.declared.Entry.{Entry}
use Rattle.books.specs.Book.{entry_at}

-- 01: "L sequences of slots and one free sequence"
pub record Shape : Type 0 where
  pub chains : List (List ℕ)
  pub idle : List ℕ

-- list l's sequence
abbrev pub chain_at : Shape → ℕ → List ℕ
chain_at s l = get_or s.chains l []

-- list l becomes xs, and fs is idle
abbrev pub put : Shape → ℕ → List ℕ → List ℕ → Shape
put s l xs fs = record { chains = set s.chains l xs; idle = fs }

-- the sequences one after the other
abbrev pub joined_up : List (List ℕ) → List ℕ
joined_up [] = []
joined_up (xs ∷ cs) = xs ++ joined_up cs

-- all of them together
abbrev pub every_slot : Shape → List ℕ
every_slot s = joined_up s.chains ++ s.idle

-- 01: "the sum of what each list lacks of its share (share less length, or 0)"
abbrev pub lacks : List Entry → List (List ℕ) → ℕ
lacks [] cs = 0
lacks (e ∷ es) [] = e.share + lacks es []
lacks (e ∷ es) (xs ∷ cs) = (e.share - length xs) + lacks es cs

-- the same from the stored lengths
abbrev pub stored_lacks : List Entry → ℕ
stored_lacks [] = 0
stored_lacks (e ∷ es) = (e.share - e.length) + stored_lacks es

-- neither 6 nor 7: the list is under its limit, and has not its share or leaves enough for the others
pub record Room (es : List Entry) (s : Shape) (l : ℕ) : Type 0 where
  pub under : length (chain_at s l) < (entry_at es l).limit
  pub enough : (length (chain_at s l) < (entry_at es l).share) ⊎ (lacks es s.chains < length s.idle)
