-- What the search for the lowest slot that is not wiped goes along.
use Rattle.std.specs.Prelude.{List, [], ◌∷◌, ℕ, zero, suc}
use Rattle.chains.specs.Chain.{cell}

-- so many slots from `slot` on, each the link of the one before it
abbrev pub idle_first : List ℕ → ℕ → ℕ → List ℕ
idle_first links zero slot = []
idle_first links (suc many) slot = slot ∷ idle_first links many (cell links slot)
