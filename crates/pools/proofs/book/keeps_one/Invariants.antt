-- `pools::book::keeps_one`: at each turn the bits so far and the entries from `list` on are zero exactly where all from 1 on are.
use mathlib.Core.Path.{◌≡◌}
use mathlib.Core.Bool.{◌&&◌}
use lib.Dec.{eqb}
use lib.ListN.{drop}
use Rattle.books.specs.Test.{all_zero}
use Rattle.books.specs.Words.{entries_from}
use Rattle.pools.proofs.book.keeps_one.Given as goal

abbrev pub invariant-loop-list : goal.invariant-loop-list
invariant-loop-list l = eqb l.bits 0 && all_zero (drop l.list (entries_from l.words)) ≡ all_zero (drop 1 (entries_from l.words))
