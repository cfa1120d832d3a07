-- `pools::book::rest_zero`: at each turn the entries from k on are all zero exactly where those from `from` on are.
use mathlib.Core.Path.{◌≡◌}
use lib.ListN.{drop}
use Rattle.books.specs.Test.{all_zero}
use Rattle.books.specs.Words.{entries_from}
use Rattle.pools.proofs.book.rest_zero.Given as goal

abbrev pub invariant-loop-k : goal.invariant-loop-k
invariant-loop-k l = all_zero (drop l.k (entries_from l.words)) ≡ all_zero (drop l.from (entries_from l.words))
