-- `pools::book::shares_fit`: at each turn the sum so far and the entries from k on give what all of them give.
use mathlib.Core.Path.{◌≡◌}
use Prim.Native.Nat.{◌*◌, ◌≤◌}
use lib.ListN.{take, drop}
use Rattle.books.specs.Test.{gather}
use Rattle.books.specs.Words.{entries_from}
use Rattle.pools.proofs.book.shares_fit.Given as goal

abbrev pub invariant-loop-k : goal.invariant-loop-k
invariant-loop-k l =
    record {
      same : gather l.size (drop l.k (take l.count (entries_from l.words))) l.sum ≡ gather l.size (take l.count (entries_from l.words)) 0;
      small : l.sum ≤ 65535 * l.k;
    }
