-- `pools::quick::tally`: at each turn the lengths from k on fit exactly where all do, and the sum so far and what the lists from k on lack is what all lack.
use mathlib.Core.Path.{◌≡◌}
use Prim.Native.Nat.{◌+◌, ◌*◌, ◌≤◌}
use lib.ListN.{take, drop}
use Rattle.books.specs.Words.{entries_from}
use Rattle.shapes.specs.Shape.{stored_lacks}
use Rattle.shapes.specs.Quick.{lengths_fit}
use Rattle.pools.proofs.quick.tally.Given as goal

abbrev pub invariant-loop-k : goal.invariant-loop-k
invariant-loop-k l =
    record {
      same : lengths_fit l.size (drop l.k (take l.count (entries_from l.words))) ≡ lengths_fit l.size (take l.count (entries_from l.words));
      sums : l.sum + stored_lacks (drop l.k (take l.count (entries_from l.words))) ≡ stored_lacks (take l.count (entries_from l.words));
      small : l.sum ≤ 65535 * l.k;
    }
