-- `pools::gather::gather`: at each turn the lists from here on give what all of them give.
use mathlib.Core.Path.{◌≡◌}
use Prim.Native.Nat.{◌+◌, ◌*◌, ◌≤◌}
use lib.ListN.{take, drop}
use Rattle.books.specs.Words.{entries_from}
use Rattle.shapes.specs.Met.{unmet}
use Rattle.shapes.specs.Faults.{gathered_none}
use Rattle.engines.specs.Check.{gather_all}
use Rattle.xor.specs.Engine.{xor}
use Rattle.pools.specs.Found.{gathered_by, ListsBelow}
use Rattle.pools.proofs.gather.gather.Given as goal

abbrev pub invariant-loop-list : goal.invariant-loop-list
invariant-loop-list l =
    record {
      same : gather_all xor l.lists l.links l.list (drop l.list (take l.lists (entries_from l.words))) l.met (gathered_by l.lists l.counts) ≡ gather_all xor l.lists l.links 0 (take l.lists (entries_from l.words)) l.initial.met (gathered_none l.lists);
      live : l.counts.live + unmet l.met ≤ unmet l.initial.met;
      small : l.counts.lacks ≤ 65535 * l.list;
      below : ListsBelow l.lists l.counts;
    }
