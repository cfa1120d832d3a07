-- `shares::setup::shares_fit`: at each turn the sum so far and the shares and limits that are left give what all of them give.
use Rattle.std.specs.Prelude.{◌≡◌, ℕ, ◌+◌, ◌*◌, ◌<◌, ◌≤◌, length, get_or, take}
use Rattle.books.specs.Book.{most_lists}
use Rattle.books.specs.Test.{gather}
use Rattle.books.specs.Tabulate.{tabulate}
use Rattle.shapes.specs.Setup.{fresh_entry}
use Rattle.shares.proofs.Paired.{paired}
use Rattle.shares.proofs.setup.shares_fit.Given as goal

abbrev pub invariant-loop-share : goal.invariant-loop-share
invariant-loop-share l =
    record {
      same : gather l.size (paired l.share-iterator.a.rest.now l.share-iterator.b.rest.now) l.sum ≡ gather l.size (take l.count (tabulate most_lists (fresh_entry l.shares l.limits))) 0;
      fits : (k : ℕ) → get_or l.share-iterator.a.rest.now k 0 < 65536;
      small : l.sum + 65535 * length l.share-iterator.a.rest.now ≤ 524280;
    }
