-- `pools::words::words_of`: after each turn the first word and the entries so far are in place.
use mathlib.Core.Path.{◌≡◌}
use lib.ListN.{length}
use Rattle.pools.proofs.Put.{Putting}
use Rattle.pools.proofs.words.words_of.Given as goal

abbrev pub invariant-loop-list : goal.invariant-loop-list
invariant-loop-list l =
    record {
      put : Putting l.initial.words l.fn.book.entries l.fn.book.free l.words l.list;
      long : length l.initial.words ≡ 43;
      entries : length l.fn.book.entries ≡ 8;
    }
