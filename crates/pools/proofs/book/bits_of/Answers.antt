-- `pools::book::bits_of`: what the five words are gathered into is 0 exactly where each is.
use Rattle.books.specs.Test.{is_zero}
use Rattle.books.proofs.Tests.{or_zero, and_in_turn}
use lib.Bits.{bit_or}
use lib.Dec.{eqb}
use Rattle.pools.proofs.book.bits_of.Goals as goal

pub returns : goal.returns
unfolding is_zero
returns c =
    let e = c.args.entry in
    rw (or_zero (bit_or (bit_or (bit_or e.head e.tail) e.share) e.limit) e.length, or_zero (bit_or (bit_or e.head e.tail) e.share) e.limit, or_zero (bit_or e.head e.tail) e.share, or_zero e.head e.tail)
    (and_in_turn (eqb e.head 0) (eqb e.tail 0) (eqb e.share 0) (eqb e.limit 0) (eqb e.length 0))
