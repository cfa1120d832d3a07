-- `pools::words::words_of`: the five words of an entry are put at each turn, and the idle chain after the last.
use native.Mathlib.Omega.{arith}
use Rattle.pools.proofs.Put.{put_more, put_all}
use Rattle.pools.proofs.words.words_of.Goals as goal

pub loop-list-preserved : goal.loop-list-preserved
loop-list-preserved c =
    let inv = c.loop-list.invariant in
    let book = c.args.book in
    record {
      put = put_more _ book.entries book.free _ c.loop-list.list (omega (arith, inv.entries)) (omega (arith, inv.put.size, inv.long)) inv.put;
      long = inv.long;
      entries = inv.entries;
    }

pub returns : goal.returns
returns c =
    let inv = c.loop-list.invariant in
    let book = c.args.book in
    put_all _ book.entries book.free _ c.loop-list.list inv.long inv.entries (omega arith) inv.put
