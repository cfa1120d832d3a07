-- `pools::quick::tally`: a turn adds the test of the length at k, and what that list lacks.
use mathlib.Core.Path.{◌≡◌, sym, ap, ◌∙◌}
use Prim.Native.Nat.{◌-◌, ◌≤◌, ◌<◌}
use native.Mathlib.Omega.{arith}
use Rattle.books.specs.declared.Entry.{Entry}
use Rattle.books.specs.Words.{entry_from}
use Rattle.pools.proofs.Tallied.{length_stops, length_goes, lengths_end, lacks_go, lacks_end}
use Rattle.pools.proofs.quick.tally.Goals as goal

pub returns-then-size-length : goal.returns-then-size-length
returns-then-size-length c =
    let a = c.args in
    let at = c.loop-k in
    let over : a.size ≤ (entry_from a.words.now at.k).length = omega (arith, ap (λ (e : Entry). e.length) c.entry_at-entry.ensures) in
    sym at.invariant.same ∙ length_stops (entry_from a.words.now) a.count c.requires a.size at.k (omega arith) over

pub loop-k-preserved : goal.loop-k-preserved
loop-k-preserved c =
    let a = c.args in
    let at = c.loop-k in
    let f = entry_from a.words.now in
    let read = c.entry_at-entry.ensures in
    let below : (f at.k).length < a.size = omega (arith, ap (λ (e : Entry). e.length) read) in
    let lack : c.saturating_sub-sum.result ≡ (f at.k).share - (f at.k).length = omega (arith, ap (λ (e : Entry). e.share) read, ap (λ (e : Entry). e.length) read) in
    record {
      same = sym (length_goes f a.count c.requires a.size at.k (omega arith) below) ∙ at.invariant.same;
      sums = lacks_go f a.count c.requires a.size at.k at.sum _ (omega arith) lack ∙ at.invariant.sums;
      small = omega arith;
    }

pub returns : goal.returns
returns c =
    let a = c.args in
    let at = c.loop-k in
    let f = entry_from a.words.now in (
      sym at.invariant.same ∙ lengths_end f a.count c.requires a.size at.k (omega arith),
      sym (lacks_end f a.count c.requires a.size at.k at.sum (omega arith)) ∙ at.invariant.sums,
    )
