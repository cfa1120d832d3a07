-- `pools::book::rest_zero`: a turn adds the test of the entry at k to what comes after it.
use mathlib.Core.Path.{sym, ap, ◌∙◌}
use native.Mathlib.Omega.{arith}
use Rattle.books.specs.Test.{is_zero}
use Rattle.books.specs.Words.{entry_from}
use Rattle.books.proofs.Eight.{zero_adds, zero_past}
use Rattle.pools.proofs.book.rest_zero.Goals as goal

pub returns-then-not-is_zero : goal.returns-then-not-is_zero
returns-then-not-is_zero c =
    let test = ap is_zero (sym c.entry_at.ensures) ∙ sym c.is_zero.ensures ∙ c.if-not-is_zero.true in
    rw test at (sym (zero_adds (entry_from c.args.words.now) c.loop-k.k (omega arith))) ∙ c.loop-k.invariant

pub loop-k-preserved : goal.loop-k-preserved
loop-k-preserved c =
    let test = ap is_zero (sym c.entry_at.ensures) ∙ sym c.is_zero.ensures ∙ c.if-not-is_zero.false in
    rw test at (sym (zero_adds (entry_from c.args.words.now) c.loop-k.k (omega arith))) ∙ c.loop-k.invariant

pub returns : goal.returns
returns c = sym (zero_past (entry_from c.args.words.now) c.loop-k.k (omega arith)) ∙ c.loop-k.invariant
