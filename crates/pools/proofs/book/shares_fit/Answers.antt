-- `pools::book::shares_fit`: a turn adds the test and the share of the entry at k.
use mathlib.Core.Path.{sym, ap, ◌∙◌}
use native.Mathlib.Omega.{arith}
use Rattle.books.specs.declared.Entry.{Entry}
use Rattle.books.specs.Test.{is_fair}
use Rattle.books.specs.Words.{entry_from}
use Rattle.books.proofs.Eight.{fair_adds, fair_went, fair_past}
use Rattle.pools.proofs.book.shares_fit.Goals as goal

pub returns-then-not-is_fair : goal.returns-then-not-is_fair
returns-then-not-is_fair c =
    let a = c.args in
    let at = c.loop-k in
    let test = ap (is_fair a.size) (sym c.entry_at-entry.ensures) ∙ sym c.is_fair.ensures ∙ c.if-not-is_fair.true in
    rw test at (sym (fair_adds (entry_from a.words.now) a.count c.requires a.size at.k at.sum (omega arith)))
    ∙ at.invariant.same

pub loop-k-preserved : goal.loop-k-preserved
loop-k-preserved c =
    let a = c.args in
    let at = c.loop-k in
    let test = ap (is_fair a.size) (sym c.entry_at-entry.ensures) ∙ sym c.is_fair.ensures ∙ c.if-not-is_fair.false in
    record {
      same =
          fair_went (entry_from a.words.now) a.count c.requires a.size at.k at.sum _ (omega arith) test
          (c.from-sum.ensures ∙ ap (λ (e : Entry). e.share) c.entry_at-entry.ensures)
          ∙ at.invariant.same;
      small = omega arith;
    }

pub returns : goal.returns
returns c =
    let a = c.args in
    sym (fair_past (entry_from a.words.now) a.count c.requires a.size c.loop-k.k c.loop-k.sum (omega arith)) ∙ c.loop-k.invariant.same
