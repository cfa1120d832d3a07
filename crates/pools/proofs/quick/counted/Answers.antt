-- `pools::quick::counted`: each number follows from the tests on the way.
use mathlib.Core.Path.{sym, ap, ◌∙◌}
use native.Mathlib.Omega.{arith}
use borrow.Author.Tests.{lt-ltb, le-ltb, le-leb, lt-leb}
use Rattle.books.specs.declared.Free.{Free}
use Rattle.engines.specs.Check.{sizes_fit}
use Rattle.pools.proofs.quick.counted.Goals as goal

pub returns-then-not-sizes_fit-clause-number : goal.returns-then-not-sizes_fit-clause-number
unfolding sizes_fit
returns-then-not-sizes_fit-clause-number c = rw (sym c.sizes_fit.ensures ∙ c.if-not-sizes_fit.true)

pub returns-then-lists-gt8-clause-number : goal.returns-then-lists-gt8-clause-number
unfolding sizes_fit
returns-then-lists-gt8-clause-number c =
    simp (← c.sizes_fit.ensures, c.if-not-sizes_fit.false, ← c.lists_of-lists.ensures, lt-ltb 0 c.lists_of-lists.result (omega arith), lt-leb c.lists_of-lists.result 8 c.if-lists-gt8.true)

pub returns-then-lists-eq0-clause-number : goal.returns-then-lists-eq0-clause-number
unfolding sizes_fit
returns-then-lists-eq0-clause-number c =
    simp (← c.sizes_fit.ensures, c.if-not-sizes_fit.false, ← c.lists_of-lists.ensures, c.if-lists-eq0.true)

pub returns-then-lists-list-clause-number : goal.returns-then-lists-list-clause-number
unfolding sizes_fit
returns-then-lists-list-clause-number c =
    simp (← c.sizes_fit.ensures, c.if-not-sizes_fit.false, ← c.lists_of-lists.ensures, lt-ltb 0 c.lists_of-lists.result (omega arith), le-leb c.lists_of-lists.result 8 (omega arith), le-leb _ _ c.if-lists-list.true)

pub returns-then-from-size-clause-number : goal.returns-then-from-size-clause-number
unfolding sizes_fit
returns-then-from-size-clause-number c =
    let count = c.from.ensures ∙ ap (λ (f : Free). f.count) c.free_of-free.ensures in
    simp (← c.sizes_fit.ensures, c.if-not-sizes_fit.false, ← c.lists_of-lists.ensures, lt-ltb 0 c.lists_of-lists.result (omega arith), le-leb c.lists_of-lists.result 8 (omega arith), lt-leb _ _ c.if-lists-list.false, ← count, lt-ltb _ _ c.if-from-size.true)

pub returns-clause-number : goal.returns-clause-number
unfolding sizes_fit
returns-clause-number c =
    let count = c.from.ensures ∙ ap (λ (f : Free). f.count) c.free_of-free.ensures in
    simp (← c.sizes_fit.ensures, c.if-not-sizes_fit.false, ← c.lists_of-lists.ensures, lt-ltb 0 c.lists_of-lists.result (omega arith), le-leb c.lists_of-lists.result 8 (omega arith), lt-leb _ _ c.if-lists-list.false, ← count, le-ltb _ _ c.if-from-size.false)
