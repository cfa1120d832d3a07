-- `pools::check::look_told`: 1 where the sizes do not fit; else what the check tells, with a record of the size that is enough.
use native.Mathlib.Omega.{arith}
use Rattle.pools.proofs.Told.{look_unfit, told_whole}
use Rattle.pools.proofs.check.look_told.Goals as goal

pub returns-then-size-values : goal.returns-then-size-values
returns-then-size-values c =
    let w = c.word_of.ensures in
    let b = told_whole w.told w.alone (look_unfit _ _ _ _ c.into.ensures (λ f. c.if-size-values.true f.same)) in
    record { seen = b.0; alone = b.1 }

pub returns-then-size-lt2 : goal.returns-then-size-lt2
returns-then-size-lt2 c =
    let w = c.word_of-then-size-lt2.ensures in
    let b = told_whole w.told w.alone (look_unfit _ _ _ _ c.into-then-size-lt2.ensures (λ f. omega (arith, f.size.least, c.if-size-lt2.true))) in
    record { seen = b.0; alone = b.1 }

pub returns : goal.returns
returns c =
    let w = c.word_of-2.ensures in
    let b = told_whole w.told w.alone (look_unfit _ _ _ _ c.into-2.ensures (λ f. omega (arith, f.size.most, c.if-size-le-LARGEST.false))) in
    record { seen = b.0; alone = b.1 }
