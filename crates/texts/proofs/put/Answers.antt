-- `texts::put`: one byte more in.
use mathlib.Core.Path.{sym, ap, ◌∙◌}
use Prim.Native.Nat.{◌+◌}
use native.Mathlib.Numerals.{add-one}
use native.Mathlib.Omega.{arith}
use lib.ListN.{get_or, set}
use lib.Seq.{paste, paste-suc}
use Rattle.texts.proofs.put.Goals as goal

pub loop-k-preserved : goal.loop-k-preserved
loop-k-preserved c =
    let a = c.args in
    let l = c.loop-k in
    ap (λ zs. set zs (a.at + l.k) (get_or a.bytes.now l.k 0)) l.invariant
    ∙ paste-suc a.out.now a.at a.bytes.now l.k 0 (omega arith) c.loop-k-test.true
    ∙ ap (paste a.out.now a.at a.bytes.now) (sym (add-one l.k))
