-- The lines of the numbers passed are in.
use mathlib.Core.Path.{◌≡◌}
use Prim.Native.Nat.{◌*◌, ◌≤◌}
use lib.ListN.{length}
use Rattle.wording.specs.Digits.{Written}
use Rattle.wording.specs.Notices.{notices_below}
use Rattle.notices.proofs.all.Given as goal

abbrev pub invariant-loop-number : goal.invariant-loop-number
invariant-loop-number l = Written (notices_below l.number) l.fn.out 0 l.at l.out × (l.at ≤ 87 * l.number) × (length l.out ≡ length l.fn.out)
