-- `notices::all`: one line more in, and at the end the line of the largest number.
use mathlib.Core.Path.{◌≡◌, subst}
use native.Mathlib.Omega.{arith}
use borrow.Author.Rules.{rules}
use Rattle.wording.specs.Digits.{Written}
use Rattle.wording.specs.Notices.{notices_below}
use Rattle.wording.proofs.Pieces.{at_most_bytes}
use Rattle.wording.proofs.Notices.{notice_size, none_in, next_in, last_notice_in}
use Rattle.notices.proofs.all.Goals as goal

pub loop-number-init : goal.loop-number-init
loop-number-init c = (none_in c.args.out.now, search rules, search rules)

pub loop-number-preserved : goal.loop-number-preserved
loop-number-preserved c =
    let l = c.loop-number in
    let k = at_most_bytes c.notice-at.ensures in
    let s = notice_size l.number (omega arith) in
    (next_in l.number (search rules) (search rules) l.invariant.0 c.notice-at.ensures, omega arith, search rules)

pub returns : goal.returns
returns c =
    let l = c.loop-number in
    let e : l.number ≡ 19 = omega arith in
    last_notice_in (search rules) (subst (λ n. Written (notices_below n) c.args.out.now 0 l.at l.out) e l.invariant.0) c.notice.ensures
