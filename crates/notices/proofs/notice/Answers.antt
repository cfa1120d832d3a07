-- `notices::notice`: the four pieces fit, and are one.
use native.Mathlib.Omega.{arith}
use Rattle.wording.proofs.Notices.{notice_in}
use Rattle.notices.proofs.notice.Goals as goal

pub returns : goal.returns
returns c = notice_in c.args.number (omega arith) (omega arith) (rw c.from.ensures at c.write-first.ensures) c.put.ensures c.write.ensures c.put-2.ensures
