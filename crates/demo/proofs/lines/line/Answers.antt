-- `demo::lines::line`: the three pieces fit, and are one.
use native.Mathlib.Omega.{arith}
use Rattle.shows.proofs.Rows.{line_in}
use Rattle.demo.proofs.lines.line.Goals as goal

pub returns : goal.returns
returns c = line_in c.args.label.now c.args.number (omega arith) c.requires c.put-first.ensures c.write.ensures c.put.ensures
