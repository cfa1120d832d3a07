-- `demo::lines::refused`: the text and the line's end fit, and are one.
use Rattle.shows.proofs.Rows.{refusal_in}
use Rattle.demo.proofs.lines.refused.Goals as goal

pub returns : goal.returns
returns c = refusal_in c.args.number c.requires c.write-first.ensures c.put.ensures
