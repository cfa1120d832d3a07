-- `demo::lines::three`: each line fits after those before it, and the three are one.
use native.Mathlib.Omega.{arith}
use Rattle.wording.proofs.Pieces.{at_most_bytes}
use Rattle.shows.proofs.Rows.{line_size, three_in}
use Rattle.demo.proofs.lines.three.Goals as goal

pub line-requires : goal.line-requires
line-requires c =
    let a = c.args in
    omega (arith, at_most_bytes c.line-first.ensures, line_size a.label.now a.x (omega arith))

pub line-requires-2 : goal.line-requires-2
line-requires-2 c =
    let a = c.args in
    let l = line_size a.label.now a.x (omega arith) in
    let m = line_size a.label.now a.y (omega arith) in
    omega (arith, at_most_bytes c.line-first.ensures, at_most_bytes c.line.ensures)

pub returns : goal.returns
returns c =
    let a = c.args in
    three_in a.label.now a.x a.y a.z (omega arith) (omega arith) (omega arith) c.requires c.line-first.ensures c.line.ensures c.line-2.ensures
