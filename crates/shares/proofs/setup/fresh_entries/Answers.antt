-- `shares::setup::fresh_entries`: the entries one by one.
use Rattle.std.specs.Prelude.{◌≡◌, map}
use Rattle.std.specs.List.{range_with_len}
use native.Mathlib.Omega.{arith}
use Rattle.std.proofs.lemmas.Grind.{common_steps}
use Rattle.books.specs.Tabulate.{tabulate}
use Rattle.shapes.specs.Setup.{fresh_entry}
use Rattle.shares.proofs.setup.fresh_entries.Goals as goal

pub returns : goal.returns
unfolding tabulate
returns c = let each : c.from_fn.result ≡ map (fresh_entry c.args.shares c.args.limits) (range_with_len 0 8) = grind (arith, common_steps) in each
