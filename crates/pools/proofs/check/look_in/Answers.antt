-- `pools::check::look_in`: the record has a place for each slot, and nothing is met in it.
use mathlib.Core.Path.{sym, ap}
use Prim.Native.Nat.{ℕ}
use native.Mathlib.Omega.{arith}
use lib.ListN.{replicate, length-replicate}
use Rattle.shapes.specs.Faults.{nothing_met}
use Rattle.pools.proofs.check.look_in.Goals as goal

pub look_over-requires : goal.look_over-requires
unfolding nothing_met
look_over-requires g c = (c.requires.0, omega (arith, length-replicate {A = ℕ} g.row.N 0, c.requires.1), ap (λ (n : ℕ). replicate {A = ℕ} n 0) (sym (length-replicate {A = ℕ} g.row.N 0)))
