-- `shares::setup::fresh_links`: after each turn the places so far are filled; the first stands before the loop.
use Rattle.std.specs.Prelude.{length}
use Rattle.books.proofs.Fill.{Filling}
use Rattle.xor.specs.Engine.{fresh_link}
use Rattle.shares.proofs.setup.fresh_links.Given as goal

abbrev pub invariant-loop-slot : goal.invariant-loop-slot
invariant-loop-slot l = Filling 0 (fresh_link (length l.fn.links)) l.initial.links l.links l.slot
