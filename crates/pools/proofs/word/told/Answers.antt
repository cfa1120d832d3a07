-- `pools::word::told`: no error has the number 0.
use Rattle.books.specs.Errors.{number_from}
use Rattle.pools.proofs.word.told.Goals as goal

pub returns-then-word-eq0 : goal.returns-then-word-eq0
unfolding number_from
returns-then-word-eq0 c = rw c.if-word-eq0.true
