-- The measure is the number, which is at least ten at the call and falls to its tenth.
use Rattle.digits.proofs.+put.Given as goal

abbrev pub decreases-put : goal.decreases-put
decreases-put l = l.number
