-- `pools::word::word_of`: what is put into the number is found in it again, as the code tells it and as the definitions do; and nothing stands above.
use Rattle.std.proofs.Common.{rules, sym}
use native.Mathlib.Omega.{arith}
use Rattle.books.proofs.Errors.{number_positive}
use Rattle.pools.proofs.Handed.{lacks_handed, place_handed}
use Rattle.pools.proofs.Packed.{low_word_zero, lacks_again, place_again}
use Rattle.pools.proofs.word.word_of.Goals as goal

pub returns-in-Ok-clause-told : goal.returns-in-Ok-clause-told
returns-in-Ok-clause-told c = rw (lacks_handed c.in-Ok.lacks) (sym c.in-Ok.is)

pub returns-in-Ok-clause-alone : goal.returns-in-Ok-clause-alone
returns-in-Ok-clause-alone c = rw c.in-Ok.is (lacks_again c.in-Ok.lacks, λ d. absurd (d (low_word_zero c.in-Ok.lacks)))

pub returns-in-Err-clause-told : goal.returns-in-Err-clause-told
returns-in-Err-clause-told c =
    let r = c.in-Err.refused in
    rw (c.from-in-Err-3.ensures, c.from-in-Err-2.ensures, c.from.ensures, c.from-in-Err.ensures, place_handed r.number r.list r.position (search rules) (search rules) (search rules)) (sym c.in-Err.is)

pub returns-in-Err-clause-alone : goal.returns-in-Err-clause-alone
returns-in-Err-clause-alone c =
    let r = c.in-Err.refused in
    rw (c.in-Err.is, c.from-in-Err-3.ensures, c.from-in-Err-2.ensures, c.from.ensures, c.from-in-Err.ensures)
    (place_again _ r.list r.position (λ z. omega (arith, number_positive r.number, z)) (search rules) (search rules) (search rules), λ d. omega arith)
