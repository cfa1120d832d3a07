-- `pools::quick::early`: a number of the tests before the stored lengths decides, and where there is none, the lengths do.
use Rattle.books.specs.Book.{eight}
use Rattle.books.specs.Words.{book_from}
use Rattle.pools.proofs.Tallied.{early_stops}
use Rattle.pools.proofs.quick.early.Goals as goal

pub returns-in_err-lists-clause-number : goal.returns-in_err-lists-clause-number
returns-in_err-lists-clause-number c =
    let a = c.args in
    early_stops a.links.now a.values.now (eight (book_from a.words.now)) a.list c.from_residual.result _ c.from_residual.ensures.1 c.in_err-lists.ensures.number
