-- `shares::quick::listed`: what the first tests tell of the words of the book.
use Rattle.std.specs.Prelude.{◌≡◌, length}
use borrow.Author.Rules.{rules}
use Rattle.books.specs.Book.{entry_at}
use Rattle.pools.proofs.Found.{handed_on}
use Rattle.shares.proofs.QuickReached.{early_of_words, lacks_of_words}
use Rattle.shares.proofs.quick.listed.Goals as goal

pub returns-in_err-lacks-clause-number : goal.returns-in_err-lacks-clause-number
returns-in_err-lacks-clause-number c =
    let a = c.args in
    let entries : length a.book.entries ≡ 8 = search rules in
    rw (handed_on _ _ c.from_residual.ensures.1) (early_of_words a.links.now a.values.now a.book a.list entries c.words_of.ensures c.in_err-lacks.ensures.number)

pub returns-clause-number : goal.returns-clause-number
returns-clause-number c =
    let a = c.args in
    let entries : length a.book.entries ≡ 8 = search rules in
    early_of_words a.links.now a.values.now a.book a.list entries c.words_of.ensures c.in_ok-lacks.ensures.number

pub returns-clause-chains : goal.returns-clause-chains
returns-clause-chains c =
    let a = c.args in
    let entries : length a.book.entries ≡ 8 = search rules in
    (lacks_of_words a.links.now a.values.now a.book a.list entries c.words_of.ensures c.in_ok-lacks.ensures.lacks, λ i. record { list = entry_at a.book.entries (c.from.ensures i); idle = a.book.free })
