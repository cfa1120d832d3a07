-- `shares::reads::read`: what the test of 1, 9 to 16 and 4 and the call's own tell, and what the read of the list leaves.
use Rattle.std.specs.Prelude.{◌<◌}
use mathlib.Core.Path.{refl, ap, ◌∙◌}
use native.Mathlib.Omega.{arith}
use borrow.Author.Rules.{rules}
use Rattle.books.proofs.Errors.{number_positive}
use Rattle.books.specs.Book.{eight}
use Rattle.books.specs.Words.{book_from}
use Rattle.shapes.specs.declared.Chains.{Chains}
use Rattle.shapes.specs.Ends.{near_of}
use Rattle.pools.proofs.Found.{handed_on}
use Rattle.shares.proofs.Listed.{refused_there}
use Rattle.shares.proofs.Reached.{read_early, read_full, read_count_fits, read_went}
use Rattle.shares.proofs.reads.read.Goals as goal

pub returns-in_err-chains : goal.returns-in_err-chains
returns-in_err-chains c =
    let a = c.args in
    rw (handed_on _ _ c.from_residual.ensures.1)
    (read_early a.links.now a.values.now (eight (book_from a.words.now)) a.list _ c.in_err-chains.ensures.seen (refused_there c.in_err-chains.field-0.0) a.end a.buffer.now a.at refl)

pub returns-in_err-read_number : goal.returns-in_err-read_number
returns-in_err-read_number c =
    let a = c.args in
    let listed = c.in_ok-chains.ensures in
    rw (handed_on _ _ c.from_residual-in_err-read_number.ensures.1)
    (read_full a.links.now a.values.now (eight (book_from a.words.now)) a.list _ listed.seen refl a.end a.buffer.now a.at (ap (λ (x : Chains). x.list.length) listed.chains) _ c.in_err-read_number.ensures
    (λ z. absurd (omega (arith, number_positive c.in_err-read_number.field-0.0, z))) refl)

pub overflow_cast-result : goal.overflow_cast-result
overflow_cast-result c =
    let a = c.args in
    let listed = c.in_ok-chains.ensures in
    let many = ap (λ (x : Chains). x.list.length) listed.chains in
    let near = c.near_of-start.ensures ∙ ap (λ (x : Chains). near_of a.end x.list) listed.chains in
    let fits : c.read-count.result < 65536 =
    read_count_fits a.links.now a.values.now (eight (book_from a.words.now)) a.list _ listed.seen refl a.end a.buffer.now a.at many _ c.in_ok-read_number.ensures refl a.list _ refl near c.read-count.ensures.0 in
    search rules

pub returns : goal.returns
returns c =
    let a = c.args in
    let listed = c.in_ok-chains.ensures in
    let many = ap (λ (x : Chains). x.list.length) listed.chains in
    let near = c.near_of-start.ensures ∙ ap (λ (x : Chains). near_of a.end x.list) listed.chains in
    read_went a.links.now a.values.now (eight (book_from a.words.now)) a.list _ listed.seen refl a.end a.buffer.now a.at many _ c.in_ok-read_number.ensures refl a.list _ refl near c.read-count.ensures
