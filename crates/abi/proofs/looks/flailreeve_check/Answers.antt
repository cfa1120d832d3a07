-- `abi::looks::flailreeve_check`: the number and the place of the check of the words. Number 0 has no place.
use mathlib.Core.Path.{sym, ap, ◌∙◌}
use Rattle.books.specs.declared.Refusal.{Refusal}
use Rattle.books.specs.Book.{eight}
use Rattle.books.specs.Place.{no_place, place_in}
use Rattle.books.specs.Words.{book_from}
use Rattle.engines.proofs.Looking.{check_whole}
use Rattle.xor.specs.Engine.{xor}
use Rattle.faces.specs.Face.{checked}
use Rattle.abi.proofs.looks.flailreeve_check.Goals as goal

pub returns-else-refusal-ne0 : goal.returns-else-refusal-ne0
returns-else-refusal-ne0 c =
    let a = c.args in
    let e = c.check_words-refusal.ensures in
    let z = check_whole xor a.links.now a.values.now (eight (book_from a.book.now)) (sym (ap (λ (r : Refusal). r.number) e) ∙ c.if-refusal-ne0.false) in
    ap (λ (r : Refusal). checked r.number no_place) (e ∙ z) ∙ ap (λ (r : Refusal). checked r.number (place_in r)) (sym z)
