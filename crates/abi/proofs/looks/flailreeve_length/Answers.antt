-- `abi::looks::flailreeve_length`: what the length in the words is. Number 0 has no place.
use mathlib.Core.Path.{◌≡◌, sym, ap, ◌∙◌}
use mathlib.Core.Logic.{inl}
use native.Mathlib.Omega.{arith}
use Rattle.books.specs.declared.Length.{Length}
use Rattle.books.specs.Place.{Place, no_place, place_in}
use Rattle.books.specs.Words.{book_from}
use Rattle.shapes.specs.Moves.{ask_length}
use Rattle.xor.specs.Ten.{length_of}
use Rattle.xor.proofs.Named.{named_fault}
use Rattle.faces.specs.Face.{told}
use Rattle.abi.proofs.looks.flailreeve_length.Goals as goal

pub returns-else-refusal-ne0 : goal.returns-else-refusal-ne0
returns-else-refusal-ne0 c =
    let a = c.args in
    let e = c.length_words-answer.ensures in
    let r = length_of a.links.now a.values.now (book_from a.book.now) a.list in
    let z : r.refusal.number ≡ 0 = sym (ap (λ (x : Length). x.refusal.number) e) ∙ c.if-refusal-ne0.false in
    let p : place_in r.refusal ≡ no_place = (named_fault (record { links = a.links.now; values = a.values.now; book = book_from a.book.now }) (ask_length a.list)).unplaced (inl (omega (arith, z))) in
    ap (λ (x : Length). told x.refusal.number no_place x.length) e ∙ ap (λ (x : Place). told r.refusal.number x r.length) (sym p)
