-- Two results that a promise allows are equal, said once for the two kinds of promise that most functions have: an answer alone, and an answer with both slices.
use mathlib.Core.Path.{◌≡◌, sym, ap, ◌∙◌}
use mathlib.Core.List.{List}
use Prim.Native.Nat.{ℕ}
use Rattle.books.specs.Outcome.{Outcome, outcome}

-- an answer, or what a lent slice holds at exit, that is promised to be one thing
pub one_answer : {A : Type 0} {o r r' : A} → r ≡ o → r' ≡ o → r ≡ r'
one_answer e f = e ∙ sym f

-- an answer with both slices
pub one_outcome : {A : Type 0} {o : Outcome A} {r r' : A} {links links' values values' : List ℕ} → outcome r links values ≡ o → outcome r' links' values' ≡ o
    → (r ≡ r') × (links ≡ links') × (values ≡ values')
one_outcome {A} e f =
    let g = one_answer e f in
    (ap (λ (x : Outcome A). x.answer) g, ap (λ (x : Outcome A). x.links) g, ap (λ (x : Outcome A). x.values) g)
