-- What becomes of the lent words: a done call's book, or what they were.
use mathlib.Core.Path.{◌≡◌, ap}
use mathlib.Core.Bool.{Bool, cond}
use mathlib.Core.List.{List}
use Prim.Native.Nat.{ℕ}
use borrow.Author.Tests.{eq-eqb, ne_eqb}
use Rattle.books.specs.declared.Book.{Book}
use Rattle.books.specs.Book.{words_of}
use Rattle.faces.specs.Words.{kept}

module _ (number : ℕ) (words : List ℕ) (book : Book) where
  pub kept_done : number ≡ 0 → kept number words book ≡ words_of book
  unfolding kept
  kept_done e = ap (λ (t : Bool). cond t (words_of book) words) (eq-eqb number 0 e)

  pub kept_refused : (number ≡ 0 → ⊥) → kept number words book ≡ words
  unfolding kept
  kept_refused e = ap (λ (t : Bool). cond t (words_of book) words) (ne_eqb number 0 e)
