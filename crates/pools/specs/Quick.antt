-- The tests of a quick call that stand before those of the stored lengths, as they run; and how the code says which test applies.
use Rattle.std.specs.Prelude.{not, List, [], ◌∷◌, ℕ, ltb, leb, Result, Ok, Err}
use Rattle.books.specs.Book.{AnyBook}
use Rattle.books.specs.declared.Number.{Number}
use Rattle.books.specs.Errors.{error_number}
use Rattle.shapes.specs.Numbers.{Test, test}
use Rattle.shapes.specs.Quick.{lists_inside}
use Rattle.engines.specs.Engine.{Engine}
use Rattle.engines.specs.Check.{sizes_fit}

-- 1; 17 for L; 4; 17 for the stored free count
abbrev pub counted_tests : (E : Engine) → E.Links → List ℕ → AnyBook → ℕ → List Test
counted_tests E links values b l =
    test 1 (not (sizes_fit E links values))
    ∷ test 17 (not (lists_inside b))
    ∷ test 4 (leb b.lists l)
    ∷ test 17 (not (ltb b.free.count (E.size links)))
    ∷ []

-- the number that refuses, or 0 where none does
abbrev pub early_number : Result ℕ Number → ℕ
early_number (Ok lacks) = 0
early_number (Err number) = error_number number
