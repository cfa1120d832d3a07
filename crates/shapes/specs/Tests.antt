-- What the calls test of themselves, 5 to 8, as it runs, and what a read leaves.
use Rattle.std.specs.Prelude.{◌≡◌, not, ◌&&◌, List, [], ◌∷◌, ℕ, ◌+◌, ◌-◌, ◌≤◌, ◌<◌, leb, ltb, eqb, length, get_or}
use Rattle.books.specs.declared.Entry.{Entry}
use Rattle.books.specs.declared.Read.{Read}
use Rattle.books.specs.declared.Refusal.{Refusal}
use Rattle.shapes.specs.Numbers.{Test, test}

-- a push's own tests, 6 and 7: of a list that has `many` slots, where the lists lack `lacking` and `free` slots are free
abbrev pub push_own_tests : Entry → ℕ → ℕ → ℕ → List Test
push_own_tests e many lacking free =
    test 6 (eqb many e.limit)
    ∷ test 7 (ltb many e.limit && (leb e.share many && leb free lacking))
    ∷ []

-- a pop's own, 5
abbrev pub pop_own_tests : ℕ → List Test
pop_own_tests many = test 5 (eqb many 0) ∷ []

-- a read's own, 8: of a buffer with `buffer_size` places
abbrev pub read_own_tests : ℕ → ℕ → ℕ → List Test
read_own_tests many buffer_size at = test 8 (not (leb at buffer_size && leb many (buffer_size - at))) ∷ []

-- a read's answer, and the buffer then
pub record ReadLeft : Type 0 where
  pub answer : Read
  pub buffer : List ℕ

abbrev pub read_left : Read → List ℕ → ReadLeft
read_left answer buffer = record { answer = answer; buffer = buffer }

abbrev pub read_of : Refusal → ℕ → Read
read_of refusal count = record { refusal = refusal; count = count }

-- on any cells: only the places from `at` on, as many as were counted, may change
pub record Keeps (buffer : List ℕ) (at count : ℕ) (after : List ℕ) : Type 0 where
  pub size : length after ≡ length buffer
  pub sooner : (i : ℕ) → i < at → get_or after i 0 ≡ get_or buffer i 0
  pub later : (i : ℕ) → at + count ≤ i → get_or after i 0 ≡ get_or buffer i 0
