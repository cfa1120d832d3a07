-- 01: "Tests run in the order 1 to 8; the first that applies is given", with 02 b)'s 9 to 15 and 02 c)'s 16 in the place of 3: for the code as tests, for a reader as conditions.
use Rattle.std.specs.Prelude.{Bool, cond, List, [], ◌∷◌, ℕ, eqb}

-- a number and the test that runs
pub record Test : Type 0 where
  pub number : ℕ
  pub applies : Bool

abbrev pub test : ℕ → Bool → Test
test number applies = record { number = number; applies = applies }

-- the number of the first that applies, or 0
abbrev pub first_that : List Test → ℕ
first_that [] = 0
first_that (t ∷ ts) = cond t.applies t.number (first_that ts)

-- where a test applies, its number decides; else the call is done
unfoldable pub decided : {A : Type 0} → List Test → A → (ℕ → A) → A
decided ts done refused = cond (eqb (first_that ts) 0) done (refused (first_that ts))

-- a number and 01's "given exactly when"
pub record Condition : Type 1 where
  pub number : ℕ
  pub holds : Type 0

abbrev pub condition : ℕ → Type 0 → Condition
condition number holds = record { number = number; holds = holds }

-- in which order the numbers stand
abbrev pub numbers_of : List Condition → List ℕ
numbers_of [] = []
numbers_of (c ∷ cs) = c.number ∷ numbers_of cs

-- k is given: condition k holds and no earlier one does, or k is 0 and none holds
pub data Given : List Condition → ℕ → Type 1 where
  done : Given [] 0
  this : {c : Condition} {cs : List Condition} → c.holds → Given (c ∷ cs) c.number
  later : {c : Condition} {cs : List Condition} {k : ℕ} → (c.holds → ⊥) → Given cs k → Given (c ∷ cs) k
