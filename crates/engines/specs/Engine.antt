-- An engine: what its link cells must be to hold the sequences of slots, and how they are walked, set up and changed at an end. The laws that it must keep are in `Laws`.
use Rattle.std.specs.Prelude.{Bool, List, ℕ}
use Rattle.books.specs.declared.Free.{Free}
use Rattle.books.specs.declared.Entry.{Entry}
use Rattle.shapes.specs.declared.End.{End}

-- what a step at an end of a list leaves: whether it was done, the value that it hands out, 0 for none, the list's entry and the free record, and every cell
pub record Step (Links : Type 0) : Type 0 where
  pub done : Bool
  pub value : ℕ
  pub entry : Entry
  pub free : Free
  pub links : Links
  pub values : List ℕ

pub record Engine : Type 1 where
  -- the link slices, as many as the engine has; whether they are of one length; and the length of the first
  pub Links : Type 0
  pub even : Links → Bool
  pub size : Links → ℕ
  -- to be believed: the links of a list's sequence, of the free sequence and of slot 0 are as 01, or 02 f), says
  pub Live : Links → List ℕ → Type 0
  pub Idle : Links → List ℕ → Type 0
  pub Null : Links → Type 0
  -- slot y has the same links in both
  pub Same : Links → Links → ℕ → Type 0
  -- to be believed too, since they tell the position of a first fault: along a list from an end, the slot after x with p before it; along a list from the front, whether x's links fit p before it; and along the free sequence
  pub onward : End → Links → ℕ → ℕ → ℕ
  pub fits : Links → ℕ → ℕ → Bool
  pub idle_onward : Links → ℕ → ℕ → ℕ
  pub idle_fits : Links → ℕ → ℕ → Bool
  -- what runs: the test of slot 0
  pub null_test : Links → Bool
  -- the links that setup writes
  pub fresh : Links → Links
  -- the steps at an end of a list: its entry, the free record and, of a push, the value
  pub push : End → Links → List ℕ → Entry → Free → ℕ → Step Links
  pub pop : End → Links → List ℕ → Entry → Free → Step Links
