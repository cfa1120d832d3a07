-- 01: "A ten-by-nine table says which number each call can give." "Every answer agrees with its row." 02 b), c) and d) add their columns, and d) four rows. Over any engine.
use Rattle.std.specs.Prelude.{◌≡◌, true, List, ℕ}
use Rattle.books.specs.Table.{may_give}
use Rattle.shapes.specs.Moves.{Move, check, ask_length, push_back, push_front, pop_back, pop_front, read_forward, read_backward, clear, QuickMove, quick_push_back, quick_push_front, quick_pop_back, quick_pop_front}
use Rattle.engines.specs.Engine.{Engine}
use Rattle.engines.specs.Calls.{setup_call}
use Rattle.engines.specs.Moves.{State, number_of, quick_called}

-- the row of each of the nine calls. Setup's is row 0
abbrev pub row_of : Move → ℕ
row_of check = 1
row_of (ask_length l) = 2
row_of (push_back l value) = 3
row_of (push_front l value) = 4
row_of (pop_back l) = 5
row_of (pop_front l) = 6
row_of (read_forward l buffer at) = 7
row_of (read_backward l buffer at) = 8
row_of (clear l) = 9

-- and of each quick one
abbrev pub quick_row_of : QuickMove → ℕ
quick_row_of (quick_push_back l value) = 10
quick_row_of (quick_push_front l value) = 11
quick_row_of (quick_pop_back l) = 12
quick_row_of (quick_pop_front l) = 13

-- each call's number is in its row, whatever it is called with
pub record EveryRow (E : Engine) : Type 0 where
  pub setup : (places : ℕ) (links : E.Links) (values : List ℕ) (lists : ℕ) (shares limits : List ℕ) → may_give 0 (setup_call E places links values lists shares limits).number ≡ true
  pub nine : (st : State E) (m : Move) → may_give (row_of m) (number_of E st m) ≡ true
  pub four : (st : State E) (q : QuickMove) → may_give (quick_row_of q) (quick_called E st q).number ≡ true
