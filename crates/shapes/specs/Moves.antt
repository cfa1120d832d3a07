-- The nine calls on a pool that is set up, and 02 d)'s four quick ones, each with any arguments.
use Rattle.std.specs.Prelude.{List, ℕ}
use Rattle.shapes.specs.declared.End.{End}
use Rattle.shapes.specs.declared.End.TheVariants.{Front, Back}

-- one of the nine calls, with any arguments: a list number, a value, a buffer and a place
pub data Move : Type 0 where
  check : Move
  ask_length : ℕ → Move
  push_back : ℕ → ℕ → Move
  push_front : ℕ → ℕ → Move
  pop_back : ℕ → Move
  pop_front : ℕ → Move
  read_forward : ℕ → List ℕ → ℕ → Move
  read_backward : ℕ → List ℕ → ℕ → Move
  clear : ℕ → Move

-- a push and a pop at either end
abbrev pub push_move : End → ℕ → ℕ → Move
push_move Front l value = push_front l value
push_move Back l value = push_back l value

abbrev pub pop_move : End → ℕ → Move
pop_move Front l = pop_front l
pop_move Back l = pop_back l

-- ---- 02 d)

-- one of the four quick calls, with any arguments: a list number, and a value
pub data QuickMove : Type 0 where
  quick_push_back : ℕ → ℕ → QuickMove
  quick_push_front : ℕ → ℕ → QuickMove
  quick_pop_back : ℕ → QuickMove
  quick_pop_front : ℕ → QuickMove

-- the checked call of the same name
abbrev pub checked_of : QuickMove → Move
checked_of (quick_push_back l value) = push_back l value
checked_of (quick_push_front l value) = push_front l value
checked_of (quick_pop_back l) = pop_back l
checked_of (quick_pop_front l) = pop_front l

-- a call on a pool that is set up: one of the nine, or a quick one
pub data Call : Type 0 where
  checked : Move → Call
  quick : QuickMove → Call

-- what it asks for: a quick call asks for what the checked one does
abbrev pub move_of : Call → Move
move_of (checked m) = m
move_of (quick q) = checked_of q
