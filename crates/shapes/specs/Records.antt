-- The records in which the definitions give what a step, a walk and the check answer, and how the code's `Option` and `Result` say them.
use Rattle.std.specs.Prelude.{Bool, true, false, ℕ, Option, Some, None, Result, Ok, Err}
use Rattle.books.specs.declared.Entry.{Entry}
use Rattle.books.specs.declared.Free.{Free}
use Rattle.books.specs.declared.Refusal.{Refusal}
use Rattle.books.specs.declared.Number.{Number}
use Rattle.books.specs.Errors.{error_number}
use Rattle.shapes.specs.declared.Chains.{Chains}

-- whether the slot was released, and the idle chain then
pub record Released : Type 0 where
  pub done : Bool
  pub free : Free

-- whether the value was pushed, and the list and the idle chain then
pub record PushStep : Type 0 where
  pub done : Bool
  pub entry : Entry
  pub free : Free

-- whether a value was popped, which, and the list and the idle chain then
pub record PopStep : Type 0 where
  pub done : Bool
  pub value : ℕ
  pub entry : Entry
  pub free : Free

-- what a push, a pop or a clear on one list gives back: the number, 0 for done, and the list and the idle chain then. A refusal leaves these two
pub record ListChange : Type 0 where
  pub number : ℕ
  pub entry : Entry
  pub free : Free

-- the first rule that is broken, with a list and a place, 0 where none applies. Rule 0 is no fault.
-- 9 is L, shares and limits; 10 slot 0; 11 a live chain; 12 the idle chain; 13 a slot in no chain; 14 a free slot that is not wiped; 15 limits and shares; 16 the
-- stored counts
pub record Fault : Type 0 where
  pub rule : ℕ
  pub list : ℕ
  pub place : ℕ

-- what the walks along the lists so far have gathered: the fault, if there was one; how many slots are live; what the lists lack of
-- their shares; the lowest list over its limit, or L; and the lowest list whose stored length is not the number of its slots, or L
pub record Gathered : Type 0 where
  pub fault : Fault
  pub live : ℕ
  pub lacks : ℕ
  pub over : ℕ
  pub wrong : ℕ

-- what the check finds: the fault, if there is one, and else what the lists lack of their shares. The counts are in the book
pub record Found : Type 0 where
  pub fault : Fault
  pub lacks : ℕ

-- a number with its place, and what the check found: nothing where the number is not 0. The number is 1, from 9 to 16, or 0
pub record Looked : Type 0 where
  pub refusal : Refusal
  pub found : Found

-- ---- how the code says them

-- the idle chain after a release; none where the slot is refused, and the chain is as it was
abbrev pub released_by : Free → Option Free → Released
released_by before (Some rest) = record { done = true; free = rest }
released_by before None = record { done = false; free = before }

-- the chains after a push; none where it is refused, and they are as they were
abbrev pub push_step_by : Chains → Option Chains → PushStep
push_step_by before (Some after) = record { done = true; entry = after.list; free = after.idle }
push_step_by before None = record { done = false; entry = before.list; free = before.idle }

-- the value and the chains after a pop; none where it is refused: value 0, and they are as they were
abbrev pub pop_step_by : Chains → Option (ℕ × Chains) → PopStep
pop_step_by before (Some (value, after)) = record { done = true; value = value; entry = after.list; free = after.idle }
pop_step_by before None = record { done = false; value = 0; entry = before.list; free = before.idle }

-- the chains after a change of one list, or the number that refuses it, and they are as they were
abbrev pub list_change_by : Chains → Result Chains Number → ListChange
list_change_by before (Ok after) = record { number = 0; entry = after.list; free = after.idle }
list_change_by before (Err number) = record { number = error_number number; entry = before.list; free = before.idle }
