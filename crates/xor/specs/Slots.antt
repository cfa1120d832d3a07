-- What taking a slot and releasing one give, and what they leave of both slices. The stored count stays: the calls count (02 c).
use Rattle.std.specs.Prelude.{Bool, true, false, cond, List, ℕ, set, Option, Some, None}
use Rattle.books.specs.declared.Free.{Free}
use Rattle.books.specs.Book.{null_slot, wipe_word}
use Rattle.books.specs.Outcome.{Outcome, outcome}
use Rattle.chains.specs.Chain.{cell}
use Rattle.shapes.specs.Records.{Released}
use Rattle.xor.specs.Slot.{in_pool}

-- 01: "The slot layer answers with a slot or with none": whether a slot was taken, which, and the idle chain then
pub record Said : Type 0 where
  pub done : Bool
  pub slot : ℕ
  pub free : Free

-- what each case of the code's `Option` says: none is the null slot, with the idle chain as it was
abbrev pub said_by : Free → Option (ℕ × Free) → Said
said_by free (Some (slot, rest)) = record { done = true; slot = slot; free = rest }
said_by free None = record { done = false; slot = null_slot; free = free }

-- the slot at the free head, if it is one; its link leads on
unfoldable pub take_of : List ℕ → List ℕ → Free → Said
take_of links values free =
    cond (in_pool links values free.head)
    (record { done = true; slot = free.head; free = record { head = cell links free.head; count = free.count } })
    (record { done = false; slot = null_slot; free = free })

-- 01: "The slot's value becomes 0 and the slot becomes the free head, its link the old free head"
unfoldable pub release_of : List ℕ → List ℕ → ℕ → Free → Outcome Released
release_of links values slot free =
    cond (in_pool links values slot)
    (outcome (record { done = true; free = record { head = slot; count = free.count } }) (set links slot free.head) (set values slot wipe_word))
    (outcome (record { done = false; free = free }) links values)
