-- The numbers that refuse a call, as errors of the code: which number each is, and what a refusal by it says to C.
use Rattle.std.specs.Prelude.{cond, ℕ, eqb, Option, Some, None, Result, Ok, Err}
use Rattle.books.specs.declared.Number.{Number}
use Rattle.books.specs.declared.Number.TheVariants.{Sizes, Setup, NoList, Empty, AtLimit, NoSlot, Buffer, BookRules, NullSlot, LiveChain, IdleChain, NoChain, NotWiped, Limits, Counts, Untrusted}
use Rattle.books.specs.declared.Refused.{Refused}
use Rattle.books.specs.declared.Refusal.{Refusal}

abbrev pub error_number : Number → ℕ
error_number Sizes = 1
error_number Setup = 2
error_number NoList = 4
error_number Empty = 5
error_number AtLimit = 6
error_number NoSlot = 7
error_number Buffer = 8
error_number BookRules = 9
error_number NullSlot = 10
error_number LiveChain = 11
error_number IdleChain = 12
error_number NoChain = 13
error_number NotWiped = 14
error_number Limits = 15
error_number Counts = 16
error_number Untrusted = 17

-- the number with no place
abbrev pub refused_by_number : Number → Refused
refused_by_number number = record { number = number; list = 0; position = 0 }

-- what the error says to C
abbrev pub refusal_by : Refused → Refusal
refusal_by r = record { number = error_number r.number; list = r.list; position = r.position }

-- the number of what a call answers: 0 where it is done
abbrev pub number_by : {A : Type 0} → Result A Number → ℕ
number_by (Ok answer) = 0
number_by (Err number) = error_number number

-- what an answer says to C: number 0 and no place where the call is done
abbrev pub refusal_told : {A : Type 0} → Result A Refused → Refusal
refusal_told (Ok answer) = record { number = 0; list = 0; position = 0 }
refusal_told (Err refused) = refusal_by refused

-- the error that has the number, if one has
unfoldable pub number_from : ℕ → Option Number
number_from k =
    cond (eqb k 1) (Some Sizes) (cond (eqb k 2) (Some Setup) (cond (eqb k 4) (Some NoList) (cond (eqb k 5) (Some Empty)
    (cond (eqb k 6) (Some AtLimit) (cond (eqb k 7) (Some NoSlot) (cond (eqb k 8) (Some Buffer) (cond (eqb k 9) (Some BookRules)
    (cond (eqb k 10) (Some NullSlot) (cond (eqb k 11) (Some LiveChain) (cond (eqb k 12) (Some IdleChain) (cond (eqb k 13) (Some NoChain)
    (cond (eqb k 14) (Some NotWiped) (cond (eqb k 15) (Some Limits) (cond (eqb k 16) (Some Counts) (cond (eqb k 17) (Some Untrusted) None)))))))))))))))
