-- What a look tells, as one number. The low 16 bits are the number that the call answers with; above them, where it is 0, what the lists lack of their shares, and else 16 bits each, the list and the position of its place.
use Rattle.std.specs.Prelude.{◌≢◌, cond, ℕ, ◌/◌, ◌%◌, ◌<◌, eqb, Option, Some, None, Result, Ok, Err}
use Rattle.books.specs.declared.Number.{Number}
use Rattle.books.specs.declared.Refused.{Refused}
use Rattle.books.specs.Errors.{number_from}
use Rattle.books.specs.Place.{refusal_of}
use Rattle.shapes.specs.Records.{Looked}
use Rattle.shapes.specs.Faults.{no_fault, looked_fine, refused_by}

-- ---- as the code's Result

-- what stands above the number, where it is one and where it is none
abbrev pub told_as : ℕ → Option Number → Result ℕ Refused
told_as above (Some number) = Err (record { number = number; list = above % 65536; position = above / 65536 % 65536 })
told_as above None = Ok above

abbrev pub told_in : ℕ → Result ℕ Refused
told_in word = told_as (word / 65536) (number_from (word % 65536))

-- ---- as the definitions' record

-- 0, and what the check found in a sound pool
abbrev pub fine : ℕ → Looked
fine lacks = looked_fine (record { fault = no_fault; lacks = lacks })

-- a number with its place, and nothing found
abbrev pub broken_at : ℕ → ℕ → ℕ → Looked
broken_at number list position = refused_by (refusal_of number (record { list = list; position = position }))

abbrev pub told_by : ℕ → Looked
told_by word =
    cond (eqb (word % 65536) 0)
    (fine (word / 65536))
    (broken_at (word % 65536) (word / 65536 % 65536) (word / 65536 / 65536 % 65536))

-- a word that tells a number has nothing above the place, so that no other word tells the same
abbrev pub NoMore : ℕ → Type 0
NoMore word = word % 65536 ≢ 0 → word < 281474976710656
