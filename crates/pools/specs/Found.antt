-- How the code says what the stages of the check give.
use Rattle.std.specs.Prelude.{Bool, cond, not, ◌&&◌, ℕ, ◌+◌, ◌-◌, ◌<◌, eqb, ltb, leb, Option, Some, None, is_none, IfSome, Result, Ok, Err}
use Rattle.std.specs.Option.{option_or}
use Rattle.std.specs.Bool.{then_some}
use Rattle.books.specs.declared.Entry.{Entry}
use Rattle.books.specs.declared.Number.{Number}
use Rattle.books.specs.declared.Refused.{Refused}
use Rattle.books.specs.Errors.{error_number}
use Rattle.books.specs.Book.{null_slot}
use Rattle.shapes.specs.declared.IdleWalk.{IdleWalk}
use Rattle.shapes.specs.Records.{Fault, Gathered, Found, Looked}
use Rattle.shapes.specs.Faults.{fault, no_fault, naming, looked_fine, refused_by}
use Rattle.pools.specs.declared.gather.Counts.{Counts}

-- the fault that an error names
abbrev pub fault_by : Refused → Fault
fault_by r = fault (error_number r.number) r.list r.position

-- and where there is no error, a later rule's fault, or none
abbrev pub fault_or : Result (Unit {0}) Refused → Fault → Fault
fault_or (Ok u) later = later
fault_or (Err refused) later = fault_by refused

-- the rule is broken at the list, where there is one
abbrev pub rule_broken_at : Number → Option ℕ → Result (Unit {0}) Refused
rule_broken_at rule None = Ok tt
rule_broken_at rule (Some list) = Err (record { number = rule; list = list; position = 0 })

-- the lowest list of which something is so, or L for none
abbrev pub lowest_by : ℕ → Option ℕ → ℕ
lowest_by lists None = lists
lowest_by lists (Some list) = list

-- what was gathered, with no fault
abbrev pub gathered_by : ℕ → Counts → Gathered
gathered_by lists c = record { fault = no_fault; live = c.live; lacks = c.lacks; over = lowest_by lists c.over; wrong = lowest_by lists c.wrong }

-- only lists below L are named
pub record ListsBelow (lists : ℕ) (c : Counts) : Type 0 where
  pub over : IfSome c.over (λ l. l < lists)
  pub wrong : IfSome c.wrong (λ l. l < lists)

-- one list more, number `list`, whose walk passed `many` slots
abbrev pub count_one : ℕ → Entry → ℕ → Counts → Counts
count_one list e many c =
    record {
      live = c.live + many;
      lacks = c.lacks + (e.share - many);
      over = option_or c.over (then_some (ltb e.limit many) list);
      wrong = option_or c.wrong (then_some (not (eqb e.length many)) list);
    }

-- none of the rules 12 to 16 is broken
abbrev pub no_rule_broken : ℕ → Counts → IdleWalk → ℕ → Bool
no_rule_broken size c idle stored =
    eqb idle.unwiped null_slot
    && idle.ok
    && eqb (c.live + idle.length + 1) size
    && is_none c.over
    && is_none c.wrong
    && eqb stored idle.length
    && leb c.lacks idle.length

-- what a look tells where the check found this
abbrev pub look_found : Found → Looked
look_found found = cond (eqb found.fault.rule 0) (looked_fine found) (refused_by (naming found.fault))
