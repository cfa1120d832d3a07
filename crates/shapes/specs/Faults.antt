-- The faults of a pool as the check gathers them, in the order of 02 b)'s rules 11 to 15 and of 02 c)'s 16: what runs once the walks are made.
use Rattle.std.specs.Prelude.{Bool, cond, not, ◌&&◌, List, ℕ, zero, suc, ◌+◌, ◌-◌, ltb, leb, eqb, length, replicate, Result, Ok, Err}
use Rattle.books.specs.declared.Entry.{Entry}
use Rattle.books.specs.Place.{Place, no_place, refusal_of, numbered}
use Rattle.books.specs.declared.Refusal.{Refusal}
use Rattle.books.specs.declared.Refused.{Refused}
use Rattle.books.specs.Errors.{refusal_by}
use Rattle.books.specs.Book.{null_slot}
use Rattle.shapes.specs.Met.{is_met_of}
use Rattle.shapes.specs.Records.{Fault}
use Rattle.shapes.specs.Records.{Gathered}
use Rattle.shapes.specs.Records.{Found}
use Rattle.shapes.specs.Records.{Looked}

abbrev pub fault : ℕ → ℕ → ℕ → Fault
fault rule list place = record { rule = rule; list = list; place = place }

abbrev pub no_fault : Fault
no_fault = fault 0 0 0

-- where the fault is: a list and a position, 0 where the rule sets none
abbrev pub place_of : Fault → Place
place_of f = record { list = f.list; position = f.place }

-- the place that goes with a number: the fault's where the number is its rule, and none with any other number
abbrev pub place_for : Fault → ℕ → Place
place_for f number = cond (eqb f.rule number) (place_of f) no_place

-- the answer with that number, and with the place that goes with it
abbrev pub answering : Fault → ℕ → Refusal
answering f number = refusal_of number (place_for f number)

-- the answer that names the fault
abbrev pub naming : Fault → Refusal
naming f = refusal_of f.rule (place_of f)

-- before the first list none of the N slots was met
unfoldable pub nothing_met : ℕ → List ℕ
nothing_met size = replicate size 0

-- and no list is over its limit, nor is a stored length wrong
abbrev pub gathered_none : ℕ → Gathered
gathered_none lists = record { fault = no_fault; live = 0; lacks = 0; over = lists; wrong = lists }

-- the lowest of L lists so far of which something is so, L for none: `list` is the next, and `so` says it of this one
abbrev pub lowest_so : ℕ → ℕ → Bool → ℕ → ℕ
lowest_so lists list so far = cond (eqb far lists && so) list far

module _ (lists : ℕ) where
  -- one list, number `list`, whose walk passed `many` slots
  abbrev pub gather_one : ℕ → Entry → ℕ → Gathered → Gathered
  gather_one list e many g =
      record {
        fault = g.fault;
        live = g.live + many;
        lacks = g.lacks + (e.share - many);
        over = lowest_so lists list (ltb e.limit many) g.over;
        wrong = lowest_so lists list (not (eqb e.length many)) g.wrong;
      }

-- rule 11: the first place of a live chain that is no fresh slot, or its length where it does not end at the tail
abbrev pub gather_fault : ℕ → ℕ → Gathered → Gathered
gather_fault list many g = record { fault = fault 11 list many; live = g.live; lacks = g.lacks; over = g.over; wrong = g.wrong }

-- what was gathered, and the record of slots met
pub record Round : Type 0 where
  pub gathered : Gathered
  pub met : List ℕ

abbrev pub round : Gathered → List ℕ → Round
round g met = record { gathered = g; met = met }

-- the lowest slot from `slot` on that was not met
abbrev pub lowest_unmet : List ℕ → ℕ → ℕ → ℕ
lowest_unmet met slot zero = slot
lowest_unmet met slot (suc n) = cond (is_met_of met slot) (lowest_unmet met (suc slot) n) slot

-- rule 16: the lowest list whose stored length is wrong, or else L where the stored count of the free slots is not `free`
unfoldable pub count_fault : ℕ → ℕ → ℕ → ℕ → Fault
count_fault lists wrong stored free = cond (eqb wrong lists) (cond (eqb stored free) no_fault (fault 16 lists 0)) (fault 16 wrong 0)

-- rule 15: the lowest list over its limit, or else L where the free slots do not cover what the lists lack; and then a later rule's fault, or none
unfoldable pub spare_fault : ℕ → ℕ → ℕ → ℕ → Fault → Fault
spare_fault lists over lacks free later = cond (eqb over lists) (cond (leb lacks free) later (fault 15 lists 0)) (fault 15 over 0)

-- rules 12 to 16, once the idle chain was walked too: `met` are the slots met on all walks, `ended` whether the idle walk came to its end,
-- `free` how many slots it passed, `unwiped` the lowest of them that is not wiped, or 0, and `stored` the stored count of the free slots
unfoldable pub idle_fault : List ℕ → ℕ → ℕ → Gathered → Bool → ℕ → ℕ → ℕ → Fault
idle_fault met size lists g ended free unwiped stored =
    cond ended
    (cond (eqb (g.live + free + 1) size)
    (cond (eqb unwiped null_slot)
    (spare_fault lists g.over g.lacks free (count_fault lists g.wrong stored free))
    (fault 14 0 unwiped))
    (fault 13 0 (lowest_unmet met 1 (size - 1))))
    (fault 12 0 free)

-- a fault, and nothing else was found
abbrev pub faulty : Fault → Found
faulty f = record { fault = f; lacks = 0 }

-- a refusal before or by the check: nothing was found
abbrev pub refused_by : Refusal → Looked
refused_by refusal = record { refusal = refusal; found = faulty no_fault }

-- no refusal, and what the check found
abbrev pub looked_fine : Found → Looked
looked_fine found = record { refusal = numbered 0; found = found }

-- how the code says it: what the lists lack of their shares, where the check finds no fault, or why the call is refused
abbrev pub looked_by : Result ℕ Refused → Looked
looked_by (Ok lacks) = looked_fine (record { fault = no_fault; lacks = lacks })
looked_by (Err refused) = refused_by (refusal_by refused)
