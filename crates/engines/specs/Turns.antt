-- Calls on both sides of each condition of each number but setup's, over the engine `trial`: the pool, the call, and the number that it must give, with its place. Where several conditions hold, the first decides.
use Rattle.std.specs.Prelude.{Bool, true, cond, ◌&&◌, List, [], ◌∷◌, ◌++◌, map, ℕ, suc, ◌+◌, eqb, set, replicate}
use Rattle.books.specs.declared.Entry.{Entry}
use Rattle.books.specs.declared.Refusal.{Refusal}
use Rattle.books.specs.Place.{refusal_of, numbered}
use Rattle.books.specs.Tried.{entry, none, edge_bits, all_bits, numbers_from}
use Rattle.shapes.specs.Moves.{Move, check, ask_length, push_back, push_front, pop_back, pop_front, read_forward, read_backward, clear}
use Rattle.engines.specs.Moves.{State, number_of, place_given}
use Rattle.engines.specs.Edges.{sound, broken, same_refusal}
use Rattle.engines.specs.Trial.{trial, pool}

-- a pool, a call, and the number that it must give, with its place
pub record Asked : Type 0 where
  pub answer : Refusal
  pub state : State trial
  pub move : Move

abbrev asked : Refusal → State trial → Move → Asked
asked answer state move = record { answer = answer; state = state; move = move }

-- each of the calls must give the number, without a place; or name the rule, with its place
abbrev all_give : ℕ → State trial → List Move → List Asked
all_give number state moves = map (asked (numbered number) state) moves

abbrev all_name : Refusal → State trial → List Move → List Asked
all_name answer state moves = map (asked answer state) moves

-- the eight calls on list l. The reads ask for place 1 of a buffer that has none
abbrev on_list : ℕ → List Move
on_list l = ask_length l ∷ push_back l 5 ∷ push_front l 5 ∷ pop_back l ∷ pop_front l ∷ read_forward l [] 1 ∷ read_backward l [] 1 ∷ clear l ∷ []

abbrev pushes : ℕ → List Move
pushes l = push_back l 5 ∷ push_front l 5 ∷ []

abbrev pops : ℕ → List Move
pops l = pop_back l ∷ pop_front l ∷ []

-- the reads of list l into a buffer of `places` places, from `at` on
abbrev reads_at : ℕ → ℕ → ℕ → List Move
reads_at l places at = read_forward l (replicate places 7) at ∷ read_backward l (replicate places 7) at ∷ []

-- 01's P3: of two lists, shares 2 and 1, limits 5 and 3, list 0 has slots 3, 1, 2 and 4, list 1 none, and slot 5 is free
abbrev trial_entries : List Entry
trial_entries = entry 3 4 2 5 4 ∷ entry 0 0 1 3 0 ∷ none 6

abbrev pub trial_p3 : State trial
trial_p3 = pool (0 ∷ 2 ∷ 4 ∷ 1 ∷ 0 ∷ 0 ∷ []) (0 ∷ 3 ∷ 1 ∷ 0 ∷ 2 ∷ 0 ∷ []) (0 ∷ 20 ∷ 30 ∷ 10 ∷ 40 ∷ 0 ∷ []) 2 trial_entries 5

-- P3 with so many next links, previous links and values, none of which is looked at
abbrev of_sizes : ℕ → ℕ → ℕ → State trial
of_sizes next previous values = pool (replicate next 0) (replicate previous 0) (replicate values 0) 2 trial_entries 5

-- N = 2, and slot 1 is free: L, and the entries
abbrev free : ℕ → List Entry → State trial
free lists es = pool (0 ∷ 0 ∷ []) (0 ∷ 0 ∷ []) (0 ∷ 0 ∷ []) lists es 1

-- 1: "lengths differ, or N under 2 or over 4,096", whatever else is wrong
abbrev pub ones : List Asked
ones =
    all_give 1 (of_sizes 6 6 5) (check ∷ on_list 9)
    ++ all_give 1 (of_sizes 6 6 7) (check ∷ on_list 9)
    ++ all_give 1 (of_sizes 6 5 6) (check ∷ on_list 9)
    ++ all_give 1 (of_sizes 5 6 6) (check ∷ on_list 9)
    ++ all_give 1 (of_sizes 6 7 6) (check ∷ on_list 9)
    ++ all_give 1 (of_sizes 6 12 6) (check ∷ on_list 9)
    ++ all_give 1 (of_sizes 6 6 262) (check ∷ on_list 9)
    ++ all_give 1 (of_sizes 0 0 0) (check ∷ on_list 9)
    ++ all_give 1 (of_sizes 1 1 1) (check ∷ on_list 9)
    ++ all_give 1 (of_sizes 4097 4097 4097) (check ∷ ask_length 9 ∷ [])
    -- two slots and 4,096 are a pool, of which 9 is said, or 0
    ++ asked (broken 9 0 0) (of_sizes 2 2 2) check
    ∷ asked sound (free 1 (entry 0 0 0 1 0 ∷ none 7)) check
    ∷ asked (broken 9 0 0) (pool (replicate 4096 0) (replicate 4096 0) (replicate 4096 0) 0 (none 8) 1) check
    ∷ []

-- P3 with another value in slot 0, and with two free slots that are one
abbrev unsound : State trial
unsound = pool (0 ∷ 2 ∷ 4 ∷ 1 ∷ 0 ∷ 0 ∷ []) (0 ∷ 3 ∷ 1 ∷ 0 ∷ 2 ∷ 0 ∷ []) (1 ∷ 20 ∷ 30 ∷ 10 ∷ 40 ∷ 0 ∷ []) 2 trial_entries 5

abbrev turning_back : State trial
turning_back = pool (0 ∷ 2 ∷ 4 ∷ 1 ∷ 0 ∷ 5 ∷ []) (0 ∷ 3 ∷ 1 ∷ 0 ∷ 2 ∷ 0 ∷ []) (0 ∷ 20 ∷ 30 ∷ 10 ∷ 40 ∷ 0 ∷ []) 2 trial_entries 5

-- 10 and 12, whatever is asked of the list; 4: "list number not below L", whatever is asked of it; 5: "the list is empty"
abbrev pub list_numbers : List Asked
list_numbers =
    all_name (broken 10 0 0) unsound (check ∷ on_list 9)
    ++ all_name (broken 12 0 1) turning_back (check ∷ on_list 1)
    ++ all_give 4 trial_p3 (on_list 2)
    ++ all_give 4 trial_p3 (on_list 3)
    ++ all_give 4 trial_p3 (on_list 7)
    ++ all_give 4 trial_p3 (on_list 8)
    ++ all_give 4 trial_p3 (on_list 65535)
    ++ all_give 4 trial_p3 (on_list 65537)
    ++ all_give 4 (free 8 (none 8)) (on_list 8)
    ++ all_give 0 (free 8 (none 8)) (ask_length 7 ∷ clear 7 ∷ [])
    ++ all_give 0 trial_p3 (check ∷ ask_length 0 ∷ ask_length 1 ∷ clear 0 ∷ clear 1 ∷ [])
    ++ all_give 5 trial_p3 (pops 1)
    ++ all_give 0 trial_p3 (pops 0)
    ++ all_give 5 (free 8 (none 8)) (pops 7)
    ++ all_give 0 (pool (0 ∷ 0 ∷ []) (0 ∷ 0 ∷ []) (0 ∷ 0 ∷ []) 8 (none 7 ++ entry 1 1 0 1 1 ∷ []) 0) (pops 7)

-- N = 3 and eight lists: list l has slot 1, with this share and limit; list k has nothing, with that share and limit; slot 2 is free
abbrev with_one : ℕ → ℕ → ℕ → ℕ → ℕ → ℕ → State trial
with_one l share limit k share' limit' = pool (0 ∷ 0 ∷ 0 ∷ []) (0 ∷ 0 ∷ 0 ∷ []) (0 ∷ 8 ∷ 0 ∷ []) 8 (set (set (none 8) l (entry 1 1 share limit 1)) k (entry 0 0 share' limit' 0)) 2

-- another list than l
abbrev other : ℕ → ℕ
other l = cond (eqb l 7) 0 (suc l)

-- 6: "length equals limit": limit 0, and limit 1 with one slot. 7: list l has its share, or none is asked for, and the one free slot is what another list lacks. 0: one is under its limit and the slot is nobody's; or list l itself lacks the slot
abbrev pushes_of : ℕ → List Asked
pushes_of l =
    all_give 6 (free 8 (none 8)) (pushes l)
    ++ all_give 6 (with_one l 0 1 (other l) 0 0) (pushes l)
    ++ all_give 6 (with_one l 1 1 (other l) 1 1) (pushes l)
    ++ all_give 7 (with_one l 0 2 (other l) 1 1) (pushes l)
    ++ all_give 7 (with_one l 1 2 (other l) 1 2) (pushes l)
    ++ all_give 0 (with_one l 0 2 (other l) 0 2) (pushes l)
    ++ all_give 0 (with_one l 1 2 (other l) 0 2) (pushes l)
    ++ all_give 0 (with_one l 2 2 (other l) 0 2) (pushes l)
    ++ all_give 0 (with_one (other l) 0 1 l 0 1) (pushes l)
    ++ all_give 0 (with_one (other l) 0 2 l 1 1) (pushes l)
    ++ all_give 0 (with_one (other l) 1 1 l 1 2) (pushes l)

-- N = 5 or 4 and three lists: list 0 has slot 1; the other slots are free
abbrev three_free : List Entry → State trial
three_free es = pool (0 ∷ 0 ∷ 3 ∷ 4 ∷ 0 ∷ []) (replicate 5 0) (0 ∷ 8 ∷ 0 ∷ 0 ∷ 0 ∷ []) 3 es 2

abbrev two_free : List Entry → State trial
two_free es = pool (0 ∷ 0 ∷ 3 ∷ 0 ∷ []) (replicate 4 0) (0 ∷ 8 ∷ 0 ∷ 0 ∷ []) 3 es 2

-- 7: "under the limit, length at least the share, and free slots no more than the sum of lacks"
abbrev pub push_numbers : List Asked
push_numbers =
    -- the sum of what two lists lack, and one slot more
    all_give 7 (two_free (entry 1 1 0 3 1 ∷ entry 0 0 1 3 0 ∷ entry 0 0 1 3 0 ∷ none 5)) (pushes 0)
    ++ all_give 0 (three_free (entry 1 1 0 3 1 ∷ entry 0 0 1 3 0 ∷ entry 0 0 1 3 0 ∷ none 5)) (pushes 0)
    ++ all_give 7 (two_free (entry 1 1 1 3 1 ∷ entry 0 0 0 3 0 ∷ entry 0 0 2 3 0 ∷ none 5)) (pushes 0 ++ pushes 1)
    -- a list below its share is served, though the free slots are just what the lists lack
    ++ all_give 0 (two_free (entry 1 1 2 3 1 ∷ entry 0 0 1 3 0 ∷ none 6)) (pushes 0 ++ pushes 1)
    ++ all_give 0 (two_free (entry 1 1 3 3 1 ∷ none 7)) (pushes 0)
    -- no slot is free and none is lacked: 7 under the limit, 6 at it
    ++ all_give 7 (pool (0 ∷ 0 ∷ []) (0 ∷ 0 ∷ []) (0 ∷ 5 ∷ []) 2 (entry 1 1 0 1 1 ∷ entry 0 0 0 1 0 ∷ none 6) 0) (pushes 1)
    ++ all_give 6 (pool (0 ∷ 0 ∷ []) (0 ∷ 0 ∷ []) (0 ∷ 5 ∷ []) 2 (entry 1 1 0 1 1 ∷ entry 0 0 0 1 0 ∷ none 6) 0) (pushes 0)
    ++ all_give 6 (pool (0 ∷ 0 ∷ []) (0 ∷ 0 ∷ []) (0 ∷ 5 ∷ []) 2 (entry 1 1 1 1 1 ∷ none 7) 0) (pushes 0 ++ pushes 1)
    -- P4: "One slot is free and list 1 lacks one"
    ++ all_give 7 trial_p3 (pushes 0)
    ++ all_give 0 trial_p3 (pushes 1)

abbrev joined_all : List (List Asked) → List Asked
joined_all [] = []
joined_all (cases ∷ more) = cases ++ joined_all more

-- the same on every list
abbrev pub every_push : List Asked
every_push = joined_all (map pushes_of (numbers_from 0 8))

-- 8: "`at` past the buffer's end, or fewer than length places from `at`": four values, and none
abbrev pub read_numbers : List Asked
read_numbers =
    all_give 0 trial_p3 (reads_at 0 5 0)
    ++ all_give 0 trial_p3 (reads_at 0 5 1)
    ++ all_give 8 trial_p3 (reads_at 0 5 2)
    ++ all_give 8 trial_p3 (reads_at 0 5 5)
    ++ all_give 8 trial_p3 (reads_at 0 5 6)
    ++ all_give 0 trial_p3 (reads_at 0 4 0)
    ++ all_give 8 trial_p3 (reads_at 0 4 1)
    ++ all_give 8 trial_p3 (reads_at 0 3 0)
    ++ all_give 8 trial_p3 (reads_at 0 0 0)
    ++ all_give 0 trial_p3 (reads_at 0 300 296)
    ++ all_give 8 trial_p3 (reads_at 0 300 297)
    -- "Reading an empty list at the buffer's length: 0 written, answer 0. One place further: 8"
    ++ all_give 0 trial_p3 (reads_at 1 5 4)
    ++ all_give 0 trial_p3 (reads_at 1 5 5)
    ++ all_give 8 trial_p3 (reads_at 1 5 6)
    ++ all_give 0 trial_p3 (reads_at 1 0 0)
    ++ all_give 8 trial_p3 (reads_at 1 0 1)
    -- a place so far on that the place of the last value would be a small number again
    ++ all_give 8 trial_p3 (reads_at 0 5 all_bits)
    ++ all_give 8 trial_p3 (reads_at 1 5 all_bits)
    ++ joined_all (map (λ b. all_give 8 trial_p3 (reads_at 1 5 (5 + b)) ++ all_give 8 trial_p3 (reads_at 0 5 (1 + b))) edge_bits)

-- does each call give its number and place?
abbrev pub numbers_pass : List Asked → Bool
numbers_pass [] = true
numbers_pass (a ∷ more) = same_refusal (refusal_of (number_of trial a.state a.move) (place_given trial a.state a.move)) a.answer && numbers_pass more
