-- What calls leave, over the engine `trial`: every cell and word after a setup, a push, a pop and a clear, the value that a pop hands out, the length, and the buffer of a read. A value of all bits and of one is tried; a value of a free slot is written as 0, and not as the wipe word.
use Rattle.std.specs.Prelude.{Bool, true, ◌&&◌, List, [], ◌∷◌, ◌++◌, map, ℕ, ◌+◌, eqb, set, replicate}
use Rattle.books.specs.declared.Entry.{Entry}
use Rattle.books.specs.Tried.{entry, none, word_bits, edge_bits, all_bits, numbers_from, same_numbers}
use Rattle.shapes.specs.declared.End.{End}
use Rattle.shapes.specs.declared.End.TheVariants.{Front, Back}
use Rattle.shapes.specs.Moves.{Move, check, ask_length, push_back, push_front, pop_back, pop_front, read_forward, read_backward, clear}
use Rattle.engines.specs.Calls.{setup_call, length_call, push_call, pop_call, clear_call, read_call}
use Rattle.engines.specs.Moves.{State, left, number_of, after}
use Rattle.engines.specs.Trial.{TwoWay, trial, two_way, counted_pool, pool, same_state}
use Rattle.engines.specs.Turns.{trial_p3}

-- ---- calls on a pool

-- a pool, a call, the number and the value that it must give, and what it must leave
pub record CallCase : Type 0 where
  pub state : State trial
  pub move : Move
  pub number : ℕ
  pub value : ℕ
  pub leaves : State trial

abbrev turn : State trial → Move → ℕ → ℕ → State trial → CallCase
turn state move number value leaves = record { state = state; move = move; number = number; value = value; leaves = leaves }

-- N = 3 and one list with share 0 and limit 2: slot 1 is free or holds a value, and slot 2 is free behind it
abbrev none_held : State trial
none_held = pool (0 ∷ 2 ∷ 0 ∷ []) (0 ∷ 0 ∷ 0 ∷ []) (0 ∷ 0 ∷ 0 ∷ []) 1 (entry 0 0 0 2 0 ∷ none 7) 1

abbrev one_held : ℕ → State trial
one_held value = pool (0 ∷ 0 ∷ 0 ∷ []) (0 ∷ 0 ∷ 0 ∷ []) (0 ∷ value ∷ 0 ∷ []) 1 (entry 1 1 0 2 1 ∷ none 7) 2

-- the whole value goes in, and comes out; then the slot holds 0
abbrev through_both : ℕ → List CallCase
through_both value =
    turn none_held (push_back 0 value) 0 0 (one_held value)
    ∷ turn none_held (push_front 0 value) 0 0 (one_held value)
    ∷ turn (one_held value) (pop_back 0) 0 value none_held
    ∷ turn (one_held value) (pop_front 0) 0 value none_held
    ∷ turn (one_held value) (clear 0) 0 0 none_held
    ∷ []

-- P3's lists, with other ends and lengths of list 0 and of list 1
abbrev ends : ℕ → ℕ → ℕ → ℕ → ℕ → ℕ → List Entry
ends head tail many head' tail' many' = entry head tail 2 5 many ∷ entry head' tail' 1 3 many' ∷ none 6

abbrev six : ℕ → ℕ → ℕ → ℕ → ℕ → ℕ → List ℕ
six a b c d e f = a ∷ b ∷ c ∷ d ∷ e ∷ f ∷ []

-- P3 and one value in list 1, all values with all bits
abbrev full : State trial
full = pool (six 0 2 4 1 0 0) (six 0 3 1 0 2 0) (six 0 all_bits all_bits all_bits all_bits all_bits) 2 (ends 3 4 4 5 5 1) 0

-- list 0 has slots 3, 1 and 2, and list 1 has slots 5 and 4
abbrev other_held : State trial
other_held = pool (six 0 2 0 1 0 4) (six 0 3 1 0 5 0) (six 0 20 30 10 70 60) 2 (ends 3 2 3 5 4 2) 0

-- N = 5 and eight lists: list 3 has slot 1, list 7 has slots 2 and 3, and slot 4 is free
abbrev eight_entries : Entry → Entry → List Entry
eight_entries third seventh = none 3 ++ third ∷ none 3 ++ seventh ∷ []

abbrev five : ℕ → ℕ → ℕ → ℕ → ℕ → List ℕ
five a b c d e = a ∷ b ∷ c ∷ d ∷ e ∷ []

abbrev last_held : State trial
last_held = pool (five 0 0 3 0 0) (five 0 0 0 2 0) (five 0 10 20 30 0) 8 (eight_entries (entry 1 1 0 2 1) (entry 2 3 0 3 2)) 4

abbrev joined_all : List (List CallCase) → List CallCase
joined_all [] = []
joined_all (ts ∷ more) = ts ++ joined_all more

-- P3 with a value in slot 0, which is not sound; with a value cell too few; and a list at its limit
abbrev damaged : State trial
damaged = pool (six 0 2 4 1 0 0) (six 0 3 1 0 2 0) (six 1 20 30 10 40 0) 2 (ends 3 4 4 0 0 0) 5

abbrev uneven : State trial
uneven = pool (six 0 2 4 1 0 0) (six 0 3 1 0 2 0) (0 ∷ 20 ∷ 30 ∷ 10 ∷ 40 ∷ []) 2 (ends 3 4 4 0 0 0) 5

-- with a stored length, or a free count, that is wrong
abbrev miscounted : State trial
miscounted = counted_pool (six 0 2 4 1 0 0) (six 0 3 1 0 2 0) (six 0 20 30 10 40 0) 2 (ends 3 4 4 0 0 65535) 5 1

abbrev free_miscounted : State trial
free_miscounted = counted_pool (six 0 2 4 1 0 0) (six 0 3 1 0 2 0) (six 0 20 30 10 40 0) 2 (ends 3 4 4 0 0 0) 5 65535

abbrev at_limit : State trial
at_limit = pool (0 ∷ 0 ∷ []) (0 ∷ 0 ∷ []) (0 ∷ 5 ∷ []) 1 (entry 1 1 0 1 1 ∷ none 7) 0

-- whatever is asked of it, it is refused by the number, hands out 0 and stays
abbrev stays_by : ℕ → State trial → ℕ → List CallCase
stays_by number st l = map (λ move. turn st move number 0 st) (check ∷ push_back l 9 ∷ push_front l 9 ∷ pop_back l ∷ pop_front l ∷ clear l ∷ [])

abbrev pub turns : List CallCase
turns =
    joined_all (map through_both (0 ∷ all_bits ∷ edge_bits))
    -- 01: "The slot's value becomes 0 and the slot becomes the free head, its link the old free head", at either end
    ++ turn trial_p3 (pop_front 0) 0 10 (pool (six 0 2 4 5 0 0) (six 0 0 1 0 2 0) (six 0 20 30 0 40 0) 2 (ends 1 4 3 0 0 0) 3)
    ∷ turn trial_p3 (pop_back 0) 0 40 (pool (six 0 2 0 1 5 0) (six 0 3 1 0 0 0) (six 0 20 30 10 0 0) 2 (ends 3 2 3 0 0 0) 4)
    ∷ turn full (pop_front 1) 0 all_bits (pool (six 0 2 4 1 0 0) (six 0 3 1 0 2 0) (six 0 all_bits all_bits all_bits all_bits 0) 2 (ends 3 4 4 0 0 0) 5)
    -- "Clear: equals popping the front until the list is empty": the slots are free, the last one first, and each holds 0; the other list has its own
    ∷ turn full (clear 0) 0 0 (pool (six 0 3 1 0 2 0) (six 0 0 0 0 0 0) (six 0 0 0 0 0 all_bits) 2 (ends 0 0 0 5 5 1) 4)
    ∷ turn full (clear 1) 0 0 (pool (six 0 2 4 1 0 0) (six 0 3 1 0 2 0) (six 0 all_bits all_bits all_bits all_bits 0) 2 (ends 3 4 4 0 0 0) 5)
    ∷ turn trial_p3 (clear 1) 0 0 trial_p3
    ∷ turn other_held (clear 1) 0 0 (pool (six 0 2 0 1 5 0) (six 0 3 1 0 0 0) (six 0 20 30 10 0 0) 2 (ends 3 2 3 0 0 0) 4)
    ∷ turn other_held (pop_back 1) 0 70 (pool (six 0 2 0 1 0 0) (six 0 3 1 0 0 0) (six 0 20 30 10 0 60) 2 (ends 3 2 3 5 5 1) 4)
    -- the last of eight lists
    ∷ turn last_held (push_back 7 40) 0 0 (pool (five 0 0 3 4 0) (five 0 0 0 2 3) (five 0 10 20 30 40) 8 (eight_entries (entry 1 1 0 2 1) (entry 2 4 0 3 3)) 0)
    ∷ turn last_held (push_front 7 40) 0 0 (pool (five 0 0 3 0 2) (five 0 0 4 2 0) (five 0 10 20 30 40) 8 (eight_entries (entry 1 1 0 2 1) (entry 4 3 0 3 3)) 0)
    ∷ turn last_held (pop_back 7) 0 30 (pool (five 0 0 0 4 0) (five 0 0 0 0 0) (five 0 10 20 0 0) 8 (eight_entries (entry 1 1 0 2 1) (entry 2 2 0 3 1)) 3)
    ∷ turn last_held (pop_front 7) 0 20 (pool (five 0 0 4 0 0) (five 0 0 0 0 0) (five 0 10 0 30 0) 8 (eight_entries (entry 1 1 0 2 1) (entry 3 3 0 3 1)) 2)
    ∷ turn last_held (clear 7) 0 0 (pool (five 0 0 4 2 0) (five 0 0 0 0 0) (five 0 10 0 0 0) 8 (eight_entries (entry 1 1 0 2 1) (entry 0 0 0 3 0)) 3)
    ∷ turn last_held (pop_back 3) 0 10 (pool (five 0 4 3 0 0) (five 0 0 0 2 0) (five 0 0 20 30 0) 8 (eight_entries (entry 0 0 0 2 0) (entry 2 3 0 3 2)) 1)
    -- "take the slot at the free head"; the other list keeps what it has
    ∷ turn trial_p3 (push_back 1 all_bits) 0 0 (pool (six 0 2 4 1 0 0) (six 0 3 1 0 2 0) (six 0 20 30 10 40 all_bits) 2 (ends 3 4 4 5 5 1) 0)
    ∷ turn trial_p3 (push_front 1 60) 0 0 (pool (six 0 2 4 1 0 0) (six 0 3 1 0 2 0) (six 0 20 30 10 40 60) 2 (ends 3 4 4 5 5 1) 0)
    -- at a list that has slots: behind the tail, and before the head
    ∷ turn (one_held 8) (push_back 0 9) 0 0 (pool (0 ∷ 2 ∷ 0 ∷ []) (0 ∷ 0 ∷ 1 ∷ []) (0 ∷ 8 ∷ 9 ∷ []) 1 (entry 1 2 0 2 2 ∷ none 7) 0)
    ∷ turn (one_held 8) (push_front 0 9) 0 0 (pool (0 ∷ 0 ∷ 1 ∷ []) (0 ∷ 2 ∷ 0 ∷ []) (0 ∷ 8 ∷ 9 ∷ []) 1 (entry 2 1 0 2 2 ∷ none 7) 0)
    -- "A refused pop returns value 0"; "the book comes back as it went in. No lent slice changes"
    ∷ turn trial_p3 (push_back 0 50) 7 0 trial_p3
    ∷ turn trial_p3 (push_front 0 50) 7 0 trial_p3
    ∷ turn trial_p3 (pop_back 1) 5 0 trial_p3
    ∷ turn trial_p3 (pop_front 1) 5 0 trial_p3
    ∷ turn trial_p3 (pop_back 2) 4 0 trial_p3
    ∷ turn trial_p3 (clear 2) 4 0 trial_p3
    ∷ turn full (push_back 1 9) 7 0 full
    ∷ turn at_limit (push_back 0 9) 6 0 at_limit
    ∷ turn at_limit (push_front 0 9) 6 0 at_limit
    ∷ joined_all (map (λ l. stays_by 10 damaged l ++ stays_by 1 uneven l ++ stays_by 16 miscounted l ++ stays_by 16 free_miscounted l) (0 ∷ 1 ∷ 9 ∷ []))

-- the value that a call hands out
abbrev value_of : State trial → Move → ℕ
value_of st check = 0
value_of st (ask_length l) = 0
value_of st (push_back l value) = (push_call trial st.links st.values st.book l Back value).value
value_of st (push_front l value) = (push_call trial st.links st.values st.book l Front value).value
value_of st (pop_back l) = (pop_call trial st.links st.values st.book l Back).value
value_of st (pop_front l) = (pop_call trial st.links st.values st.book l Front).value
value_of st (read_forward l buffer at) = 0
value_of st (read_backward l buffer at) = 0
value_of st (clear l) = (clear_call trial st.links st.values st.book l).value

abbrev pub calls_pass : List CallCase → Bool
calls_pass [] = true
calls_pass (t ∷ ts) =
    eqb (number_of trial t.state t.move) t.number
    && (eqb (value_of t.state t.move) t.value && (same_state (after trial t.state t.move) t.leaves && calls_pass ts))

-- ---- reads and lengths

-- a read of list l of a pool: the buffer, the place, the number and the count that it must give, and the buffer then
pub record ReadTurn : Type 0 where
  pub state : State trial
  pub end : End
  pub list : ℕ
  pub buffer : List ℕ
  pub at : ℕ
  pub number : ℕ
  pub count : ℕ
  pub leaves : List ℕ

abbrev read_turn : State trial → End → ℕ → List ℕ → ℕ → ℕ → ℕ → List ℕ → ReadTurn
read_turn state end list buffer at number count leaves =
    record { state = state; end = end; list = list; buffer = buffer; at = at; number = number; count = count; leaves = leaves }

abbrev pub reads_tried : List ReadTurn
reads_tried =
    -- "from place `at` on"; "Every other place keeps what it held"
    read_turn trial_p3 Front 0 (six 1 2 3 4 5 6) 1 0 4 (six 1 10 20 30 40 6)
    ∷ read_turn trial_p3 Back 0 (six 1 2 3 4 5 6) 1 0 4 (six 1 40 30 20 10 6)
    ∷ read_turn trial_p3 Front 0 (six 1 2 3 4 5 6) 2 0 4 (six 1 2 10 20 30 40)
    ∷ read_turn trial_p3 Back 0 (six 1 2 3 4 5 6) 0 0 4 (six 40 30 20 10 5 6)
    ∷ read_turn full Front 0 (six 1 2 3 4 5 6) 1 0 4 (six 1 all_bits all_bits all_bits all_bits 6)
    -- another list than the first
    ∷ read_turn other_held Front 1 (six 1 2 3 4 5 6) 4 0 2 (six 1 2 3 4 60 70)
    ∷ read_turn other_held Back 1 (six 1 2 3 4 5 6) 4 0 2 (six 1 2 3 4 70 60)
    ∷ read_turn other_held Back 0 (six 1 2 3 4 5 6) 3 0 3 (six 1 2 3 30 20 10)
    ∷ read_turn last_held Front 7 (six 1 2 3 4 5 6) 0 0 2 (six 20 30 3 4 5 6)
    ∷ read_turn last_held Back 7 (six 1 2 3 4 5 6) 0 0 2 (six 30 20 3 4 5 6)
    ∷ read_turn last_held Front 3 (six 1 2 3 4 5 6) 5 0 1 (six 1 2 3 4 5 10)
    ∷ read_turn last_held Back 3 (six 1 2 3 4 5 6) 5 0 1 (six 1 2 3 4 5 10)
    -- too few places; none written, at the buffer's length, and one place further
    ∷ read_turn trial_p3 Front 0 (six 1 2 3 4 5 6) 3 8 0 (six 1 2 3 4 5 6)
    ∷ read_turn trial_p3 Back 0 (six 1 2 3 4 5 6) 3 8 0 (six 1 2 3 4 5 6)
    ∷ read_turn trial_p3 Front 1 (six 1 2 3 4 5 6) 6 0 0 (six 1 2 3 4 5 6)
    ∷ read_turn trial_p3 Back 1 (six 1 2 3 4 5 6) 6 0 0 (six 1 2 3 4 5 6)
    ∷ read_turn trial_p3 Front 1 (six 1 2 3 4 5 6) 7 8 0 (six 1 2 3 4 5 6)
    ∷ read_turn trial_p3 Back 1 (six 1 2 3 4 5 6) 7 8 0 (six 1 2 3 4 5 6)
    ∷ read_turn trial_p3 Front 2 (six 1 2 3 4 5 6) 0 4 0 (six 1 2 3 4 5 6)
    -- no pool, and one that is not sound
    ∷ read_turn uneven Front 0 (six 1 2 3 4 5 6) 0 1 0 (six 1 2 3 4 5 6)
    ∷ read_turn uneven Back 0 (six 1 2 3 4 5 6) 0 1 0 (six 1 2 3 4 5 6)
    ∷ read_turn damaged Front 0 (six 1 2 3 4 5 6) 0 10 0 (six 1 2 3 4 5 6)
    ∷ read_turn damaged Back 0 (six 1 2 3 4 5 6) 0 10 0 (six 1 2 3 4 5 6)
    ∷ map (λ b. read_turn (one_held b) Front 0 (7 ∷ []) 0 0 1 (b ∷ [])) edge_bits

abbrev pub reads_pass : List ReadTurn → Bool
reads_pass [] = true
reads_pass (t ∷ ts) =
    let r = read_call trial t.state.links t.state.values t.state.book t.list t.end t.buffer t.at in
    eqb r.answer.refusal.number t.number && (eqb r.answer.count t.count && (same_numbers r.buffer t.leaves && reads_pass ts))

-- the length of each list, and 0 of one that there is not
abbrev pub lengths : List ℕ
lengths = map (λ l. (length_call trial full.links full.values full.book l).length) (0 ∷ 1 ∷ 2 ∷ 9 ∷ [])

-- and 0 where it is refused by 1 or by 10
abbrev pub refused_lengths : List ℕ
refused_lengths = map (λ l. (length_call trial uneven.links uneven.values uneven.book l).length) (0 ∷ 1 ∷ 9 ∷ []) ++ map (λ l. (length_call trial damaged.links damaged.values damaged.book l).length) (0 ∷ 1 ∷ 9 ∷ [])

-- and of each of eight lists
abbrev pub eight_lengths : List ℕ
eight_lengths = map (λ l. (length_call trial last_held.links last_held.values last_held.book l).length) (numbers_from 0 9)

-- ---- setup, in a book of eight

-- the cells, L, the shares and limits, the number, and what must be left
pub record Setup : Type 0 where
  pub links : TwoWay
  pub values : List ℕ
  pub lists : ℕ
  pub shares : List ℕ
  pub limits : List ℕ
  pub number : ℕ
  pub leaves : State trial

-- six cells each that hold other things
abbrev other : TwoWay
other = two_way (replicate 6 65535) (replicate 6 4096)

-- a refused setup: the all-zero book, and the cells as they were
abbrev not_set_up : ℕ → List ℕ → List ℕ → ℕ → Setup
not_set_up lists shares limits number =
    record {
      links = other;
      values = replicate 6 all_bits;
      lists = lists;
      shares = shares;
      limits = limits;
      number = number;
      leaves = counted_pool other.next other.previous (replicate 6 all_bits) 0 (none 8) 0 0;
    }

-- refused by 1: so many values for six links
abbrev no_pool : ℕ → Setup
no_pool values =
    record {
      links = other;
      values = replicate values all_bits;
      lists = 1;
      shares = replicate 8 0;
      limits = replicate 8 0;
      number = 1;
      leaves = counted_pool other.next other.previous (replicate values all_bits) 0 (none 8) 0 0;
    }

-- a done one. 01: "links 1 to 2, 2 to 3, and so on, the last 0; all values 0; free head 1; lists empty. It ignores and overwrites what was there"
abbrev set_up_to : ℕ → List ℕ → List ℕ → List Entry → Setup
set_up_to lists shares limits entries =
    record { links = other; values = replicate 6 all_bits; lists = lists; shares = shares; limits = limits; number = 0; leaves = pool (six 0 2 3 4 5 0) (replicate 6 0) (replicate 6 0) lists entries 1 }

abbrev eight : ℕ → ℕ → List ℕ
eight a b = a ∷ b ∷ replicate 6 0

-- a share, and a limit, of list l alone
abbrev only : ℕ → ℕ → List ℕ
only l x = set (replicate 8 0) l x

abbrev joined_setups : List (List Setup) → List Setup
joined_setups [] = []
joined_setups (ts ∷ more) = ts ++ joined_setups more

-- 2: "setup's L, shares or limits break the book rules above"
abbrev pub setups : List Setup
setups =
    -- "L is 1 to 8"
    not_set_up 0 (replicate 8 0) (replicate 8 0) 2
    ∷ set_up_to 1 (replicate 8 0) (replicate 8 0) (none 8)
    ∷ set_up_to 8 (replicate 8 0) (replicate 8 0) (none 8)
    ∷ not_set_up 9 (replicate 8 0) (replicate 8 0) 2
    -- 1: a value cell too few, and one too many
    ∷ no_pool 5
    ∷ no_pool 7
    -- "share ≤ limit ≤ N-1 for each list"
    ∷ set_up_to 2 (eight 2 1) (eight 5 3) (entry 0 0 2 5 0 ∷ entry 0 0 1 3 0 ∷ none 6)
    ∷ set_up_to 2 (eight 2 1) (eight 2 1) (entry 0 0 2 2 0 ∷ entry 0 0 1 1 0 ∷ none 6)
    ∷ not_set_up 2 (eight 2 1) (eight 1 3) 2
    ∷ not_set_up 2 (eight 2 1) (eight 5 0) 2
    ∷ not_set_up 2 (eight 2 1) (eight 6 3) 2
    ∷ not_set_up 2 (eight 2 1) (eight 5 6) 2
    -- "the shares add up to at most N-1". "Setup with limits 5 and 3: shares 2 and 3 give 0, shares 3 and 3 give 2"
    ∷ set_up_to 2 (eight 2 3) (eight 5 3) (entry 0 0 2 5 0 ∷ entry 0 0 3 3 0 ∷ none 6)
    ∷ not_set_up 2 (eight 3 3) (eight 5 3) 2
    ∷ set_up_to 1 (eight 5 0) (eight 5 0) (entry 0 0 5 5 0 ∷ none 7)
    ∷ set_up_to 5 (replicate 5 1 ++ replicate 3 0) (replicate 5 1 ++ replicate 3 0) (replicate 5 (entry 0 0 1 1 0) ++ none 3)
    ∷ not_set_up 6 (replicate 6 1 ++ replicate 2 0) (replicate 6 1 ++ replicate 2 0) 2
    -- "entries from L on are all 0": a share or a limit at L, and past it
    ∷ not_set_up 1 (eight 2 1) (eight 5 3) 2
    ∷ not_set_up 1 (eight 2 1) (eight 5 0) 2
    ∷ not_set_up 1 (eight 2 0) (eight 5 3) 2
    ∷ joined_setups (map (λ l. not_set_up l (only l 1) (replicate 8 0) 2 ∷ not_set_up l (replicate 8 0) (only l 1) 2 ∷ not_set_up 1 (only l 1) (only l 1) 2 ∷ []) (numbers_from 1 7))
    -- list l alone has a share and a limit, up to N-1
    ++ joined_setups (map (λ l. set_up_to 8 (only l 5) (only l 5) (set (none 8) l (entry 0 0 5 5 0)) ∷ not_set_up 8 (only l 6) (only l 6) 2 ∷ not_set_up 8 (only l 2) (only l 1) 2 ∷ []) (numbers_from 0 8))
    -- bit by bit: L, a limit, a share past L and a limit past L
    ++ map (λ b. not_set_up (8 + b) (replicate 8 0) (replicate 8 0) 2) word_bits
    ++ map (λ b. not_set_up 8 (replicate 8 0) (only 7 (5 + b)) 2) word_bits
    ++ map (λ b. not_set_up 7 (only 7 b) (replicate 8 0) 2) word_bits
    ++ map (λ b. not_set_up 7 (replicate 8 0) (only 7 b) 2) word_bits

abbrev pub setups_pass : List Setup → Bool
setups_pass [] = true
setups_pass (t ∷ ts) =
    let r = setup_call trial 8 t.links t.values t.lists t.shares t.limits in
    eqb r.number t.number && (eqb r.value 0 && (same_state (left r) t.leaves && setups_pass ts))

-- setup of one list, share and limit 1, over so many links, previous links and values: its number
abbrev pub size_gives : ℕ → ℕ → ℕ → ℕ
size_gives next previous values = (setup_call trial 8 (two_way (replicate next 9) (replicate previous 9)) (replicate values 9) 1 (eight 1 0) (eight 1 0)).number
