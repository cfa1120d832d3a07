-- Pools with more slots than a byte counts, over the engine `trial` of crate engines: sound, and with a fault in the last slot.
use Rattle.std.specs.Prelude.{Bool, ◌&&◌, List, [], ◌∷◌, ◌++◌, map, reverse, ℕ, eqb, set, replicate}
use Rattle.books.specs.Book.{AnyBook}
use Rattle.books.specs.Tried.{all_bits, numbers_from, same_numbers, entry, none}
use Rattle.shapes.specs.declared.End.{End}
use Rattle.shapes.specs.declared.End.TheVariants.{Front, Back}
use Rattle.shapes.specs.Moves.{pop_back, push_back, clear}
use Rattle.shapes.specs.Faults.{fault}
use Rattle.engines.specs.Calls.{setup_call, read_call}
use Rattle.engines.specs.Moves.{State, left, after}
use Rattle.engines.specs.Trial.{trial, two_way, same_state}
use Rattle.engines.specs.Places.{FaultCase}

-- 260 slots after a setup of one list whose share and limit are N - 1
abbrev many_slots : State trial
many_slots = left (setup_call trial 8 (two_way (replicate 260 9) (replicate 260 9)) (replicate 260 9) 1 (259 ∷ replicate 7 0) (259 ∷ replicate 7 0))

-- the book of that list: its head, tail and length, and the free head and count
abbrev one_book : ℕ → ℕ → ℕ → ℕ → ℕ → AnyBook
one_book head tail length free count = record { places = 8; lists = 1; entries = entry head tail 259 259 length ∷ none 7; free = record { head = free; count = count } }

-- the same slots as one list's, which is at its limit then
abbrev pub long_list : State trial
long_list =
    record {
      links = two_way many_slots.links.next (0 ∷ numbers_from 0 259);
      values = 0 ∷ replicate 259 all_bits;
      book = one_book 1 259 259 0 0;
    }

-- the values from 1 on in the slots from 1 on; and without the last one, whose slot is free
abbrev long_held : State trial
long_held = record { links = long_list.links; values = numbers_from 0 260; book = long_list.book }

abbrev last_gone : State trial
last_gone =
    record {
      links = two_way (set long_list.links.next 258 0) (set long_list.links.previous 259 0);
      values = set long_held.values 259 0;
      book = one_book 1 258 258 259 1;
    }

-- all are read, from either end, and cleared; the last is popped, and pushed again
abbrev read_whole : End → List ℕ → Bool
read_whole end vs =
    let r = read_call trial long_held.links long_held.values long_held.book 0 end (replicate 261 7) 1 in
    eqb r.answer.count 259 && same_numbers r.buffer (7 ∷ vs ++ 7 ∷ [])

abbrev pub long_passes : Bool
long_passes =
    read_whole Front (numbers_from 1 259)
    && (read_whole Back (reverse (numbers_from 1 259))
    && (same_state (after trial long_held (pop_back 0)) last_gone
    && (same_state (after trial last_gone (push_back 0 259)) long_held
    && same_state (after trial long_held (clear 0))
    (record {
      links = two_way (0 ∷ numbers_from 0 259) (replicate 260 0);
      values = replicate 260 0;
      book = one_book 0 0 0 259 259;
    }))))

-- with one bit in the last slot, which is free, they are not sound, nor where the last slot is nowhere
abbrev pub many_pools : List FaultCase
many_pools =
    record { first = fault 14 0 259; state = record { links = many_slots.links; values = set many_slots.values 259 9223372036854775808; book = many_slots.book } }
    ∷ record { first = fault 13 0 259; state = record { links = two_way (set many_slots.links.next 258 0) many_slots.links.previous; values = many_slots.values; book = many_slots.book } }
    -- nor where a count has their low byte, or another bit, alone
    ∷ map (λ count. record { first = fault 16 1 0; state = record { links = many_slots.links; values = many_slots.values; book = one_book 0 0 0 1 count } }) (3 ∷ 258 ∷ 260 ∷ 515 ∷ [])
    ++ map (λ length. record { first = fault 16 0 0; state = record { links = long_list.links; values = long_list.values; book = one_book 1 259 length 0 0 } }) (3 ∷ 258 ∷ 260 ∷ 515 ∷ [])
