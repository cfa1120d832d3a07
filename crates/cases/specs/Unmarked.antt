-- 01's pools that it does not mark, and its edges: setup's numbers, reads at the buffer's end, a limit of 0, and blocks of all bits through every call that frees a slot. On the XOR list, as cases with what must come back.
use Rattle.std.specs.Prelude.{Bool, true, ◌&&◌, List, [], ◌∷◌, ◌++◌, map, ℕ, eqb, set, replicate}
use Rattle.books.specs.Book.{zero_book}
use Rattle.books.specs.Tried.{word_bits, value_bits, all_bits, numbers_from, same_numbers}
use Rattle.shapes.specs.declared.End.{End}
use Rattle.shapes.specs.declared.End.TheVariants.{Front, Back}
use Rattle.shapes.specs.Moves.{ask_length, push_back, push_front, pop_back, pop_front, read_forward, read_backward, clear}
use Rattle.shapes.specs.Tests.{ReadLeft}
use Rattle.xor.specs.Ten.{setup_of, read_forward_of, read_backward_of}
use Rattle.xor.specs.Moves.{Pool, pool_left}
use Rattle.xor.specs.QuickTried.{same_pool}
use Rattle.books.specs.Place.{numbered}
use Rattle.cases.specs.Cases.{Case, with, by_setup, one_list, p1, p3}

-- ---- setup

-- N links and N values that held other things, L, the shares and the limits; and the number
pub record Start : Type 0 where
  pub size : ℕ
  pub lists : ℕ
  pub shares : List ℕ
  pub limits : List ℕ
  pub number : ℕ

abbrev start : ℕ → ℕ → List ℕ → List ℕ → ℕ → Start
start size lists shares limits number = record { size = size; lists = lists; shares = shares; limits = limits; number = number }

abbrev pair : ℕ → ℕ → List ℕ
pair a b = a ∷ b ∷ replicate 6 0

-- list l alone has this share, or limit
abbrev only : ℕ → ℕ → List ℕ
only l x = set (replicate 8 0) l x

abbrev pub starts : List Start
starts =
    -- "Setup with one list, share and limit 1: N = 1 gives 1, N = 2 gives 0, N = 4,096 gives 0, N = 4,097 gives 1"
    start 0 1 (pair 1 0) (pair 1 0) 1
    ∷ start 1 1 (pair 1 0) (pair 1 0) 1
    ∷ start 2 1 (pair 1 0) (pair 1 0) 0
    ∷ start 4096 1 (pair 1 0) (pair 1 0) 0
    ∷ start 4097 1 (pair 1 0) (pair 1 0) 1
    -- 1 goes before 2
    ∷ start 1 0 (pair 9 9) (pair 1 0) 1
    -- the largest share and limit, and one more
    ∷ start 4096 1 (pair 4095 0) (pair 4095 0) 0
    ∷ start 4096 1 (pair 4095 0) (pair 4096 0) 2
    ∷ start 4096 2 (pair 4095 1) (pair 4095 1) 2
    -- "Setup with limits 5 and 3: shares 2 and 3 give 0, shares 3 and 3 give 2"
    ∷ start 6 2 (pair 2 3) (pair 5 3) 0
    ∷ start 6 2 (pair 3 3) (pair 5 3) 2
    -- L; a share over its limit; a limit of N; a share or a limit at L or past it
    ∷ start 6 0 (pair 0 0) (pair 0 0) 2
    ∷ start 6 8 (pair 0 0) (pair 0 0) 0
    ∷ start 6 9 (pair 0 0) (pair 0 0) 2
    ∷ start 6 2 (pair 2 4) (pair 5 3) 2
    ∷ start 6 2 (pair 2 1) (pair 6 3) 2
    ∷ start 6 1 (pair 2 1) (pair 5 3) 2
    ∷ start 6 1 (pair 2 0) (pair 5 3) 2
    ∷ start 6 1 (pair 2 1) (pair 5 0) 2
    ∷ map (λ l. start 6 l (only l 1) (replicate 8 0) 2) (numbers_from 1 7)
    ++ map (λ l. start 6 l (replicate 8 0) (only l 1) 2) (numbers_from 1 7)
    ++ map (λ b. start 6 7 (replicate 8 0) (only 7 b) 2) word_bits

abbrev pub starts_pass : List Start → Bool
starts_pass [] = true
starts_pass (s ∷ more) =
    eqb (setup_of (replicate s.size 9) (replicate s.size all_bits) s.lists s.shares s.limits).answer.refusal.number s.number && starts_pass more

-- ---- reads

-- P3's lists read into a buffer of six, from a place on: the number, the count and the buffer then
pub record Reading : Type 0 where
  pub end : End
  pub list : ℕ
  pub at : ℕ
  pub number : ℕ
  pub count : ℕ
  pub leaves : List ℕ

abbrev reading : End → ℕ → ℕ → ℕ → ℕ → List ℕ → Reading
reading end list at number count leaves = record { end = end; list = list; at = at; number = number; count = count; leaves = leaves }

abbrev six : ℕ → ℕ → ℕ → ℕ → ℕ → ℕ → List ℕ
six a b c d e f = a ∷ b ∷ c ∷ d ∷ e ∷ f ∷ []

abbrev pub readings : List Reading
readings =
    -- "Reading an empty list at the buffer's length: 0 written, answer 0. One place further: 8"
    reading Front 1 6 0 0 (six 1 2 3 4 5 6)
    ∷ reading Back 1 6 0 0 (six 1 2 3 4 5 6)
    ∷ reading Front 1 7 8 0 (six 1 2 3 4 5 6)
    ∷ reading Back 1 7 8 0 (six 1 2 3 4 5 6)
    -- four values: just as many places, and one fewer
    ∷ reading Front 0 2 0 4 (six 1 2 10 20 30 40)
    ∷ reading Back 0 2 0 4 (six 1 2 40 30 20 10)
    ∷ reading Front 0 1 0 4 (six 1 10 20 30 40 6)
    ∷ reading Back 0 0 0 4 (six 40 30 20 10 5 6)
    ∷ reading Front 0 3 8 0 (six 1 2 3 4 5 6)
    ∷ reading Back 0 3 8 0 (six 1 2 3 4 5 6)
    ∷ reading Front 0 all_bits 8 0 (six 1 2 3 4 5 6)
    ∷ []

abbrev read_on : End → ℕ → ℕ → ReadLeft
read_on Front list at = read_forward_of p3.links p3.values p3.book list (six 1 2 3 4 5 6) at
read_on Back list at = read_backward_of p3.links p3.values p3.book list (six 1 2 3 4 5 6) at

abbrev pub readings_pass : List Reading → Bool
readings_pass [] = true
readings_pass (r ∷ more) =
    let left = read_on r.end r.list r.at in
    eqb left.answer.refusal.number r.number && (eqb left.answer.count r.count && (same_numbers left.buffer r.leaves && readings_pass more))

-- ---- pushes, pops and clears

-- N = 6 and one list. "Limit 0": every slot is free, and none may be taken
abbrev limit_none : Pool
limit_none = record { links = six 0 2 3 4 5 0; values = replicate 6 0; book = one_list 0 0 0 0 1 5 }

-- list 0 has slots 1, 2 and 3, which hold a value each; and what is left after a pop at either end, and after a clear
abbrev held : ℕ → Pool
held v = record { links = six 0 2 2 2 5 0; values = six 0 v v v 0 0; book = one_list 5 1 3 3 4 2 }

abbrev without_first : ℕ → Pool
without_first v = record { links = six 0 4 3 2 5 0; values = six 0 0 v v 0 0; book = one_list 5 2 3 2 1 3 }

abbrev without_last : ℕ → Pool
without_last v = record { links = six 0 2 1 4 5 0; values = six 0 v v 0 0 0; book = one_list 5 1 2 2 3 3 }

abbrev cleared : Pool
cleared = record { links = six 0 4 1 2 5 0; values = six 0 0 0 0 0 0; book = one_list 5 0 0 0 3 5 }

-- 01: "The slot's value becomes 0", whatever bits it had
abbrev wipes : ℕ → List Case
wipes v =
    record { begin = with (held v); turns = record { move = pop_front 0; answer = numbered 0; value = v; left = without_first v } ∷ [] }
    ∷ record { begin = with (held v); turns = record { move = pop_back 0; answer = numbered 0; value = v; left = without_last v } ∷ [] }
    ∷ record { begin = with (held v); turns = record { move = clear 0; answer = numbered 0; value = 0; left = cleared } ∷ [] }
    ∷ []

abbrev joined_cases : List (List Case) → List Case
joined_cases [] = []
joined_cases (cs ∷ more) = cs ++ joined_cases more

-- 4: "list number not below L", whatever bits the number has: each of the eight calls on P3, which stays as it is
abbrev no_such : ℕ → Case
no_such l =
    record {
      begin = with p3;
      turns =
          map (λ m. record { move = m; answer = numbered 4; value = 0; left = p3 })
          (ask_length l ∷ push_back l 5 ∷ push_front l 5 ∷ pop_back l ∷ pop_front l ∷ read_forward l (six 1 2 3 4 5 6) 0 ∷ read_backward l (six 1 2 3 4 5 6) 0 ∷ clear l ∷ []);
    }

abbrev pub not_marked : List Case
not_marked =
    -- "Limit 0: every push gives 6"
    record { begin = with limit_none; turns = record { move = push_back 0 5; answer = numbered 6; value = 0; left = limit_none } ∷ record { move = push_front 0 5; answer = numbered 6; value = 0; left = limit_none } ∷ [] }
    -- setup wipes every slot: "It ignores and overwrites what was there"
    ∷ record { begin = by_setup (replicate 6 65535) (replicate 6 all_bits) 2 (pair 2 1) (pair 5 3) p1; turns = [] }
    ∷ map no_such (2 ∷ 3 ∷ 4 ∷ 8 ∷ 9 ∷ 16 ∷ 256 ∷ 257 ∷ 4096 ∷ 32768 ∷ 65535 ∷ [])
    ++ joined_cases (map wipes (all_bits ∷ value_bits))

-- a refused setup: the all-zero book, and the slices as they were
abbrev pub refused_start : Bool
refused_start =
    same_pool (pool_left (setup_of (replicate 6 9) (replicate 6 all_bits) 1 (pair 2 1) (pair 5 3))) (record { links = replicate 6 9; values = replicate 6 all_bits; book = zero_book })
