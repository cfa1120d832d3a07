-- Every number of every row is given by some call: for each, a pool and arguments that it is given on. And the traces on which 6 and 7 are reached.
use Rattle.std.specs.Prelude.{Bool, true, false, not, ◌&&◌, ◌||◌, List, [], ◌∷◌, ◌++◌, map, ℕ, zero, suc, eqb, replicate, take}
use Rattle.books.specs.Table.{may_give}
use Rattle.xor.specs.Ten.{setup_of}
use Rattle.engines.specs.Rows.{row_of, quick_row_of}
use Rattle.xor.specs.Moves.{Pool, number_given, quick_given, PoolTrace}
use Rattle.shapes.specs.Moves.{Move, check, ask_length, push_back, push_front, pop_back, pop_front, read_forward, read_backward, clear, QuickMove, quick_push_back, quick_push_front, quick_pop_back, quick_pop_front}
use Rattle.shapes.specs.Ledger.{Ledger}
use Rattle.cases.specs.Cases.{two_lists, one_list, p1, p3, p9}

-- a call by its row, and a number that it gives
pub record Gives : Type 0 where
  pub call : ℕ
  pub number : ℕ

abbrev gives : ℕ → ℕ → Gives
gives call number = record { call = call; number = number }

-- pool P3 with a value cell missing
abbrev uneven : Pool
uneven = record { links = p3.links; values = take 5 p3.values; book = p3.book }

-- the pool of P1 after three pushes on list 1, which is at its limit then
abbrev full : Pool
full = record { links = 0 ∷ 2 ∷ 2 ∷ 2 ∷ 5 ∷ 0 ∷ []; values = 0 ∷ 11 ∷ 12 ∷ 13 ∷ 0 ∷ 0 ∷ []; book = two_lists 0 0 0 1 3 3 4 2 }

abbrev given : Pool → Move → Gives
given st m = gives (row_of m) (number_given st m)

abbrev quickly : Pool → QuickMove → Gives
quickly st q = gives (quick_row_of q) (quick_given st q)

-- setup of N cells each for L lists, with the shares and limits of 01's pools
abbrev set_up_with : ℕ → ℕ → ℕ → Gives
set_up_with n m lists = gives 0 (setup_of (replicate n 0) (replicate m 0) lists (2 ∷ 1 ∷ replicate 6 0) (5 ∷ 3 ∷ replicate 6 0)).answer.refusal.number

-- a pool for each of 9 to 16: of two slots, but for P9
abbrev broken_pools : List Pool
broken_pools =
    record { links = 0 ∷ 0 ∷ []; values = 0 ∷ 0 ∷ []; book = one_list 2 0 0 0 1 1 }
    ∷ record { links = 1 ∷ 0 ∷ []; values = 0 ∷ 0 ∷ []; book = one_list 1 0 0 0 1 1 }
    ∷ p9 1 0
    ∷ record { links = 0 ∷ 1 ∷ []; values = 0 ∷ 0 ∷ []; book = one_list 1 0 0 0 1 1 }
    ∷ record { links = 0 ∷ 0 ∷ []; values = 0 ∷ 0 ∷ []; book = one_list 1 0 0 0 0 1 }
    ∷ record { links = 0 ∷ 0 ∷ []; values = 0 ∷ 1 ∷ []; book = one_list 1 0 0 0 1 1 }
    ∷ record { links = 0 ∷ 0 ∷ []; values = 0 ∷ 5 ∷ []; book = one_list 0 1 1 1 0 0 }
    ∷ record { links = 0 ∷ 0 ∷ []; values = 0 ∷ 0 ∷ []; book = one_list 1 0 0 0 1 0 }
    ∷ []

-- 1, 9 to 16 and 4 of a call on list l: on a pool with a cell missing, on these, and on P3's with a list that there is not
abbrev refusals : (ℕ → Move) → List Gives
refusals call = given uneven (call 0) ∷ given p3 (call 2) ∷ map (λ st. given st (call 0)) broken_pools

-- P3 with L = 9, a free head past the pool, a tail past it, and a free count of N
abbrev strange : List Pool
strange =
    record { links = p3.links; values = p3.values; book = record { lists = 9; entries = p3.book.entries; free = p3.book.free } }
    ∷ record { links = p3.links; values = p3.values; book = two_lists 3 4 4 0 0 0 6 2 }
    ∷ record { links = p3.links; values = p3.values; book = two_lists 6 6 4 0 0 0 5 2 }
    ∷ record { links = p3.links; values = p3.values; book = two_lists 3 4 4 0 0 0 5 6 }
    ∷ []

-- 02 d): the same of a quick call: 1, 4, 17, and what it gives on the pools for 9 to 16, which is none of these. "A quick call gives none of 9 to 16"
abbrev quick_refusals : (ℕ → QuickMove) → List Gives
quick_refusals call = quickly uneven (call 0) ∷ quickly p3 (call 2) ∷ map (λ st. quickly st (call 0)) strange ++ map (λ st. quickly st (call 0)) broken_pools

abbrev pub numbers_tried : List Gives
numbers_tried =
    set_up_with 6 6 2
    ∷ set_up_with 6 5 2
    ∷ set_up_with 6 6 0
    ∷ given p1 check
    ∷ given uneven check
    ∷ given p1 (ask_length 0)
    ∷ given p1 (push_back 0 20)
    ∷ given full (push_back 1 14)
    ∷ given p3 (push_back 0 50)
    ∷ given p1 (push_front 0 20)
    ∷ given full (push_front 1 14)
    ∷ given p3 (push_front 0 50)
    ∷ given p3 (pop_back 0)
    ∷ given p3 (pop_back 1)
    ∷ given p3 (pop_front 0)
    ∷ given p3 (pop_front 1)
    ∷ given p3 (read_forward 0 (replicate 5 0) 1)
    ∷ given p3 (read_forward 0 (replicate 5 0) 2)
    ∷ given p3 (read_backward 0 (replicate 5 0) 1)
    ∷ given p3 (read_backward 0 (replicate 5 0) 2)
    ∷ given p3 (clear 0)
    ∷ refusals ask_length
    ++ refusals (λ l. push_back l 5)
    ++ refusals (λ l. push_front l 5)
    ++ refusals pop_back
    ++ refusals pop_front
    ++ refusals (λ l. read_forward l (replicate 5 0) 0)
    ++ refusals (λ l. read_backward l (replicate 5 0) 0)
    ++ refusals clear
    ++ map (λ st. given st check) broken_pools
    ++ quickly p1 (quick_push_back 0 20)
    ∷ quickly full (quick_push_back 1 14)
    ∷ quickly p3 (quick_push_back 0 50)
    ∷ quickly p1 (quick_push_front 0 20)
    ∷ quickly full (quick_push_front 1 14)
    ∷ quickly p3 (quick_push_front 0 50)
    ∷ quickly p3 (quick_pop_back 0)
    ∷ quickly p3 (quick_pop_back 1)
    ∷ quickly p3 (quick_pop_front 0)
    ∷ quickly p3 (quick_pop_front 1)
    ∷ quick_refusals (λ l. quick_push_back l 5)
    ++ quick_refusals (λ l. quick_push_front l 5)
    ++ quick_refusals quick_pop_back
    ++ quick_refusals quick_pop_front

-- is the call shown to give the number?
abbrev pub is_shown : ℕ → ℕ → List Gives → Bool
is_shown call number [] = false
is_shown call number (g ∷ gs) = (eqb g.call call && eqb g.number number) || is_shown call number gs

abbrev same : Bool → Bool → Bool
same a b = (a && b) || (not a && not b)

-- a place of the table is filled exactly where it is shown, for the numbers below n, and for the calls below m
abbrev pub numbers_shown : ℕ → ℕ → List Gives → Bool
numbers_shown call zero gs = true
numbers_shown call (suc n) gs = same (may_give call n) (is_shown call n gs) && numbers_shown call n gs

abbrev pub calls_shown : ℕ → List Gives → Bool
calls_shown zero gs = true
calls_shown (suc m) gs = numbers_shown m 18 gs && calls_shown m gs

-- a trace of two lists, with the shares and limits of 01's pools
abbrev pub two_list_trace : Pool → Ledger → Type 0
two_list_trace = PoolTrace 2 (2 ∷ 1 ∷ replicate 6 0) (5 ∷ 3 ∷ replicate 6 0)
