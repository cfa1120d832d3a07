-- 01's marked pools, P1 to P10: the calls, and what each must give, as 01 says it, P9 as 02 b) says it, with the counts of 02 c). One test runs them all.
use Rattle.std.specs.Prelude.{Bool, true, false, ◌&&◌, List, [], ◌∷◌, ◌++◌, map, ℕ, eqb, replicate}
use Rattle.books.specs.declared.Book.{Book}
use Rattle.books.specs.declared.Refusal.{Refusal}
use Rattle.books.specs.Place.{refusal_of, numbered}
use Rattle.books.specs.Tried.{entry, none}
use Rattle.engines.specs.Edges.{broken, same_refusal}
use Rattle.xor.specs.Ten.{setup_of, pop_back_of, pop_front_of}
use Rattle.xor.specs.Moves.{Pool, pool_left, number_given, place_named, pool_after}
use Rattle.xor.specs.QuickTried.{same_pool}
use Rattle.shapes.specs.Moves.{Move, check, ask_length, push_back, push_front, pop_back, pop_front, read_forward, read_backward, clear}

-- a call, and what it must give: the number with its place, the value handed out, 0 for none, and every cell and word afterwards
pub record Turn : Type 0 where
  pub move : Move
  pub answer : Refusal
  pub value : ℕ
  pub left : Pool

-- how a case begins: by a setup of slices of N cells that hold anything, or with a pool as it is
pub data Begin : Type 0 where
  by_setup : (links values : List ℕ) (lists : ℕ) (shares limits : List ℕ) → Pool → Begin
  with : Pool → Begin

pub record Case : Type 0 where
  pub begin : Begin
  pub turns : List Turn

-- ---- the books of the pools

-- 01: "Two lists, shares 2 and 1, limits 5 and 3": their heads, tails and lengths, and the free head and count
abbrev pub two_lists : ℕ → ℕ → ℕ → ℕ → ℕ → ℕ → ℕ → ℕ → Book
two_lists head₀ tail₀ length₀ head₁ tail₁ length₁ free count = record { lists = 2; entries = entry head₀ tail₀ 2 5 length₀ ∷ entry head₁ tail₁ 1 3 length₁ ∷ none 6; free = record { head = free; count = count } }

-- "One list, share 0": its limit, head, tail and length, and the free head and count
abbrev pub one_list : ℕ → ℕ → ℕ → ℕ → ℕ → ℕ → Book
one_list limit head tail length free count = record { lists = 1; entries = entry head tail 0 limit length ∷ none 7; free = record { head = free; count = count } }

-- ---- the pools as 01 gives them

-- P1: "links 0,2,3,4,5,0 and free head 1"
abbrev pub p1 : Pool
p1 = record { links = 0 ∷ 2 ∷ 3 ∷ 4 ∷ 5 ∷ 0 ∷ []; values = 0 ∷ 0 ∷ 0 ∷ 0 ∷ 0 ∷ 0 ∷ []; book = two_lists 0 0 0 0 0 0 1 5 }

-- P2 on the way: after back 20, and after back 30
abbrev p2a : Pool
p2a = record { links = 0 ∷ 0 ∷ 3 ∷ 4 ∷ 5 ∷ 0 ∷ []; values = 0 ∷ 20 ∷ 0 ∷ 0 ∷ 0 ∷ 0 ∷ []; book = two_lists 1 1 1 0 0 0 2 4 }

abbrev p2b : Pool
p2b = record { links = 0 ∷ 2 ∷ 1 ∷ 4 ∷ 5 ∷ 0 ∷ []; values = 0 ∷ 20 ∷ 30 ∷ 0 ∷ 0 ∷ 0 ∷ []; book = two_lists 1 2 2 0 0 0 3 3 }

-- P2: "Links 0,1,1,1,5,0; head 3, tail 2, free head 4"
abbrev p2 : Pool
p2 = record { links = 0 ∷ 1 ∷ 1 ∷ 1 ∷ 5 ∷ 0 ∷ []; values = 0 ∷ 20 ∷ 30 ∷ 10 ∷ 0 ∷ 0 ∷ []; book = two_lists 3 2 3 0 0 0 4 2 }

-- P3: "links 0,1,5,1,2,0; tail 4, free head 5"
abbrev pub p3 : Pool
p3 = record { links = 0 ∷ 1 ∷ 5 ∷ 1 ∷ 2 ∷ 0 ∷ []; values = 0 ∷ 20 ∷ 30 ∷ 10 ∷ 40 ∷ 0 ∷ []; book = two_lists 3 4 4 0 0 0 5 1 }

-- P5: "done in slot 5, free head 0"
abbrev p5 : Pool
p5 = record { links = 0 ∷ 1 ∷ 5 ∷ 1 ∷ 2 ∷ 0 ∷ []; values = 0 ∷ 20 ∷ 30 ∷ 10 ∷ 40 ∷ 60 ∷ []; book = two_lists 3 4 4 5 5 1 0 0 }

-- P6: "Links 0,2,5,0,2,0; head 1; slot 3 holds 0; free head 3"
abbrev p6 : Pool
p6 = record { links = 0 ∷ 2 ∷ 5 ∷ 0 ∷ 2 ∷ 0 ∷ []; values = 0 ∷ 20 ∷ 30 ∷ 0 ∷ 40 ∷ 60 ∷ []; book = two_lists 1 4 3 5 5 1 3 1 }

-- P7: "done in slot 3; its link is 5, slot 5's link is 3"
abbrev p7 : Pool
p7 = record { links = 0 ∷ 2 ∷ 5 ∷ 5 ∷ 2 ∷ 3 ∷ []; values = 0 ∷ 20 ∷ 30 ∷ 61 ∷ 40 ∷ 60 ∷ []; book = two_lists 1 4 3 5 3 2 0 0 }

-- P8: "head 3, tail 4, free head 2, links 0,7,5,1,1,0", "with values 0 in slots 0, 2 and 5"; with counts
abbrev p8 : ℕ → ℕ → Pool
p8 length count = record { links = 0 ∷ 7 ∷ 5 ∷ 1 ∷ 1 ∷ 0 ∷ []; values = 0 ∷ 200 ∷ 0 ∷ 100 ∷ 300 ∷ 0 ∷ []; book = one_list 5 3 4 length 2 count }

-- P9: "head and tail 1, free head 0, links 0,2,0,0, values 0", whatever its counts are
abbrev pub p9 : ℕ → ℕ → Pool
p9 length count = record { links = 0 ∷ 2 ∷ 0 ∷ 0 ∷ []; values = 0 ∷ 0 ∷ 0 ∷ 0 ∷ []; book = one_list 3 1 1 length 0 count }

abbrev turn : Move → ℕ → ℕ → Pool → Turn
turn move number value left = record { move = move; answer = numbered number; value = value; left = left }

-- a call that names a broken rule with its list and position, and leaves everything
abbrev named : Move → ℕ → ℕ → ℕ → Pool → Turn
named move rule list position left = record { move = move; answer = broken rule list position; value = 0; left = left }

-- setup as 01's pools have it, on slices that held other things
abbrev accepted : Begin
accepted = by_setup (9 ∷ 9 ∷ 9 ∷ 9 ∷ 9 ∷ 9 ∷ []) (7 ∷ 7 ∷ 7 ∷ 7 ∷ 7 ∷ 7 ∷ []) 2 (2 ∷ 1 ∷ replicate 6 0) (5 ∷ 3 ∷ replicate 6 0) p1

-- P8 with these counts, one of which is wrong: its list, or 1 for the free slots
abbrev eighth : ℕ → ℕ × ℕ → Case
eighth list (length, count) = record { begin = with (p8 length count); turns = named check 16 list 0 (p8 length count) ∷ [] }

-- P9 with these counts
abbrev ninth : ℕ × ℕ → Case
ninth (length, count) = record { begin = with (p9 length count); turns = named check 11 0 2 (p9 length count) ∷ [] }

abbrev pub marked : List Case
marked =
    -- P1 to P7, one after the other
    record {
      begin = accepted;
      turns =
          turn (push_back 0 20) 0 0 p2a
          ∷ turn (push_back 0 30) 0 0 p2b
          ∷ turn (push_front 0 10) 0 0 p2
          ∷ turn (push_back 0 40) 0 0 p3
          -- P4: "7. One slot is free and list 1 lacks one"
          ∷ turn (push_back 0 50) 7 0 p3
          ∷ turn (push_back 1 60) 0 0 p5
          -- "Back 61: 7"
          ∷ turn (push_back 1 61) 7 0 p5
          -- "pop front on list 0: 10"
          ∷ turn (pop_front 0) 0 10 p6
          ∷ turn (push_back 1 61) 0 0 p7
          ∷ [];
    }
    -- P8: "sound", with length 3 and 2 free slots; with any other counts 16, at list 0 if its length is wrong
    ∷ record { begin = with (p8 3 2); turns = turn check 0 0 (p8 3 2) ∷ [] }
    ∷ map (eighth 0) ((0, 2) ∷ (2, 2) ∷ (4, 2) ∷ (259, 2) ∷ (2, 3) ∷ (65535, 65535) ∷ [])
    ++ map (eighth 1) ((3, 0) ∷ (3, 1) ∷ (3, 3) ∷ (3, 258) ∷ (3, 65535) ∷ [])
    -- P9: 3 in 01; from 02 b) on 11, list 0, position 2
    ++ map ninth ((0, 0) ∷ (1, 0) ∷ (1, 2) ∷ (3, 0) ∷ (0, 3) ∷ (65535, 65535) ∷ [])
    -- P10: "After P1, pop back on list 1: 5, value 0, pool and book the same"
    ++ record { begin = accepted; turns = turn (pop_back 1) 5 0 p1 ∷ [] } ∷ []

-- ---- the test

-- the value that a call hands out
abbrev pub value_given : Pool → Move → ℕ
value_given st check = 0
value_given st (ask_length l) = 0
value_given st (push_back l value) = 0
value_given st (push_front l value) = 0
value_given st (pop_back l) = (pop_back_of st.links st.values st.book l).answer.given.value
value_given st (pop_front l) = (pop_front_of st.links st.values st.book l).answer.given.value
value_given st (read_forward l buffer at) = 0
value_given st (read_backward l buffer at) = 0
value_given st (clear l) = 0

-- each call gives what it must, on what the one before it left
abbrev pub turns_pass : Pool → List Turn → Bool
turns_pass st [] = true
turns_pass st (t ∷ ts) =
    same_refusal (refusal_of (number_given st t.move) (place_named st t.move)) t.answer && (eqb (value_given st t.move) t.value && (same_pool (pool_after st t.move) t.left && turns_pass (pool_after st t.move) ts))

abbrev pub case_passes : Begin → List Turn → Bool
case_passes (by_setup links values lists shares limits must) ts =
    let r = setup_of links values lists shares limits in
    eqb r.answer.refusal.number 0 && (same_pool (pool_left r) must && turns_pass (pool_left r) ts)
case_passes (with st) ts = turns_pass st ts

abbrev pub all_pass : List Case → Bool
all_pass [] = true
all_pass (c ∷ cs) = case_passes c.begin c.turns && all_pass cs
