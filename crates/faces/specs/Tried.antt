-- 01's pools P1 to P7 and what comes after them, as the C functions leave them: every cell, every word of the book, each number and answer, and the ledger of the trace. Refused calls stand between done ones.
use Rattle.std.specs.Prelude.{Bool, true, ◌&&◌, List, [], ◌∷◌, ◌++◌, map, ℕ, eqb, replicate}
use Rattle.books.specs.Place.{Place, no_place}
use Rattle.books.specs.Tried.{same_numbers, all_bits}
use Rattle.shapes.specs.Moves.{Move, check, ask_length, push_back, push_front, pop_back, pop_front, read_forward, read_backward, clear}
use Rattle.shapes.specs.Moves as M
use Rattle.shapes.specs.Ledger.{Ledger, nothing_noted}
use Rattle.faces.specs.Face.{Told, Shown, setup_face, length_face, pop_back_face, pop_front_face, read_forward_face, read_backward_face}
use Rattle.faces.specs.Trace.{Memory, memory_prepared, returned, place_written, memory_after, noted_for}

-- the words of a book with two lists, shares 2 and 1, limits 5 and 3: their heads, tails and lengths, the free head and the free count
abbrev pub two_words : ℕ → ℕ → ℕ → ℕ → ℕ → ℕ → ℕ → ℕ → List ℕ
two_words head₀ tail₀ many₀ head₁ tail₁ many₁ free count = (2 ∷ head₀ ∷ tail₀ ∷ 2 ∷ 5 ∷ many₀ ∷ head₁ ∷ tail₁ ∷ 1 ∷ 3 ∷ many₁ ∷ []) ++ replicate 30 0 ++ free ∷ count ∷ []

abbrev pub c_six : ℕ → ℕ → ℕ → ℕ → ℕ → ℕ → List ℕ
c_six a b c d e f = a ∷ b ∷ c ∷ d ∷ e ∷ f ∷ []

abbrev pub memory : List ℕ → List ℕ → List ℕ → Memory
memory links values words = record { links = links; values = values; words = words }

abbrev pub same_memory : Memory → Memory → Bool
same_memory m k = same_numbers m.links k.links && (same_numbers m.values k.values && same_numbers m.words k.words)

-- ---- setup

-- P1: links 0,2,3,4,5,0 and free head 1
abbrev pub c_p1 : Memory
c_p1 = memory (c_six 0 2 3 4 5 0) (c_six 0 0 0 0 0 0) (two_words 0 0 0 0 0 0 1 5)

-- a setup on memory that holds something, with the number that it returns and what it leaves
pub record CSetup : Type 0 where
  pub before : Memory
  pub lists : ℕ
  pub shares : List ℕ
  pub number : ℕ
  pub left : Memory

abbrev c_setup : Memory → ℕ → List ℕ → ℕ → Memory → CSetup
c_setup before lists shares number left = record { before = before; lists = lists; shares = shares; number = number; left = left }

-- cells and words that hold anything
abbrev held : ℕ → Memory
held words = memory (replicate 6 9) (replicate 6 all_bits) (replicate words 9)

abbrev uneven : Memory
uneven = memory (replicate 5 9) (replicate 6 all_bits) (replicate 43 9)

abbrev pub c_setups : List CSetup
c_setups =
    -- done, on words of any number: all 43 are stored
    c_setup (held 43) 2 (2 ∷ 1 ∷ replicate 6 0) 0 c_p1
    ∷ c_setup (held 0) 2 (2 ∷ 1 ∷ replicate 6 0) 0 c_p1
    ∷ c_setup (held 40) 2 (2 ∷ 1 ∷ replicate 6 0) 0 c_p1
    -- refused by 2 and by 1: the lent words stay, and not the all-zero book
    ∷ c_setup (held 43) 0 (2 ∷ 1 ∷ replicate 6 0) 2 (held 43)
    ∷ c_setup (held 43) 2 (2 ∷ 1 ∷ 1 ∷ replicate 5 0) 2 (held 43)
    ∷ c_setup uneven 2 (2 ∷ 1 ∷ replicate 6 0) 1 uneven
    ∷ []

abbrev pub c_setups_pass : List CSetup → Bool
c_setups_pass [] = true
c_setups_pass (c ∷ cs) =
    let r = setup_face c.before.links c.before.values c.lists c.shares (5 ∷ 3 ∷ replicate 6 0) c.before.words in
    eqb r.answer.number c.number && (same_memory (memory_prepared r) c.left && c_setups_pass cs)

-- ---- the nine calls, one after the other, from P1 on

pub record CTurn : Type 0 where
  pub move : Move
  pub number : ℕ
  pub place : Place
  pub left : Memory

abbrev c_turn : Move → ℕ → Memory → CTurn
c_turn move number left = record { move = move; number = number; place = no_place; left = left }

-- a call that names a broken rule, with its list and position, and leaves everything
abbrev c_named : Memory → ℕ → ℕ → ℕ → Move → CTurn
c_named m rule list position move = record { move = move; number = rule; place = record { list = list; position = position }; left = m }

abbrev pub c_p2 : Memory
c_p2 = memory (c_six 0 1 1 1 5 0) (c_six 0 20 30 10 0 0) (two_words 3 2 3 0 0 0 4 2)

abbrev pub c_p3 : Memory
c_p3 = memory (c_six 0 1 5 1 2 0) (c_six 0 20 30 10 40 0) (two_words 3 4 4 0 0 0 5 1)

abbrev pub c_p5 : Memory
c_p5 = memory (c_six 0 1 5 1 2 0) (c_six 0 20 30 10 40 60) (two_words 3 4 4 5 5 1 0 0)

abbrev pub c_p6 : Memory
c_p6 = memory (c_six 0 2 5 0 2 0) (c_six 0 20 30 0 40 60) (two_words 1 4 3 5 5 1 3 1)

abbrev pub c_p7 : Memory
c_p7 = memory (c_six 0 2 5 5 2 3) (c_six 0 20 30 61 40 60) (two_words 1 4 3 5 3 2 0 0)

abbrev pub c_cleared : Memory
c_cleared = memory (c_six 0 0 1 5 2 3) (c_six 0 0 0 61 0 60) (two_words 0 0 0 5 3 2 4 3)

abbrev pub c_popped : Memory
c_popped = memory (c_six 0 0 1 4 2 0) (c_six 0 0 0 0 0 60) (two_words 0 0 0 5 5 1 3 4)

abbrev pub c_turns : List CTurn
c_turns =
    c_turn (push_back 0 20) 0 (memory (c_six 0 0 3 4 5 0) (c_six 0 20 0 0 0 0) (two_words 1 1 1 0 0 0 2 4))
    ∷ c_turn (push_back 0 30) 0 (memory (c_six 0 2 1 4 5 0) (c_six 0 20 30 0 0 0) (two_words 1 2 2 0 0 0 3 3))
    ∷ c_turn (push_front 0 10) 0 c_p2
    ∷ c_turn (push_back 0 40) 0 c_p3
    -- P4: one slot is free, and list 1 lacks one
    ∷ c_turn (push_back 0 50) 7 c_p3
    ∷ c_turn (push_front 0 50) 7 c_p3
    ∷ c_turn (push_back 1 60) 0 c_p5
    ∷ c_turn (push_back 1 61) 7 c_p5
    ∷ c_turn (pop_front 0) 0 c_p6
    ∷ c_turn (push_back 1 61) 0 c_p7
    -- what changes nothing, and list numbers that there are not
    ∷ c_turn check 0 c_p7
    ∷ c_turn (ask_length 1) 0 c_p7
    ∷ c_turn (ask_length 2) 4 c_p7
    ∷ c_turn (pop_back 2) 4 c_p7
    ∷ c_turn (pop_front 65536) 4 c_p7
    ∷ c_turn (push_front 2 1) 4 c_p7
    ∷ c_turn (clear 7) 4 c_p7
    ∷ c_turn (read_forward 0 (7 ∷ 7 ∷ []) 0) 8 c_p7
    ∷ c_turn (read_backward 0 (7 ∷ 7 ∷ 7 ∷ []) 0) 0 c_p7
    -- Cancel, on a list with three slots, on the empty one, and then pops
    ∷ c_turn (clear 0) 0 c_cleared
    ∷ c_turn (clear 0) 0 c_cleared
    ∷ c_turn (pop_back 0) 5 c_cleared
    ∷ c_turn (pop_front 0) 5 c_cleared
    ∷ c_turn (pop_back 1) 0 c_popped
    ∷ []

-- one call of each of the nine functions
abbrev every_call : List Move
every_call = check ∷ ask_length 0 ∷ push_back 1 60 ∷ push_front 9 60 ∷ pop_back 0 ∷ pop_front 1 ∷ read_forward 0 (replicate 6 7) 0 ∷ read_backward 9 [] 1 ∷ clear 0 ∷ []

-- P3 with another free head in its words: it is not sound, and every call leaves it
abbrev pub c_damaged : Memory
c_damaged = memory (c_six 0 1 5 1 2 0) (c_six 0 20 30 10 40 0) (two_words 3 4 4 0 0 0 4 1)

abbrev pub c_refused : List CTurn
c_refused = map (c_named c_damaged 12 0 0) every_call

-- ---- 02 a): presses taken straight back, and pops pushed back, from P2 on

abbrev pub c_undone : List CTurn
c_undone =
    c_turn (push_back 0 40) 0 c_p3
    ∷ c_turn (pop_back 0) 0 c_p2
    ∷ c_turn (push_front 0 70) 0 (memory (c_six 0 1 1 5 3 0) (c_six 0 20 30 10 70 0) (two_words 4 2 4 0 0 0 5 1))
    ∷ c_turn (pop_front 0) 0 c_p2
    -- the list has its share, and the one free slot is another's: it gets 7, and yet what was popped goes back
    ∷ c_turn (push_back 0 40) 0 c_p3
    ∷ c_turn (push_back 0 50) 7 c_p3
    ∷ c_turn (pop_back 0) 0 c_p2
    ∷ c_turn (push_back 0 40) 0 c_p3
    ∷ c_turn (pop_front 0) 0 (memory (c_six 0 2 5 5 2 0) (c_six 0 20 30 0 40 0) (two_words 1 4 3 0 0 0 3 2))
    ∷ c_turn (push_front 0 10) 0 c_p3
    -- the last free slot, and a list that is empty
    ∷ c_turn (push_front 1 60) 0 c_p5
    ∷ c_turn (pop_front 1) 0 c_p3
    ∷ []

-- list 1 at its limit: it gets 6, and yet what was popped goes back
abbrev pub c_full : Memory
c_full = memory (c_six 0 2 2 2 5 0) (c_six 0 11 12 13 0 0) (two_words 0 0 0 1 3 3 4 2)

abbrev pub c_at_limit : List CTurn
c_at_limit =
    c_turn (push_back 1 14) 6 c_full
    ∷ c_turn (pop_back 1) 0 (memory (c_six 0 2 1 4 5 0) (c_six 0 11 12 0 0 0) (two_words 0 0 0 1 2 2 3 3))
    ∷ c_turn (push_back 1 13) 0 c_full
    ∷ c_turn (pop_front 1) 0 (memory (c_six 0 4 3 2 5 0) (c_six 0 0 12 13 0 0) (two_words 0 0 0 2 3 2 1 3))
    ∷ c_turn (push_front 1 11) 0 c_full
    ∷ []

-- and what these pops hand out
abbrev pub c_undone_hands : Bool
c_undone_hands =
    eqb (pop_back_face c_p3.links c_p3.values c_p3.words 0).answer.value 40
    && (eqb (pop_front_face c_p3.links c_p3.values c_p3.words 0).answer.value 10
    && (eqb (pop_front_face c_p5.links c_p5.values c_p5.words 1).answer.value 60
    && (eqb (pop_back_face c_full.links c_full.values c_full.words 1).answer.value 13
    && eqb (pop_front_face c_full.links c_full.values c_full.words 1).answer.value 11)))

-- does each return its number, write its place and leave its memory?
abbrev pub c_turns_pass : Memory → List CTurn → Bool
c_turns_pass m [] = true
c_turns_pass m (c ∷ cs) =
    eqb (returned m c.move) c.number
    && (eqb (place_written m c.move).list c.place.list
    && (eqb (place_written m c.move).position c.place.position
    && (same_memory (memory_after m c.move) c.left && c_turns_pass (memory_after m c.move) cs)))

-- ---- 02 b) and c)

-- pools of cSix slots, each with another rule broken first: every call names it with its place, and leaves everything
pub record CBroken : Type 0 where
  pub memory : Memory
  pub rule : ℕ
  pub list : ℕ
  pub position : ℕ

abbrev c_broken : ℕ → ℕ → ℕ → Memory → CBroken
c_broken rule list position memory = record { memory = memory; rule = rule; list = list; position = position }

abbrev pub c_broken_pools : List CBroken
c_broken_pools =
    -- three lists, where the third has a limit and the book says two
    c_broken 9 0 0 (memory (c_six 0 1 5 1 2 0) (c_six 0 20 30 10 40 0) ((2 ∷ 3 ∷ 4 ∷ 2 ∷ 5 ∷ 4 ∷ 0 ∷ 0 ∷ 1 ∷ 3 ∷ 0 ∷ 0 ∷ 0 ∷ 0 ∷ 1 ∷ 0 ∷ []) ++ replicate 25 0 ++ 5 ∷ 1 ∷ []))
    -- the same with a length there
    ∷ c_broken 9 0 0 (memory (c_six 0 1 5 1 2 0) (c_six 0 20 30 10 40 0) ((2 ∷ 3 ∷ 4 ∷ 2 ∷ 5 ∷ 4 ∷ 0 ∷ 0 ∷ 1 ∷ 3 ∷ 0 ∷ 0 ∷ 0 ∷ 0 ∷ 0 ∷ 1 ∷ []) ++ replicate 25 0 ++ 5 ∷ 1 ∷ []))
    ∷ c_broken 10 0 0 (memory (c_six 1 1 5 1 2 0) (c_six 0 20 30 10 40 0) (two_words 3 4 4 0 0 0 5 1))
    ∷ c_broken 10 0 0 (memory (c_six 0 1 5 1 2 0) (c_six all_bits 20 30 10 40 0) (two_words 3 4 4 0 0 0 5 1))
    -- list 0 is 3, 1, 2, 4: it ends before its tail; list 1 has a tail and no head; list 1 has slot 2
    ∷ c_broken 11 0 4 (memory (c_six 0 1 5 1 2 0) (c_six 0 20 30 10 40 0) (two_words 3 2 3 0 0 0 5 2))
    ∷ c_broken 11 1 0 (memory (c_six 0 1 5 1 2 0) (c_six 0 20 30 10 40 0) (two_words 3 4 4 0 5 0 5 1))
    ∷ c_broken 11 1 1 (memory (c_six 0 1 5 1 2 2) (c_six 0 20 30 10 40 60) (two_words 3 4 4 5 5 1 0 0))
    -- the free chain leaves the pool behind slot 5
    ∷ c_broken 12 0 1 (memory (c_six 0 1 5 1 2 6) (c_six 0 20 30 10 40 0) (two_words 3 4 4 0 0 0 5 1))
    -- slot 5 is nowhere; slot 5 is free and holds one bit
    ∷ c_broken 13 0 5 (memory (c_six 0 1 5 1 2 0) (c_six 0 20 30 10 40 0) (two_words 3 4 4 0 0 0 0 1))
    ∷ c_broken 14 0 5 (memory (c_six 0 1 5 1 2 0) (c_six 0 20 30 10 40 9223372036854775808) (two_words 3 4 4 0 0 0 5 1))
    -- list 1 is over its limit of three; list 0 has all five slots, and list 1 lacks one
    ∷ c_broken 15 1 0 (memory (c_six 0 1 5 1 2 0) (c_six 0 20 30 10 40 0) (two_words 0 0 0 3 4 4 5 1))
    ∷ c_broken 15 2 0 (memory (c_six 0 1 5 1 7 4) (c_six 0 20 30 10 40 50) (two_words 3 5 5 0 0 0 0 0))
    -- 02 c): the stored length of list 0, of list 1, and the free count, with others beside them
    ∷ c_broken 16 0 0 (memory (c_six 0 1 5 1 2 0) (c_six 0 20 30 10 40 0) (two_words 3 4 3 0 0 1 5 2))
    ∷ c_broken 16 1 0 (memory (c_six 0 1 5 1 2 0) (c_six 0 20 30 10 40 0) (two_words 3 4 4 0 0 32768 5 1))
    ∷ c_broken 16 2 0 (memory (c_six 0 1 5 1 2 0) (c_six 0 20 30 10 40 0) (two_words 3 4 4 0 0 0 5 32769))
    ∷ []

abbrev pub c_broken_pass : List CBroken → Bool
c_broken_pass [] = true
c_broken_pass (c ∷ cs) = c_turns_pass c.memory (map (c_named c.memory c.rule c.list c.position) every_call) && c_broken_pass cs

-- ---- the ledger of that trace

-- what the trace has noted after the first of the calls, n of them
abbrev noted_along : Memory → Ledger → List CTurn → Ledger
noted_along m ledger [] = ledger
noted_along m ledger (c ∷ cs) = noted_along (memory_after m c.move) (noted_for m (M.checked c.move) ledger) cs

abbrev pub noted_from : List CTurn → Ledger
noted_from cs = noted_along c_p1 nothing_noted cs

abbrev pub notes : Ledger → ℕ → ℕ → ℕ → List ℕ → Bool
notes ledger l pushes pops vs = eqb (ledger.pushes l) pushes && (eqb (ledger.pops l) pops && same_numbers (ledger.held l) vs)

-- ---- what the calls hand out, at P7 and after the clear

abbrev told_is : Told → ℕ → ℕ → Bool
told_is r number length = eqb r.number number && eqb r.length length

abbrev shown_is : Shown → ℕ → ℕ → List ℕ → Bool
shown_is r number count buffer = eqb r.number number && (eqb r.count count && same_numbers r.buffer buffer)

abbrev five : List ℕ
five = 7 ∷ 7 ∷ 7 ∷ 7 ∷ 7 ∷ []

abbrev pub c_answers_pass : Bool
c_answers_pass =
    let m = c_p7 in
    told_is (length_face m.links m.values m.words 0) 0 3
    && (told_is (length_face m.links m.values m.words 1) 0 2
    && (told_is (length_face m.links m.values m.words 2) 4 0
    && (told_is (length_face c_damaged.links c_damaged.values c_damaged.words 0) 12 0
    && (eqb (pop_back_face c_damaged.links c_damaged.values c_damaged.words 0).answer.value 0
    && (shown_is (read_backward_face c_damaged.links c_damaged.values c_damaged.words 0 five 0) 12 0 five
    && (eqb (pop_front_face m.links m.values m.words 0).answer.value 20
    && (eqb (pop_back_face m.links m.values m.words 0).answer.value 40
    && (eqb (pop_back_face m.links m.values m.words 1).answer.value 61
    && (eqb (pop_back_face m.links m.values m.words 2).answer.value 0
    && (eqb (pop_front_face c_cleared.links c_cleared.values c_cleared.words 0).answer.value 0
    && (shown_is (read_forward_face m.links m.values m.words 0 five 1) 0 3 (7 ∷ 20 ∷ 30 ∷ 40 ∷ 7 ∷ [])
    && (shown_is (read_backward_face m.links m.values m.words 0 five 2) 0 3 (7 ∷ 7 ∷ 40 ∷ 30 ∷ 20 ∷ [])
    && (shown_is (read_forward_face c_p3.links c_p3.values c_p3.words 0 five 1) 0 4 (7 ∷ 10 ∷ 20 ∷ 30 ∷ 40 ∷ [])
    && (shown_is (read_backward_face c_p3.links c_p3.values c_p3.words 0 five 0) 0 4 (40 ∷ 30 ∷ 20 ∷ 10 ∷ 7 ∷ [])
    && (shown_is (read_forward_face m.links m.values m.words 0 five 3) 8 0 five
    && (shown_is (read_backward_face m.links m.values m.words 2 five 0) 4 0 five
    && (shown_is (read_forward_face c_cleared.links c_cleared.values c_cleared.words 0 five 5) 0 0 five
    && shown_is (read_forward_face c_cleared.links c_cleared.values c_cleared.words 0 five 6) 8 0 five)))))))))))))))))
