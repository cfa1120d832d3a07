-- The quick C functions, computed: from P1 on they leave what the checked ones leave, mixed with these; and on memory that is not sound each is refused by 17 and leaves all, or does 01's step.
use Rattle.std.specs.Prelude.{Bool, true, ◌&&◌, List, [], ◌∷◌, ◌++◌, ℕ, eqb, replicate, set}
use Rattle.shapes.specs.Moves.{push_back, pop_back, clear, QuickMove, quick_push_back, quick_push_front, quick_pop_back, quick_pop_front, Call}
use Rattle.shapes.specs.Moves as M
use Rattle.faces.specs.Quick.{quick_pop_back_face, quick_pop_front_face}
use Rattle.faces.specs.Trace.{Memory, returned_by, memory_by}
use Rattle.faces.specs.Tried.{two_words, c_six, memory, same_memory, c_p1, c_p2, c_p3, c_p5, c_p6, c_p7, c_cleared, c_popped, c_full, c_damaged}

-- a call, the number, what a quick pop writes to `value`, and what the memory holds then
pub record CQuickTurn : Type 0 where
  pub call : Call
  pub number : ℕ
  pub value : ℕ
  pub left : Memory

abbrev turn : Call → ℕ → ℕ → Memory → CQuickTurn
turn call number value left = record { call = call; number = number; value = value; left = left }

-- what a quick pop writes; 0 for the others
abbrev written : Memory → Call → ℕ
written m (M.checked move) = 0
written m (M.quick (quick_push_back l value)) = 0
written m (M.quick (quick_push_front l value)) = 0
written m (M.quick (quick_pop_back l)) = (quick_pop_back_face m.links m.values m.words l).answer.value
written m (M.quick (quick_pop_front l)) = (quick_pop_front_face m.links m.values m.words l).answer.value

abbrev pub c_quick_turns_pass : Memory → List CQuickTurn → Bool
c_quick_turns_pass m [] = true
c_quick_turns_pass m (c ∷ cs) =
    eqb (returned_by m c.call) c.number && (eqb (written m c.call) c.value && (same_memory (memory_by m c.call) c.left && c_quick_turns_pass c.left cs))

-- 01's pools, by quick calls, with a checked one here and there
abbrev pub quick_turns : List CQuickTurn
quick_turns =
    turn (M.quick (quick_push_back 0 20)) 0 0 (memory (c_six 0 0 3 4 5 0) (c_six 0 20 0 0 0 0) (two_words 1 1 1 0 0 0 2 4))
    ∷ turn (M.checked (push_back 0 30)) 0 0 (memory (c_six 0 2 1 4 5 0) (c_six 0 20 30 0 0 0) (two_words 1 2 2 0 0 0 3 3))
    ∷ turn (M.quick (quick_push_front 0 10)) 0 0 c_p2
    ∷ turn (M.quick (quick_push_back 0 40)) 0 0 c_p3
    ∷ turn (M.quick (quick_push_back 0 50)) 7 0 c_p3
    ∷ turn (M.quick (quick_push_front 0 50)) 7 0 c_p3
    ∷ turn (M.quick (quick_push_back 1 60)) 0 0 c_p5
    ∷ turn (M.quick (quick_push_back 1 61)) 7 0 c_p5
    ∷ turn (M.quick (quick_pop_front 0)) 0 10 c_p6
    ∷ turn (M.quick (quick_push_back 1 61)) 0 0 c_p7
    ∷ turn (M.quick (quick_pop_back 2)) 4 0 c_p7
    ∷ turn (M.quick (quick_push_front 65536 1)) 4 0 c_p7
    ∷ turn (M.checked (clear 0)) 0 0 c_cleared
    ∷ turn (M.quick (quick_pop_back 0)) 5 0 c_cleared
    ∷ turn (M.quick (quick_pop_front 0)) 5 0 c_cleared
    ∷ turn (M.quick (quick_pop_back 1)) 0 61 c_popped
    ∷ []

-- 02 a): presses taken straight back, and pops pushed back, quick and checked
abbrev pub quick_undone : List CQuickTurn
quick_undone =
    turn (M.quick (quick_push_back 0 40)) 0 0 c_p3
    ∷ turn (M.checked (pop_back 0)) 0 0 c_p2
    ∷ turn (M.checked (push_back 0 40)) 0 0 c_p3
    ∷ turn (M.quick (quick_pop_back 0)) 0 40 c_p2
    ∷ turn (M.quick (quick_push_back 0 40)) 0 0 c_p3
    ∷ turn (M.quick (quick_pop_front 0)) 0 10 (memory (c_six 0 2 5 5 2 0) (c_six 0 20 30 0 40 0) (two_words 1 4 3 0 0 0 3 2))
    ∷ turn (M.quick (quick_push_front 0 10)) 0 0 c_p3
    ∷ []

-- list 1 at its limit
abbrev pub quick_at_limit : List CQuickTurn
quick_at_limit = turn (M.quick (quick_push_back 1 14)) 6 0 c_full ∷ turn (M.quick (quick_push_front 1 14)) 6 0 c_full ∷ []

-- P2 with another word at a place of its book
abbrev worded : ℕ → ℕ → Memory
worded place word = memory c_p2.links c_p2.values (set c_p2.words place word)

-- each quick function refused by 17, the memory as it was
abbrev refused_four : Memory → List CQuickTurn
refused_four m = turn (M.quick (quick_push_back 0 7)) 17 0 m ∷ turn (M.quick (quick_push_front 0 7)) 17 0 m ∷ turn (M.quick (quick_pop_back 0)) 17 0 m ∷ turn (M.quick (quick_pop_front 0)) 17 0 m ∷ []

abbrev all_refused : Memory → Bool
all_refused m = c_quick_turns_pass m (refused_four m)

-- L of 0 and of 9; the length of the other list, and the free count, of N
abbrev pub quick_refused : Bool
quick_refused = all_refused (worded 0 0) && (all_refused (worded 0 9) && (all_refused (worded 10 6) && all_refused (worded 42 6)))

-- P3 whose free head is the list's tail: the pushes at the back and on the other list at that slot are seen or not as 02 d) says
abbrev pub quick_damaged : List CQuickTurn
quick_damaged =
    -- the list has its share and the free slot is list 1's: 7 comes first
    turn (M.quick (quick_push_back 0 50)) 7 0 c_damaged
    -- list 1 is empty, so that the slot of list 0 is taken: 01's step, done inside the pool
    ∷ turn (M.quick (quick_push_front 1 60)) 0 0 (memory (c_six 0 1 5 1 0 0) (c_six 0 20 30 10 60 0) (two_words 3 4 4 4 4 1 2 0))
    ∷ []

-- words past the entry that is used, slot 0, shares and limits: a quick call does not see them
abbrev pub quick_unseen : Bool
quick_unseen =
    let m = memory (set c_p2.links 0 9) (set c_p2.values 0 9) (set (set c_p2.words 40 9) 9 0) in
    c_quick_turns_pass m (turn (M.quick (quick_pop_front 0)) 0 10 (memory (c_six 9 2 1 4 5 0) (c_six 9 20 30 0 0 0) (set (set (two_words 1 2 2 0 0 0 3 3) 40 9) 9 0)) ∷ [])
