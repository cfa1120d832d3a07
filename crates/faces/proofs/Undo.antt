-- 02 a) of the C functions, at both ends, and in a trace of them: from the laws of the calls by name.
use mathlib.Core.Path.{◌≡◌, sym, ap, subst, ◌∙◌}
use mathlib.Core.Bool.{cond}
use mathlib.Core.List.{List}
use Prim.Native.Nat.{ℕ}
use lib.Dec.{eqb}
use lib.ListN.{length}
use Rattle.books.specs.declared.Book.{Book}
use Rattle.books.specs.declared.Answer.{Answer}
use Rattle.books.specs.declared.Popped.{Popped}
use Rattle.books.specs.Book.{words_of}
use Rattle.books.specs.Outcome.{Outcome, outcome}
use Rattle.books.specs.Words.{book_from}
use Rattle.books.proofs.Flat.{words_kept}
use Rattle.shapes.specs.declared.End.{End}
use Rattle.shapes.specs.declared.End.TheVariants.{Front, Back}
use Rattle.shapes.specs.Moves.{Move, push_back, push_front, pop_back, pop_front, push_move, pop_move, Call, move_of}
use Rattle.shapes.specs.Moves as M
use Rattle.shapes.specs.Ledger.{Ledger, noted_done, one_pair}
use Rattle.engines.specs.Moves.{State, number_of}
use Rattle.engines.specs.Undo.{SameHoldings}
use Rattle.engines.proofs.SameHoldings.{same_numbers_lem}
use Rattle.xor.specs.Engine.{xor}
use Rattle.xor.specs.Ten.{push_back_of, push_front_of, pop_back_of, pop_front_of}
use Rattle.xor.specs.Moves.{Pool, state_of, pool_left, pool_popped, given_by, after_by, noted_by}
use Rattle.xor.specs.Undo.{AsBefore, TakenBack, PutBack, TakenHeld, PutHeld, PoolNoted, PoolUndone, PoolHeld}
use Rattle.xor.proofs.Plain.{number_told}
use Rattle.xor.proofs.Lawful.{xor_lawful}
use Rattle.xor.proofs.Undo.{push_back_undone, push_front_undone, pop_back_undone, pop_front_undone, push_back_held, push_front_held, pop_back_held, pop_front_held, named_press_undone, named_press_held, named_lift_undone, named_lift_held, named_press_undone_by, named_press_held_by, named_lift_undone_by, named_lift_held_by}
use Rattle.faces.specs.Words.{kept}
use Rattle.faces.specs.Face.{Changed, changed, Handed, handed, as_changed, as_handed, push_back_face, push_front_face, pop_back_face, pop_front_face}
use Rattle.faces.specs.Trace.{Memory, memory_changed, memory_handed, returned, memory_after, returned_by, memory_by, noted_for, FaceTrace, continued}
use Rattle.faces.specs.Undo.{PushesUndone, PopsUndone, MemoryBefore, FaceTakenBack, FacePutBack, state_in, HoldingsBefore, FaceTakenHeld, FacePutHeld, handed_to, MemoryNoted, MemoryUndone, MemoryHeld}
use Rattle.faces.proofs.Kept.{kept_done}
use Rattle.faces.proofs.Traces.{pool_of, AfterCall, memory_told, returned_told, returned_told_by, face_trace}

-- ---- the four pairs of functions

module _ (links values words : List ℕ) (h : length words ≡ 43) (l : ℕ) where
  abbrev m : Memory
  m = record { links = links; values = values; words = words }

  -- what the call by name gives back, in the lent words
  back : (number : ℕ) (lent : List ℕ) {p : Pool} → number ≡ 0 → AsBefore links values (book_from words) p → MemoryBefore links values words (record { links = p.links; values = p.values; words = kept number lent p.book })
  back number lent z A = record { same_links = A.same_links; same_values = A.same_values; same_words = kept_done number lent _ z ∙ ap words_of A.same_book ∙ words_kept words h }

  taken : {value : ℕ} (lent : List ℕ) (r : Outcome Popped) → TakenBack links values (book_from words) value r → FaceTakenBack links values words value (as_handed lent r)
  taken lent r T = record { number = T.number; unplaced = T.unplaced; handed = T.handed; restored = back _ lent T.number T.restored }

  put : (lent : List ℕ) (r : Outcome Answer) → PutBack links values (book_from words) r → FacePutBack links values words (as_changed lent r)
  put lent r T = record { number = T.number; unplaced = T.unplaced; restored = back _ lent T.number T.restored }

  pub face_push_back_undone : (value : ℕ) → let r = push_back_face links values words l value in
      r.answer.number ≡ 0 → FaceTakenBack links values words value (pop_back_face r.links r.values r.answer.book l)
  face_push_back_undone value z =
      taken _ _ (subst (λ (p : Pool). TakenBack links values (book_from words) value (pop_back_of p.links p.values p.book l)) (sym (memory_told m h (M.checked (push_back l value))).pool)
      (push_back_undone links values (book_from words) l value z))

  pub face_push_front_undone : (value : ℕ) → let r = push_front_face links values words l value in
      r.answer.number ≡ 0 → FaceTakenBack links values words value (pop_front_face r.links r.values r.answer.book l)
  face_push_front_undone value z =
      taken _ _ (subst (λ (p : Pool). TakenBack links values (book_from words) value (pop_front_of p.links p.values p.book l)) (sym (memory_told m h (M.checked (push_front l value))).pool)
      (push_front_undone links values (book_from words) l value z))

  pub face_pop_back_undone : let r = pop_back_face links values words l in
      r.answer.number ≡ 0 → FacePutBack links values words (push_back_face r.links r.values r.answer.book l r.answer.value)
  face_pop_back_undone z =
      put _ _ (subst (λ (p : Pool). PutBack links values (book_from words) (push_back_of p.links p.values p.book l (pop_back_face links values words l).answer.value)) (sym (memory_told m h (M.checked (pop_back l))).pool)
      (pop_back_undone links values (book_from words) l z))

  pub face_pop_front_undone : let r = pop_front_face links values words l in
      r.answer.number ≡ 0 → FacePutBack links values words (push_front_face r.links r.values r.answer.book l r.answer.value)
  face_pop_front_undone z =
      put _ _ (subst (λ (p : Pool). PutBack links values (book_from words) (push_front_of p.links p.values p.book l (pop_front_face links values words l).answer.value)) (sym (memory_told m h (M.checked (pop_front l))).pool)
      (pop_front_undone links values (book_from words) l z))

  -- ---- the weaker law of each

  -- what the words hold when the second call returns is the book that the call by name leaves
  in_words : (call back : Call) → state_in (memory_by (memory_by m call) back) ≡ state_of (after_by (pool_of (memory_by m call)) back)
  in_words call back = ap state_of (memory_told (memory_by m call) (memory_told m h call).words back).pool

  taken_held : {value : ℕ} (lent : List ℕ) (r : Outcome Popped) → state_in (memory_handed (as_handed lent r)) ≡ state_of (pool_popped r)
      → TakenHeld links values (book_from words) value r → FaceTakenHeld links values words value (as_handed lent r)
  taken_held lent r e T = record { number = T.number; handed = T.handed; holdings = subst (λ (st : State xor). SameHoldings xor (state_in m) st) (sym e) T.holdings }

  put_held : (lent : List ℕ) (r : Outcome Answer) → state_in (memory_changed (as_changed lent r)) ≡ state_of (pool_left r) → PutHeld links values (book_from words) r → FacePutHeld links values words (as_changed lent r)
  put_held lent r e T = record { number = T.number; holdings = subst (λ (st : State xor). SameHoldings xor (state_in m) st) (sym e) T.holdings }

  pub face_push_back_held : (value : ℕ) → let r = push_back_face links values words l value in
      r.answer.number ≡ 0 → FaceTakenHeld links values words value (pop_back_face r.links r.values r.answer.book l)
  face_push_back_held value z =
      taken_held _ _ (in_words (M.checked (push_back l value)) (M.checked (pop_back l)))
      (subst (λ (p : Pool). TakenHeld links values (book_from words) value (pop_back_of p.links p.values p.book l)) (sym (memory_told m h (M.checked (push_back l value))).pool)
      (push_back_held links values (book_from words) l value z))

  pub face_push_front_held : (value : ℕ) → let r = push_front_face links values words l value in
      r.answer.number ≡ 0 → FaceTakenHeld links values words value (pop_front_face r.links r.values r.answer.book l)
  face_push_front_held value z =
      taken_held _ _ (in_words (M.checked (push_front l value)) (M.checked (pop_front l)))
      (subst (λ (p : Pool). TakenHeld links values (book_from words) value (pop_front_of p.links p.values p.book l)) (sym (memory_told m h (M.checked (push_front l value))).pool)
      (push_front_held links values (book_from words) l value z))

  pub face_pop_back_held : let r = pop_back_face links values words l in
      r.answer.number ≡ 0 → FacePutHeld links values words (push_back_face r.links r.values r.answer.book l r.answer.value)
  face_pop_back_held z =
      let v = (pop_back_face links values words l).answer.value in
      put_held _ _ (in_words (M.checked (pop_back l)) (M.checked (push_back l v)))
      (subst (λ (p : Pool). PutHeld links values (book_from words) (push_back_of p.links p.values p.book l v)) (sym (memory_told m h (M.checked (pop_back l))).pool)
      (pop_back_held links values (book_from words) l z))

  pub face_pop_front_held : let r = pop_front_face links values words l in
      r.answer.number ≡ 0 → FacePutHeld links values words (push_front_face r.links r.values r.answer.book l r.answer.value)
  face_pop_front_held z =
      let v = (pop_front_face links values words l).answer.value in
      put_held _ _ (in_words (M.checked (pop_front l)) (M.checked (push_front l v)))
      (subst (λ (p : Pool). PutHeld links values (book_from words) (push_front_of p.links p.values p.book l v)) (sym (memory_told m h (M.checked (pop_front l))).pool)
      (pop_front_held links values (book_from words) l z))

-- the four together: 02 a) of the C functions, as crates/faces/specs/Undo.antt says it
pub bounced_key : PushesUndone × PopsUndone
bounced_key = (
  λ links values words h l value. (face_push_back_undone links values words h l value, face_push_front_undone links values words h l value),
  λ links values words h l. (face_pop_back_undone links values words h l, face_pop_front_undone links values words h l),
)

-- the laws leave no choice: two results that both meet one are the same
module _ {links values words : List ℕ} where
  pub memory_before_one : {m n : Memory} → MemoryBefore links values words m → MemoryBefore links values words n → m ≡ n
  memory_before_one P Q = λ i. record { links = (P.same_links ∙ sym Q.same_links) i; values = (P.same_values ∙ sym Q.same_values) i; words = (P.same_words ∙ sym Q.same_words) i }

  pub face_taken_back_one : {value : ℕ} {r r' : Outcome Handed} → FaceTakenBack links values words value r → FaceTakenBack links values words value r' → r ≡ r'
  face_taken_back_one P Q =
      let e = memory_before_one P.restored Q.restored in
      λ i. outcome (handed ((P.number ∙ sym Q.number) i) ((P.unplaced ∙ sym Q.unplaced) i) ((P.handed ∙ sym Q.handed) i) (e i).words) (e i).links (e i).values

  pub face_put_back_one : {r r' : Outcome Changed} → FacePutBack links values words r → FacePutBack links values words r' → r ≡ r'
  face_put_back_one P Q =
      let e = memory_before_one P.restored Q.restored in
      λ i. outcome (changed ((P.number ∙ sym Q.number) i) ((P.unplaced ∙ sym Q.unplaced) i) (e i).words) (e i).links (e i).values

-- what the weaker laws are good for: every C function then returns what it would have returned before
module _ (links values words : List ℕ) where
  abbrev was : Memory
  was = record { links = links; values = values; words = words }

  held_returns : (m : Memory) → HoldingsBefore links values words m → (move : Move) → returned m move ≡ returned was move
  held_returns m H move = sym (named was ∙ same_numbers_lem xor_lawful H move ∙ sym (named m))
    where
      named : (n : Memory) → returned n move ≡ number_of xor (state_in n) move
      named n = returned_told n move ∙ number_told (pool_of n) move

  pub taken_held_returns : {value : ℕ} {r : Outcome Handed} → FaceTakenHeld links values words value r
      → (r.answer.number ≡ 0) × (r.answer.value ≡ value) × ((move : Move) → returned (memory_handed r) move ≡ returned was move)
  taken_held_returns T = (T.number, T.handed, held_returns _ T.holdings)

  pub put_held_returns : {r : Outcome Changed} → FacePutHeld links values words r → (r.answer.number ≡ 0) × ((move : Move) → returned (memory_changed r) move ≡ returned was move)
  put_held_returns T = (T.number, held_returns _ T.holdings)

-- ---- in a trace

-- memory with 43 words is told from the pool that it holds
abbrev memory_from : Pool → Memory
memory_from p = record { links = p.links; values = p.values; words = words_of p.book }

told_back : (m : Memory) → length m.words ≡ 43 → memory_from (pool_of m) ≡ m
told_back m h = λ i. record { links = m.links; values = m.values; words = words_kept m.words h i }

module _ (m : Memory) (h : length m.words ≡ 43) (call back : Call) where
  first : AfterCall m call
  first = memory_told m h call

  there : AfterCall (memory_by m call) back
  there = memory_told (memory_by m call) first.words back

  then : pool_of (memory_by (memory_by m call) back) ≡ after_by (after_by (pool_of m) call) back
  then = there.pool ∙ ap (λ (p : Pool). after_by p back) first.pool

module _ {m : Memory} (h : length m.words ≡ 43) {ledger : Ledger} {l : ℕ} {call back : Call} where
  pair_in_words : PoolNoted (pool_of m) ledger l call back → MemoryNoted m ledger l call back
  pair_in_words U = record { done_too = second ∙ U.done_too; account = (λ i. cond (eqb (second i) 0) (noted_done (move_of back) (once i)) (once i)) ∙ U.account }
    where
      second : returned_by (memory_by m call) back ≡ given_by (after_by (pool_of m) call) back
      second = returned_told_by (memory_by m call) back ∙ ap (λ (p : Pool). given_by p back) (first m h call back).pool

      once : noted_for m call ledger ≡ noted_by (pool_of m) call ledger
      once = ap (λ (n : ℕ). cond (eqb n 0) (noted_done (move_of call) ledger) ledger) (returned_told_by m call)

  of_pool : PoolUndone (pool_of m) ledger l call back → MemoryUndone m ledger l call back
  of_pool U = record { pair = pair_in_words U.pair; same_memory = sym (told_back _ (there m h call back).words) ∙ ap memory_from (then m h call back ∙ U.same_pool) ∙ told_back m h }

  of_pool_held : PoolHeld (pool_of m) ledger l call back → MemoryHeld m ledger l call back
  of_pool_held H = record { pair = pair_in_words H.pair; holdings = subst (λ (st : State xor). SameHoldings xor (state_in m) st) (sym (ap state_of (then m h call back))) H.holdings }

module _ {lists : ℕ} {shares limits : List ℕ} {m : Memory} {ledger : Ledger} (t : FaceTrace lists shares limits m ledger) (l : ℕ) where
  -- a press taken straight back
  module _ (end : End) (value : ℕ) (z : returned m (push_move end l value) ≡ 0) where
    pub face_press_undone : MemoryUndone m ledger l (M.checked (push_move end l value)) (M.checked (pop_move end l))
    face_press_undone = of_pool (face_trace t).0 (named_press_undone end value (sym (returned_told m (push_move end l value)) ∙ z))

    pub face_press_held : MemoryHeld m ledger l (M.checked (push_move end l value)) (M.checked (pop_move end l))
    face_press_held = of_pool_held (face_trace t).0 (named_press_held end value (sym (returned_told m (push_move end l value)) ∙ z))

  -- a pop pushed back
  pub face_lift_undone : (end : End) → returned m (pop_move end l) ≡ 0 → MemoryUndone m ledger l (M.checked (pop_move end l)) (M.checked (push_move end l (handed_to m end l)))
  face_lift_undone Front z = of_pool (face_trace t).0 (named_lift_undone (face_trace t).1 Front z)
  face_lift_undone Back z = of_pool (face_trace t).0 (named_lift_undone (face_trace t).1 Back z)

  pub face_lift_held : (end : End) → returned m (pop_move end l) ≡ 0 → MemoryHeld m ledger l (M.checked (pop_move end l)) (M.checked (push_move end l (handed_to m end l)))
  face_lift_held Front z = of_pool_held (face_trace t).0 (named_lift_held (face_trace t).1 Front z)
  face_lift_held Back z = of_pool_held (face_trace t).0 (named_lift_held (face_trace t).1 Back z)

  -- of any two functions that ask for a push and its pop, each checked or quick
  module _ (call back : Call) (z : returned_by m call ≡ 0) where
    pub face_press_undone_by : (end : End) (value : ℕ) → move_of call ≡ push_move end l value → move_of back ≡ pop_move end l → MemoryUndone m ledger l call back
    face_press_undone_by end value push pop = of_pool (face_trace t).0 (named_press_undone_by (face_trace t).1 call back (sym (returned_told_by m call) ∙ z) end value push pop)

    pub face_press_held_by : (end : End) (value : ℕ) → move_of call ≡ push_move end l value → move_of back ≡ pop_move end l → MemoryHeld m ledger l call back
    face_press_held_by end value push pop = of_pool_held (face_trace t).0 (named_press_held_by (face_trace t).1 call back (sym (returned_told_by m call) ∙ z) end value push pop)

    pub face_lift_undone_by : (end : End) → move_of call ≡ pop_move end l → move_of back ≡ push_move end l (handed_to m end l) → MemoryUndone m ledger l call back
    face_lift_undone_by Front pop push = of_pool (face_trace t).0 (named_lift_undone_by (face_trace t).1 call back (sym (returned_told_by m call) ∙ z) Front pop push)
    face_lift_undone_by Back pop push = of_pool (face_trace t).0 (named_lift_undone_by (face_trace t).1 call back (sym (returned_told_by m call) ∙ z) Back pop push)

    pub face_lift_held_by : (end : End) → move_of call ≡ pop_move end l → move_of back ≡ push_move end l (handed_to m end l) → MemoryHeld m ledger l call back
    face_lift_held_by Front pop push = of_pool_held (face_trace t).0 (named_lift_held_by (face_trace t).1 call back (sym (returned_told_by m call) ∙ z) Front pop push)
    face_lift_held_by Back pop push = of_pool_held (face_trace t).0 (named_lift_held_by (face_trace t).1 call back (sym (returned_told_by m call) ∙ z) Back pop push)

  -- the second call is done, and the trace goes on from the memory that it had
  pub face_undone_trace : {call back : Call} → MemoryUndone m ledger l call back → (returned_by (memory_by m call) back ≡ 0) × FaceTrace lists shares limits m (one_pair l ledger)
  face_undone_trace {call} {back} U = (
    U.pair.done_too,
    subst (λ (x : Memory). FaceTrace lists shares limits x (one_pair l ledger)) U.same_memory
        (subst (λ (y : Ledger). FaceTrace lists shares limits (memory_by (memory_by m call) back) y) U.pair.account (continued (continued t call) back)),
  )

  -- by the weaker law the second call is done too, and every C function then returns what it would have returned before the first
  pub held_next_returns : {call back : Call} → MemoryHeld m ledger l call back
      → (returned_by (memory_by m call) back ≡ 0) × ((move : Move) → returned (memory_by (memory_by m call) back) move ≡ returned m move)
  held_next_returns H = (H.pair.done_too, held_returns m.links m.values m.words _ H.holdings)
