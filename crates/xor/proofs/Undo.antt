-- 02 a) of the calls by name, at both ends, and in a trace of them: from the laws over any engine.
use mathlib.Core.Path.{◌≡◌, sym, ap, subst, ◌∙◌}
use mathlib.Core.Bool.{cond}
use mathlib.Core.List.{List}
use Prim.Native.Nat.{ℕ, ◌<◌}
use lib.Dec.{eqb}
use lib.ListN.{length}
use Rattle.books.specs.declared.Book.{Book}
use Rattle.books.specs.declared.Answer.{Answer}
use Rattle.books.specs.declared.Popped.{Popped}
use Rattle.books.specs.Book.{AnyBook, book_of}
use Rattle.books.specs.Place.{refusal_of}
use Rattle.books.specs.Outcome.{Outcome, outcome}
use Rattle.shapes.specs.declared.End.{End}
use Rattle.shapes.specs.declared.End.TheVariants.{Front, Back}
use Rattle.shapes.specs.Shape.{Shape, chain_at}
use Rattle.shapes.specs.Moves.{Move, push_back, push_front, pop_back, pop_front, push_move, pop_move, Call, checked, move_of}
use Rattle.shapes.specs.Ledger.{Ledger, noted_done, one_pair}
use Rattle.engines.specs.Calls.{Called}
use Rattle.engines.specs.Moves.{State, left, after, number_of_call, after_call}
use Rattle.engines.specs.Trace.{noted}
use Rattle.engines.specs.Undo.{Undone, SameHoldings, HeldAgain, PairNoted, UndoneNext, HeldNext}
use Rattle.engines.proofs.Exactly.{pop_zero}
use Rattle.engines.proofs.After.{push_at, pop_at}
use Rattle.engines.proofs.Undo.{push_undone, pop_undone}
use Rattle.engines.proofs.Again.{push_held_again, pop_held_again}
use Rattle.engines.proofs.UndoTraces.{press_undone, press_held, lift_undone, lift_held, press_undone_by, press_held_by, lift_undone_by, lift_held_by}
use Rattle.xor.specs.Engine.{xor}
use Rattle.xor.specs.Sound.{XorBook}
use Rattle.xor.specs.Ten.{as_answer, as_popped, push_back_of, push_front_of, pop_back_of, pop_front_of}
use Rattle.xor.specs.Moves.{Pool, state_of, pool_left, pool_popped, number_given, pool_after, given_by, after_by, noted_by, PoolTrace, called}
use Rattle.xor.specs.Undo.{AsBefore, TakenBack, PutBack, TakenHeld, PutHeld, handed_at, PoolNoted, PoolUndone, PoolHeld}
use Rattle.xor.proofs.Page.{page_told}
use Rattle.xor.proofs.Plain.{number_told, after_told, number_told_by, after_told_by}
use Rattle.xor.proofs.Traces.{pool_trace}
use Rattle.xor.proofs.Lawful.{xor_lawful}

module _ (links values : List ℕ) (b : Book) (l : ℕ) where
  abbrev p : Pool
  p = record { links = links; values = values; book = b }

  as_before : {value : ℕ} {r : Called xor} → Undone xor (state_of p) value r → AsBefore links values b (pool_left (as_answer r))
  as_before W = record { same_links = W.same_links; same_values = W.same_values; same_book = ap (λ (x : AnyBook). book_of x) W.same_book }

  -- from the state that a call over any engine leaves to the pool that the call by name leaves
  taken : {value : ℕ} (end : End) (m : Move) → Undone xor (state_of p) value (pop_at xor (after xor (state_of p) m) end l) → TakenBack links values b value (as_popped (pop_at xor (state_of (pool_after p m)) end l))
  taken {value} end m U =
      let W = subst (λ (st : State xor). Undone xor (state_of p) value (pop_at xor st end l)) (sym (after_told p m)) U in
      record { number = W.number; unplaced = W.unplaced; handed = W.handed; restored = as_before W }

  put : (value : ℕ) (end : End) (m : Move) → Undone xor (state_of p) 0 (push_at xor (after xor (state_of p) m) end l value) → PutBack links values b (as_answer (push_at xor (state_of (pool_after p m)) end l value))
  put value end m U =
      let W = subst (λ (st : State xor). Undone xor (state_of p) 0 (push_at xor st end l value)) (sym (after_told p m)) U in
      record { number = W.number; unplaced = W.unplaced; restored = as_before W }

  pub push_back_undone : (value : ℕ) → let r = push_back_of links values b l value in
      r.answer.refusal.number ≡ 0 → TakenBack links values b value (pop_back_of r.links r.values r.answer.book l)
  push_back_undone value z = taken Back (push_back l value) (push_undone xor_lawful (state_of p) l Back value z)

  pub push_front_undone : (value : ℕ) → let r = push_front_of links values b l value in
      r.answer.refusal.number ≡ 0 → TakenBack links values b value (pop_front_of r.links r.values r.answer.book l)
  push_front_undone value z = taken Front (push_front l value) (push_undone xor_lawful (state_of p) l Front value z)

  pub pop_back_undone : let r = pop_back_of links values b l in
      r.answer.given.refusal.number ≡ 0 → PutBack links values b (push_back_of r.links r.values r.answer.book l r.answer.given.value)
  pop_back_undone z = put _ Back (pop_back l) (pop_undone xor_lawful (state_of p) l Back z)

  pub pop_front_undone : let r = pop_front_of links values b l in
      r.answer.given.refusal.number ≡ 0 → PutBack links values b (push_front_of r.links r.values r.answer.book l r.answer.given.value)
  pop_front_undone z = put _ Front (pop_front l) (pop_undone xor_lawful (state_of p) l Front z)

-- the second half told from soundness, as the reader's page has it: a list of a sound pool that holds something
module _ {links values : List ℕ} {b : Book} {s : Shape} (X : XorBook links values b s) (l : ℕ) (below : l < b.lists) (some : 0 < length (chain_at s l)) where
  pub sound_pop_back_undone : let r = pop_back_of links values b l in
      (r.answer.given.refusal.number ≡ 0) × PutBack links values b (push_back_of r.links r.values r.answer.book l r.answer.given.value)
  sound_pop_back_undone = let z = (pop_zero xor_lawful ((page_told links values b s).1 X) l below Back).1 some in (z, pop_back_undone links values b l z)

  pub sound_pop_front_undone : let r = pop_front_of links values b l in
      (r.answer.given.refusal.number ≡ 0) × PutBack links values b (push_front_of r.links r.values r.answer.book l r.answer.given.value)
  sound_pop_front_undone = let z = (pop_zero xor_lawful ((page_told links values b s).1 X) l below Front).1 some in (z, pop_front_undone links values b l z)

-- the laws leave no choice: two results that both meet one are the same
module _ {links values : List ℕ} {b : Book} where
  pub as_before_one : {p q : Pool} → AsBefore links values b p → AsBefore links values b q → p ≡ q
  as_before_one P Q = λ i. record { links = (P.same_links ∙ sym Q.same_links) i; values = (P.same_values ∙ sym Q.same_values) i; book = (P.same_book ∙ sym Q.same_book) i }

  pub taken_back_one : {value : ℕ} {r r' : Outcome Popped} → TakenBack links values b value r → TakenBack links values b value r' → r ≡ r'
  taken_back_one P Q =
      let e = as_before_one P.restored Q.restored in
      λ i. outcome (record { given = record { refusal = refusal_of ((P.number ∙ sym Q.number) i) ((P.unplaced ∙ sym Q.unplaced) i); value = (P.handed ∙ sym Q.handed) i }; book = (e i).book }) (e i).links (e i).values

  pub put_back_one : {r r' : Outcome Answer} → PutBack links values b r → PutBack links values b r' → r ≡ r'
  put_back_one P Q =
      let e = as_before_one P.restored Q.restored in
      λ i. outcome (record { refusal = refusal_of ((P.number ∙ sym Q.number) i) ((P.unplaced ∙ sym Q.unplaced) i); book = (e i).book }) (e i).links (e i).values

-- ---- the weaker law of each

module _ (p : Pool) where
  taken_held : {value : ℕ} (r : Called xor) → state_of (pool_popped (as_popped r)) ≡ left r → HeldAgain xor (state_of p) value r → TakenHeld p.links p.values p.book value (as_popped r)
  taken_held r e H = record { number = H.number; handed = H.handed; holdings = subst (λ (st : State xor). SameHoldings xor (state_of p) st) (sym e) H.holdings }

  put_held : (r : Called xor) → state_of (pool_left (as_answer r)) ≡ left r → HeldAgain xor (state_of p) 0 r → PutHeld p.links p.values p.book (as_answer r)
  put_held r e H = record { number = H.number; holdings = subst (λ (st : State xor). SameHoldings xor (state_of p) st) (sym e) H.holdings }

  module _ (l : ℕ) where
    -- the call that follows, on the pool that the call by name leaves
    popped_held : {value : ℕ} (end : End) (m : Move) → state_of (pool_popped (as_popped (pop_at xor (state_of (pool_after p m)) end l))) ≡ left (pop_at xor (state_of (pool_after p m)) end l)
        → HeldAgain xor (state_of p) value (pop_at xor (after xor (state_of p) m) end l) → TakenHeld p.links p.values p.book value (as_popped (pop_at xor (state_of (pool_after p m)) end l))
    popped_held {value} end m e H = taken_held _ e (subst (λ (st : State xor). HeldAgain xor (state_of p) value (pop_at xor st end l)) (sym (after_told p m)) H)

    pushed_held : (value : ℕ) (end : End) (m : Move) → state_of (pool_left (as_answer (push_at xor (state_of (pool_after p m)) end l value))) ≡ left (push_at xor (state_of (pool_after p m)) end l value)
        → HeldAgain xor (state_of p) 0 (push_at xor (after xor (state_of p) m) end l value) → PutHeld p.links p.values p.book (as_answer (push_at xor (state_of (pool_after p m)) end l value))
    pushed_held value end m e H = put_held _ e (subst (λ (st : State xor). HeldAgain xor (state_of p) 0 (push_at xor st end l value)) (sym (after_told p m)) H)

module _ (links values : List ℕ) (b : Book) (l : ℕ) where
  abbrev q : Pool
  q = record { links = links; values = values; book = b }

  pub push_back_held : (value : ℕ) → let r = push_back_of links values b l value in
      r.answer.refusal.number ≡ 0 → TakenHeld links values b value (pop_back_of r.links r.values r.answer.book l)
  push_back_held value z =
      let m = push_back l value in
      popped_held q l Back m (after_told (pool_after q m) (pop_back l)) (push_held_again xor_lawful (state_of q) l Back value z)

  pub push_front_held : (value : ℕ) → let r = push_front_of links values b l value in
      r.answer.refusal.number ≡ 0 → TakenHeld links values b value (pop_front_of r.links r.values r.answer.book l)
  push_front_held value z =
      let m = push_front l value in
      popped_held q l Front m (after_told (pool_after q m) (pop_front l)) (push_held_again xor_lawful (state_of q) l Front value z)

  pub pop_back_held : let r = pop_back_of links values b l in
      r.answer.given.refusal.number ≡ 0 → PutHeld links values b (push_back_of r.links r.values r.answer.book l r.answer.given.value)
  pop_back_held z =
      let v = (pop_back_of links values b l).answer.given.value in
      pushed_held q l v Back (pop_back l) (after_told (pool_after q (pop_back l)) (push_back l v)) (pop_held_again xor_lawful (state_of q) l Back z)

  pub pop_front_held : let r = pop_front_of links values b l in
      r.answer.given.refusal.number ≡ 0 → PutHeld links values b (push_front_of r.links r.values r.answer.book l r.answer.given.value)
  pop_front_held z =
      let v = (pop_front_of links values b l).answer.given.value in
      pushed_held q l v Front (pop_front l) (after_told (pool_after q (pop_front l)) (push_front l v)) (pop_held_again xor_lawful (state_of q) l Front z)

-- ---- in a trace

-- the pool with its book is told from the state
abbrev pool_from : State xor → Pool
pool_from st = record { links = st.links; values = st.values; book = book_of st.book }

-- two calls by name leave what the two calls over the engine leave
then : (p : Pool) (call back : Call) → state_of (after_by (after_by p call) back) ≡ after_call xor (after_call xor (state_of p) call) back
then p call back = after_told_by (after_by p call) back ∙ ap (λ (st : State xor). after_call xor st back) (after_told_by p call)

module _ {p : Pool} {ledger : Ledger} {l : ℕ} where
  module _ {call back : Call} where
    pair_named : PairNoted xor (state_of p) ledger l call back → PoolNoted p ledger l call back
    pair_named U = record { done_too = second ∙ U.done_too; account = (λ i. cond (eqb (second i) 0) (noted_done (move_of back) (first i)) (first i)) ∙ U.account }
      where
        second : given_by (after_by p call) back ≡ number_of_call xor (after_call xor (state_of p) call) back
        second = number_told_by (after_by p call) back ∙ ap (λ (st : State xor). number_of_call xor st back) (after_told_by p call)

        first : noted_by p call ledger ≡ noted xor (state_of p) call ledger
        first = ap (λ (n : ℕ). cond (eqb n 0) (noted_done (move_of call) ledger) ledger) (number_told_by p call)

    named : UndoneNext xor (state_of p) ledger l call back → PoolUndone p ledger l call back
    named U = record { pair = pair_named U.pair; same_pool = ap pool_from (then p call back ∙ U.same_state) }

    named_held : HeldNext xor (state_of p) ledger l call back → PoolHeld p ledger l call back
    named_held H = record { pair = pair_named H.pair; holdings = subst (λ (st : State xor). SameHoldings xor (state_of p) st) (sym (then p call back)) H.holdings }

    -- the trace goes on from the pool that it had
    pub named_undone_trace : {lists : ℕ} {shares limits : List ℕ} → PoolTrace lists shares limits p ledger → PoolUndone p ledger l call back → PoolTrace lists shares limits p (one_pair l ledger)
    named_undone_trace {lists} {shares} {limits} t U =
        subst (λ (x : Pool). PoolTrace lists shares limits x (one_pair l ledger)) U.same_pool
        (subst (λ (y : Ledger). PoolTrace lists shares limits (after_by (after_by p call) back) y) U.pair.account (called (called t call) back))

  -- a press taken straight back
  module _ (end : End) (value : ℕ) (z : number_given p (push_move end l value) ≡ 0) where
    pub named_press_undone : PoolUndone p ledger l (checked (push_move end l value)) (checked (pop_move end l))
    named_press_undone = named (press_undone xor_lawful l end value (sym (number_told p (push_move end l value)) ∙ z))

    pub named_press_held : PoolHeld p ledger l (checked (push_move end l value)) (checked (pop_move end l))
    named_press_held = named_held (press_held xor_lawful l end value (sym (number_told p (push_move end l value)) ∙ z))

  module _ {lists : ℕ} {shares limits : List ℕ} (t : PoolTrace lists shares limits p ledger) where
    -- a pop pushed back
    pub named_lift_undone : (end : End) → number_given p (pop_move end l) ≡ 0 → PoolUndone p ledger l (checked (pop_move end l)) (checked (push_move end l (handed_at p end l)))
    named_lift_undone Front z = named (lift_undone xor_lawful l (pool_trace t) Front z)
    named_lift_undone Back z = named (lift_undone xor_lawful l (pool_trace t) Back z)

    pub named_lift_held : (end : End) → number_given p (pop_move end l) ≡ 0 → PoolHeld p ledger l (checked (pop_move end l)) (checked (push_move end l (handed_at p end l)))
    named_lift_held Front z = named_held (lift_held xor_lawful l (pool_trace t) Front z)
    named_lift_held Back z = named_held (lift_held xor_lawful l (pool_trace t) Back z)

    -- of any two calls that ask for a push and its pop, each checked or quick
    module _ (call back : Call) (z : given_by p call ≡ 0) where
      pub named_press_undone_by : (end : End) (value : ℕ) → move_of call ≡ push_move end l value → move_of back ≡ pop_move end l → PoolUndone p ledger l call back
      named_press_undone_by end value push pop = named (press_undone_by xor_lawful (pool_trace t) call back end l (sym (number_told_by p call) ∙ z) value push pop)

      pub named_press_held_by : (end : End) (value : ℕ) → move_of call ≡ push_move end l value → move_of back ≡ pop_move end l → PoolHeld p ledger l call back
      named_press_held_by end value push pop = named_held (press_held_by xor_lawful (pool_trace t) call back end l (sym (number_told_by p call) ∙ z) value push pop)

      pub named_lift_undone_by : (end : End) → move_of call ≡ pop_move end l → move_of back ≡ push_move end l (handed_at p end l) → PoolUndone p ledger l call back
      named_lift_undone_by Front pop push = named (lift_undone_by xor_lawful (pool_trace t) call back Front l (sym (number_told_by p call) ∙ z) pop push)
      named_lift_undone_by Back pop push = named (lift_undone_by xor_lawful (pool_trace t) call back Back l (sym (number_told_by p call) ∙ z) pop push)

      pub named_lift_held_by : (end : End) → move_of call ≡ pop_move end l → move_of back ≡ push_move end l (handed_at p end l) → PoolHeld p ledger l call back
      named_lift_held_by Front pop push = named_held (lift_held_by xor_lawful (pool_trace t) call back Front l (sym (number_told_by p call) ∙ z) pop push)
      named_lift_held_by Back pop push = named_held (lift_held_by xor_lawful (pool_trace t) call back Back l (sym (number_told_by p call) ∙ z) pop push)
