-- 02 a) in a trace, on any engine and at either end: a push and its pop, in either order, each checked or quick, leave the state as it was, and the ledger notes one of each more.
use mathlib.Core.Path.{◌≡◌, sym, ap, subst, ◌∙◌}
use mathlib.Core.Bool.{cond}
use mathlib.Core.List.{List}
use Prim.Native.Nat.{ℕ, ◌<◌}
use native.Mathlib.Omega.{arith}
use lib.Dec.{eqb}
use Rattle.shapes.specs.declared.End.{End}
use Rattle.shapes.specs.declared.End.TheVariants.{Front, Back}
use Rattle.shapes.specs.Ends.{joined, contents}
use Rattle.shapes.specs.Shape.{Shape, chain_at}
use Rattle.shapes.specs.Moves.{Move, push_move, pop_move, Call, checked, move_of}
use Rattle.shapes.specs.Ledger.{Ledger, noted_done, one_pair}
use Rattle.shapes.proofs.Ledger.{push_pop_noted, pop_push_noted, both_noted}
use Rattle.engines.specs.Engine.{Engine}
use Rattle.engines.specs.Sound.{SoundBook}
use Rattle.engines.specs.Laws.{Lawful}
use Rattle.engines.specs.Moves.{State, number_of, after, number_of_call, after_call}
use Rattle.engines.specs.Trace.{Trace, goes_on}
use Rattle.engines.specs.Undo.{SameHoldings, PairNoted, UndoneNext, HeldNext}
use Rattle.engines.proofs.Shape.{unique_book}
use Rattle.engines.proofs.After.{pop_at}
use Rattle.engines.proofs.Outcomes.{pop_done}
use Rattle.engines.proofs.QuickSound.{call_as_move}
use Rattle.engines.proofs.Traces.{demand_3}
use Rattle.engines.proofs.Again.{push_leaves_one, push_held_again, pop_makes_room, pop_held_again}
use Rattle.engines.proofs.Undo.{undone_left, push_undone, pop_undone}

-- the trace goes on from the state that it had
pub undone_trace : {E : Engine} {st : State E} {ledger : Ledger} {l : ℕ} {call back : Call} {places lists : ℕ} {shares limits : List ℕ}
    → Trace E places lists shares limits st ledger → UndoneNext E st ledger l call back → Trace E places lists shares limits st (one_pair l ledger)
undone_trace {E} {st} {ledger} {l} {call} {back} {places} {lists} {shares} {limits} t U =
    subst (λ (x : State E). Trace E places lists shares limits x (one_pair l ledger)) U.same_state
    (subst (λ (y : Ledger). Trace E places lists shares limits (after_call E (after_call E st call) back) y) U.pair.account (goes_on (goes_on t call) back))

-- ---- of any two calls, by what they ask for

module _ {E : Engine} (L : Lawful E) {st : State E} {s : Shape} (S : SoundBook E st.links st.values st.book s) (call back : Call) where
  -- the state between is sound too, so that each call is the checked one
  abbrev Between : Shape → Type 0
  Between u = let v = after E st (move_of call) in SoundBook E v.links v.values v.book u

  second : {t : Shape} → Between t → (number_of_call E (after_call E st call) back ≡ number_of E (after E st (move_of call)) (move_of back)) × (after_call E (after_call E st call) back ≡ after E (after E st (move_of call)) (move_of back))
  second T =
      let (n, a) = call_as_move L S call in
      let (k, c) = call_as_move L T back in
      (ap (λ (u : State E). number_of_call E u back) a ∙ k, ap (λ (u : State E). after_call E u back) a ∙ c)

  module _ {ledger : Ledger} {l : ℕ} {t : Shape} (T : Between t) where
    noted_by_lem : PairNoted E st ledger l (checked (move_of call)) (checked (move_of back)) → PairNoted E st ledger l call back
    noted_by_lem P =
        record {
          done_too = (second T).0 ∙ P.done_too;
          account = (λ i. let once = cond (eqb ((call_as_move L S call).0 i) 0) (noted_done (move_of call) ledger) ledger in cond (eqb ((second T).0 i) 0) (noted_done (move_of back) once) once) ∙ P.account;
        }

    pub undone_by : UndoneNext E st ledger l (checked (move_of call)) (checked (move_of back)) → UndoneNext E st ledger l call back
    undone_by U = record { pair = noted_by_lem U.pair; same_state = (second T).1 ∙ U.same_state }

    pub held_by : HeldNext E st ledger l (checked (move_of call)) (checked (move_of back)) → HeldNext E st ledger l call back
    held_by H = record { pair = noted_by_lem H.pair; holdings = subst (λ (u : State E). SameHoldings E st u) (sym (second T).1) H.holdings }

module _ {E : Engine} (L : Lawful E) {st : State E} {ledger : Ledger} (l : ℕ) where
  both : {call back : Move} → number_of E st call ≡ 0 → number_of E (after E st call) back ≡ 0 → noted_done back (noted_done call ledger) ≡ one_pair l ledger → PairNoted E st ledger l (checked call) (checked back)
  both {call} {back} z y n = record { done_too = y; account = both_noted l call back ledger z y n }

  -- ---- a press taken straight back

  press_noted : (end : End) (value : ℕ) → number_of E st (push_move end l value) ≡ 0 → PairNoted E st ledger l (checked (push_move end l value)) (checked (pop_move end l))
  press_noted Front value z = both z (push_leaves_one L st l Front value z) (push_pop_noted l value ledger Front)
  press_noted Back value z = both z (push_leaves_one L st l Back value z) (push_pop_noted l value ledger Back)

  pub press_undone : (end : End) (value : ℕ) → number_of E st (push_move end l value) ≡ 0 → UndoneNext E st ledger l (checked (push_move end l value)) (checked (pop_move end l))
  press_undone Front value z = record { pair = press_noted Front value z; same_state = undone_left (push_undone L st l Front value z) }
  press_undone Back value z = record { pair = press_noted Back value z; same_state = undone_left (push_undone L st l Back value z) }

  pub press_held : (end : End) (value : ℕ) → number_of E st (push_move end l value) ≡ 0 → HeldNext E st ledger l (checked (push_move end l value)) (checked (pop_move end l))
  press_held Front value z = record { pair = press_noted Front value z; holdings = (push_held_again L st l Front value z).holdings }
  press_held Back value z = record { pair = press_noted Back value z; holdings = (push_held_again L st l Back value z).holdings }

  -- ---- a pop pushed back

  module _ {places lists : ℕ} {shares limits : List ℕ} (t : Trace E places lists shares limits st ledger) where
    -- what it hands out stands at that end of what the ledger holds
    held_at : (end : End) → (pop_at E st end l).number ≡ 0 → (rest : List ℕ) × (ledger.held l ≡ joined end (pop_at E st end l).value rest)
    held_at end z =
        let (u, S, P) = pop_done L st.links st.values st.book l end z in
        let (s, D) = demand_3 L places lists shares limits t in
        let h : l < lists = omega (arith, P.listed, D.as_many) in
        (_, sym (D.sequence l h) ∙ ap (λ (x : Shape). contents st.values (chain_at x l)) (unique_book L D.sound S) ∙ P.holds)

    lift_noted : (end : End) → number_of E st (pop_move end l) ≡ 0 → PairNoted E st ledger l (checked (pop_move end l)) (checked (push_move end l (pop_at E st end l).value))
    lift_noted Front z = let (rest, e) = held_at Front z in both z (pop_makes_room L st l Front z _) (pop_push_noted l _ ledger Front rest e)
    lift_noted Back z = let (rest, e) = held_at Back z in both z (pop_makes_room L st l Back z _) (pop_push_noted l _ ledger Back rest e)

    pub lift_undone : (end : End) → number_of E st (pop_move end l) ≡ 0 → UndoneNext E st ledger l (checked (pop_move end l)) (checked (push_move end l (pop_at E st end l).value))
    lift_undone Front z = record { pair = lift_noted Front z; same_state = undone_left (pop_undone L st l Front z) }
    lift_undone Back z = record { pair = lift_noted Back z; same_state = undone_left (pop_undone L st l Back z) }

    pub lift_held : (end : End) → number_of E st (pop_move end l) ≡ 0 → HeldNext E st ledger l (checked (pop_move end l)) (checked (push_move end l (pop_at E st end l).value))
    lift_held Front z = record { pair = lift_noted Front z; holdings = (pop_held_again L st l Front z).holdings }
    lift_held Back z = record { pair = lift_noted Back z; holdings = (pop_held_again L st l Back z).holdings }

-- ---- in a trace, of any two calls that ask for a push and its pop

module _ {E : Engine} (L : Lawful E) {st : State E} {ledger : Ledger} {places lists : ℕ} {shares limits : List ℕ} (t : Trace E places lists shares limits st ledger) (call back : Call) where
  -- where the first is done so is what it asks for
  done_first : number_of_call E st call ≡ 0 → number_of E st (move_of call) ≡ 0
  done_first z = let (s, D) = demand_3 L places lists shares limits t in sym (call_as_move L D.sound call).0 ∙ z

  module _ {l : ℕ} where
    undone_so : UndoneNext E st ledger l (checked (move_of call)) (checked (move_of back)) → UndoneNext E st ledger l call back
    undone_so U =
        let (s, D) = demand_3 L places lists shares limits t in
        let (u, F) = demand_3 L places lists shares limits (goes_on t (checked (move_of call))) in
        undone_by L D.sound call back F.sound U

    held_so : HeldNext E st ledger l (checked (move_of call)) (checked (move_of back)) → HeldNext E st ledger l call back
    held_so H =
        let (s, D) = demand_3 L places lists shares limits t in
        let (u, F) = demand_3 L places lists shares limits (goes_on t (checked (move_of call))) in
        held_by L D.sound call back F.sound H

  module _ (end : End) (l : ℕ) (z : number_of_call E st call ≡ 0) where
    -- a press taken straight back
    pub press_undone_by : (value : ℕ) → move_of call ≡ push_move end l value → move_of back ≡ pop_move end l → UndoneNext E st ledger l call back
    press_undone_by value push pop = undone_so (rw (push, pop) (press_undone L l end value (rw push at (done_first z))))

    pub press_held_by : (value : ℕ) → move_of call ≡ push_move end l value → move_of back ≡ pop_move end l → HeldNext E st ledger l call back
    press_held_by value push pop = held_so (rw (push, pop) (press_held L l end value (rw push at (done_first z))))

    -- a pop pushed back
    pub lift_undone_by : move_of call ≡ pop_move end l → move_of back ≡ push_move end l (pop_at E st end l).value → UndoneNext E st ledger l call back
    lift_undone_by pop push = undone_so (rw (pop, push) (lift_undone L l t end (rw pop at (done_first z))))

    pub lift_held_by : move_of call ≡ pop_move end l → move_of back ≡ push_move end l (pop_at E st end l).value → HeldNext E st ledger l call back
    lift_held_by pop push = held_so (rw (pop, push) (lift_held L l t end (rw pop at (done_first z))))
