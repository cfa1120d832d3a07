-- Demand 3 of the ten calls and the quick ones by name: a trace of them is a trace over the XOR engine, so that all that is proved of those holds of it.
use mathlib.Core.Path.{◌≡◌, sym, subst}
use mathlib.Core.Bool.{cond}
use mathlib.Core.List.{List}
use Prim.Native.Nat.{ℕ}
use lib.Dec.{eqb}
use Rattle.books.specs.Book.{most_lists}
use Rattle.shapes.specs.Shape.{Shape}
use Rattle.shapes.specs.Ledger.{Ledger, nothing_noted, noted_done}
use Rattle.shapes.specs.Moves.{Call, move_of}
use Rattle.engines.specs.Moves.{State, after_call}
use Rattle.engines.specs.Trace.{Trace, begins, goes_on, Demand3}
use Rattle.engines.proofs.Traces.{demand_3}
use Rattle.xor.specs.Engine.{xor}
use Rattle.xor.specs.Ten.{setup_of}
use Rattle.xor.specs.Moves.{Pool, state_of, pool_left, given_by, after_by, noted_by, PoolTrace, begun, called}
use Rattle.xor.proofs.Plain.{setup_left, number_told_by, after_told_by}
use Rattle.xor.proofs.Lawful.{xor_lawful}

module _ {lists : ℕ} {shares limits : List ℕ} where
  pub pool_trace : {p : Pool} {ledger : Ledger} → PoolTrace lists shares limits p ledger → Trace xor most_lists lists shares limits (state_of p) ledger
  pool_trace (begun links values z) = subst (λ (st : State xor). Trace xor most_lists lists shares limits st nothing_noted) (sym (setup_left links values lists shares limits)) (begins links values z)
  pool_trace (called {p} {ledger} t c) =
      subst (λ (st : State xor). Trace xor most_lists lists shares limits st (noted_by p c ledger)) (sym (after_told_by p c))
      (subst (λ (n : ℕ). Trace xor most_lists lists shares limits (after_call xor (state_of p) c) (cond (eqb n 0) (noted_done (move_of c) ledger) ledger)) (sym (number_told_by p c)) (goes_on (pool_trace t) c))

  -- every sentence of demand 3, at any point of a trace of the ten calls and the quick ones
  pub demand_3_named : {p : Pool} {ledger : Ledger} → PoolTrace lists shares limits p ledger → (s : Shape) × Demand3 xor most_lists lists shares limits (state_of p) ledger s
  demand_3_named t = demand_3 xor_lawful most_lists lists shares limits (pool_trace t)

-- a trace may begin with any accepted setup, and go on with any of the nine calls and of the quick ones
pub begins_anywhere : (links values : List ℕ) (lists : ℕ) (shares limits : List ℕ) → (setup_of links values lists shares limits).answer.refusal.number ≡ 0
    → PoolTrace lists shares limits (pool_left (setup_of links values lists shares limits)) nothing_noted
begins_anywhere links values lists shares limits z = begun links values z

pub goes_on_with : {lists : ℕ} {shares limits : List ℕ} {p : Pool} {ledger : Ledger} → PoolTrace lists shares limits p ledger → (c : Call)
    → PoolTrace lists shares limits (after_by p c) (cond (eqb (given_by p c) 0) (noted_done (move_of c) ledger) ledger)
goes_on_with t c = called t c
