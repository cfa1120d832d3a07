-- What a done call adds to the ledger, list by list; and that a push with its pop, in either order, adds one of each and leaves what the lists hold.
use mathlib.Core.Path.{◌≡◌, refl, sym, ap, ◌∙◌}
use mathlib.Core.Logic.{◌≢◌}
use mathlib.Core.Bool.{Bool, cond}
use mathlib.Core.List.{List, [], ◌∷◌, ◌++◌}
use Prim.Native.Nat.{ℕ, suc, ◌-◌}
use native.Mathlib.Decide.{ℕ_discrete}
use native.Mathlib.Omega.{arith}
use lib.Dec.{eqb}
use lib.ListN.{length, take, length-append}
use lib.Seq.{take-append_seam}
use borrow.Author.Tests.{eq-eqb, ne_eqb}
use Rattle.shapes.specs.declared.End.{End}
use Rattle.shapes.specs.declared.End.TheVariants.{Front, Back}
use Rattle.shapes.specs.Ends.{joined}
use Rattle.shapes.specs.Moves.{Move, push_back, push_front, pop_back, pop_front, push_move, pop_move}
use Rattle.shapes.specs.Ledger.{Ledger, one_more, none_at, held_at, but_last, but_first, noted_done, one_pair}

pub more_here : (l : ℕ) (f : ℕ → ℕ) → one_more l f l ≡ suc (f l)
more_here l f = rw (eq-eqb l l refl)

pub more_other : (l : ℕ) (f : ℕ → ℕ) (k : ℕ) → k ≢ l → one_more l f k ≡ f k
more_other l f k d = rw (ne_eqb k l d)

pub none_here : (l : ℕ) (f : ℕ → ℕ) → none_at l f l ≡ 0
none_here l f = rw (eq-eqb l l refl)

pub none_other : (l : ℕ) (f : ℕ → ℕ) (k : ℕ) → k ≢ l → none_at l f k ≡ f k
none_other l f k d = rw (ne_eqb k l d)

pub held_here : (l : ℕ) (vs : List ℕ) (f : ℕ → List ℕ) → held_at l vs f l ≡ vs
held_here l vs f = rw (eq-eqb l l refl)

pub held_other : (l : ℕ) (vs : List ℕ) (f : ℕ → List ℕ) (k : ℕ) → k ≢ l → held_at l vs f k ≡ f k
held_other l vs f k d = rw (ne_eqb k l d)

-- a sequence without its value at an end
abbrev pub without : End → List ℕ → List ℕ
without Front vs = but_first vs
without Back vs = but_last vs

pub without_joined : (end : End) (v : ℕ) (vs : List ℕ) → without end (joined end v vs) ≡ vs
without_joined Front v vs = refl
without_joined Back v vs = ap (λ n. take n (vs ++ v ∷ [])) one_less ∙ take-append_seam vs (v ∷ [])
  where
    one_less : length (vs ++ v ∷ []) - 1 ≡ length vs
    one_less = omega (arith, length-append vs (v ∷ []))

-- ---- 02 a): a push and its pop

-- which move a push and a pop at an end are
pub moves_told : (l value : ℕ) → (push_move Front l value ≡ push_front l value) × (push_move Back l value ≡ push_back l value) × (pop_move Front l ≡ pop_front l) × (pop_move Back l ≡ pop_back l)
moves_told l value = (refl, refl, refl, refl)

-- list l is given another sequence, and then the one that it had
held_back : (l : ℕ) (vs ws : List ℕ) (f : ℕ → List ℕ) → ws ≡ f l → held_at l ws (held_at l vs f) ≡ f
held_back l vs ws f e = λ i k. at k (ℕ_discrete k l) i
  where
    at : (k : ℕ) → Dec (k ≡ l) → held_at l ws (held_at l vs f) k ≡ f k
    at k (yes d) = rw d (held_here l ws (held_at l vs f) ∙ e)
    at k (no d) = held_other l ws (held_at l vs f) k d ∙ held_other l vs f k d

module _ (l value : ℕ) (ledger : Ledger) where
  abbrev paired : (ℕ → List ℕ) → Ledger
  paired held = record { pushes = one_more l ledger.pushes; pops = one_more l ledger.pops; held = held }

  -- what the list is given back
  taken : (end : End) → without end (held_at l (joined end value (ledger.held l)) ledger.held l) ≡ ledger.held l
  taken end = ap (without end) (held_here l _ ledger.held) ∙ without_joined end value (ledger.held l)

  given : (end : End) (rest : List ℕ) → ledger.held l ≡ joined end value rest → joined end value (held_at l (without end (ledger.held l)) ledger.held l) ≡ ledger.held l
  given end rest e = ap (joined end value) (held_here l _ ledger.held ∙ ap (without end) e ∙ without_joined end value rest) ∙ sym e

  pub push_pop_noted : (end : End) → noted_done (pop_move end l) (noted_done (push_move end l value) ledger) ≡ one_pair l ledger
  push_pop_noted Front = ap paired (held_back l _ _ ledger.held (taken Front))
  push_pop_noted Back = ap paired (held_back l _ _ ledger.held (taken Back))

  pub pop_push_noted : (end : End) (rest : List ℕ) → ledger.held l ≡ joined end value rest → noted_done (push_move end l value) (noted_done (pop_move end l) ledger) ≡ one_pair l ledger
  pop_push_noted Front rest e = ap paired (held_back l _ _ ledger.held (given Front rest e))
  pop_push_noted Back rest e = ap paired (held_back l _ _ ledger.held (given Back rest e))

-- two calls that are done, by the numbers that they give
pub both_noted : (l : ℕ) (call back : Move) (ledger : Ledger) {n k : ℕ} → n ≡ 0 → k ≡ 0 → noted_done back (noted_done call ledger) ≡ one_pair l ledger
    → let once = cond (eqb n 0) (noted_done call ledger) ledger in cond (eqb k 0) (noted_done back once) once ≡ one_pair l ledger
both_noted l call back ledger {n} {k} z y e = rw (eq-eqb n 0 z, eq-eqb k 0 y) e
