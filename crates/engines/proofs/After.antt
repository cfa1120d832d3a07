-- The state that a call leaves, on any engine: where it is refused the state is as it was, and where it is done the pool is sound.
use mathlib.Core.Path.{◌≡◌, refl}
use mathlib.Core.Logic.{◌↔◌, ◌≢◌}
use Prim.Native.Nat.{ℕ}
use Rattle.shapes.specs.declared.End.{End}
use Rattle.shapes.specs.declared.End.TheVariants.{Front, Back}
use Rattle.shapes.specs.Moves.{Move, check, ask_length, push_back, push_front, pop_back, pop_front, read_forward, read_backward, clear}
use Rattle.engines.specs.Engine.{Engine}
use Rattle.engines.specs.Laws.{Lawful}
use Rattle.engines.specs.Calls.{Called, push_call, pop_call}
use Rattle.engines.specs.Done.{Refused}
use Rattle.engines.specs.Moves.{State, left, number_of, after, SoundState}
use Rattle.engines.proofs.Outcomes.{check_accepts, length_done, push_refused, push_done, pop_refused, pop_done, clear_refused, clear_done, read_done}

module _ (E : Engine) (st : State E) where
  -- the calls that may change the pool, at either end
  abbrev pub push_at : End → ℕ → ℕ → Called E
  push_at end l value = push_call E st.links st.values st.book l end value

  abbrev pub pop_at : End → ℕ → Called E
  pop_at end l = pop_call E st.links st.values st.book l end

  -- ---- refused

  pub refused_same : {r : Called E} → Refused E st.links st.values st.book r → left r ≡ st
  refused_same R = λ i. record { links = R.same_links i; values = R.same_values i; book = R.same_book i }

  -- demand 1: "A refused call changes no lent memory and no book". Of a read's buffer `read_refused` says it
  pub refused_state : (m : Move) → number_of E st m ≢ 0 → after E st m ≡ st
  refused_state check d = refl
  refused_state (ask_length l) d = refl
  refused_state (push_back l value) d = refused_same (push_refused E st.links st.values st.book l Back value d)
  refused_state (push_front l value) d = refused_same (push_refused E st.links st.values st.book l Front value d)
  refused_state (pop_back l) d = refused_same (pop_refused E st.links st.values st.book l Back d)
  refused_state (pop_front l) d = refused_same (pop_refused E st.links st.values st.book l Front d)
  refused_state (read_forward l buffer at) d = refl
  refused_state (read_backward l buffer at) d = refl
  refused_state (clear l) d = refused_same (clear_refused E st.links st.values st.book l d)

-- ---- done

module _ {E : Engine} (L : Lawful E) (st : State E) where
  pub checked_sound : number_of E st check ≡ 0 ↔ SoundState E st
  checked_sound = check_accepts L st.links st.values st.book

  push_sound : (end : End) (l value : ℕ) → (push_at E st end l value).number ≡ 0 → SoundState E (left (push_at E st end l value))
  push_sound end l value z = let (s, S, P) = push_done L st.links st.values st.book l end value z in (_, P.sound)

  pop_sound : (end : End) (l : ℕ) → (pop_at E st end l).number ≡ 0 → SoundState E (left (pop_at E st end l))
  pop_sound end l z = let (s, S, P) = pop_done L st.links st.values st.book l end z in (_, P.sound)

  -- after a done call the pool is sound, which is upstream's `wf`
  pub done_sound : (m : Move) → number_of E st m ≡ 0 → SoundState E (after E st m)
  done_sound check z = checked_sound.0 z
  done_sound (ask_length l) z = let (s, S, h) = length_done L st.links st.values st.book l z in (s, S)
  done_sound (push_back l value) z = push_sound Back l value z
  done_sound (push_front l value) z = push_sound Front l value z
  done_sound (pop_back l) z = pop_sound Back l z
  done_sound (pop_front l) z = pop_sound Front l z
  done_sound (read_forward l buffer at) z = let (s, S, h) = read_done L st.links st.values st.book l Front buffer at z in (s, S)
  done_sound (read_backward l buffer at) z = let (s, S, h) = read_done L st.links st.values st.book l Back buffer at z in (s, S)
  done_sound (clear l) z = let (s, S, C) = clear_done L st.links st.values st.book l z in (_, C.sound)
