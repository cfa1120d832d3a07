-- Demand 2, clause by clause, on any engine: what the calls do to the sequence that a list holds. One law is for both ends where upstream has two contracts.
use mathlib.Core.Path.{◌≡◌, refl, sym, ap, subst, ◌∙◌}
use mathlib.Core.Logic.{◌↔◌, ◌≢◌}
use mathlib.Core.List.{List, [], ◌∷◌, ◌++◌, reverse}
use Prim.Native.Nat.{ℕ, ◌+◌, ◌<◌}
use native.Mathlib.Decide.{ℕ_discrete}
use native.Mathlib.Omega.{arith}
use lib.ListN.{length, take, drop, get_or-replicate, length-map}
use lib.Seq.{get_or-set_same, get_or-set_other}
use Rattle.chains.specs.Chain.{cell}
use Rattle.chains.proofs.Count.{count-append}
use Rattle.shapes.specs.declared.End.{End}
use Rattle.shapes.specs.Ends.{joined, contents, from_end}
use Rattle.shapes.specs.Shape.{Shape, chain_at, joined_up, put, Room}
use Rattle.shapes.specs.Changes.{OtherEntries, OtherLists}
use Rattle.shapes.specs.Moves.{Move, ask_length, clear}
use Rattle.engines.specs.Engine.{Engine}
use Rattle.engines.specs.Sound.{SoundBook}
use Rattle.engines.specs.Laws.{Lawful}
use Rattle.engines.specs.Calls.{Called, setup_call, length_call, clear_call, read_call}
use Rattle.engines.specs.Done.{Refused}
use Rattle.engines.specs.Moves.{State, left, number_of, after, View, SoundState, FreeWiped}
use Rattle.engines.proofs.Shape.{unique_book}
use Rattle.engines.proofs.Found.{listed}
use Rattle.engines.proofs.Fresh.{setup_sound, setup_keeps}
use Rattle.engines.proofs.Outcomes.{length_done, push_refused, push_done, pop_refused, pop_done, clear_refused, clear_done, read_done}
use Rattle.engines.proofs.Exactly.{push_zero, pop_five, pop_zero}
use Rattle.engines.proofs.After.{push_at, pop_at, refused_same, refused_state, done_sound}

-- ---- the sequence of a list

module _ {E : Engine} (L : Lawful E) {st : State E} {l : ℕ} {vs : List ℕ} (H : View E st l vs) where
  -- it is told of any sound shape
  pub viewed : {s : Shape} → SoundBook E st.links st.values st.book s → contents st.values (chain_at s l) ≡ vs
  viewed S = ap (λ (t : Shape). contents st.values (chain_at t l)) (unique_book L S H.sound) ∙ H.holds

  -- it is as long as its slots are many
  pub as_long_lem : {s : Shape} → SoundBook E st.links st.values st.book s → length (chain_at s l) ≡ length vs
  as_long_lem {s} S = sym (length-map (chain_at s l) (cell st.values)) ∙ ap length (viewed S)

-- a list holds one sequence
pub view_unique : {E : Engine} (L : Lawful E) {st : State E} {l : ℕ} {vs ws : List ℕ} → View E st l vs → View E st l ws → vs ≡ ws
view_unique L H G = sym (viewed L H G.sound) ∙ G.holds

-- ---- what a done call leaves, as a sequence

module _ {E : Engine} {st : State E} (r : Called E) {s : Shape} (S : SoundBook E st.links st.values st.book s) {l : ℕ} (xs fs : List ℕ)
    (T : SoundBook E r.links r.values r.book (put s l xs fs)) (B : OtherEntries st.book l r.book) where
  -- list l holds what its new slots hold
  here : {us : List ℕ} → l < st.book.lists → contents r.values xs ≡ us → View E (left r) l us
  here h e =
      record {
        shape = put s l xs fs;
        sound = T;
        listed = omega (arith, B.same_lists);
        holds = ap (contents r.values) (get_or-set_same s.chains l xs [] (omega (arith, S.pool.lists, listed S l h))) ∙ e;
      }

  -- every other list holds what it held
  other : Lawful E → OtherLists st.values s l r.values → {k : ℕ} {ws : List ℕ} → k ≢ l → View E st k ws → View E (left r) k ws
  other L O {k} d H =
      record {
        shape = put s l xs fs;
        sound = T;
        listed = omega (arith, H.listed, B.same_lists);
        holds = ap (contents r.values) (get_or-set_other s.chains l k xs [] d) ∙ O k d ∙ viewed L H S;
      }

-- ---- setup

-- upstream's `new` (N1 and N2 of docs/CONTRACTS.md): each list is empty
pub setup_empty : {E : Engine} (L : Lawful E) (places : ℕ) (links : E.Links) (values : List ℕ) (lists : ℕ) (shares limits : List ℕ) (l : ℕ)
    → (setup_call E places links values lists shares limits).number ≡ 0 → l < lists → View E (left (setup_call E places links values lists shares limits)) l []
setup_empty {E} L places links values lists shares limits l z h =
    record {
      shape = _;
      sound = setup_sound L places links values lists shares limits z;
      listed = omega (arith, (setup_keeps L places links values lists shares limits z).as_many);
      holds = ap (contents (setup_call E places links values lists shares limits).values) (get_or-replicate {A = List ℕ} lists l [] [] h);
    }

-- ---- list l

module _ {E : Engine} (L : Lawful E) {st : State E} {l : ℕ} {vs : List ℕ} (H : View E st l vs) where
  -- upstream's `push_back` (B2 and B3) and `push_front` (F2 and F3): the old sequence, and the value at that end
  pub push_appends : (end : End) (value : ℕ) → (push_at E st end l value).number ≡ 0 → View E (left (push_at E st end l value)) l (joined end value vs)
  push_appends end value z =
      let (s, S, P) = push_done L st.links st.values st.book l end value z in
      here (push_at E st end l value) S (joined end P.slot (chain_at s l)) P.rest P.sound P.book H.listed (P.holds ∙ ap (joined end value) (viewed L H S))

  -- upstream's `pop_back` (PB3 to PB5) and `pop_front` (PF3 to PF5): the value at that end is handed out, and all but it stay
  pub pop_takes : (end : End) → (pop_at E st end l).number ≡ 0 → (rest : List ℕ) × (vs ≡ joined end (pop_at E st end l).value rest) × View E (left (pop_at E st end l)) l rest
  pop_takes end z =
      let (s, S, P) = pop_done L st.links st.values st.book l end z in
      (_, sym (viewed L H S) ∙ P.holds, here (pop_at E st end l) S P.rest (P.slot ∷ s.idle) P.sound P.book H.listed refl)

  -- what upstream asks of the caller of a pop (PB2 and PF2) is tested: the pop is done exactly on a list that holds something, and 5 is given exactly on an empty one
  pub pop_five_exactly : (end : End) → let number = (pop_at E st end l).number in (number ≡ 0 ↔ (0 < length vs)) × (number ≡ 5 ↔ (length vs ≡ 0))
  pop_five_exactly end =
      (rw (as_long_lem L H H.sound) at (pop_zero L H.sound l H.listed end), rw (as_long_lem L H H.sound) at (pop_five L H.sound l H.listed end))

  -- 01: "equals popping the front until the list is empty"
  pub clear_empties : number_of E st (clear l) ≡ 0 → View E (after E st (clear l)) l []
  clear_empties z =
      let (s, S, C) = clear_done L st.links st.values st.book l z in
      here (clear_call E st.links st.values st.book l) S [] (reverse (chain_at s l) ++ s.idle) C.sound C.book H.listed refl

  -- ---- what is read of it

  pub length_is : number_of E st (ask_length l) ≡ 0 → (length_call E st.links st.values st.book l).length ≡ length vs
  length_is z = let (s, S, n) = length_done L st.links st.values st.book l z in n ∙ as_long_lem L H S

  -- 01: "write the list's values into a lent 64-bit buffer from place `at` on, and return how many. Every other place keeps what it held".
  -- Demand 2: "The backward reading is the forward one reversed"
  pub read_is : (end : End) (buffer : List ℕ) (at : ℕ) → let r = read_call E st.links st.values st.book l end buffer at in
      r.answer.refusal.number ≡ 0 → (r.answer.count ≡ length vs) × (r.buffer ≡ take at buffer ++ from_end end vs ++ drop (at + length vs) buffer)
  read_is end buffer at z =
      let (s, S, R) = read_done L st.links st.values st.book l end buffer at z in
      (R.counted ∙ as_long_lem L H S, R.places ∙ (λ i. take at buffer ++ from_end end (viewed L H S i) ++ drop (at + as_long_lem L H S i) buffer))

-- ---- every other list, whatever the number

module _ {E : Engine} (L : Lawful E) {st : State E} {k : ℕ} {ws : List ℕ} (H : View E st k ws) (l : ℕ) (d : k ≢ l) where
  -- where the call is refused the state is as it was
  still : {r : Called E} → Refused E st.links st.values st.book r → View E (left r) k ws
  still R = subst (λ (t : State E). View E t k ws) (sym (refused_same E st R)) H

  pub push_others : (end : End) (value : ℕ) → View E (left (push_at E st end l value)) k ws
  push_others end value = go (ℕ_discrete (push_at E st end l value).number 0)
    where
      go : Dec ((push_at E st end l value).number ≡ 0) → View E (left (push_at E st end l value)) k ws
      go (no n) = still (push_refused E st.links st.values st.book l end value n)
      go (yes z) =
          let (s, S, P) = push_done L st.links st.values st.book l end value z in
          other (push_at E st end l value) S (joined end P.slot (chain_at s l)) P.rest P.sound P.book L P.other_lists d H

  pub pop_others : (end : End) → View E (left (pop_at E st end l)) k ws
  pop_others end = go (ℕ_discrete (pop_at E st end l).number 0)
    where
      go : Dec ((pop_at E st end l).number ≡ 0) → View E (left (pop_at E st end l)) k ws
      go (no n) = still (pop_refused E st.links st.values st.book l end n)
      go (yes z) =
          let (s, S, P) = pop_done L st.links st.values st.book l end z in
          other (pop_at E st end l) S P.rest (P.slot ∷ s.idle) P.sound P.book L P.other_lists d H

  pub clear_others : View E (after E st (clear l)) k ws
  clear_others = go (ℕ_discrete (number_of E st (clear l)) 0)
    where
      go : Dec (number_of E st (clear l) ≡ 0) → View E (after E st (clear l)) k ws
      go (no n) = still (clear_refused E st.links st.values st.book l n)
      go (yes z) =
          let (s, S, C) = clear_done L st.links st.values st.book l z in
          other (clear_call E st.links st.values st.book l) S [] (reverse (chain_at s l) ++ s.idle) C.sound C.book L C.other_lists d H

-- ---- a refused call

-- every list, list l too, holds what it held, whichever of the nine calls it is
pub refused_holds : (E : Engine) (st : State E) (m : Move) {l : ℕ} {vs : List ℕ} → number_of E st m ≢ 0 → View E st l vs → View E (after E st m) l vs
refused_holds E st m {l} {vs} n H = subst (λ (t : State E). View E t l vs) (sym (refused_state E st m n)) H

-- ---- when a push appends

-- 01: "The pushes promise to append always .. it holds exactly when neither 6 nor 7 applies"
pub push_room : {E : Engine} (L : Lawful E) {st : State E} {s : Shape} → SoundBook E st.links st.values st.book s → (l : ℕ) → l < st.book.lists → (end : End) (value : ℕ)
    → (push_at E st end l value).number ≡ 0 ↔ Room (take st.book.lists st.book.entries) s l
push_room L S l h end value = push_zero L S l h end value

-- ---- free slots

wiped_in : {E : Engine} {st : State E} → SoundState E st → FreeWiped E st
wiped_in (s, S) =
    (s, S, λ y low high none. S.pool.wiped y (omega (arith, none, S.pool.once y low high, count-append y (joined_up s.chains) s.idle)))

-- demand 2: "Every free slot's value is zero after a done call": after setup, and after each of the other nine
pub setup_wiped : {E : Engine} (L : Lawful E) (places : ℕ) (links : E.Links) (values : List ℕ) (lists : ℕ) (shares limits : List ℕ) → (setup_call E places links values lists shares limits).number ≡ 0
    → FreeWiped E (left (setup_call E places links values lists shares limits))
setup_wiped L places links values lists shares limits z = wiped_in (_, setup_sound L places links values lists shares limits z)

pub free_wiped : {E : Engine} (L : Lawful E) (st : State E) (m : Move) → number_of E st m ≡ 0 → FreeWiped E (after E st m)
free_wiped L st m z = wiped_in (done_sound L st m z)
