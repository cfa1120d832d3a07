-- 02 a), on any engine and at either end: a push taken straight back, and a pop pushed back, leave everything as it was.
use mathlib.Core.Path.{◌≡◌, refl, sym, ap, subst, ◌∙◌}
use mathlib.Core.List.{List, [], ◌∷◌}
use Prim.Native.Nat.{ℕ, ◌<◌}
use native.Mathlib.Omega.{arith}
use lib.ListN.{length, set}
use lib.Seq.{get_or-set_same, set-get_or}
use Rattle.books.specs.Book.{wipe_word}
use Rattle.books.specs.Place.{no_place}
use Rattle.chains.specs.Chain.{cell}
use Rattle.shapes.specs.declared.End.{End}
use Rattle.shapes.specs.Ends.{joined, contents}
use Rattle.shapes.specs.Shape.{Shape, chain_at, put}
use Rattle.shapes.specs.Changes.{OtherEntries}
use Rattle.engines.specs.Engine.{Engine}
use Rattle.engines.specs.Sound.{SoundBook}
use Rattle.engines.specs.Laws.{Lawful}
use Rattle.engines.specs.Calls.{Called}
use Rattle.engines.specs.Done.{Pushes, Pops}
use Rattle.engines.specs.Moves.{State, left}
use Rattle.engines.specs.Undo.{Undone, SameHoldings, HeldAgain}
use Rattle.engines.proofs.Found.{listed}
use Rattle.engines.proofs.Steps.{joined_one, contents_joined}
use Rattle.engines.proofs.Book.{others_twice, state_one}
use Rattle.engines.proofs.Outcomes.{push_done, pop_done}
use Rattle.engines.proofs.Exactly.{pop_zero}
use Rattle.engines.proofs.After.{push_at, pop_at}
use Rattle.engines.proofs.Again.{slot_free, push_of_lem, pop_of_lem, push_leaves_one, pop_makes_room}
use Rattle.engines.proofs.Popping.{set_set}

-- list l becomes another, and then what it was
put_back : (s : Shape) (l : ℕ) (xs fs : List ℕ) → put (put s l xs fs) l (chain_at s l) s.idle ≡ s
put_back s l xs fs = λ i. record { chains = (set_set s.chains l xs (chain_at s l) ∙ set-get_or s.chains l []) i; idle = s.idle }

-- a cell is written, and then holds what it held
cell_back : (values : List ℕ) (x v : ℕ) {w : ℕ} → cell values x ≡ w → set (set values x v) x w ≡ values
cell_back values x v {w} e = set_set values x v w ∙ ap (set values x) (sym e) ∙ set-get_or values x 0

-- the law leaves no choice: two results that both meet it are the same
pub undone_one : {E : Engine} {st : State E} {value : ℕ} {r r' : Called E} → Undone E st value r → Undone E st value r' → r ≡ r'
undone_one U W =
    λ i. record {
      number = (U.number ∙ sym W.number) i;
      place = (U.unplaced ∙ sym W.unplaced) i;
      value = (U.handed ∙ sym W.handed) i;
      book = (U.same_book ∙ sym W.same_book) i;
      links = (U.same_links ∙ sym W.same_links) i;
      values = (U.same_values ∙ sym W.same_values) i;
    }

-- ---- the stronger law implies the weaker

module _ {E : Engine} {st : State E} {value : ℕ} {r : Called E} (U : Undone E st value r) where
  pub undone_left : left r ≡ st
  undone_left = λ i. record { links = U.same_links i; values = U.same_values i; book = U.same_book i }

  pub undone_held : {s : Shape} → SoundBook E st.links st.values st.book s → HeldAgain E st value r
  undone_held {s} S =
      record {
        number = U.number;
        handed = U.handed;
        holdings = subst (λ (t : State E). SameHoldings E st t) (sym undone_left)
            (record { was = s; was_sound = S; is = s; is_sound = S; lists = refl; granted = λ l h. (refl, refl); sequence = λ l h. refl; lengths = λ l h. refl; free = refl; stored = λ l h. refl; free_count = refl });
      }

module _ {E : Engine} (L : Lawful E) where
  -- two sound states of one shape, with the same values and the rest of the book the same, are one
  same_left : {st : State E} {value : ℕ} {r : Called E} {s : Shape} (l : ℕ) → l < st.book.lists → r.number ≡ 0 → r.place ≡ no_place → r.value ≡ value
      → SoundBook E st.links st.values st.book s → SoundBook E r.links r.values r.book s → r.values ≡ st.values → OtherEntries st.book l r.book → Undone E st value r
  same_left {st} {value} {r} l below z u v S T same O =
      let e : left r ≡ st = state_one L {st = st} {t = left r} l below S T same O in
      record { number = z; unplaced = u; handed = v; same_links = ap (λ (x : State E). x.links) e; same_values = same; same_book = ap (λ (x : State E). x.book) e }

  module _ (st : State E) (l : ℕ) (end : End) where
    -- ---- a push taken straight back

    module _ (value : ℕ) where
      abbrev pressed : State E
      pressed = left (push_at E st end l value)

      -- 02 a), first half: of a push that is done
      pub push_undone : (push_at E st end l value).number ≡ 0 → Undone E st value (pop_at E pressed end l)
      push_undone z = let (s, S, P) = push_done L st.links st.values st.book l end value z in go s S P
        where
          go : (s : Shape) → SoundBook E st.links st.values st.book s → Pushes E st.links st.values st.book end l value s (push_at E st end l value) → Undone E st value (pop_at E pressed end l)
          go s S P = same_left l P.listed Q.number Q.unplaced given S there (Q.cells ∙ (λ i. set (P.cells i) (same.0 i) wipe_word) ∙ cell_back st.values P.slot value was) (others_twice P.book Q.book)
            where
              xs : List ℕ
              xs = joined end P.slot (chain_at s l)

              chain : chain_at (put s l xs P.rest) l ≡ xs
              chain = get_or-set_same s.chains l xs [] (omega (arith, S.pool.lists, listed S l P.listed))

              Q : Pops E pressed.links pressed.values pressed.book end l (put s l xs P.rest) (pop_at E pressed end l)
              Q = pop_of_lem L pressed l end P.sound (push_leaves_one L st l end value z)

              -- the slot that the pop releases is the one that the push took
              same : (Q.slot ≡ P.slot) × (Q.rest ≡ chain_at s l)
              same = joined_one end Q.slot P.slot Q.rest (chain_at s l) (sym Q.last ∙ chain)

              given : (pop_at E pressed end l).value ≡ value
              given = (joined_one end _ value _ _ (sym Q.holds ∙ ap (contents pressed.values) chain ∙ P.holds)).0

              shape : put (put s l xs P.rest) l Q.rest (Q.slot ∷ P.rest) ≡ s
              shape = (λ i. put (put s l xs P.rest) l (same.1 i) (same.0 i ∷ P.rest)) ∙ (λ i. put (put s l xs P.rest) l (chain_at s l) (sym P.first i)) ∙ put_back s l xs P.rest

              there : SoundBook E (pop_at E pressed end l).links (pop_at E pressed end l).values (pop_at E pressed end l).book s
              there = subst (λ (u : Shape). SoundBook E (pop_at E pressed end l).links (pop_at E pressed end l).values (pop_at E pressed end l).book u) shape Q.sound

              -- a free slot held the wipe word
              was : cell st.values P.slot ≡ wipe_word
              was = S.pool.wiped P.slot (slot_free P)

    -- ---- a pop pushed back

    abbrev lifted : State E
    lifted = left (pop_at E st end l)

    abbrev taken : ℕ
    taken = (pop_at E st end l).value

    -- 02 a), second half: of a pop that is done, and so of a sound pool. `pop_makes_room` says why the push is never refused
    pub pop_undone : (pop_at E st end l).number ≡ 0 → Undone E st 0 (push_at E lifted end l taken)
    pop_undone z = let (s, S, Q) = pop_done L st.links st.values st.book l end z in go s S Q
      where
        go : (s : Shape) → SoundBook E st.links st.values st.book s → Pops E st.links st.values st.book end l s (pop_at E st end l) → Undone E st 0 (push_at E lifted end l taken)
        go s S Q = same_left l Q.listed P.number P.unplaced P.no_value S there (P.cells ∙ (λ i. set (Q.cells i) (same i) taken) ∙ cell_back st.values Q.slot wipe_word was) (others_twice Q.book P.book)
          where
            t : Shape
            t = put s l Q.rest (Q.slot ∷ s.idle)

            chain : chain_at t l ≡ Q.rest
            chain = get_or-set_same s.chains l Q.rest [] (omega (arith, S.pool.lists, listed S l Q.listed))

            P : Pushes E lifted.links lifted.values lifted.book end l taken t (push_at E lifted end l taken)
            P = push_of_lem L lifted l end Q.sound taken (pop_makes_room L st l end z taken)

            -- the slot that the push takes is the one that the pop released
            both : P.slot ∷ P.rest ≡ Q.slot ∷ s.idle
            both = sym P.first

            same : P.slot ≡ Q.slot
            same = cc both

            rest : P.rest ≡ s.idle
            rest = cc both

            shape : put t l (joined end P.slot (chain_at t l)) P.rest ≡ s
            shape = (λ i. put t l (joined end (same i) (chain i)) (rest i)) ∙ (λ i. put t l (sym Q.last i) s.idle) ∙ put_back s l Q.rest (Q.slot ∷ s.idle)

            there : SoundBook E (push_at E lifted end l taken).links (push_at E lifted end l taken).values (push_at E lifted end l taken).book s
            there = subst (λ (u : Shape). SoundBook E (push_at E lifted end l taken).links (push_at E lifted end l taken).values (push_at E lifted end l taken).book u) shape P.sound

            was : cell st.values Q.slot ≡ taken
            was = (joined_one end _ taken _ _ (sym (contents_joined end st.values Q.slot Q.rest) ∙ ap (contents st.values) (sym Q.last) ∙ Q.holds)).0

    -- the same, told from soundness: a list of a sound pool that holds something
    pub sound_pop_undone : {s : Shape} → SoundBook E st.links st.values st.book s → l < st.book.lists → 0 < length (chain_at s l)
        → ((pop_at E st end l).number ≡ 0) × Undone E st 0 (push_at E lifted end l taken)
    sound_pop_undone S below some = let z = (pop_zero L S l below end).1 some in (z, pop_undone z)
