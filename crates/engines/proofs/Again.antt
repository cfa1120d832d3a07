-- 02 a)'s weaker law, on any engine and at either end: a push taken straight back, and a pop pushed back, leave what each list holds, and as many free slots. It rests on nothing of the stronger law.
use mathlib.Core.Path.{◌≡◌, refl, sym, ap, subst, ◌∙◌}
use mathlib.Core.Logic.{◌⊎◌, inl, inr}
use mathlib.Core.List.{List, [], ◌∷◌}
use Prim.Native.Nat.{ℕ, suc, ◌+◌, ◌-◌, ◌<◌}
use native.Mathlib.Decide.{ℕ_discrete, dec_lt}
use native.Mathlib.Omega.{arith}
use lib.ListN.{length, take, length-map}
use lib.Seq.{get_or-set_same, get_or-set_other, set-get_or, length-take-le}
use Rattle.books.specs.declared.Entry.{Entry}
use Rattle.books.specs.Book.{zero_entry, entry_at, AnyBook}
use Rattle.chains.specs.Count.{count}
use Rattle.chains.specs.Chain.{cell}
use Rattle.chains.proofs.Count.{hit_same}
use Rattle.shapes.specs.declared.End.{End}
use Rattle.shapes.specs.Ends.{joined, contents}
use Rattle.shapes.specs.Shape.{Shape, chain_at, put, lacks, Room}
use Rattle.shapes.specs.Changes.{OtherEntries}
use Rattle.shapes.proofs.Ends.{length_joined}
use Rattle.shapes.proofs.Shape.{lacks_set, lacks_told}
use Rattle.engines.specs.Engine.{Engine}
use Rattle.engines.specs.Sound.{SoundBook}
use Rattle.engines.specs.Laws.{Lawful}
use Rattle.engines.specs.Calls.{Called}
use Rattle.engines.specs.Done.{Pushes, Pops}
use Rattle.engines.specs.Moves.{State, left}
use Rattle.engines.specs.Undo.{SameHoldings, HeldAgain}
use Rattle.engines.proofs.Shape.{unique_book}
use Rattle.engines.proofs.Found.{listed, entry_is, within, stored-length, stored_free}
use Rattle.engines.proofs.Steps.{joined_one}
use Rattle.engines.proofs.Book.{others_twice}
use Rattle.engines.proofs.Outcomes.{push_done, pop_done}
use Rattle.engines.proofs.Exactly.{pop_zero, push_zero}
use Rattle.engines.proofs.After.{push_at, pop_at}

-- every list has the share and the limit that it had
granted_kept : {b c : AnyBook} {l : ℕ} → OtherEntries b l c → (k : ℕ) → Dec (k ≡ l) → ((entry_at c.entries k).share ≡ (entry_at b.entries k).share) × ((entry_at c.entries k).limit ≡ (entry_at b.entries k).limit)
granted_kept O k (yes d) = rw d (O.share, O.limit)
granted_kept O k (no d) = (ap (λ (e : Entry). e.share) (O.others k d), ap (λ (e : Entry). e.limit) (O.others k d))

-- the slot that a push takes was free
pub slot_free : {E : Engine} {links : E.Links} {values : List ℕ} {b : AnyBook} {end : End} {l value : ℕ} {s : Shape} {r : Called E} (P : Pushes E links values b end l value s r) → 0 < count P.slot s.idle
slot_free {E} {links} {values} {b} {end} P = omega (arith, ap (count P.slot) P.first, hit_same P.slot)

-- sequences of the same values are as long
holdings_of : {E : Engine} {st t : State E} {s u : Shape} (l : ℕ) → SoundBook E st.links st.values st.book s → SoundBook E t.links t.values t.book u → OtherEntries st.book l t.book
    → ((k : ℕ) → Dec (k ≡ l) → contents t.values (chain_at u k) ≡ contents st.values (chain_at s k)) → length u.idle ≡ length s.idle → SameHoldings E st t
holdings_of {E} {st} {t} {s} {u} l S T O held many =
    record {
      was = s;
      was_sound = S;
      is = u;
      is_sound = T;
      lists = O.same_lists;
      granted = λ k h. granted_kept O k (ℕ_discrete k l);
      sequence = λ k h. held k (ℕ_discrete k l);
      lengths = λ k h. lengths k;
      free = many;
      stored = λ k h. stored-length T k (omega (arith, O.same_lists)) ∙ lengths k ∙ sym (stored-length S k h);
      free_count = stored_free T ∙ many ∙ sym (stored_free S);
    }
  where
    lengths : (k : ℕ) → length (chain_at u k) ≡ length (chain_at s k)
    lengths k = sym (length-map (chain_at u k) (cell t.values)) ∙ ap length (held k (ℕ_discrete k l)) ∙ length-map (chain_at s k) (cell st.values)

module _ {E : Engine} (L : Lawful E) (st : State E) (l : ℕ) (end : End) where
  -- what a done push and a done pop mean on the shape that the pool is known to have
  pub push_of_lem : {s : Shape} → SoundBook E st.links st.values st.book s → (value : ℕ) → (push_at E st end l value).number ≡ 0
      → Pushes E st.links st.values st.book end l value s (push_at E st end l value)
  push_of_lem S value z =
      let (t, T, P) = push_done L st.links st.values st.book l end value z in
      subst (λ (u : Shape). Pushes E st.links st.values st.book end l value u (push_at E st end l value)) (unique_book L T S) P

  pub pop_of_lem : {s : Shape} → SoundBook E st.links st.values st.book s → (pop_at E st end l).number ≡ 0 → Pops E st.links st.values st.book end l s (pop_at E st end l)
  pop_of_lem S z =
      let (t, T, P) = pop_done L st.links st.values st.book l end z in
      subst (λ (u : Shape). Pops E st.links st.values st.book end l u (pop_at E st end l)) (unique_book L T S) P

module _ {E : Engine} (L : Lawful E) (st : State E) (l : ℕ) (end : End) where
  -- ---- a push taken straight back

  module _ (value : ℕ) where
    abbrev pressed : State E
    pressed = left (push_at E st end l value)

    -- a list that something was pushed on has something to pop
    pub push_leaves_one : (push_at E st end l value).number ≡ 0 → (pop_at E pressed end l).number ≡ 0
    push_leaves_one z =
        let (s, S, P) = push_done L st.links st.values st.book l end value z in
        let chain = get_or-set_same s.chains l (joined end P.slot (chain_at s l)) [] (omega (arith, S.pool.lists, listed S l P.listed)) in
        (pop_zero L P.sound l (omega (arith, P.listed, P.book.same_lists)) end).1 (omega (arith, ap length chain, length_joined end P.slot (chain_at s l)))

    pub push_held_again : (push_at E st end l value).number ≡ 0 → HeldAgain E st value (pop_at E pressed end l)
    push_held_again z = let (s, S, P) = push_done L st.links st.values st.book l end value z in go s S P
      where
        go : (s : Shape) → SoundBook E st.links st.values st.book s → Pushes E st.links st.values st.book end l value s (push_at E st end l value) → HeldAgain E st value (pop_at E pressed end l)
        go s S P = record { number = push_leaves_one z; handed = given.0; holdings = holdings_of l S Q.sound (others_twice P.book Q.book) held as_many_lem }
          where
            xs : List ℕ
            xs = joined end P.slot (chain_at s l)

            mid : Shape
            mid = put s l xs P.rest

            chain : chain_at mid l ≡ xs
            chain = get_or-set_same s.chains l xs [] (omega (arith, S.pool.lists, listed S l P.listed))

            Q : Pops E pressed.links pressed.values pressed.book end l mid (pop_at E pressed end l)
            Q = pop_of_lem L pressed l end P.sound (push_leaves_one z)

            freed : List ℕ
            freed = Q.slot ∷ P.rest

            as_many_lem : length freed ≡ length s.idle
            as_many_lem = omega (arith, ap length P.first)

            given : ((pop_at E pressed end l).value ≡ value) × (contents (pop_at E pressed end l).values Q.rest ≡ contents st.values (chain_at s l))
            given = joined_one end _ value _ _ (sym Q.holds ∙ ap (contents pressed.values) chain ∙ P.holds)

            there : chain_at (put mid l Q.rest freed) l ≡ Q.rest
            there = get_or-set_same mid.chains l Q.rest [] (omega (arith, P.sound.pool.lists, listed P.sound l (omega (arith, P.listed, P.book.same_lists))))

            held : (k : ℕ) → Dec (k ≡ l) → contents (pop_at E pressed end l).values (chain_at (put mid l Q.rest freed) k) ≡ contents st.values (chain_at s k)
            held k (yes d) = rw d (ap (contents (pop_at E pressed end l).values) there ∙ given.1)
            held k (no d) =
                ap (contents (pop_at E pressed end l).values) (get_or-set_other mid.chains l k Q.rest [] d) ∙ Q.other_lists k d
                ∙ ap (contents pressed.values) (get_or-set_other s.chains l k xs [] d) ∙ P.other_lists k d

  -- ---- a pop pushed back

  abbrev lifted : State E
  lifted = left (pop_at E st end l)

  module _ (s : Shape) (S : SoundBook E st.links st.values st.book s) (Q : Pops E st.links st.values st.book end l s (pop_at E st end l)) where
    abbrev t : Shape
    t = put s l Q.rest (Q.slot ∷ s.idle)

    abbrev es : List Entry
    es = take st.book.lists st.book.entries

    abbrev es' : List Entry
    es' = take lifted.book.lists lifted.book.entries

    one_more_lem : length t.idle ≡ suc (length s.idle)
    one_more_lem = refl

    below : l < lifted.book.lists
    below = omega (arith, Q.listed, Q.book.same_lists)

    chain : chain_at t l ≡ Q.rest
    chain = get_or-set_same s.chains l Q.rest [] (omega (arith, S.pool.lists, listed S l Q.listed))

    one_longer : length (chain_at s l) ≡ suc (length Q.rest)
    one_longer = ap length Q.last ∙ length_joined end Q.slot Q.rest

    limit : (entry_at es' l).limit ≡ (entry_at st.book.entries l).limit
    limit = ap (λ (e : Entry). e.limit) (entry_is Q.sound l below) ∙ Q.book.limit

    share_at : (k : ℕ) → k < lifted.book.lists → (entry_at es' k).share ≡ (entry_at es k).share
    share_at k b =
        ap (λ (e : Entry). e.share) (entry_is Q.sound k b) ∙ (granted_kept Q.book k (ℕ_discrete k l)).0 ∙ ap (λ (e : Entry). e.share) (sym (entry_is S k (omega (arith, Q.book.same_lists))))

    lacking : lacks es' t.chains + ((entry_at es l).share - length (chain_at s l)) ≡ lacks es s.chains + ((entry_at es l).share - length Q.rest)
    lacking =
        omega (
          arith,
          lacks_told es' es t.chains t.chains (omega (arith, many', many, Q.book.same_lists)) (λ k h. (share_at k (omega (arith, many')), refl)),
          ap (λ (ds : List Entry). lacks ds t.chains) (set-get_or es l zero_entry),
          lacks_set es s.chains l (entry_at es l) Q.rest S.pool.lists (listed S l Q.listed) refl,
        )
      where
        many : length es ≡ st.book.lists
        many = length-take-le st.book.lists st.book.entries S.rules.there

        many' : length es' ≡ lifted.book.lists
        many' = length-take-le lifted.book.lists lifted.book.entries Q.sound.rules.there

    -- not 6: the list was within its limit, and is now one shorter. Not 7: the slot that the pop released is free besides those that covered what the lists lack, so that either the list is now below its share, or the lists lack no more than before
    room : Room es' t l
    room =
        record {
          under = omega (arith, limit, ap length chain, one_longer, within S l Q.listed);
          enough = either (dec_lt (length (chain_at t l)) (entry_at es' l).share);
        }
      where
        either : Dec (length (chain_at t l) < (entry_at es' l).share) → (length (chain_at t l) < (entry_at es' l).share) ⊎ (lacks es' t.chains < length t.idle)
        either (yes h) = inl h
        either (no h) = inr (omega (arith, lacking, share_at l below, S.pool.spare, one_more_lem, ap length chain, one_longer))

  module _ (z : (pop_at E st end l).number ≡ 0) where
    -- 02 a): pushing back at that end is never refused, whatever the value is
    pub pop_makes_room : (value : ℕ) → (push_at E lifted end l value).number ≡ 0
    pop_makes_room value = let (s, S, Q) = pop_done L st.links st.values st.book l end z in (push_zero L Q.sound l (below s S Q) end value).1 (room s S Q)

    abbrev taken : ℕ
    taken = (pop_at E st end l).value

    pub pop_held_again : HeldAgain E st 0 (push_at E lifted end l taken)
    pop_held_again = let (s, S, Q) = pop_done L st.links st.values st.book l end z in go s S Q
      where
        go : (s : Shape) → SoundBook E st.links st.values st.book s → Pops E st.links st.values st.book end l s (pop_at E st end l) → HeldAgain E st 0 (push_at E lifted end l taken)
        go s S Q = record { number = P.number; handed = P.no_value; holdings = holdings_of l S P.sound (others_twice Q.book P.book) held as_many_lem }
          where
            P : Pushes E lifted.links lifted.values lifted.book end l taken (t s S Q) (push_at E lifted end l taken)
            P = push_of_lem L lifted l end Q.sound taken (pop_makes_room taken)

            xs : List ℕ
            xs = joined end P.slot (chain_at (t s S Q) l)

            as_many_lem : length P.rest ≡ length s.idle
            as_many_lem = omega (arith, one_more_lem s S Q, ap length P.first)

            there : chain_at (put (t s S Q) l xs P.rest) l ≡ xs
            there = get_or-set_same (t s S Q).chains l xs [] (omega (arith, Q.sound.pool.lists, listed Q.sound l (below s S Q)))

            held : (k : ℕ) → Dec (k ≡ l) → contents (push_at E lifted end l taken).values (chain_at (put (t s S Q) l xs P.rest) k) ≡ contents st.values (chain_at s k)
            held k (yes d) =
                rw d (ap (contents (push_at E lifted end l taken).values) there ∙ P.holds ∙ ap (λ (ys : List ℕ). joined end taken (contents lifted.values ys)) (chain s S Q) ∙ sym Q.holds)
            held k (no d) =
                ap (contents (push_at E lifted end l taken).values) (get_or-set_other (t s S Q).chains l k xs [] d) ∙ P.other_lists k d
                ∙ ap (contents lifted.values) (get_or-set_other s.chains l k Q.rest [] d) ∙ Q.other_lists k d
