-- Demand 3 holds at every point of a trace, on any engine: after an accepted setup and any of the other nine calls and of the quick ones. One law is for both ends.
use mathlib.Core.Path.{◌≡◌, refl, sym, ap, subst, ◌∙◌}
use mathlib.Core.Logic.{◌↔◌, ◌≢◌, inl}
use mathlib.Core.Bool.{cond}
use mathlib.Core.List.{List, [], ◌∷◌, ◌++◌, reverse}
use Prim.Native.Nat.{ℕ, zero, suc, ◌+◌, ◌-◌, ◌≤◌, ◌<◌}
use native.Mathlib.Nat.{le_of_suc-le-suc, not-suc-le-zero}
use native.Mathlib.Decide.{ℕ_discrete}
use native.Mathlib.Omega.{arith}
use lib.Dec.{eqb}
use lib.ListN.{length, get_or, set, take, get_or-replicate, length-append}
use lib.Seq.{length-take-le, get_or-set_same, get_or-set_other, take-append_seam}
use borrow.Author.Tests.{eq-eqb, ne_eqb}
use Rattle.books.specs.declared.Entry.{Entry}
use Rattle.books.specs.Book.{zero_entry, entry_at}
use Rattle.chains.proofs.Count.{count-append}
use Rattle.shapes.specs.declared.End.{End}
use Rattle.shapes.specs.declared.End.TheVariants.{Front, Back}
use Rattle.shapes.specs.Ends.{joined, contents}
use Rattle.shapes.specs.Shape.{Shape, chain_at, put, joined_up, lacks}
use Rattle.shapes.proofs.Ends.{length_joined}
use Rattle.shapes.specs.Setup.{added_up, fresh_shape}
use Rattle.shapes.proofs.Shape.{joined_length}
use Rattle.shapes.specs.Changes.{OtherEntries, OtherLists}
use Rattle.shapes.specs.Moves.{Move, check, ask_length, push_back, push_front, pop_back, pop_front, read_forward, read_backward, clear, QuickMove, quick_push_back, quick_push_front, Call, move_of, checked_of}
use Rattle.engines.specs.Engine.{Engine}
use Rattle.engines.specs.Sound.{SoundBook}
use Rattle.engines.specs.Laws.{Lawful}
use Rattle.engines.specs.Calls.{Called, setup_call, clear_call}
use Rattle.engines.specs.Moves.{State, left, number_of, after, quick_called, after_call}
use Rattle.shapes.specs.Ledger.{Ledger, nothing_noted, one_more, none_at, held_at, noted_done}
use Rattle.shapes.proofs.Ledger.{more_here, more_other, none_here, none_other, held_here, held_other, without, without_joined}
use Rattle.engines.specs.Trace.{others_lack, noted, EachPush, Trace, begins, goes_on, Demand3}
use Rattle.engines.proofs.Shape.{unique_book}
use Rattle.engines.proofs.Found.{listed, entry_is, within, stored-length, stored_free, all_slots}
use Rattle.engines.proofs.Fresh.{setup_keeps}
use Rattle.engines.proofs.When.{check_given, length_given, push_given, pop_given, clear_given, read_given}
use Rattle.engines.proofs.Outcomes.{push_done, pop_done, clear_done}
use Rattle.engines.proofs.Exactly.{not_broken, push_six, push_seven, push_zero}
use Rattle.engines.proofs.QuickSound.{quick_as_checked, call_as_move}
use Rattle.engines.proofs.After.{push_at, pop_at, refused_state}

-- ---- what the lists lack

-- what all lists lack is what the others lack and what list l does
lacks_others : (es : List Entry) (cs : List (List ℕ)) (l : ℕ) → l < length es → lacks es cs ≡ lacks (set es l zero_entry) cs + ((entry_at es l).share - length (get_or cs l []))
lacks_others [] cs l b = absurd (not-suc-le-zero b)
lacks_others (e ∷ es) [] zero b = omega arith
lacks_others (e ∷ es) (xs ∷ cs) zero b = omega arith
lacks_others (e ∷ es) [] (suc l) b = omega (arith, lacks_others es [] l (le_of_suc-le-suc b))
lacks_others (e ∷ es) (xs ∷ cs) (suc l) b = omega (arith, lacks_others es cs l (le_of_suc-le-suc b))

-- ---- what a trace keeps

-- what every call keeps: soundness, the shares and limits of the setup, and the account of each list's length
record Kept (E : Engine) (places lists : ℕ) (shares limits : List ℕ) (st : State E) (ledger : Ledger) (s : Shape) : Type 0 where
  sound : SoundBook E st.links st.values st.book s
  same_places : st.book.places ≡ places
  as_many : st.book.lists ≡ lists
  share : (l : ℕ) → l < lists → (entry_at st.book.entries l).share ≡ get_or shares l 0
  limit : (l : ℕ) → l < lists → (entry_at st.book.entries l).limit ≡ get_or limits l 0
  holds : (l : ℕ) → l < lists → length (chain_at s l) + ledger.pops l ≡ ledger.pushes l
  sequence : (l : ℕ) → l < lists → contents st.values (chain_at s l) ≡ ledger.held l

module _ {E : Engine} (L : Lawful E) (places lists : ℕ) (shares limits : List ℕ) where
  -- ---- each call keeps it

  -- a done call on list l: list l becomes xs, of the length that the ledger then tells, and the ledger of every other list stays
  changed : {st : State E} {ledger ledger' : Ledger} {s : Shape} (r : Called E) (l : ℕ) (xs fs : List ℕ) → Kept E places lists shares limits st ledger s
      → SoundBook E r.links r.values r.book (put s l xs fs) → OtherEntries st.book l r.book
      → OtherLists st.values s l r.values
      → (l < lists → (length xs + ledger'.pops l ≡ ledger'.pushes l) × (contents r.values xs ≡ ledger'.held l))
      → ((k : ℕ) → k ≢ l → (ledger'.pops k ≡ ledger.pops k) × (ledger'.pushes k ≡ ledger.pushes k) × (ledger'.held k ≡ ledger.held k))
      → Kept E places lists shares limits (left r) ledger' (put s l xs fs)
  changed {st} {ledger} {ledger'} {s} r l xs fs K S B O here other =
      record {
        sound = S;
        same_places = B.same_places ∙ K.same_places;
        as_many = B.same_lists ∙ K.as_many;
        share = λ k h. share_at k h (ℕ_discrete k l);
        limit = λ k h. limit_at k h (ℕ_discrete k l);
        holds = λ k h. holds_at k h (ℕ_discrete k l);
        sequence = λ k h. sequence_at k h (ℕ_discrete k l);
      }
    where
      share_at : (k : ℕ) → k < lists → Dec (k ≡ l) → (entry_at r.book.entries k).share ≡ get_or shares k 0
      share_at k h (yes e) = rw e B.share ∙ K.share k h
      share_at k h (no e) = ap (λ (x : Entry). x.share) (B.others k e) ∙ K.share k h

      limit_at : (k : ℕ) → k < lists → Dec (k ≡ l) → (entry_at r.book.entries k).limit ≡ get_or limits k 0
      limit_at k h (yes e) = rw e B.limit ∙ K.limit k h
      limit_at k h (no e) = ap (λ (x : Entry). x.limit) (B.others k e) ∙ K.limit k h

      chains_are : length s.chains ≡ lists
      chains_are = K.sound.pool.lists ∙ length-take-le st.book.lists st.book.entries K.sound.rules.there ∙ K.as_many

      holds_at : (k : ℕ) → k < lists → Dec (k ≡ l) → length (chain_at (put s l xs fs) k) + ledger'.pops k ≡ ledger'.pushes k
      holds_at k h (yes e) = rw (e, get_or-set_same s.chains l xs [] (omega (arith, chains_are))) (here (omega arith)).0
      holds_at k h (no e) = let (p, q, u) = other k e in rw (get_or-set_other s.chains l k xs [] e) (omega (arith, K.holds k h))

      sequence_at : (k : ℕ) → k < lists → Dec (k ≡ l) → contents r.values (chain_at (put s l xs fs) k) ≡ ledger'.held k
      sequence_at k h (yes e) = rw (e, get_or-set_same s.chains l xs [] (omega (arith, chains_are))) (here (omega arith)).1
      sequence_at k h (no e) = let (p, q, u) = other k e in rw (get_or-set_other s.chains l k xs [] e) (O k e ∙ K.sequence k h ∙ sym u)

  module _ {st : State E} {ledger : Ledger} {s : Shape} (K : Kept E places lists shares limits st ledger s) where
    -- the shape that a done call found is this one
    found : {t : Shape} → SoundBook E st.links st.values st.book t → Kept E places lists shares limits st ledger t
    found T = subst (λ (t : Shape). Kept E places lists shares limits st ledger t) (unique_book L K.sound T) K

    pushed : (end : End) (l value : ℕ) → (push_at E st end l value).number ≡ 0
        → (t : Shape) × Kept E places lists shares limits (left (push_at E st end l value)) (record { pushes = one_more l ledger.pushes; pops = ledger.pops; held = held_at l (joined end value (ledger.held l)) ledger.held }) t
    pushed end l value z =
        let (t, T, P) = push_done L st.links st.values st.book l end value z in (
          _,
          changed (push_at E st end l value) l (joined end P.slot (chain_at t l)) P.rest (found T) P.sound P.book P.other_lists
              (λ h. (
                omega (arith, (found T).holds l h, length_joined end P.slot (chain_at t l), more_here l ledger.pushes),
                P.holds ∙ ap (joined end value) ((found T).sequence l h) ∙ sym (held_here l _ ledger.held),
              ))
              (λ k e. (refl, more_other l ledger.pushes k e, held_other l _ ledger.held k e)),
        )

    popped : (end : End) (l : ℕ) → (pop_at E st end l).number ≡ 0
        → (t : Shape) × Kept E places lists shares limits (left (pop_at E st end l)) (record { pushes = ledger.pushes; pops = one_more l ledger.pops; held = held_at l (without end (ledger.held l)) ledger.held }) t
    popped end l z =
        let (t, T, P) = pop_done L st.links st.values st.book l end z in (
          _,
          changed (pop_at E st end l) l P.rest (P.slot ∷ t.idle) (found T) P.sound P.book P.other_lists
              (λ h. (
                omega (arith, (found T).holds l h, ap length P.last, length_joined end P.slot P.rest, more_here l ledger.pops),
                sym (without_joined end _ _) ∙ ap (without end) (sym P.holds ∙ (found T).sequence l h) ∙ sym (held_here l _ ledger.held),
              ))
              (λ k e. (more_other l ledger.pops k e, refl, held_other l _ ledger.held k e)),
        )

    cleared : (l : ℕ) → number_of E st (clear l) ≡ 0
        → (t : Shape) × Kept E places lists shares limits (after E st (clear l)) (record { pushes = none_at l ledger.pushes; pops = none_at l ledger.pops; held = held_at l [] ledger.held }) t
    cleared l z =
        let (t, T, C) = clear_done L st.links st.values st.book l z in (
          _,
          changed (clear_call E st.links st.values st.book l) l [] (reverse (chain_at t l) ++ t.idle) (found T) C.sound C.book C.other_lists
              (λ h. (omega (arith, none_here l ledger.pushes, none_here l ledger.pops), sym (held_here l [] ledger.held)))
              (λ k e. (none_other l ledger.pops k e, none_other l ledger.pushes k e, held_other l [] ledger.held k e)),
        )

    done_kept : (m : Move) → number_of E st m ≡ 0 → (t : Shape) × Kept E places lists shares limits (after E st m) (noted_done m ledger) t
    done_kept check z = (s, K)
    done_kept (ask_length l) z = (s, K)
    done_kept (push_back l value) z = pushed Back l value z
    done_kept (push_front l value) z = pushed Front l value z
    done_kept (pop_back l) z = popped Back l z
    done_kept (pop_front l) z = popped Front l z
    done_kept (read_forward l buffer at) z = (s, K)
    done_kept (read_backward l buffer at) z = (s, K)
    done_kept (clear l) z = cleared l z

    -- done or refused
    kept_by : (m : Move) → (t : Shape) × Kept E places lists shares limits (after E st m) (cond (eqb (number_of E st m) 0) (noted_done m ledger) ledger) t
    kept_by m = go (ℕ_discrete (number_of E st m) 0)
      where
        go : Dec (number_of E st m ≡ 0) → (t : Shape) × Kept E places lists shares limits (after E st m) (cond (eqb (number_of E st m) 0) (noted_done m ledger) ledger) t
        go (yes z) = rw (eq-eqb (number_of E st m) 0 z) (done_kept m z)
        go (no z) = rw (ne_eqb (number_of E st m) 0 z) (s, subst (λ (x : State E). Kept E places lists shares limits x ledger s) (sym (refused_state E st m z)) K)

    -- checked or quick: the pool is sound, so that a quick call is the checked one
    kept : (c : Call) → (t : Shape) × Kept E places lists shares limits (after_call E st c) (noted E st c ledger) t
    kept c =
        let (n, a) = call_as_move L K.sound c in
        let (t, J) = kept_by (move_of c) in (
          t,
          subst (λ (x : State E). Kept E places lists shares limits x (noted E st c ledger) t) (sym a)
              (subst (λ (k : ℕ). Kept E places lists shares limits (after E st (move_of c)) (cond (eqb k 0) (noted_done (move_of c) ledger) ledger) t) (sym n) J),
        )

  trace_kept : {st : State E} {ledger : Ledger} → Trace E places lists shares limits st ledger → (s : Shape) × Kept E places lists shares limits st ledger s
  trace_kept (begins links values z) =
      let M = setup_keeps L places links values lists shares limits z in (
        fresh_shape (E.size links) lists,
        record {
          sound = M.sound;
          same_places = M.same_places;
          as_many = M.as_many;
          share = λ l h. M.share l (omega (arith, M.sound.rules.most, M.as_many, M.same_places));
          limit = λ l h. M.limit l (omega (arith, M.sound.rules.most, M.as_many, M.same_places));
          holds = λ l h. rw (get_or-replicate {A = List ℕ} lists l [] [] h);
          sequence = λ l h. rw (get_or-replicate {A = List ℕ} lists l [] [] h);
        },
      )
  trace_kept (goes_on t m) = let (s, K) = trace_kept t in kept K m

  -- ---- what demand 3 says, sentence by sentence

  module _ {st : State E} {ledger : Ledger} {s : Shape} (K : Kept E places lists shares limits st ledger s) where
    abbrev S : SoundBook E st.links st.values st.book s
    S = K.sound

    unsaid : (m : Move) → (number_of E st m ≢ 1) × (number_of E st m < 9)
    unsaid check = not_broken L S tt (check_given L st.links st.values st.book)
    unsaid (ask_length l) = not_broken L S (omega arith) (length_given L st.links st.values st.book l)
    unsaid (push_back l value) = not_broken L S (omega arith) (push_given L st.links st.values st.book l Back value)
    unsaid (push_front l value) = not_broken L S (omega arith) (push_given L st.links st.values st.book l Front value)
    unsaid (pop_back l) = not_broken L S (omega arith) (pop_given L st.links st.values st.book l Back)
    unsaid (pop_front l) = not_broken L S (omega arith) (pop_given L st.links st.values st.book l Front)
    unsaid (read_forward l buffer at) = not_broken L S (omega arith) (read_given L st.links st.values st.book l Front buffer at)
    unsaid (read_backward l buffer at) = not_broken L S (omega arith) (read_given L st.links st.values st.book l Back buffer at)
    unsaid (clear l) = not_broken L S (omega arith) (clear_given L st.links st.values st.book l)

    -- a quick call gives the number of the checked one
    quick_number : (q : QuickMove) → (quick_called E st q).number ≡ number_of E st (checked_of q)
    quick_number q = (quick_as_checked L S q).0

    each : (l value : ℕ) (Is : ℕ → Type 0) → ((end : End) → Is (push_at E st end l value).number) → EachPush E st l value Is
    each l value Is h = (h Back, h Front, subst Is (sym (quick_number (quick_push_back l value))) (h Back), subst Is (sym (quick_number (quick_push_front l value))) (h Front))

    module _ (l value : ℕ) (h : l < lists) where
      abbrev many : ℕ
      many = length (chain_at s l)

      below : l < st.book.lists
      below = omega (arith, K.as_many)

      module _ (end : End) where
        abbrev number : ℕ
        number = (push_at E st end l value).number

        six_at : number ≡ 6 ↔ (many ≡ get_or limits l 0)
        six_at = rw (K.limit l h) at (push_six L S l below end value)

        seven_at : number ≡ 7 ↔ ((many < get_or limits l 0) × (get_or shares l 0 ≤ many) × (length s.idle ≤ others_lack st.book s l))
        seven_at = (
          λ n. let (x, y, z) = exactly.0 n in (omega (arith, K.limit l h), omega (arith, K.share l h), omega (arith, split)),
          λ (x, y, z). exactly.1 (omega (arith, K.limit l h), omega (arith, K.share l h), omega (arith, split, K.share l h)),
        )
          where
            exactly : number ≡ 7 ↔ ((many < (entry_at st.book.entries l).limit) × ((entry_at st.book.entries l).share ≤ many) × (length s.idle ≤ lacks (take st.book.lists st.book.entries) s.chains))
            exactly = push_seven L S l below end value

            split : lacks (take st.book.lists st.book.entries) s.chains ≡ others_lack st.book s l + ((entry_at st.book.entries l).share - many)
            split = rw (entry_is S l below) at (lacks_others (take st.book.lists st.book.entries) s.chains l (listed S l below))

        served_at : many < get_or shares l 0 → number ≡ 0
        served_at k =
            (push_zero L S l below end value).1
            (record {
              under = rw (entry_is S l below) (omega (arith, S.rules.fair l below, K.share l h));
              enough = inl (rw (entry_is S l below) (omega (arith, K.share l h)));
            })

    demand : Demand3 E places lists shares limits st ledger s
    demand =
        record {
          sound = S;
          same_places = K.same_places;
          as_many = K.as_many;
          granted = λ l h. (K.share l h, K.limit l h);
          holds = K.holds;
          lengths = λ l h. omega (arith, stored-length S l (below l 0 h), K.holds l h);
          free_count = omega (arith, stored_free S, all_slots S, joined_length lists s.chains (λ l. ledger.pushes l - ledger.pops l) (omega (arith, S.pool.lists, length-take-le st.book.lists st.book.entries S.rules.there, K.as_many)) (λ l h. omega (arith, K.holds l h)));
          sequence = K.sequence;
          freed = λ y p q z. omega (arith, S.pool.once y p q, count-append y (joined_up s.chains) s.idle);
          within = λ l h. rw (K.limit l h) at (within S l (below l 0 h));
          served = λ l value h k. each l value (λ n. n ≡ 0) (λ end. served_at l value h end k);
          six = λ l value h. each l value (λ n. n ≡ 6 ↔ (length (chain_at s l) ≡ get_or limits l 0)) (six_at l value h);
          seven = λ l value h. each l value (λ n. n ≡ 7 ↔ ((length (chain_at s l) < get_or limits l 0) × (get_or shares l 0 ≤ length (chain_at s l)) × (length s.idle ≤ others_lack st.book s l))) (seven_at l value h);
          never = λ m. ((unsaid m).0, λ k h j e. omega (arith, (unsaid m).1));
          never_quick = λ q. (λ e. (unsaid (checked_of q)).0 (sym (quick_number q) ∙ e), λ e. omega (arith, (unsaid (checked_of q)).1, quick_number q));
        }

-- demand 3, at any point of any trace
pub demand_3 : {E : Engine} (L : Lawful E) (places lists : ℕ) (shares limits : List ℕ) {st : State E} {ledger : Ledger} → Trace E places lists shares limits st ledger
    → (s : Shape) × Demand3 E places lists shares limits st ledger s
demand_3 L places lists shares limits t = let (s, K) = trace_kept L places lists shares limits t in (s, demand L places lists shares limits K)

-- ---- a trace may begin with any accepted setup, and go on with any call

module _ {E : Engine} {places lists : ℕ} {shares limits : List ℕ} where
  pub any_setup : (links : E.Links) (values : List ℕ) → (setup_call E places links values lists shares limits).number ≡ 0
      → Trace E places lists shares limits (left (setup_call E places links values lists shares limits)) nothing_noted
  any_setup = begins

  pub any_call : {st : State E} {ledger : Ledger} → Trace E places lists shares limits st ledger → (c : Call) → Trace E places lists shares limits (after_call E st c) (noted E st c ledger)
  any_call = goes_on
