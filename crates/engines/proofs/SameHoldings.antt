-- What 02 a)'s weaker law is good for, on any engine: where two pools have the same holdings, each list is viewed the same, and every call gives the same number on both.
use mathlib.Core.Path.{◌≡◌, refl, sym, ap, ◌∙◌}
use mathlib.Core.Logic.{◌↔◌, ◌≢◌, ◌⊎◌, inl, inr}
use mathlib.Core.List.{List, ◌∷◌, ◌++◌}
use Prim.Native.Nat.{ℕ, ◌≤◌, ◌<◌}
use native.Mathlib.Decide.{ℕ_discrete, dec_lt}
use native.Mathlib.Omega.{arith}
use lib.ListN.{length, take}
use lib.Seq.{length-take-le}
use Rattle.books.specs.declared.Entry.{Entry}
use Rattle.books.specs.Book.{entry_at, AnyBook}
use Rattle.books.specs.Table.{fault_rules}
use Rattle.shapes.specs.declared.End.{End}
use Rattle.shapes.specs.declared.End.TheVariants.{Front, Back}
use Rattle.shapes.specs.Shape.{Shape, chain_at, lacks}
use Rattle.shapes.specs.Moves.{Move, check, ask_length, push_back, push_front, pop_back, pop_front, read_forward, read_backward, clear}
use Rattle.shapes.specs.Numbers.{Condition, Given}
use Rattle.shapes.specs.Numbers as N
use Rattle.shapes.proofs.Numbers.{given_only}
use Rattle.shapes.proofs.Shape.{lacks_told}
use Rattle.engines.specs.Engine.{Engine}
use Rattle.engines.specs.Sound.{Fit, SoundBook}
use Rattle.engines.specs.Laws.{Lawful}
use Rattle.engines.specs.Conditions.{TooSmall, list_conditions}
use Rattle.engines.specs.Calls.{read_call}
use Rattle.engines.specs.Moves.{State, number_of, View}
use Rattle.engines.specs.Undo.{SameHoldings}
use Rattle.engines.proofs.Shape.{unique_book}
use Rattle.engines.proofs.Found.{entry_is}
use Rattle.engines.proofs.When.{none_broken, length_given, push_given, pop_given, clear_given, read_given}
use Rattle.engines.proofs.Outcomes.{check_accepts}
use Rattle.engines.proofs.Exactly.{push_six, push_seven, push_else, pop_five, pop_zero, read_eight, read_zero, length_zero, clear_zero}
use Rattle.engines.proofs.After.{push_at, pop_at}
use Rattle.engines.proofs.Upstream.{viewed}

-- a list that there is not gets 4, whatever else the call asks
unlisted : {E : Engine} (L : Lawful E) {links : E.Links} {values : List ℕ} {b : AnyBook} {s : Shape} → SoundBook E links values b s → {l : ℕ} → b.lists ≤ l
    → {cs : List Condition} {k : ℕ} → Given (list_conditions E links values b l ++ cs) k → k ≡ 4
unlisted {E} L {links} {values} {b} {s} S {l} beyond g =
    given_only g (N.later (λ (n : Fit E links values → ⊥). n S.pool.fit) (none_broken L links values b S fault_rules (N.this beyond)))

module _ {E : Engine} (L : Lawful E) {st t : State E} (H : SameHoldings E st t) where
  abbrev S : SoundBook E st.links st.values st.book H.was
  S = H.was_sound

  abbrev T : SoundBook E t.links t.values t.book H.is
  T = H.is_sound

  -- what upstream's `view` is of a list there, it is here
  pub same_views : {l : ℕ} {vs : List ℕ} → View E st l vs → View E t l vs
  same_views {l} W = record { shape = H.is; sound = T; listed = omega (arith, W.listed, H.lists); holds = H.sequence l W.listed ∙ viewed L W S }

  -- ---- every call gives the same number

  -- both have the same lists
  there : {l : ℕ} → l < st.book.lists → l < t.book.lists
  there h = omega (arith, H.lists)

  beyond : {l : ℕ} → (l < st.book.lists → ⊥) → (st.book.lists ≤ l) × (t.book.lists ≤ l)
  beyond d = (omega arith, omega (arith, H.lists))

  -- what all lists lack is the same
  lacking : lacks (take t.book.lists t.book.entries) H.is.chains ≡ lacks (take st.book.lists st.book.entries) H.was.chains
  lacking = lacks_told (take t.book.lists t.book.entries) (take st.book.lists st.book.entries) H.is.chains H.was.chains (omega (arith, many_here, many_there, H.lists)) at
    where
      many_here : length (take t.book.lists t.book.entries) ≡ t.book.lists
      many_here = length-take-le t.book.lists t.book.entries T.rules.there

      many_there : length (take st.book.lists st.book.entries) ≡ st.book.lists
      many_there = length-take-le st.book.lists st.book.entries S.rules.there

      at : (l : ℕ) → l < length (take t.book.lists t.book.entries)
          → ((entry_at (take t.book.lists t.book.entries) l).share ≡ (entry_at (take st.book.lists st.book.entries) l).share)
          × (length (chain_at H.is l) ≡ length (chain_at H.was l))
      at l h =
          let b : l < st.book.lists = omega (arith, many_here, H.lists) in (
            ap (λ (e : Entry). e.share) (entry_is T l (there b)) ∙ (H.granted l b).0 ∙ ap (λ (e : Entry). e.share) (sym (entry_is S l b)),
            H.lengths l b,
          )

  -- two numbers that are 6 together and 7 together, and else 0
  six_seven : {n k : ℕ} → n ≡ 6 ↔ (k ≡ 6) → n ≡ 7 ↔ (k ≡ 7) → (n ≢ 6 → n ≢ 7 → n ≡ 0) → (k ≢ 6 → k ≢ 7 → k ≡ 0) → n ≡ k
  six_seven {n} {k} six seven n-else k-else = go (ℕ_discrete n 6) (ℕ_discrete n 7)
    where
      go : Dec (n ≡ 6) → Dec (n ≡ 7) → n ≡ k
      go (yes e) y = e ∙ sym (six.0 e)
      go (no d) (yes e) = e ∙ sym (seven.0 e)
      go (no d) (no f) = n-else d f ∙ sym (k-else (λ e. d (six.1 e)) (λ e. f (seven.1 e)))

  module _ (l : ℕ) where
    pub push_number_same : (end : End) (value : ℕ) → (push_at E st end l value).number ≡ (push_at E t end l value).number
    push_number_same end value = go (dec_lt l st.book.lists)
      where
        go : Dec (l < st.book.lists) → (push_at E st end l value).number ≡ (push_at E t end l value).number
        go (no d) = unlisted L S (beyond d).0 (push_given L st.links st.values st.book l end value) ∙ sym (unlisted L T (beyond d).1 (push_given L t.links t.values t.book l end value))
        go (yes b) =
            six_seven (
              λ e. (push_six L T l (there b) end value).1 (omega (arith, (push_six L S l b end value).0 e, H.lengths l b, H.granted l b)),
              λ e. (push_six L S l b end value).1 (omega (arith, (push_six L T l (there b) end value).0 e, H.lengths l b, H.granted l b)),
            ) (
              λ e. (push_seven L T l (there b) end value).1 (let w = (push_seven L S l b end value).0 e in omega (arith, w, H.lengths l b, H.granted l b, H.free, lacking)),
              λ e. (push_seven L S l b end value).1 (let w = (push_seven L T l (there b) end value).0 e in omega (arith, w, H.lengths l b, H.granted l b, H.free, lacking)),
            )
            (push_else L S l b end value)
            (push_else L T l (there b) end value)

    pub pop_number_same : (end : End) → (pop_at E st end l).number ≡ (pop_at E t end l).number
    pop_number_same end = go (dec_lt l st.book.lists)
      where
        go : Dec (l < st.book.lists) → (pop_at E st end l).number ≡ (pop_at E t end l).number
        go (no d) = unlisted L S (beyond d).0 (pop_given L st.links st.values st.book l end) ∙ sym (unlisted L T (beyond d).1 (pop_given L t.links t.values t.book l end))
        go (yes b) = some (dec_lt 0 (length (chain_at H.was l)))
          where
            some : Dec (0 < length (chain_at H.was l)) → (pop_at E st end l).number ≡ (pop_at E t end l).number
            some (yes h) = (pop_zero L S l b end).1 h ∙ sym ((pop_zero L T l (there b) end).1 (omega (arith, H.lengths l b)))
            some (no d) = (pop_five L S l b end).1 (omega arith) ∙ sym ((pop_five L T l (there b) end).1 (omega (arith, H.lengths l b)))

    pub read_number_same : (end : End) (buffer : List ℕ) (at : ℕ)
        → (read_call E st.links st.values st.book l end buffer at).answer.refusal.number ≡ (read_call E t.links t.values t.book l end buffer at).answer.refusal.number
    read_number_same end buffer at = go (dec_lt l st.book.lists)
      where
        n : ℕ
        n = (read_call E st.links st.values st.book l end buffer at).answer.refusal.number

        go : Dec (l < st.book.lists) → n ≡ (read_call E t.links t.values t.book l end buffer at).answer.refusal.number
        go (no d) = unlisted L S (beyond d).0 (read_given L st.links st.values st.book l end buffer at) ∙ sym (unlisted L T (beyond d).1 (read_given L t.links t.values t.book l end buffer at))
        go (yes b) = small (ℕ_discrete n 8)
          where
            -- the list is as long, so that it fits alike
            to : TooSmall E st.links st.values st.book l (length buffer) at H.was → TooSmall E t.links t.values t.book l (length buffer) at H.is
            to (inl k) = inl k
            to (inr k) = inr (omega (arith, H.lengths l b))

            from : TooSmall E t.links t.values t.book l (length buffer) at H.is → TooSmall E st.links st.values st.book l (length buffer) at H.was
            from (inl k) = inl k
            from (inr k) = inr (omega (arith, H.lengths l b))

            small : Dec (n ≡ 8) → n ≡ (read_call E t.links t.values t.book l end buffer at).answer.refusal.number
            small (yes e) = e ∙ sym ((read_eight L T l (there b) end buffer at).1 (to ((read_eight L S l b end buffer at).0 e)))
            small (no d) = (read_zero L S l b end buffer at).1 (λ w. d ((read_eight L S l b end buffer at).1 w)) ∙ sym ((read_zero L T l (there b) end buffer at).1 (λ w. d ((read_eight L S l b end buffer at).1 (from w))))

    length_number_same : number_of E st (ask_length l) ≡ number_of E t (ask_length l)
    length_number_same = go (dec_lt l st.book.lists)
      where
        go : Dec (l < st.book.lists) → number_of E st (ask_length l) ≡ number_of E t (ask_length l)
        go (no d) = unlisted L S (beyond d).0 (length_given L st.links st.values st.book l) ∙ sym (unlisted L T (beyond d).1 (length_given L t.links t.values t.book l))
        go (yes b) = length_zero L S l b ∙ sym (length_zero L T l (there b))

    clear_number_same : number_of E st (clear l) ≡ number_of E t (clear l)
    clear_number_same = go (dec_lt l st.book.lists)
      where
        go : Dec (l < st.book.lists) → number_of E st (clear l) ≡ number_of E t (clear l)
        go (no d) = unlisted L S (beyond d).0 (clear_given L st.links st.values st.book l) ∙ sym (unlisted L T (beyond d).1 (clear_given L t.links t.values t.book l))
        go (yes b) = clear_zero L S l b ∙ sym (clear_zero L T l (there b))

  pub same_numbers_lem : (m : Move) → number_of E st m ≡ number_of E t m
  same_numbers_lem check = (check_accepts L st.links st.values st.book).1 (_, S) ∙ sym ((check_accepts L t.links t.values t.book).1 (_, T))
  same_numbers_lem (ask_length l) = length_number_same l
  same_numbers_lem (push_back l value) = push_number_same l Back value
  same_numbers_lem (push_front l value) = push_number_same l Front value
  same_numbers_lem (pop_back l) = pop_number_same l Back
  same_numbers_lem (pop_front l) = pop_number_same l Front
  same_numbers_lem (read_forward l buffer at) = read_number_same l Front buffer at
  same_numbers_lem (read_backward l buffer at) = read_number_same l Back buffer at
  same_numbers_lem (clear l) = clear_number_same l
