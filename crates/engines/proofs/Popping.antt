-- Clear leaves what popping the front, call by call, until the list is empty leaves, on any engine.
use mathlib.Core.Path.{◌≡◌, refl, sym, ap, subst, ◌∙◌}
use mathlib.Core.Bool.{true}
use mathlib.Core.List.{List, [], ◌∷◌}
use Prim.Native.Nat.{ℕ, zero, suc, ◌<◌}
use native.Mathlib.Omega.{arith}
use lib.ListN.{length, set}
use lib.Seq.{get_or-set_same, set-get_or}
use Rattle.books.specs.declared.Entry.{Entry}
use Rattle.books.specs.Book.{zero_entry, entry_at}
use Rattle.shapes.specs.declared.End.TheVariants.{Front}
use Rattle.shapes.specs.Shape.{Shape, chain_at, put}
use Rattle.shapes.specs.Moves.{pop_front, clear}
use Rattle.shapes.proofs.Numbers.{decided_ind}
use Rattle.engines.specs.Engine.{Engine, Step}
use Rattle.engines.specs.Sound.{SoundBook, Held}
use Rattle.engines.specs.Laws.{Lawful}
use Rattle.engines.specs.Counted.{counted_pop}
use Rattle.engines.specs.Reads.{clear_on}
use Rattle.engines.specs.Calls.{Called, stepped, pop_tests, list_tests, pop_call, clear_call}
use Rattle.engines.specs.Moves.{State, left, number_of, after, PoppedOut, ends, goes}
use Rattle.engines.proofs.Shape.{unique_book}
use Rattle.engines.proofs.Found.{listed, stored-length}
use Rattle.engines.proofs.Counted.{leaves_counted, pop_counted_lem}
use Rattle.engines.proofs.Steps.{book_held}
use Rattle.engines.proofs.Outcomes.{past_list, pop_done}
use Rattle.engines.proofs.Exactly.{pop_five, pop_zero}

-- an entry that is put twice in one place
pub set_set : {A : Type 0} (es : List A) (l : ℕ) (a c : A) → set (set es l a) l c ≡ set es l c
set_set [] l a c = refl
set_set (e ∷ es) zero a c = refl
set_set (e ∷ es) (suc l) a c = ap (λ r. e ∷ r) (set_set es l a c)

module _ {E : Engine} (l : ℕ) (st : State E) where
  -- a step at the front
  abbrev gone : Step E.Links
  gone = counted_pop E Front st.links st.values (entry_at st.book.entries l) st.book.free

  -- the state with the list and the cells as a step leaves them
  abbrev stepped_to : Step E.Links → State E
  stepped_to r = left (stepped E st.links st.values st.book l 0 r)

  -- so many pops of the list
  abbrev emptied : ℕ → Step E.Links
  emptied n = clear_on E n st.links st.values (entry_at st.book.entries l) st.book.free

  -- the state after a done pop is that after the step
  pop_state : number_of E st (pop_front l) ≡ 0 → after E st (pop_front l) ≡ stepped_to gone
  unfolding pop_call
  pop_state =
      decided_ind _ _ (λ (r : Called E). r.number ≡ 0 → left r ≡ stepped_to gone) (pop_tests E st.links st.values st.book l) (λ k z. absurd (k z)) (λ k z. refl)

module _ {E : Engine} (L : Lawful E) (l : ℕ) where
  module _ (n : ℕ) (st : State E) {s : Shape} (S : SoundBook E st.links st.values st.book s) (below : l < st.book.lists) (e : length (chain_at s l) ≡ suc n) where
    -- after a done pop the pool is sound, and the list is shorter by one
    after_pop_lem : number_of E st (pop_front l) ≡ 0 → let u = after E st (pop_front l) in (t : Shape) × SoundBook E u.links u.values u.book t × (l < u.book.lists) × (length (chain_at t l) ≡ n)
    after_pop_lem z =
        let (t, T, P) = pop_done L st.links st.values st.book l Front z in (
          put t l P.rest (P.slot ∷ t.idle),
          P.sound,
          omega (arith, P.listed, P.book.same_lists),
          ap length (get_or-set_same t.chains l P.rest [] (omega (arith, T.pool.lists, listed T l below)))
              ∙ omega (arith, ap (λ (u : Shape). length (chain_at u l)) (unique_book L S T), ap length P.last),
        )

    -- a list that holds something is emptied to what its front pop is emptied to
    one_pop : emptied l st (suc n) ≡ clear_on E n (gone l st).links (gone l st).values (gone l st).entry (gone l st).free
    unfolding clear_on
    one_pop = go (chain_at s l) (book_held S l below) e
      where
        go : (xs : List ℕ) → Held E st.links st.values (entry_at st.book.entries l) st.book.free xs s.idle → length xs ≡ suc n
            → emptied l st (suc n) ≡ clear_on E n (gone l st).links (gone l st).values (gone l st).entry (gone l st).free
        go [] H h = absurd (omega arith)
        go (x ∷ xs) H h =
            let p = pop_counted_lem L Front st.links st.values (entry_at st.book.entries l) st.book.free x xs s.idle H in
            let d : (gone l st).done ≡ true = ap (λ (o : Step E.Links). o.done) p ∙ (leaves_counted L Front st.links st.values (entry_at st.book.entries l) st.book.free x xs s.idle H).done in
            rw d

    -- emptying goes on from the state after the pop
    goes_on_lem : number_of E st (pop_front l) ≡ 0 → stepped_to l (after E st (pop_front l)) (emptied l (after E st (pop_front l)) n) ≡ stepped_to l st (emptied l st (suc n))
    goes_on_lem z =
        ap (λ (t : State E). stepped_to l t (emptied l t n)) (pop_state l st z)
        ∙ ap (λ (d : Entry). stepped_to l (stepped_to l st (gone l st)) (clear_on E n (gone l st).links (gone l st).values d (gone l st).free))
        (get_or-set_same st.book.entries l (gone l st).entry zero_entry (omega (arith, S.rules.there)))
        ∙ twice (clear_on E n (gone l st).links (gone l st).values (gone l st).entry (gone l st).free)
        ∙ sym (ap (stepped_to l st) one_pop)
      where
        twice : (r : Step E.Links) → stepped_to l (stepped_to l st (gone l st)) r ≡ stepped_to l st r
        twice r = λ i. record {
          links = r.links;
          values = r.values;
          book = record { places = st.book.places; lists = st.book.lists; entries = set_set st.book.entries l (gone l st).entry r.entry i; free = r.free };
        }

  -- so many pops as the list is long
  pops_out : (n : ℕ) (st : State E) {s : Shape} → SoundBook E st.links st.values st.book s → l < st.book.lists → length (chain_at s l) ≡ n
      → PoppedOut E l st (stepped_to l st (emptied l st n))
  unfolding clear_on
  pops_out zero st {s} S below e = subst (λ (t : State E). PoppedOut E l st t) (sym same) (ends ((pop_five L S l below Front).1 e))
    where
      same : stepped_to l st (emptied l st 0) ≡ st
      same = λ i. record {
        links = st.links;
        values = st.values;
        book = record { places = st.book.places; lists = st.book.lists; entries = set-get_or st.book.entries l zero_entry i; free = st.book.free };
      }
  pops_out (suc n) st {s} S below e =
      let z = (pop_zero L S l below Front).1 (omega (arith, e)) in
      let (t, T, still, shorter) = after_pop_lem n st S below e z in
      subst (λ (u : State E). PoppedOut E l st u) (goes_on_lem n st S below e z) (goes z (pops_out n (after E st (pop_front l)) T still shorter))

-- 01: "Clear: equals popping the front until the list is empty"
pub clear_pops : {E : Engine} (L : Lawful E) (st : State E) (l : ℕ) → number_of E st (clear l) ≡ 0 → PoppedOut E l st (after E st (clear l))
unfolding clear_call
clear_pops {E} L st l =
    decided_ind _ _ (λ (r : Called E). r.number ≡ 0 → PoppedOut E l st (left r)) (list_tests E st.links st.values st.book l)
    (λ k z. absurd (k z))
    (λ k z. let ((s, S, below), y) = past_list L st.links st.values st.book l [] k in pops_out L l _ st S below (sym (stored-length S l below)))
