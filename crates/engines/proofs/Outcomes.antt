-- Each call on any engine is refused and leaves everything as it was, or is done and does what `Done` says on the sound shape.
use mathlib.Core.Path.{◌≡◌, refl, sym, ap, subst, ◌∙◌}
use mathlib.Core.Logic.{◌↔◌, ◌≢◌, ◌⊎◌, inl, inr}
use mathlib.Core.Bool.{Bool, true, false}
use mathlib.Core.List.{List, [], ◌++◌}
use Prim.Native.Nat.{ℕ, ◌+◌, ◌-◌, ◌≤◌, ◌<◌}
use native.Mathlib.Omega.{arith}
use lib.Dec.{leb, eqb}
use lib.ListN.{length, take}
use borrow.Author.Tests.{eqb-true, eq-eqb, eqb-false, leb-true, leb-false, lt-ltb}
use Rattle.books.specs.declared.Entry.{Entry}
use Rattle.books.specs.Book.{entry_at, AnyBook}
use Rattle.shapes.specs.declared.End.{End}
use Rattle.shapes.specs.Records.{Fault}
use Rattle.shapes.specs.Shape.{Shape, chain_at, lacks, Room, stored_lacks}
use Rattle.books.specs.declared.Length.{Length}
use Rattle.shapes.specs.Numbers.{Test, first_that, decided}
use Rattle.shapes.specs.Tests.{ReadLeft, push_own_tests, pop_own_tests, read_own_tests}
use Rattle.shapes.proofs.Numbers.{decided_ind}
use Rattle.engines.specs.Engine.{Engine}
use Rattle.engines.specs.Sound.{SoundBook}
use Rattle.engines.specs.Laws.{Lawful}
use Rattle.engines.specs.Check.{sizes_fit, check_found}
use Rattle.engines.specs.Calls.{Called, not_called, found_of, list_tests, push_tests, pop_tests, read_tests, after_push, after_pop, after_clear, check_call, length_call, push_call, pop_call, clear_call, read_call}
use Rattle.engines.specs.Done.{Refused, Pushes, Pops, Clears, Reads, ReadRefused}
use Rattle.engines.proofs.Checked.{fits_exactly, found_exactly}
use Rattle.engines.proofs.Found.{stored-length, stored_lacks_lem, stored_free, entry_is, within}
use Rattle.engines.proofs.Steps.{pushes, pops}
use Rattle.engines.proofs.Clearing.{clears}
use Rattle.engines.proofs.Reading.{reads}
use Rattle.engines.proofs.When.{check_number}

-- neither 6 nor 7, of a list that is within its limit
roomy : (e : Entry) (many lacking free : ℕ) → many ≤ e.limit → first_that (push_own_tests e many lacking free) ≡ 0 → (many < e.limit) × ((many < e.share) ⊎ (lacking < free))
roomy e many lacking free w z = go (eqb many e.limit) (leb e.share many) (leb free lacking) refl refl refl
  where
    go : (x y u : Bool) → eqb many e.limit ≡ x → leb e.share many ≡ y → leb free lacking ≡ u → (many < e.limit) × ((many < e.share) ⊎ (lacking < free))
    go true y u ex ey eu = let k : ◌≡◌ {A = ℕ} 6 0 = rw ex at z in absurd (omega arith)
    go false true true ex ey eu =
        let d : many ≢ e.limit = eqb-false _ _ ex in
        let k : ◌≡◌ {A = ℕ} 7 0 = rw (ex, lt-ltb many e.limit (omega arith), ey, eu) at z in
        absurd (omega arith)
    go false true false ex ey eu = let d : many ≢ e.limit = eqb-false _ _ ex in (omega arith, inr (leb-false _ _ eu))
    go false false u ex ey eu = let d : many ≢ e.limit = eqb-false _ _ ex in (omega arith, inl (leb-false _ _ ey))

-- not 5
pub filled : (many : ℕ) → first_that (pop_own_tests many) ≡ 0 → 0 < many
filled many z = go (eqb many 0) refl
  where
    go : (x : Bool) → eqb many 0 ≡ x → 0 < many
    go true ex = let k : ◌≡◌ {A = ℕ} 5 0 = rw ex at z in absurd (omega arith)
    go false ex = let d : many ≢ 0 = eqb-false _ _ ex in omega arith

-- not 8
pub placed : (many room at : ℕ) → first_that (read_own_tests many room at) ≡ 0 → (at ≤ room) × (many ≤ room - at)
placed many room at z = go (leb at room) (leb many (room - at)) refl refl
  where
    go : (x y : Bool) → leb at room ≡ x → leb many (room - at) ≡ y → (at ≤ room) × (many ≤ room - at)
    go true true ex ey = (leb-true _ _ ex, leb-true _ _ ey)
    go true false ex ey = let k : ◌≡◌ {A = ℕ} 8 0 = rw (ex, ey) at z in absurd (omega arith)
    go false y ex ey = let k : ◌≡◌ {A = ℕ} 8 0 = rw ex at z in absurd (omega arith)

-- ---- refused

module _ (E : Engine) (links : E.Links) (values : List ℕ) (b : AnyBook) (l : ℕ) where
  -- a call that is refused leaves everything
  refused : (ts : List Test) (done : Called E) (f : Fault) → done.number ≡ 0 → (decided ts done (not_called E links values b f)).number ≢ 0 → Refused E links values b (decided ts done (not_called E links values b f))
  refused ts done f z = decided_ind done (not_called E links values b f) (λ (r : Called E). r.number ≢ 0 → Refused E links values b r) ts
      (λ k d. record { no_value = refl; same_book = refl; same_links = refl; same_values = refl })
      (λ k d. absurd (d z))

  pub length_refused : (length_call E links values b l).refusal.number ≢ 0 → (length_call E links values b l).length ≡ 0
  unfolding length_call
  length_refused = decided_ind _ _ (λ (r : Length). r.refusal.number ≢ 0 → r.length ≡ 0) (list_tests E links values b l) (λ k d. refl) (λ k d. absurd (d refl))

  pub push_refused : (end : End) (value : ℕ) → (push_call E links values b l end value).number ≢ 0 → Refused E links values b (push_call E links values b l end value)
  unfolding push_call
  push_refused end value = refused (push_tests E links values b l) (after_push E links values b l end value) (found_of E links values b).fault refl

  pub pop_refused : (end : End) → (pop_call E links values b l end).number ≢ 0 → Refused E links values b (pop_call E links values b l end)
  unfolding pop_call
  pop_refused end = refused (pop_tests E links values b l) (after_pop E links values b l end) (found_of E links values b).fault refl

  pub clear_refused : (clear_call E links values b l).number ≢ 0 → Refused E links values b (clear_call E links values b l)
  unfolding clear_call
  clear_refused = refused (list_tests E links values b l) (after_clear E links values b l (entry_at b.entries l).length) (found_of E links values b).fault refl

  pub read_refused : (end : End) (buffer : List ℕ) (at : ℕ) → (read_call E links values b l end buffer at).answer.refusal.number ≢ 0 → ReadRefused buffer (read_call E links values b l end buffer at)
  unfolding read_call
  read_refused end buffer at =
      decided_ind _ _ (λ (r : ReadLeft). r.answer.refusal.number ≢ 0 → ReadRefused buffer r) (read_tests E links values b l (length buffer) at)
      (λ k d. record { no_count = refl; same_buffer = refl })
      (λ k d. absurd (d refl))

-- ---- done

-- demand 2: "The check accepts exactly the pools that 01 calls sound"
pub check_accepts : {E : Engine} (L : Lawful E) (links : E.Links) (values : List ℕ) (b : AnyBook) → (check_call E links values b).number ≡ 0 ↔ ((s : Shape) × SoundBook E links values b s)
check_accepts {E} L links values b = (to (sizes_fit E links values) (eqb rule 0) refl refl, from)
  where
    rule : ℕ
    rule = (check_found E links values b).fault.rule

    to : (x y : Bool) → sizes_fit E links values ≡ x → eqb rule 0 ≡ y → (check_call E links values b).number ≡ 0 → (s : Shape) × SoundBook E links values b s
    to true true ex ey z = (found_exactly L links values b ((fits_exactly E links values).0 ex)).0 (eqb-true _ _ ey)
    to true false ex ey z = absurd (eqb-false rule 0 ey (rw (ex, ey) at (sym (check_number E links values b) ∙ z)))
    to false y ex ey z = let k : ◌≡◌ {A = ℕ} 1 0 = rw ex at (sym (check_number E links values b) ∙ z) in absurd (omega arith)

    from : ((s : Shape) × SoundBook E links values b s) → (check_call E links values b).number ≡ 0
    from (s, S) = check_number E links values b ∙ rw ((fits_exactly E links values).1 S.pool.fit, eq-eqb _ _ ((found_exactly L links values b S.pool.fit).1 (s, S)))

module _ {E : Engine} (L : Lawful E) (links : E.Links) (values : List ℕ) (b : AnyBook) (l : ℕ) where
  -- where no test applies there is a sound shape with the list in it, and none of the call's own tests applies
  pub past_list : (us : List Test) → first_that (list_tests E links values b l ++ us) ≡ 0 → ((s : Shape) × SoundBook E links values b s × (l < b.lists)) × (first_that us ≡ 0)
  past_list us z = go (sizes_fit E links values) (eqb (check_found E links values b).fault.rule 0) (leb b.lists l) refl refl refl
    where
      go : (x y u : Bool) → sizes_fit E links values ≡ x → eqb (check_found E links values b).fault.rule 0 ≡ y → leb b.lists l ≡ u
          → ((s : Shape) × SoundBook E links values b s × (l < b.lists)) × (first_that us ≡ 0)
      go true true true ex ey eu = let k : ◌≡◌ {A = ℕ} 4 0 = rw (ex, ey, eu) at z in absurd (omega arith)
      go true true false ex ey eu =
          let (s, S) = (found_exactly L links values b ((fits_exactly E links values).0 ex)).0 (eqb-true _ _ ey) in
          ((s, S, leb-false _ _ eu), rw (ex, ey, eu) at z)
      go true false u ex ey eu = absurd (eqb-false (check_found E links values b).fault.rule 0 ey (rw (ex, ey) at z))
      go false y u ex ey eu = let k : ◌≡◌ {A = ℕ} 1 0 = rw ex at z in absurd (omega arith)

  -- ---- length

  -- the list's own length
  pub length_done : (length_call E links values b l).refusal.number ≡ 0 → (s : Shape) × SoundBook E links values b s × ((length_call E links values b l).length ≡ length (chain_at s l))
  unfolding length_call
  length_done =
      decided_ind _ _ (λ (r : Length). r.refusal.number ≡ 0 → (s : Shape) × SoundBook E links values b s × (r.length ≡ length (chain_at s l))) (list_tests E links values b l)
      (λ k z. absurd (k z))
      (λ k z. let ((s, S, below), y) = past_list [] k in (s, S, stored-length S l below))

  -- ---- the pushes

  abbrev own_room : List Test
  own_room = push_own_tests (entry_at b.entries l) (entry_at b.entries l).length (stored_lacks (take b.lists b.entries)) b.free.count

  pub has_room : (s : Shape) → SoundBook E links values b s → l < b.lists → first_that own_room ≡ 0 → Room (take b.lists b.entries) s l
  has_room s S below y =
      let (u, v) = roomy (entry_at b.entries l) (entry_at b.entries l).length (stored_lacks (take b.lists b.entries)) b.free.count (omega (arith, stored-length S l below, within S l below)) y in
      record {
        under = omega (arith, stored-length S l below, ap (λ (e : Entry). e.limit) (entry_is S l below));
        enough = left v;
      }
    where
      left : ((entry_at b.entries l).length < (entry_at b.entries l).share) ⊎ (stored_lacks (take b.lists b.entries) < b.free.count)
          → (length (chain_at s l) < (entry_at (take b.lists b.entries) l).share) ⊎ (lacks (take b.lists b.entries) s.chains < length s.idle)
      left (inl k) = inl (omega (arith, stored-length S l below, ap (λ (e : Entry). e.share) (entry_is S l below)))
      left (inr k) = inr (omega (arith, stored_lacks_lem S, stored_free S))

  module _ (end : End) (value : ℕ) where
    pub push_done : (push_call E links values b l end value).number ≡ 0 → (s : Shape) × SoundBook E links values b s × Pushes E links values b end l value s (push_call E links values b l end value)
    unfolding push_call
    push_done =
        decided_ind _ _ (λ (r : Called E). r.number ≡ 0 → (s : Shape) × SoundBook E links values b s × Pushes E links values b end l value s r) (push_tests E links values b l)
        (λ k z. absurd (k z))
        (λ k z. let ((s, S, below), y) = past_list own_room k in (s, S, pushes L S l below end value (has_room s S below y)))

  -- ---- the pops

  module _ (end : End) where
    pub pop_done : (pop_call E links values b l end).number ≡ 0 → (s : Shape) × SoundBook E links values b s × Pops E links values b end l s (pop_call E links values b l end)
    unfolding pop_call
    pop_done =
        decided_ind _ _ (λ (r : Called E). r.number ≡ 0 → (s : Shape) × SoundBook E links values b s × Pops E links values b end l s r) (pop_tests E links values b l)
        (λ k z. absurd (k z))
        (λ k z. let ((s, S, below), y) = past_list (pop_own_tests (entry_at b.entries l).length) k in
        (s, S, pops L S l below end (omega (arith, stored-length S l below, filled (entry_at b.entries l).length y))))

  -- ---- clear

  pub clear_done : (clear_call E links values b l).number ≡ 0 → (s : Shape) × SoundBook E links values b s × Clears E links values b l s (clear_call E links values b l)
  unfolding clear_call
  clear_done =
      decided_ind _ _ (λ (r : Called E). r.number ≡ 0 → (s : Shape) × SoundBook E links values b s × Clears E links values b l s r) (list_tests E links values b l)
      (λ k z. absurd (k z))
      (λ k z. let ((s, S, below), y) = past_list [] k in
      (s, S, subst (λ (n : ℕ). Clears E links values b l s (after_clear E links values b l n)) (sym (stored-length S l below)) (clears L S l below)))

  -- ---- the reads

  module _ (end : End) (buffer : List ℕ) (at : ℕ) where
    -- the list's values have their places in the buffer, and are read there
    whole_read : (read_call E links values b l end buffer at).answer.refusal.number ≡ 0
        → (s : Shape) × SoundBook E links values b s × (at + length (chain_at s l) ≤ length buffer) × Reads end values l buffer at s (read_call E links values b l end buffer at)
    unfolding read_call
    whole_read =
        decided_ind _ _ (λ (r : ReadLeft). r.answer.refusal.number ≡ 0 → (s : Shape) × SoundBook E links values b s × (at + length (chain_at s l) ≤ length buffer) × Reads end values l buffer at s r)
        (read_tests E links values b l (length buffer) at)
        (λ k z. absurd (k z))
        (λ k z. let ((s, S, below), y) = past_list (read_own_tests (entry_at b.entries l).length (length buffer) at) k in
        let (p, q) = placed (entry_at b.entries l).length (length buffer) at y in
        let h : at + length (chain_at s l) ≤ length buffer = omega (arith, stored-length S l below) in
        (s, S, h, reads L S l below end buffer at h))

    pub read_done : (read_call E links values b l end buffer at).answer.refusal.number ≡ 0 → (s : Shape) × SoundBook E links values b s × Reads end values l buffer at s (read_call E links values b l end buffer at)
    read_done z = let (s, S, h, R) = whole_read z in (s, S, R)

    pub read_room : (read_call E links values b l end buffer at).answer.refusal.number ≡ 0 → at + (read_call E links values b l end buffer at).answer.count ≤ length buffer
    read_room z = let (s, S, h, R) = whole_read z in omega (arith, R.counted)
