-- Demand 3, the wiped slots, the reads and a clear that leaves nothing, at any point of a trace of the C functions: such a trace is one of the ten calls and the quick ones by name, and no premise on the number of words is left.
use mathlib.Core.Path.{◌≡◌, refl, sym, ap, subst, ◌∙◌}
use mathlib.Core.Logic.{◌≢◌, inr, ⊎_elim}
use mathlib.Core.Bool.{cond}
use mathlib.Core.List.{List, ◌++◌}
use Prim.Native.Nat.{ℕ, ◌+◌, ◌≤◌, ◌<◌}
use native.Mathlib.Omega.{arith}
use lib.Dec.{eqb}
use lib.ListN.{length, take, drop, length-set}
use Rattle.books.specs.declared.Book.{Book}
use Rattle.books.specs.declared.Entry.{Entry}
use Rattle.books.specs.Place.{Place, no_place, place_in}
use Rattle.books.specs.Book.{most_lists, AnyBook, eight, words_of, entry_at}
use Rattle.books.specs.Words.{book_from, entry_from, entries_from}
use Rattle.books.proofs.Flat.{words-length, book_kept, entry_read, entries_many}
use Rattle.chains.specs.Count.{count}
use Rattle.shapes.specs.declared.End.{End}
use Rattle.shapes.specs.declared.End.TheVariants.{Front, Back}
use Rattle.shapes.specs.Ends.{joined, from_end}
use Rattle.shapes.specs.Shape.{Shape, chain_at}
use Rattle.shapes.specs.Moves.{Move, check, ask_length, push_back, push_front, pop_back, pop_front, read_forward, read_backward, clear, QuickMove, quick_push_back, quick_push_front, quick_pop_back, quick_pop_front, checked_of, Call, move_of}
use Rattle.shapes.specs.Moves as M
use Rattle.shapes.specs.Ledger.{Ledger, nothing_noted, noted_done}
use Rattle.shapes.specs.Tests.{ReadLeft}
use Rattle.shapes.proofs.Numbers.{decided_ind}
use Rattle.engines.specs.Sound.{SoundBook}
use Rattle.engines.specs.Calls.{Called, list_tests, push_tests, pop_tests, push_call, pop_call, clear_call, read_call}
use Rattle.engines.specs.Quick.{quick_push_tests, quick_pop_tests, quick_push, quick_pop}
use Rattle.engines.specs.Moves.{View}
use Rattle.engines.specs.Trace.{Demand3}
use Rattle.engines.specs.Named.{NamesFault}
use Rattle.engines.proofs.Named.{names_fault, read_names, names_none}
use Rattle.engines.proofs.Shape.{unique_book}
use Rattle.engines.proofs.Steps.{joined_one}
use Rattle.shapes.proofs.Ends.{length_joined}
use Rattle.engines.proofs.Fresh.{setup_keeps}
use Rattle.engines.proofs.Outcomes.{check_accepts, read_refused, clear_done}
use Rattle.engines.proofs.Exactly.{push_else, length_zero, clear_zero, pop_zero, read_zero, read_eight}
use Rattle.engines.proofs.QuickSound.{quick_push_checked, quick_pop_checked, quick_as_checked, seventeen_broken}
use Rattle.engines.proofs.Upstream.{as_long_lem, length_is, pop_takes, pop_five_exactly, read_is}
use Rattle.xor.specs.Engine.{xor}
use Rattle.xor.specs.Ten.{setup_of, as_answer, as_popped}
use Rattle.xor.specs.Moves.{Pool, state_of, pool_after, number_given, place_named, quick_given, quick_after, given_by, after_by, PoolTrace, begun, called}
use Rattle.xor.proofs.Lawful.{xor_lawful}
use Rattle.xor.proofs.Plain.{number_told, quick_number_told}
use Rattle.xor.proofs.Page.{page_told}
use Rattle.xor.proofs.Named.{named_fault}
use Rattle.xor.proofs.Traces.{demand_3_named}
use Rattle.faces.specs.Face.{as_changed, as_handed, as_shown, told, shown, setup_face}
use Rattle.faces.specs.Undo.{state_in}
use Rattle.faces.specs.Trace.{Memory, memory_prepared, memory_changed, memory_handed, returned, place_written, memory_after, quick_returned, quick_memory, returned_by, memory_by, noted_for, FaceTrace, started, continued, EachReturn, FaceDemand3, FaceList}
use Rattle.faces.proofs.Kept.{kept_done}
use Rattle.faces.proofs.Exact.{push_back_same, push_front_same, pop_back_same, pop_front_same, clear_same}
use Rattle.faces.proofs.Quick.{quick_push_back_same, quick_push_front_same, quick_pop_back_same, quick_pop_front_same}

-- the pool with the book that the words are
abbrev pub pool_of : Memory → Pool
pool_of m = record { links = m.links; values = m.values; book = book_from m.words }

-- ---- a call leaves eight entries, so that the words are told back whole

module _ (links values : List ℕ) (b : AnyBook) (l : ℕ) where
  push_entries : (end : End) (value : ℕ) → length (push_call xor links values b l end value).book.entries ≡ length b.entries
  unfolding push_call
  push_entries end value = decided_ind _ _ (λ (r : Called xor). length r.book.entries ≡ length b.entries) (push_tests xor links values b l) (λ k. refl) (λ k. simp length-set)

  pop_entries : (end : End) → length (pop_call xor links values b l end).book.entries ≡ length b.entries
  unfolding pop_call
  pop_entries end = decided_ind _ _ (λ (r : Called xor). length r.book.entries ≡ length b.entries) (pop_tests xor links values b l) (λ k. refl) (λ k. simp length-set)

  quick_push_entries : (end : End) (value : ℕ) → length (quick_push xor links values b l end value).book.entries ≡ length b.entries
  unfolding quick_push
  quick_push_entries end value = decided_ind _ _ (λ (r : Called xor). length r.book.entries ≡ length b.entries) (quick_push_tests xor links values b l end value) (λ k. refl) (λ k. simp length-set)

  quick_pop_entries : (end : End) → length (quick_pop xor links values b l end).book.entries ≡ length b.entries
  unfolding quick_pop
  quick_pop_entries end = decided_ind _ _ (λ (r : Called xor). length r.book.entries ≡ length b.entries) (quick_pop_tests xor links values b l end) (λ k. refl) (λ k. simp length-set)

  clear_entries : length (clear_call xor links values b l).book.entries ≡ length b.entries
  unfolding clear_call
  clear_entries = decided_ind _ _ (λ (r : Called xor). length r.book.entries ≡ length b.entries) (list_tests xor links values b l) (λ k. refl) (λ k. simp length-set)

-- words that are a book's with eight entries: there are 43, and the book is told from them
module _ {words : List ℕ} (b : Book) (e : words ≡ words_of b) (n : length b.entries ≡ 8) where
  all_words_lem : length words ≡ 43
  all_words_lem = ap length e ∙ words-length b n

  told_book : book_from words ≡ b
  told_book = ap book_from e ∙ book_kept b n

-- ---- what a call leaves is what the call by name leaves

same_pool_lem : {links values : List ℕ} {b b' : Book} → b ≡ b' → ◌≡◌ {A = Pool} (record { links = links; values = values; book = b }) (record { links = links; values = values; book = b' })
same_pool_lem {links} {values} e = λ i. record { links = links; values = values; book = e i }

-- what a call leaves: 43 words, and with the book that they are the pool that the call by name leaves
pub record AfterCall (m : Memory) (call : Call) : Type 0 where
  pub words : length (memory_by m call).words ≡ 43
  pub pool : pool_of (memory_by m call) ≡ after_by (pool_of m) call

module _ (m : Memory) (h : length m.words ≡ 43) where
  many : length (eight (book_from m.words)).entries ≡ 8
  many = entries_many m.words

  move_told : (move : Move) → AfterCall m (M.checked move)
  move_told check = record { words = h; pool = refl }
  move_told (ask_length l) = record { words = h; pool = refl }
  move_told (push_back l value) =
      let n = push_entries m.links m.values (eight (book_from m.words)) l Back value ∙ many in
      let e = (push_back_same m.links m.values m.words l value h).same_book in
      let b = (pool_after (pool_of m) (push_back l value)).book in
      record { words = all_words_lem b e n; pool = same_pool_lem (told_book b e n) }
  move_told (push_front l value) =
      let n = push_entries m.links m.values (eight (book_from m.words)) l Front value ∙ many in
      let e = (push_front_same m.links m.values m.words l value h).same_book in
      let b = (pool_after (pool_of m) (push_front l value)).book in
      record { words = all_words_lem b e n; pool = same_pool_lem (told_book b e n) }
  move_told (pop_back l) =
      let n = pop_entries m.links m.values (eight (book_from m.words)) l Back ∙ many in
      let e = (pop_back_same m.links m.values m.words l h).same_book in
      let b = (pool_after (pool_of m) (pop_back l)).book in
      record { words = all_words_lem b e n; pool = same_pool_lem (told_book b e n) }
  move_told (pop_front l) =
      let n = pop_entries m.links m.values (eight (book_from m.words)) l Front ∙ many in
      let e = (pop_front_same m.links m.values m.words l h).same_book in
      let b = (pool_after (pool_of m) (pop_front l)).book in
      record { words = all_words_lem b e n; pool = same_pool_lem (told_book b e n) }
  move_told (read_forward l buffer at) = record { words = h; pool = refl }
  move_told (read_backward l buffer at) = record { words = h; pool = refl }
  move_told (clear l) =
      let n = clear_entries m.links m.values (eight (book_from m.words)) l ∙ many in
      let e = (clear_same m.links m.values m.words l h).same_book in
      let b = (pool_after (pool_of m) (clear l)).book in
      record { words = all_words_lem b e n; pool = same_pool_lem (told_book b e n) }

  quick_told : (q : QuickMove) → AfterCall m (M.quick q)
  quick_told (quick_push_back l value) =
      let n = quick_push_entries m.links m.values (eight (book_from m.words)) l Back value ∙ many in
      let e = (quick_push_back_same m.links m.values m.words l value h).same_book in
      let b = (quick_after (pool_of m) (quick_push_back l value)).book in
      record { words = all_words_lem b e n; pool = same_pool_lem (told_book b e n) }
  quick_told (quick_push_front l value) =
      let n = quick_push_entries m.links m.values (eight (book_from m.words)) l Front value ∙ many in
      let e = (quick_push_front_same m.links m.values m.words l value h).same_book in
      let b = (quick_after (pool_of m) (quick_push_front l value)).book in
      record { words = all_words_lem b e n; pool = same_pool_lem (told_book b e n) }
  quick_told (quick_pop_back l) =
      let n = quick_pop_entries m.links m.values (eight (book_from m.words)) l Back ∙ many in
      let e = (quick_pop_back_same m.links m.values m.words l h).same_book in
      let b = (quick_after (pool_of m) (quick_pop_back l)).book in
      record { words = all_words_lem b e n; pool = same_pool_lem (told_book b e n) }
  quick_told (quick_pop_front l) =
      let n = quick_pop_entries m.links m.values (eight (book_from m.words)) l Front ∙ many in
      let e = (quick_pop_front_same m.links m.values m.words l h).same_book in
      let b = (quick_after (pool_of m) (quick_pop_front l)).book in
      record { words = all_words_lem b e n; pool = same_pool_lem (told_book b e n) }

  pub memory_told : (call : Call) → AfterCall m call
  memory_told (M.checked move) = move_told move
  memory_told (M.quick q) = quick_told q

-- the number that a C function returns is the one that the call by name gives
pub returned_told : (m : Memory) (move : Move) → returned m move ≡ number_given (pool_of m) move
returned_told m check = refl
returned_told m (ask_length l) = refl
returned_told m (push_back l value) = refl
returned_told m (push_front l value) = refl
returned_told m (pop_back l) = refl
returned_told m (pop_front l) = refl
returned_told m (read_forward l buffer at) = refl
returned_told m (read_backward l buffer at) = refl
returned_told m (clear l) = refl

quick_returned_told : (m : Memory) (q : QuickMove) → quick_returned m q ≡ quick_given (pool_of m) q
quick_returned_told m (quick_push_back l value) = refl
quick_returned_told m (quick_push_front l value) = refl
quick_returned_told m (quick_pop_back l) = refl
quick_returned_told m (quick_pop_front l) = refl

pub returned_told_by : (m : Memory) (call : Call) → returned_by m call ≡ given_by (pool_of m) call
returned_told_by m (M.checked move) = returned_told m move
returned_told_by m (M.quick q) = quick_returned_told m q

-- and so is the place
written_told : (m : Memory) (move : Move) → place_written m move ≡ place_named (pool_of m) move
written_told m check = refl
written_told m (ask_length l) = refl
written_told m (push_back l value) = refl
written_told m (push_front l value) = refl
written_told m (pop_back l) = refl
written_told m (pop_front l) = refl
written_told m (read_forward l buffer at) = refl
written_told m (read_backward l buffer at) = refl
written_told m (clear l) = refl

-- 02 b): every C function but setup returns the first rule broken, and writes its list and position
pub face_names_fault : (m : Memory) (move : Move) → NamesFault xor (state_in m) (returned m move) (place_written m move)
face_names_fault m move =
    subst (λ (place : Place). NamesFault xor (state_in m) (returned m move) place) (sym (written_told m move))
    (subst (λ (n : ℕ). NamesFault xor (state_in m) n (place_named (pool_of m) move)) (sym (returned_told m move)) (named_fault (pool_of m) move))

-- 02 d): where a quick function returns 17 flailreeve_check returns one of 9 to 16
pub face_seventeen_broken : (m : Memory) (q : QuickMove) → quick_returned m q ≡ 17 → (9 ≤ returned m check) × (returned m check ≤ 16)
face_seventeen_broken m q n = seventeen_broken xor_lawful (state_in m) q (sym (quick_returned_told m q ∙ quick_number_told (pool_of m) q) ∙ n)

-- ---- a trace of the C functions is a trace of the calls by name

module _ {lists : ℕ} {shares limits : List ℕ} where
  pub face_trace : {m : Memory} {ledger : Ledger} → FaceTrace lists shares limits m ledger → (length m.words ≡ 43) × PoolTrace lists shares limits (pool_of m) ledger
  face_trace (started links values words z) =
      let b = (setup_of links values lists shares limits).answer.book in
      let e = kept_done _ words b z in
      let n = (setup_keeps xor_lawful most_lists links values lists shares limits z).entries in
      (all_words_lem b e n, subst (λ (p : Pool). PoolTrace lists shares limits p nothing_noted) (sym (same_pool_lem (told_book b e n))) (begun links values z))
  face_trace (continued {m} {ledger} t call) =
      let (h, T) = face_trace t in
      let W = memory_told m h call in (
        W.words,
        subst (λ (p : Pool). PoolTrace lists shares limits p (noted_for m call ledger)) (sym W.pool)
            (subst (λ (n : ℕ). PoolTrace lists shares limits (after_by (pool_of m) call) (cond (eqb n 0) (noted_done (move_of call) ledger) ledger)) (sym (returned_told_by m call)) (called T call)),
      )

-- ---- what the calls give on a list

module _ (m : Memory) {s : Shape} (S : SoundBook xor m.links m.values (eight (book_from m.words)) s) (l : ℕ) (below : l < (book_from m.words).lists)
    {vs : List ℕ} (H : View xor (state_of (pool_of m)) l vs) where
  -- the list has as many slots as values
  as_many_lem : length (chain_at s l) ≡ length vs
  as_many_lem = as_long_lem xor_lawful H S

  -- a pop at an end of a list that holds something
  taken : (end : End) (v : ℕ) (rest : List ℕ) → vs ≡ joined end v rest
      → ((pop_call xor m.links m.values (eight (book_from m.words)) l end).number ≡ 0) × ((pop_call xor m.links m.values (eight (book_from m.words)) l end).value ≡ v)
  taken end v rest e =
      let z = (pop_zero xor_lawful S l below end).1 (omega (arith, as_many_lem, ap length e, length_joined end v rest)) in
      let (more, f, K) = pop_takes xor_lawful H end z in
      (z, (joined_one end _ v more rest (sym f ∙ e)).0)

  module _ (end : End) (buffer : List ℕ) (at : ℕ) where
    abbrev reading : ReadLeft
    reading = read_call xor m.links m.values (eight (book_from m.words)) l end buffer at

    nowhere : place_in reading.answer.refusal ≡ no_place
    nowhere = names_none S (read_names xor_lawful (state_in m) l end buffer at)

    -- a read that fits, and one that does not
    fitting : at + length vs ≤ length buffer → as_shown reading ≡ shown 0 no_place (length vs) (take at buffer ++ from_end end vs ++ drop (at + length vs) buffer)
    fitting h =
        let z = (read_zero xor_lawful S l below end buffer at).1 (⊎_elim (λ k. omega arith) (λ k. omega (arith, as_many_lem))) in
        let (n, e) = read_is xor_lawful H end buffer at z in
        λ i. record { number = z i; place = nowhere i; count = n i; buffer = e i }

    lacking : length buffer < at + length vs → as_shown reading ≡ shown 8 no_place 0 buffer
    lacking h =
        let z = (read_eight xor_lawful S l below end buffer at).1 (inr (omega (arith, as_many_lem))) in
        let R = read_refused xor m.links m.values (eight (book_from m.words)) l end buffer at (λ e. omega arith) in
        λ i. record { number = z i; place = nowhere i; count = R.no_count i; buffer = R.same_buffer i }

  face_list : FaceList m s l vs
  face_list =
      record {
        as_long = let z = length_zero xor_lawful S l below in λ i. record { number = z i; place = names_none S (names_fault xor_lawful (state_in m) (ask_length l)) i; length = length_is xor_lawful H z i };
        last = taken Back;
        first = taken Front;
        five = ((pop_five_exactly xor_lawful H Back).1, (pop_five_exactly xor_lawful H Front).1);
        forward = fitting Front;
        backward = fitting Back;
        too_small = λ buffer at h. (lacking Front buffer at h, lacking Back buffer at h);
        cleared = clear_zero xor_lawful S l below;
        nothing_left = λ y h.
            let (t, T, C) = clear_done xor_lawful m.links m.values (eight (book_from m.words)) l (clear_zero xor_lawful S l below) in
            C.wiped y (subst (λ (u : Shape). 0 < count y (chain_at u l)) (unique_book xor_lawful S T) h);
      }

-- ---- on a sound pool a quick function is the checked one

module _ (m : Memory) {s : Shape} (S : SoundBook xor m.links m.values (eight (book_from m.words)) s) where
  quick_return : (q : QuickMove) → quick_returned m q ≡ returned m (checked_of q)
  quick_return q = quick_returned_told m q ∙ quick_number_told (pool_of m) q ∙ (quick_as_checked xor_lawful S q).0 ∙ sym (number_told (pool_of m) (checked_of q)) ∙ sym (returned_told m (checked_of q))

  quick_leaves : (q : QuickMove) → quick_memory m q ≡ memory_after m (checked_of q)
  quick_leaves (quick_push_back l value) = ap (λ (r : Called xor). memory_changed (as_changed m.words (as_answer r))) (quick_push_checked xor_lawful S l Back value)
  quick_leaves (quick_push_front l value) = ap (λ (r : Called xor). memory_changed (as_changed m.words (as_answer r))) (quick_push_checked xor_lawful S l Front value)
  quick_leaves (quick_pop_back l) = ap (λ (r : Called xor). memory_handed (as_handed m.words (as_popped r))) (quick_pop_checked xor_lawful S l Back)
  quick_leaves (quick_pop_front l) = ap (λ (r : Called xor). memory_handed (as_handed m.words (as_popped r))) (quick_pop_checked xor_lawful S l Front)

-- ---- every sentence of demand 3, and what each list gives, at any point of a trace of the C functions

pub demand_3_of_c : {lists : ℕ} {shares limits : List ℕ} {m : Memory} {ledger : Ledger} → FaceTrace lists shares limits m ledger
    → (s : Shape) × FaceDemand3 lists shares limits m ledger s × ((l : ℕ) → l < lists → FaceList m s l (ledger.held l))
demand_3_of_c {lists} {shares} {limits} {m} {ledger} t =
    let (h, T) = face_trace t in
    let (s, D) = demand_3_named T in
    (s, demand h D, λ l b. face_list m D.sound l (omega (arith, D.as_many)) (record { shape = s; sound = D.sound; listed = omega (arith, D.as_many); holds = D.sequence l b }))
  where
    demand : length m.words ≡ 43 → {s : Shape} → Demand3 xor most_lists lists shares limits (state_of (pool_of m)) ledger s → FaceDemand3 lists shares limits m ledger s
    demand h {s} D =
        record {
          all_words = h;
          sound = (page_told m.links m.values (book_from m.words) s).0 D.sound;
          as_many = D.as_many;
          granted = λ l b. (sym (ap (λ (e : Entry). e.share) (there l b)) ∙ (D.granted l b).0, sym (ap (λ (e : Entry). e.limit) (there l b)) ∙ (D.granted l b).1);
          holds = D.holds;
          lengths = λ l b. omega (arith, D.lengths l b, ap (λ (e : Entry). e.length) (there l b));
          free_count = D.free_count;
          sequence = D.sequence;
          freed = D.freed;
          wiped = λ y low high none. D.sound.pool.wiped y (omega (arith, D.freed y low high none));
          within = D.within;
          served = D.served;
          six = D.six;
          seven = D.seven;
          taken = λ l value b.
              let back = push_else xor_lawful D.sound l (omega (arith, D.as_many)) Back value in
              let front = push_else xor_lawful D.sound l (omega (arith, D.as_many)) Front value in
              (back, front, subst (λ (n : ℕ). n ≢ 6 → n ≢ 7 → n ≡ 0) (sym (quick_return m D.sound (quick_push_back l value))) back, subst (λ (n : ℕ). n ≢ 6 → n ≢ 7 → n ≡ 0) (sym (quick_return m D.sound (quick_push_front l value))) front);
          accepted = (check_accepts xor_lawful m.links m.values (eight (book_from m.words))).1 (s, D.sound);
          never = λ move. let e = returned_told m move ∙ number_told (pool_of m) move in (λ z. (D.never move).0 (sym e ∙ z), λ k lo hi z. (D.never move).1 k lo hi (sym e ∙ z));
          nowhere = λ move. names_none D.sound (face_names_fault m move);
          never_quick = λ q. let e = quick_returned_told m q ∙ quick_number_told (pool_of m) q in (λ z. (D.never_quick q).0 (sym e ∙ z), λ z. (D.never_quick q).1 (sym e ∙ z));
          as_checked = λ q. (quick_return m D.sound q, quick_leaves m D.sound q);
          same_value = λ l. (ap (λ (r : Called xor). r.value) (quick_pop_checked xor_lawful D.sound l Back), ap (λ (r : Called xor). r.value) (quick_pop_checked xor_lawful D.sound l Front));
        }
      where
        there : (l : ℕ) → l < lists → entry_at (entries_from m.words) l ≡ entry_from m.words l
        there l b = entry_read m.words l (omega (arith, D.as_many, D.sound.rules.most))

-- ---- a trace may begin with any accepted setup, whatever words it is lent, and go on with any of the nine calls and of the quick ones

pub any_face_setup : (links values words : List ℕ) (lists : ℕ) (shares limits : List ℕ) → (setup_face links values lists shares limits words).answer.number ≡ 0
    → FaceTrace lists shares limits (memory_prepared (setup_face links values lists shares limits words)) nothing_noted
any_face_setup links values words lists shares limits z = started links values words z

pub any_face_call : {lists : ℕ} {shares limits : List ℕ} {m : Memory} {ledger : Ledger} → FaceTrace lists shares limits m ledger → (call : Call)
    → FaceTrace lists shares limits (memory_by m call) (cond (eqb (returned_by m call) 0) (noted_done (move_of call) ledger) ledger)
any_face_call t call = continued t call
