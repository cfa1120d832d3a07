-- 02 d) of the XOR list, on any cells and any book: when a quick call gives each number, what it leaves, and which cells it reads and writes.
use mathlib.Core.Path.{◌≡◌, refl, sym, ap, subst, ◌∙◌}
use mathlib.Core.Logic.{◌↔◌, ◌≢◌, ◌⊎◌, inl, inr}
use mathlib.Core.Bool.{Bool, true, false, not, ◌&&◌}
use mathlib.Core.List.{List, []}
use Prim.Native.Nat.{ℕ, ◌+◌, ◌-◌, ◌<◌}
use native.Mathlib.Decide.{ℕ_discrete, dec_lt}
use native.Mathlib.Omega.{arith}
use lib.Dec.{eqb, ltb}
use lib.ListN.{length, set, length-set}
use lib.Seq.{get_or-set_same, get_or-set_other}
use Rattle.books.specs.declared.Free.{Free}
use Rattle.books.specs.declared.Entry.{Entry}
use Rattle.books.specs.Book.{null_slot, zero_entry, entry_at, AnyBook}
use Rattle.books.specs.Outcome.{Outcome, outcome}
use Rattle.books.proofs.Tests.{not_both}
use Rattle.chains.specs.Count.{count}
use Rattle.chains.specs.Chain.{cell}
use Rattle.shapes.specs.declared.End.{End}
use Rattle.shapes.specs.Records.{PushStep}
use Rattle.shapes.specs.Records.{PopStep}
use Rattle.shapes.specs.Counts.{with_length, with_count}
use Rattle.shapes.specs.Changes.{with_list, OtherEntries}
use Rattle.shapes.specs.Numbers.{Given}
use Rattle.shapes.specs.Quick.{BadSlots}
use Rattle.shapes.proofs.Quick.{GoodSlots, good_not_bad, good_or_bad}
use Rattle.engines.specs.Sound.{Fit}
use Rattle.engines.specs.Calls.{Called, stepped}
use Rattle.engines.specs.Counted.{with_counts}
use Rattle.engines.specs.Quick.{quick_push, quick_pop}
use Rattle.engines.proofs.QuickGiven.{quick_push_given, quick_pop_given, quick_push_refused, quick_pop_refused, quick_push_left, quick_pop_left}
use Rattle.xor.specs.Engine.{xor}
use Rattle.xor.specs.Steps.{push_of, pop_of}
use Rattle.xor.specs.StepDone.{Apart, touched_by_push, touched_by_pop, PushDone, PopDone}
use Rattle.xor.specs.Quick.{push_left, pop_left, push_slots, pop_slots, xor_push_conditions, xor_pop_conditions, QuickPushes, QuickPops, NullKept}
use Rattle.xor.proofs.Steps.{push_step_exactly, push_step_done, pop_step_exactly, pop_step_done}
use Rattle.xor.proofs.Cells.{push_recounted, pop_recounted}

-- ---- slots that are kept apart

module _ {links values : List ℕ} (same : length links ≡ length values) (some : 0 < length links) (slots : List ℕ) where
  apart_good : Apart links values slots → GoodSlots (length links) slots
  apart_good A = record { inside = λ y p. let q = A.slots y p in (q.not_null, q.has_link); once = A.once }

  good_apart : GoodSlots (length links) slots → Apart links values slots
  good_apart G = record { slots = λ y p. let (lo, hi) = G.inside y p in record { not_null = lo; has_link = hi; has_value = omega arith }; once = G.once }

  -- a step that is done exactly where its slots are kept apart is refused exactly where one is bad
  refused_bad : (done : Bool) → done ≡ true ↔ Apart links values slots → done ≡ false ↔ BadSlots (length links) slots
  refused_bad true i = (λ e. not_both true refl e, λ B. absurd (good_not_bad some (apart_good (i.0 refl)) B))
  refused_bad false i = (λ e. bad (good_or_bad (length links) slots some), λ B. refl)
    where
      bad : GoodSlots (length links) slots ⊎ BadSlots (length links) slots → BadSlots (length links) slots
      bad (inl G) = not_both true refl (sym (i.1 (good_apart G)))
      bad (inr B) = B

module _ (links values : List ℕ) (b : AnyBook) (l : ℕ) (end : End) where
  abbrev e : Entry
  e = entry_at b.entries l

  -- ---- when each number is given

  pub xor_push_given : (value : ℕ) → Given (xor_push_conditions links values b l end) (quick_push xor links values b l end value).number
  xor_push_given value =
      quick_push_given xor links values b l end value (BadSlots (length links) (push_slots links values b l end))
      (λ fit. refused_bad fit.same (omega (arith, fit.size.least)) (push_slots links values b l end) (push_of end links values e b.free value).answer.done (push_step_exactly end links values e b.free value))

  pub xor_pop_given : Given (xor_pop_conditions links values b l end) (quick_pop xor links values b l end).number
  xor_pop_given =
      quick_pop_given xor links values b l end (BadSlots (length links) (pop_slots links values b l end))
      (λ fit. refused_bad fit.same (omega (arith, fit.size.least)) (pop_slots links values b l end) (pop_of end links values e b.free).answer.done (pop_step_exactly end links values e b.free))

  -- ---- what a done call leaves

  book_left : (x : Entry) (free : Free) → l < length b.entries → x.share ≡ e.share → x.limit ≡ e.limit → OtherEntries b l (with_list b l x free)
  book_left x free h sh li =
      let here = get_or-set_same b.entries l x zero_entry h in
      record {
        same_places = refl;
        same_lists = refl;
        same_entries = length-set b.entries l x;
        others = λ k d. get_or-set_other b.entries l k x zero_entry d;
        share = rw here sh;
        limit = rw here li;
      }

  -- where no count would leave 0 to N-1, and the slots are of one pool
  inside_of : {ys : List ℕ} → Apart links values ys → (y : ℕ) → 0 < count y ys → (0 < y) × (y < length links)
  inside_of A y p = let q = A.slots y p in (q.not_null, q.has_link)

  module _ (h : l < length b.entries) where
    entry_there : (x : Entry) → entry_at (set b.entries l x) l ≡ x
    entry_there x = get_or-set_same b.entries l x zero_entry h

    push_left_lem : (value : ℕ) → 0 < b.free.count → (push_of end links values e b.free value).answer.done ≡ true
        → QuickPushes links values b l end value (stepped xor links values b l 0 (with_counts (e.length + 1) (b.free.count - 1) (xor.push end links values e b.free value)))
    push_left_lem value some made =
        let r = push_of end links values e b.free value in
        let x = with_length (e.length + 1) r.answer.entry in
        let D = push_step_done end links values e b.free value made in
        record {
          unplaced = refl;
          no_value = refl;
          inside = inside_of ((push_step_exactly end links values e b.free value).0 made);
          step = subst (PushDone end links values e b.free value)
              (λ i. outcome (record { done = made i; entry = sym (entry_there x) i; free = with_count (b.free.count - 1) r.answer.free }) r.links r.values)
              (push_recounted end links values e b.free value (e.length + 1) (b.free.count - 1) D);
          longer = ap (λ (y : Entry). y.length) (entry_there x);
          fewer = omega arith;
          book = book_left x (with_count (b.free.count - 1) r.answer.free) h D.share D.limit;
        }

    pop_left_lem : 0 < e.length → (pop_of end links values e b.free).answer.done ≡ true
        → let o = with_counts (e.length - 1) (b.free.count + 1) (xor.pop end links values e b.free) in QuickPops links values b l end (stepped xor links values b l o.value o)
    pop_left_lem some made =
        let r = pop_of end links values e b.free in
        let x = with_length (e.length - 1) r.answer.entry in
        let D = pop_step_done end links values e b.free made in
        record {
          unplaced = refl;
          inside = inside_of ((pop_step_exactly end links values e b.free).0 made);
          step = subst (PopDone end links values e b.free)
              (λ i. outcome (record { done = made i; value = r.answer.value; entry = sym (entry_there x) i; free = with_count (b.free.count + 1) r.answer.free }) r.links r.values)
              (pop_recounted end links values e b.free (e.length - 1) (b.free.count + 1) D);
          shorter = omega (arith, ap (λ (y : Entry). y.length) (entry_there x));
          more = refl;
          book = book_left x (with_count (b.free.count + 1) r.answer.free) h D.share D.limit;
        }

  pub quick_push_cells : (value : ℕ) → (quick_push xor links values b l end value).number ≡ 0 → QuickPushes links values b l end value (quick_push xor links values b l end value)
  quick_push_cells value n =
      let (P, G, h, q) = quick_push_left xor links values b l end value n in
      subst (QuickPushes links values b l end value) (sym q) (push_left_lem h value G.some G.made)

  pub quick_pop_cells : (quick_pop xor links values b l end).number ≡ 0 → QuickPops links values b l end (quick_pop xor links values b l end)
  quick_pop_cells n =
      let (P, G, h, q) = quick_pop_left xor links values b l end n in
      subst (QuickPops links values b l end) (sym q) (pop_left_lem h G.filled G.made)

  -- ---- no cell of slot 0 is written, nor one past the pool, done or refused: only those of the slots that it touches

  null_untouched : (ys : List ℕ) → ((y : ℕ) → 0 < count y ys → (0 < y) × (y < length links)) → count 0 ys ≡ 0
  null_untouched ys inside = go (dec_lt 0 (count 0 ys))
    where
      go : Dec (0 < count 0 ys) → count 0 ys ≡ 0
      go (yes p) = absurd (omega (arith, inside 0 p))
      go (no p) = omega arith

  pub push_null_kept : (value : ℕ) → NullKept links values b l end (quick_push xor links values b l end value)
  push_null_kept value = go (ℕ_discrete (quick_push xor links values b l end value).number 0)
    where
      go : Dec ((quick_push xor links values b l end value).number ≡ 0) → NullKept links values b l end (quick_push xor links values b l end value)
      go (yes n) =
          let D = quick_push_cells value n in
          let F = D.step.frame in
          let z = null_untouched (push_slots links values b l end) D.inside in
          (F.other_links null_slot z, F.other_values null_slot (omega (arith, z)), F.same_links, F.same_values)
      go (no d) =
          let R = quick_push_refused xor links values b l end value d in
          (ap (λ (c : List ℕ). cell c null_slot) R.same_links, ap (λ (c : List ℕ). cell c null_slot) R.same_values, ap length R.same_links, ap length R.same_values)

  pub pop_null_kept : NullKept links values b l end (quick_pop xor links values b l end)
  pop_null_kept = go (ℕ_discrete (quick_pop xor links values b l end).number 0)
    where
      go : Dec ((quick_pop xor links values b l end).number ≡ 0) → NullKept links values b l end (quick_pop xor links values b l end)
      go (yes n) =
          let D = quick_pop_cells n in
          let F = D.step.frame in
          let z = null_untouched (pop_slots links values b l end) D.inside in
          (F.other_links null_slot z, F.other_values null_slot (omega (arith, z)), F.same_links, F.same_values)
      go (no d) =
          let R = quick_pop_refused xor links values b l end d in
          (ap (λ (c : List ℕ). cell c null_slot) R.same_links, ap (λ (c : List ℕ). cell c null_slot) R.same_values, ap length R.same_links, ap length R.same_values)
