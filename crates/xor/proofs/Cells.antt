-- What a done push and a done pop leave in every cell of the XOR list: 01's links, written out.
use mathlib.Core.Path.{◌≡◌, sym, subst, ◌∙◌}
use mathlib.Core.Bool.{true}
use mathlib.Core.List.{List, ◌∷◌}
use Prim.Native.Nat.{ℕ, ◌+◌, ◌-◌}
use Rattle.books.specs.declared.Free.{Free}
use Rattle.books.specs.declared.Entry.{Entry}
use Rattle.books.specs.Book.{entry_at, AnyBook}
use Rattle.books.specs.Outcome.{Outcome, outcome}
use Rattle.shapes.specs.declared.End.{End}
use Rattle.shapes.specs.Records.{PushStep}
use Rattle.shapes.specs.Records.{PopStep}
use Rattle.shapes.specs.Shape.{Shape, chain_at}
use Rattle.shapes.proofs.Numbers.{decided_ind}
use Rattle.engines.specs.Sound.{SoundBook, Held}
use Rattle.engines.specs.Calls.{Called, stepped, push_tests, pop_tests, push_call, pop_call}
use Rattle.engines.specs.Done.{Pushes, Pops}
use Rattle.engines.proofs.Steps.{book_held, entry_set}
use Rattle.engines.proofs.When.{push_number, pop_number_lem}
use Rattle.engines.proofs.Outcomes.{push_done, pop_done}
use Rattle.xor.specs.Engine.{xor}
use Rattle.xor.specs.Steps.{push_of, pop_of}
use Rattle.xor.specs.StepDone.{PushDone, PopDone}
use Rattle.xor.specs.Quick.{push_left, pop_left}
use Rattle.xor.proofs.Steps.{push_step_done, pop_step_done}
use Rattle.xor.proofs.Lawful.{xor_lawful}
use Rattle.shapes.specs.Ends.{joined, opposite}
use Rattle.shapes.specs.Counts.{with_length, with_count}
use Rattle.shapes.proofs.Ends.{near_length}
use Rattle.engines.specs.Counted.{counted_push, counted_pop}
use Rattle.engines.proofs.Counted.{push_counted_lem, pop_counted_lem}

-- ---- the counts are no cells

module _ (end : End) (links values : List ℕ) (list : Entry) (free : Free) where
  pub push_recounted : (value n m : ℕ) {r : Outcome PushStep} → PushDone end links values list free value r
      → PushDone end links values list free value (outcome (record { done = r.answer.done; entry = with_length n r.answer.entry; free = with_count m r.answer.free }) r.links r.values)
  push_recounted value n m {r} D =
      record {
        done = D.done;
        rest = D.rest;
        stored = D.stored;
        first = D.first;
        next = λ t. let (a, b, c, d) = D.next t in (near_length end n r.answer.entry ∙ a, near_length (opposite end) n r.answer.entry ∙ b, c, d);
        share = D.share;
        limit = D.limit;
        frame = D.frame;
      }

  pub pop_recounted : (n m : ℕ) {r : Outcome PopStep} → PopDone end links values list free r
      → PopDone end links values list free (outcome (record { done = r.answer.done; value = r.answer.value; entry = with_length n r.answer.entry; free = with_count m r.answer.free }) r.links r.values)
  pop_recounted n m {r} D =
      record {
        done = D.done;
        value = D.value;
        wiped = D.wiped;
        freed = D.freed;
        link = D.link;
        last = D.last;
        next = λ t. let (a, b, c) = D.next t in (near_length end n r.answer.entry ∙ a, near_length (opposite end) n r.answer.entry ∙ b, c);
        share = D.share;
        limit = D.limit;
        frame = D.frame;
      }

-- ---- the calls

module _ (links values : List ℕ) (b : AnyBook) (l : ℕ) (end : End) where
  abbrev e : Entry
  e = entry_at b.entries l

  pub push_cells : (value : ℕ) → (push_call xor links values b l end value).number ≡ 0 → PushDone end links values e b.free value (push_left l (push_call xor links values b l end value))
  unfolding push_call
  push_cells value =
      decided_ind _ _ (λ (r : Called xor). r.number ≡ 0 → PushDone end links values e b.free value (push_left l r)) (push_tests xor links values b l)
      (λ k z. absurd (k z))
      (λ k z. let (s, S, P) = push_done xor_lawful links values b l end value (push_number xor links values b l end value ∙ k) in go s S P)
    where
      r : Outcome PushStep
      r = push_of end links values e b.free value

      go : (s : Shape) → SoundBook xor links values b s → Pushes xor links values b end l value s (push_call xor links values b l end value)
          → PushDone end links values e b.free value (push_left l (stepped xor links values b l 0 (counted_push xor end links values e b.free value)))
      go s S P =
          let H : Held xor links values e b.free (chain_at s l) (P.slot ∷ P.rest) = subst (λ (fs : List ℕ). Held xor links values e b.free (chain_at s l) fs) P.first (book_held S l P.listed) in
          let J = xor_lawful.push end links values e b.free P.slot value (chain_at s l) P.rest H in
          let counted = push_counted_lem xor_lawful end links values e b.free P.slot (chain_at s l) P.rest value H in
          rw counted
          (subst (PushDone end links values e b.free value)
          (λ i. outcome (record { done = J.done i; entry = sym (entry_set S l P.listed (with_length (e.length + 1) r.answer.entry)) i; free = with_count (b.free.count - 1) r.answer.free }) r.links r.values)
          (push_recounted end links values e b.free value (e.length + 1) (b.free.count - 1) (push_step_done end links values e b.free value J.done)))

  pub pop_cells : (pop_call xor links values b l end).number ≡ 0 → PopDone end links values e b.free (pop_left l (pop_call xor links values b l end))
  unfolding pop_call
  pop_cells =
      decided_ind _ _ (λ (r : Called xor). r.number ≡ 0 → PopDone end links values e b.free (pop_left l r)) (pop_tests xor links values b l)
      (λ k z. absurd (k z))
      (λ k z. let (s, S, P) = pop_done xor_lawful links values b l end (pop_number_lem xor links values b l end ∙ k) in go s S P)
    where
      r : Outcome PopStep
      r = pop_of end links values e b.free

      go : (s : Shape) → SoundBook xor links values b s → Pops xor links values b end l s (pop_call xor links values b l end)
          → let o = counted_pop xor end links values e b.free in PopDone end links values e b.free (pop_left l (stepped xor links values b l o.value o))
      go s S P =
          let H : Held xor links values e b.free (joined end P.slot P.rest) s.idle = subst (λ (xs : List ℕ). Held xor links values e b.free xs s.idle) P.last (book_held S l P.listed) in
          let G = xor_lawful.pop end links values e b.free P.slot P.rest s.idle H in
          let counted = pop_counted_lem xor_lawful end links values e b.free P.slot P.rest s.idle H in
          rw counted
          (subst (PopDone end links values e b.free)
          (λ i. outcome (record { done = G.done i; value = r.answer.value; entry = sym (entry_set S l P.listed (with_length (e.length - 1) r.answer.entry)) i; free = with_count (b.free.count + 1) r.answer.free }) r.links r.values)
          (pop_recounted end links values e b.free (e.length - 1) (b.free.count + 1) (pop_step_done end links values e b.free G.done)))
