-- Slots that move between one list of a sound pool and its idle chain leave it sound: the law that the steps cite.
use mathlib.Core.Path.{◌≡◌, sym, ◌∙◌}
use mathlib.Core.Logic.{◌≢◌}
use mathlib.Core.List.{List, []}
use Prim.Native.Nat.{ℕ, ◌+◌, ◌-◌, ◌≤◌, ◌<◌}
use native.Mathlib.Decide.{ℕ_discrete}
use native.Mathlib.Omega.{arith}
use lib.ListN.{length, set, length-set}
use lib.Seq.{get_or-set_same, get_or-set_other}
use Rattle.books.specs.declared.Free.{Free}
use Rattle.books.specs.declared.Entry.{Entry}
use Rattle.books.specs.Book.{null_slot, wipe_word, zero_entry, entry_at}
use Rattle.chains.specs.Count.{count}
use Rattle.chains.specs.Chain.{cell}
use Rattle.chains.proofs.Count.{count-append}
use Rattle.shapes.specs.Shape.{Shape, chain_at, put, joined_up, every_slot, lacks}
use Rattle.shapes.proofs.Shape.{joined_set, lacks_set}
use Rattle.engines.specs.Engine.{Engine}
use Rattle.engines.specs.Sound.{EntryHolds, Sound, Held}
use Rattle.engines.specs.Laws.{Lawful}
use Rattle.engines.proofs.Shape.{at_most, no_null, part, two_parts}

-- each list of a sound pool is held by the cells
pub sound_held : {E : Engine} {links : E.Links} {values : List ℕ} {es : List Entry} {free : Free} {s : Shape} → Sound E links values es free s → (l : ℕ) → l < length es
    → Held E links values (entry_at es l) free (chain_at s l) s.idle
sound_held {E} {links} {values} {es} {free} {s} S l b =
    record {
      even = S.fit.even;
      same = S.fit.same;
      slots = λ y h. S.only y (omega (arith, part S l y, count-append y (chain_at s l) s.idle));
      once = λ y. omega (arith, part S l y, at_most S y, count-append y (chain_at s l) s.idle);
      entry = S.entry l b;
      live = S.live l b;
      free_record = S.free_record;
      idle = S.idle;
    }

-- slots are moved between list l and the idle chain, and the links of no other slot change
module _ {E : Engine} (L : Lawful E) {links : E.Links} {values : List ℕ} {es : List Entry} {free : Free} {s : Shape} (S : Sound E links values es free s)
    (links' : E.Links) (values' : List ℕ) (l : ℕ) (e : Entry) (free' : Free) (xs fs : List ℕ) where
  pub sound_put : l < length es
      → E.size links' ≡ E.size links
      → ((y : ℕ) → count y xs + count y fs ≡ count y (chain_at s l) + count y s.idle)
      → ((y : ℕ) → count y (chain_at s l) ≡ 0 → count y s.idle ≡ 0 → E.Same links links' y)
      → Held E links' values' e free' xs fs
      → ((y : ℕ) → 0 < count y fs → cell values' y ≡ wipe_word)
      → cell values' null_slot ≡ 0
      → e.share ≡ (entry_at es l).share
      → length xs ≤ e.limit
      → lacks es s.chains + ((entry_at es l).share - length xs) ≤ length fs + ((entry_at es l).share - length (chain_at s l))
      → e.length ≡ length xs
      → free'.count ≡ length fs
      → Sound E links' values' (set es l e) free' (put s l xs fs)
  sound_put b nl moved same H w v0 sh lim sp many free-many =
      record {
        fit = record { even = H.even; same = H.same; size = rw nl S.fit.size };
        lists = length-set s.chains l xs ∙ S.lists ∙ sym (length-set es l e);
        once = λ y p q. keep y ∙ S.once y p (rw nl at q);
        only = λ y p. rw nl (S.only y (rw (keep y) at p));
        entry = λ k c. at_each k c EntryHolds H.entry (λ j i. S.entry k j);
        live = λ k c. at_each k c (λ d x. E.Live links' x) H.live (λ j i. live_other k (rw (length-set es l e) at c) i);
        free_record = H.free_record;
        idle = H.idle;
        wiped = w;
        null_link = L.null_same links links' (same 0 (omega (arith, part S l 0, no_null S)) (omega (arith, part S l 0, no_null S))) S.null_link;
        null_value = v0;
        short = λ k c. at_each k c (λ d x. length x ≤ d.limit) lim (λ j i. S.short k (rw (length-set es l e) at c));
        spare = omega (arith, lacks_set es s.chains l e xs S.lists b sh);
        counted = λ k c. at_each k c (λ d x. d.length ≡ length x) many (λ j i. S.counted k j);
        free_counted = free-many;
      }
    where
      bc : l < length s.chains
      bc = rw S.lists b

      keep : (y : ℕ) → count y (every_slot (put s l xs fs)) ≡ count y (every_slot s)
      keep y =
          omega (arith, joined_set s.chains l xs y bc, moved y, count-append y (joined_up (set s.chains l xs)) fs, count-append y (joined_up s.chains) s.idle)

      live_other : (k : ℕ) → k < length es → k ≢ l → E.Live links' (chain_at s k)
      live_other k c d =
          L.live_same links links' (chain_at s k)
          (λ y p. let o = two_parts S l k y d in same y (omega (arith, at_most S y)) (omega (arith, at_most S y))) (S.live k c)

      -- what holds of list l anew and of every other as it was holds of each
      at_each : (k : ℕ) → k < length (set es l e) → (P : Entry → List ℕ → Type 0) → P e xs → (k < length es → k ≢ l → P (entry_at es k) (chain_at s k)) → P (entry_at (set es l e) k) (chain_at (put s l xs fs) k)
      at_each k c P h r = go (ℕ_discrete k l)
        where
          go : Dec (k ≡ l) → P (entry_at (set es l e) k) (chain_at (put s l xs fs) k)
          go (yes d) = rw (d, get_or-set_same es l e zero_entry b, get_or-set_same s.chains l xs [] bc) h
          go (no d) = rw (get_or-set_other es l k e zero_entry d, get_or-set_other s.chains l k xs [] d) (r (rw (length-set es l e) at c) d)
