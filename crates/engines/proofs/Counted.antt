-- The counted steps, over any engine: where the engine makes its step they are its own with the counts, and keep its laws.
use mathlib.Core.Path.{◌≡◌, refl}
use mathlib.Core.Bool.{true, false}
use mathlib.Core.List.{List, ◌∷◌}
use Prim.Native.Nat.{ℕ, ◌+◌, ◌-◌}
use Rattle.books.specs.declared.Free.{Free}
use Rattle.books.specs.declared.Entry.{Entry}
use Rattle.books.proofs.Tests.{cond_ind}
use Rattle.shapes.specs.declared.End.{End}
use Rattle.shapes.specs.Ends.{joined}
use Rattle.shapes.specs.Counts.{with_length, with_count}
use Rattle.engines.specs.Engine.{Engine, Step}
use Rattle.engines.specs.Sound.{Held}
use Rattle.engines.specs.Laws.{Joins, Leaves, Lawful}
use Rattle.engines.specs.Counted.{with_counts, if_made, counted_push, counted_pop}

-- what the cells hold does not depend on the stored counts
held_counts : {E : Engine} {links : E.Links} {values : List ℕ} {list : Entry} {free : Free} {xs fs : List ℕ} (n m : ℕ) → Held E links values list free xs fs → Held E links values (with_length n list) (with_count m free) xs fs
held_counts n m H =
    record {
      even = H.even;
      same = H.same;
      slots = H.slots;
      once = H.once;
      entry = record { head = H.entry.head; tail = H.entry.tail };
      live = H.live;
      free_record = record { head = H.free_record.head };
      idle = H.idle;
    }

module _ {E : Engine} (L : Lawful E) (end : End) (links : E.Links) (values : List ℕ) (list : Entry) (free : Free) (s : ℕ) (xs fs : List ℕ) where
  -- a push with the counts
  module _ (value : ℕ) (H : Held E links values list free xs (s ∷ fs)) where
    abbrev pub push_counted : Step E.Links
    push_counted = with_counts (list.length + 1) (free.count - 1) (E.push end links values list free value)

    pub joins_counted : Joins E end s links values list xs fs push_counted value
    joins_counted =
        let J = L.push end links values list free s value xs fs H in
        record {
          done = J.done;
          no_value = J.no_value;
          held = held_counts (list.length + 1) (free.count - 1) J.held;
          cells = J.cells;
          share = J.share;
          limit = J.limit;
          size = J.size;
          frame = J.frame;
        }

    pub push_counted_lem : counted_push E end links values list free value ≡ push_counted
    unfolding counted_push
    push_counted_lem = rw (L.push end links values list free s value xs fs H).done

  -- a pop with the counts
  module _ (H : Held E links values list free (joined end s xs) fs) where
    abbrev pub pop_counted : Step E.Links
    pop_counted = with_counts (list.length - 1) (free.count + 1) (E.pop end links values list free)

    pub leaves_counted : Leaves E end s links values list xs fs pop_counted
    leaves_counted =
        let G = L.pop end links values list free s xs fs H in
        record {
          done = G.done;
          value = G.value;
          held = held_counts (list.length - 1) (free.count + 1) G.held;
          cells = G.cells;
          share = G.share;
          limit = G.limit;
          size = G.size;
          frame = G.frame;
        }

    pub pop_counted_lem : counted_pop E end links values list free ≡ pop_counted
    unfolding counted_pop
    pop_counted_lem = rw (L.pop end links values list free s xs fs H).done

-- ---- on any cells: the engine refuses its step, or it is done and counted

-- `made` is the engine's step, `n` and `m` the counts then
pub data CountedWay {Links : Type 0} (made : Step Links) (n m : ℕ) : Step Links → Type 0 where
  refused : made.done ≡ false → CountedWay made n m made
  counted : made.done ≡ true → CountedWay made n m (with_counts n m made)

pub counted_way : {Links : Type 0} (made : Step Links) (n m : ℕ) → CountedWay made n m (if_made n m made)
counted_way {Links} made n m = cond_ind (λ (o : Step Links). CountedWay made n m o) made.done (λ h. counted h) (λ h. refused h)
