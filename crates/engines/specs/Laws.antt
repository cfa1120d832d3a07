-- The laws that every engine must keep: its walks go along just the sequences that its links hold, setup's links hold every slot as free, and what a step leaves of cells that hold a list.
use Rattle.std.specs.Prelude.{◌≡◌, ◌↔◌, true, List, ◌∷◌, reverse, ℕ, ◌-◌, ◌<◌, set}
use Rattle.books.specs.declared.Free.{Free}
use Rattle.books.specs.declared.Entry.{Entry}
use Rattle.books.specs.Book.{wipe_word}
use Rattle.books.specs.Rules.{Size}
use Rattle.chains.specs.Count.{count}
use Rattle.chains.specs.Chain.{cell}
use Rattle.shapes.specs.declared.End.{End}
use Rattle.shapes.specs.declared.End.TheVariants.{Front, Back}
use Rattle.shapes.specs.Ends.{joined, end_slot}
use Rattle.shapes.specs.Shape.{Shape}
use Rattle.shapes.specs.Setup.{slots_from}
use Rattle.shapes.specs.Walk.{Tied}
use Rattle.engines.specs.Engine.{Engine, Step}
use Rattle.engines.specs.Sound.{Sound, Held}

module _ (E : Engine) (end : End) (s : ℕ) (links : E.Links) (values : List ℕ) (list : Entry) (xs fs : List ℕ) (r : Step E.Links) where
  -- slot s left the idle chain for an end of the list `xs`, with the value
  pub record Joins (value : ℕ) : Type 0 where
    pub done : r.done ≡ true
    pub no_value : r.value ≡ 0
    pub held : Held E r.links r.values r.entry r.free (joined end s xs) fs
    pub cells : r.values ≡ set values s value
    pub share : r.entry.share ≡ list.share
    pub limit : r.entry.limit ≡ list.limit
    pub size : E.size r.links ≡ E.size links
    -- 01: "Only the new slot, the old end slot .. change"
    pub frame : (y : ℕ) → count y (s ∷ end_slot end xs) ≡ 0 → E.Same links r.links y

  -- slot s left the list for the front of the idle chain, wiped, and its value was handed out
  pub record Leaves : Type 0 where
    pub done : r.done ≡ true
    pub value : r.value ≡ cell values s
    pub held : Held E r.links r.values r.entry r.free xs (s ∷ fs)
    pub cells : r.values ≡ set values s wipe_word
    pub share : r.entry.share ≡ list.share
    pub limit : r.entry.limit ≡ list.limit
    pub size : E.size r.links ≡ E.size links
    -- 01: "Only it, its neighbour .. change"
    pub frame : (y : ℕ) → count y (s ∷ end_slot end xs) ≡ 0 → E.Same links r.links y

-- the links that setup writes: every slot from 1 on is free, in order
pub record FreshLinks (E : Engine) (links : E.Links) : Type 0 where
  pub even : E.even (E.fresh links) ≡ E.even links
  pub size : E.size (E.fresh links) ≡ E.size links
  pub idle : E.Idle (E.fresh links) (slots_from 1 (E.size links - 1))
  pub null : E.Null (E.fresh links)

pub record Lawful (E : Engine) : Type 0 where
  -- there are links of every size that a pool may have
  pub some : (n : ℕ) → Size n → (links : E.Links) × (E.even links ≡ true) × (E.size links ≡ n)
  -- the walks: from the front along just the list's sequence, from the back along the same reversed, and along just the free sequence
  pub live_tied : (links : E.Links) (xs : List ℕ) → E.Live links xs ↔ Tied (E.onward Front links) (E.fits links) 0 xs
  pub back_tied : (links : E.Links) (xs : List ℕ) → E.Live links xs → Tied (E.onward Back links) (λ p x. true) 0 (reverse xs)
  pub idle_tied : (links : E.Links) (xs : List ℕ) → E.Idle links xs ↔ Tied (E.idle_onward links) (E.idle_fits links) 0 xs
  pub null_told : (links : E.Links) → E.null_test links ≡ true ↔ E.Null links
  -- only the links of its own slots count for a list, and of slot 0 for the null
  pub live_same : (links links' : E.Links) (xs : List ℕ) → ((y : ℕ) → 0 < count y xs → E.Same links links' y) → E.Live links xs → E.Live links' xs
  pub null_same : (links links' : E.Links) → E.Same links links' 0 → E.Null links → E.Null links'
  pub same_twice : (links links' links'' : E.Links) (y : ℕ) → E.Same links links' y → E.Same links' links'' y → E.Same links links'' y
  pub same_self : (links : E.Links) (y : ℕ) → E.Same links links y
  -- the shape says every link
  pub links_one : (links links' : E.Links) (values values' : List ℕ) (es es' : List Entry) (free free' : Free) (s : Shape) → E.size links ≡ E.size links'
      → Sound E links values es free s → Sound E links' values' es' free' s → links ≡ links'
  pub fresh : (links : E.Links) → FreshLinks E links
  -- the steps
  pub push : (end : End) (links : E.Links) (values : List ℕ) (list : Entry) (free : Free) (s value : ℕ) (xs fs : List ℕ)
      → Held E links values list free xs (s ∷ fs) → Joins E end s links values list xs fs (E.push end links values list free value) value
  pub pop : (end : End) (links : E.Links) (values : List ℕ) (list : Entry) (free : Free) (s : ℕ) (xs fs : List ℕ)
      → Held E links values list free (joined end s xs) fs → Leaves E end s links values list xs fs (E.pop end links values list free)
