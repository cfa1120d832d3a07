-- 02 b)'s rules 11 and 12, position by position, over any engine: which slot stands at each position of a chain, and at which a chain is wrong. It is a definition, with no walk in it.
use Rattle.std.specs.Prelude.{◌≡◌, ◌≢◌, ◌⊎◌, Bool, false, List, ℕ, zero, suc, ◌≤◌, ◌<◌, length}
use Rattle.books.specs.declared.Free.{Free}
use Rattle.books.specs.declared.Entry.{Entry}
use Rattle.books.specs.Book.{null_slot, entry_at}
use Rattle.shapes.specs.declared.End.TheVariants.{Front}
use Rattle.engines.specs.Engine.{Engine}

-- ---- the positions of a chain, counted from 0

-- the slot at a position, and the slot before it, 0 standing for none
pub record Stand : Type 0 where
  pub before : ℕ
  pub slot : ℕ

-- at position 0 stands the head; after a slot comes `onward` of the slot before it and itself
abbrev pub stand_at : (onward : ℕ → ℕ → ℕ) → ℕ → ℕ → Stand
stand_at onward head zero = record { before = null_slot; slot = head }
stand_at onward head (suc i) =
    let here = stand_at onward head i in
    record { before = here.slot; slot = onward here.before here.slot }

module _ (chain : ℕ → Stand) where
  -- the chain has not ended before position i: no slot there is 0
  abbrev pub Reached : ℕ → Type 0
  Reached i = (j : ℕ) → j < i → (chain j).slot ≢ null_slot

  -- y is a slot of the chain, at a position before its end
  pub record StandsIn (y : ℕ) : Type 0 where
    pub some : y ≢ null_slot
    pub place : ℕ
    pub reached : Reached place
    pub there : (chain place).slot ≡ y

  -- y was met before position i: at an earlier position of this chain, or on the chains before it, whose slots are `Earlier`
  abbrev pub MetBefore : (Earlier : ℕ → Type 0) → ℕ → ℕ → Type 0
  MetBefore Earlier i y = ((j : ℕ) × (j < i) × ((chain j).slot ≡ y)) ⊎ Earlier y

  -- a position whose slot is past the pool or was met before; in an engine with previous links, 02 f), also one whose previous link is wrong: its `fits` says so
  pub record WrongSlot (fits : ℕ → ℕ → Bool) (size : ℕ) (Earlier : ℕ → Type 0) (i : ℕ) : Type 0 where
    -- 0 is no slot: the chain ends
    pub some : (chain i).slot ≢ null_slot
    pub wrong : (size ≤ (chain i).slot) ⊎ MetBefore Earlier i (chain i).slot ⊎ (fits (chain i).before (chain i).slot ≡ false)

-- ---- the live chains. `es` are the entries of the L lists

module _ (E : Engine) (links : E.Links) (es : List Entry) where
  -- list l's chain, from its head on
  abbrev pub live_stand : ℕ → ℕ → Stand
  live_stand l = stand_at (E.onward Front links) (entry_at es l).head

  -- y is a slot of a list before list l
  abbrev pub InListBefore : ℕ → ℕ → Type 0
  InListBefore l y = (k : ℕ) × (k < l) × StandsIn (live_stand k) y

  -- the chain ends after another slot than the tail. It ends at position i, which is its length then
  pub record WrongTail (l i : ℕ) : Type 0 where
    pub ended : (live_stand l i).slot ≡ null_slot
    pub other : (live_stand l i).before ≢ (entry_at es l).tail

  -- position i of list l is wrong
  pub record WrongLive (l i : ℕ) : Type 0 where
    pub reached : Reached (live_stand l) i
    pub wrong : WrongSlot (live_stand l) (E.fits links) (E.size links) (InListBefore l) i ⊎ WrongTail l i

  -- 11: position i of list l is the first that is wrong; no position of a list with a lower number is
  pub record FirstWrongLive (l i : ℕ) : Type 0 where
    pub below : l < length es
    pub here : WrongLive l i
    pub sooner : (j : ℕ) → j < i → WrongLive l j → ⊥
    pub lists_before : (k : ℕ) → k < l → (j : ℕ) → WrongLive k j → ⊥

-- ---- the free chain, in the same way, but that it has no tail

abbrev pub idle_stand : (E : Engine) → E.Links → Free → ℕ → Stand
idle_stand E links free = stand_at (E.idle_onward links) free.head

module _ (E : Engine) (links : E.Links) (es : List Entry) (free : Free) where
  -- position i of the free chain is wrong; all lists are before it
  pub record WrongIdle (i : ℕ) : Type 0 where
    pub reached : Reached (idle_stand E links free) i
    pub wrong : WrongSlot (idle_stand E links free) (E.idle_fits links) (E.size links) (InListBefore E links es (length es)) i

  -- 12: the first position of the free chain that is wrong, where no position of a list is
  pub record FirstWrongIdle (i : ℕ) : Type 0 where
    pub lists : (l : ℕ) → l < length es → (j : ℕ) → WrongLive E links es l j → ⊥
    pub here : WrongIdle i
    pub sooner : (j : ℕ) → j < i → WrongIdle j → ⊥
