-- When each of 02 b)'s rules 9 to 15, and 02 c)'s 16, is the first that is broken, with its list and its position, over any engine. It is a definition, not the check's algorithm; a pool in which none is broken is `Sound`.
use Rattle.std.specs.Prelude.{◌≡◌, ◌≢◌, ◌⊎◌, List, [], ℕ, ◌≤◌, ◌<◌, length, get_or, take}
use Rattle.books.specs.declared.Free.{Free}
use Rattle.books.specs.declared.Entry.{Entry}
use Rattle.books.specs.Book.{null_slot, wipe_word, entry_at, AnyBook}
use Rattle.books.specs.Rules.{BookRules}
use Rattle.chains.specs.Count.{count}
use Rattle.chains.specs.Chain.{cell}
use Rattle.shapes.specs.Walk.{Lowest}
use Rattle.shapes.specs.Records.{Fault}
use Rattle.shapes.specs.Shape.{Shape, chain_at, every_slot, lacks}
use Rattle.shapes.specs.Faults.{fault}
use Rattle.engines.specs.Engine.{Engine}
use Rattle.engines.specs.Sound.{EntryHolds, FreeHolds}
use Rattle.engines.specs.Positions.{FirstWrongLive, FirstWrongIdle}

-- the slots of a sequence: each is from 1 to N-1, and none stands twice
pub record Distinct (size : ℕ) (slots : List ℕ) : Type 0 where
  pub inside : (y : ℕ) → 0 < count y slots → (null_slot < y) × (y < size)
  pub once : (y : ℕ) → count y slots ≤ 1

-- ---- what is so where a later rule is the first that is broken

-- 10 is where this does not hold: slot 0 has a link or a value
pub record NullZero (E : Engine) (links : E.Links) (values : List ℕ) : Type 0 where
  pub link : E.Null links
  pub value : cell values null_slot ≡ 0

-- the lists `es` have the sequences `cs`, as in `Sound`
pub record Chained (E : Engine) (links : E.Links) (es : List Entry) (cs : List (List ℕ)) : Type 0 where
  pub lists : length cs ≡ length es
  pub entry : (l : ℕ) → l < length es → EntryHolds (entry_at es l) (get_or cs l [])
  pub live : (l : ℕ) → l < length es → E.Live links (get_or cs l [])

-- and so has the free record, whatever the stored counts are; no slot stands twice in all of them together
pub record AllChained (E : Engine) (links : E.Links) (es : List Entry) (free : Free) (s : Shape) : Type 0 where
  pub chained : Chained E links es s.chains
  pub free_record : FreeHolds free s.idle
  pub idle : E.Idle links s.idle
  pub distinct : Distinct (E.size links) (every_slot s)

-- ---- the rules. `es` are the entries of the L lists

-- 11 and 12 are `FirstWrongLive` and `FirstWrongIdle`

-- 13: the lowest slot that no chain has
pub record LowestMissing (size : ℕ) (s : Shape) (slot : ℕ) : Type 0 where
  pub inside : (null_slot < slot) × (slot < size)
  pub none : count slot (every_slot s) ≡ 0
  pub lowest : (y : ℕ) → null_slot < y → y < slot → 0 < count y (every_slot s)

-- no slot is missing: every one is in a chain, once
abbrev pub NoneMissing : ℕ → Shape → Type 0
NoneMissing size s = (y : ℕ) → null_slot < y → y < size → count y (every_slot s) ≡ 1

-- 14, the lowest slot that is free and not wiped, is `Lowest`; every free slot is wiped
abbrev pub AllWiped : List ℕ → Shape → Type 0
AllWiped values s = (y : ℕ) → 0 < count y s.idle → cell values y ≡ wipe_word

-- 15: the lowest list that is longer than its limit
pub record LowestOver (es : List Entry) (cs : List (List ℕ)) (l : ℕ) : Type 0 where
  pub below : l < length es
  pub over : (entry_at es l).limit < length (get_or cs l [])
  pub lowest : (k : ℕ) → k < l → length (get_or cs k []) ≤ (entry_at es k).limit

-- 15, where no list is: the free slots are fewer than what the lists lack. Then L stands for the list; L is how many `es` are
pub record SharesUncovered (es : List Entry) (s : Shape) (l : ℕ) : Type 0 where
  pub all : l ≡ length es
  pub short : (k : ℕ) → k < length es → length (chain_at s k) ≤ (entry_at es k).limit
  pub few : length s.idle < lacks es s.chains

-- 15 is not broken: no list is, and the free slots are enough
pub record Covered (es : List Entry) (s : Shape) : Type 0 where
  pub short : (l : ℕ) → l < length es → length (chain_at s l) ≤ (entry_at es l).limit
  pub spare : lacks es s.chains ≤ length s.idle

-- 16: the lowest list whose stored length is not its sequence's
pub record LowestMiscounted (es : List Entry) (cs : List (List ℕ)) (l : ℕ) : Type 0 where
  pub below : l < length es
  pub wrong : (entry_at es l).length ≢ length (get_or cs l [])
  pub lowest : (k : ℕ) → k < l → (entry_at es k).length ≡ length (get_or cs k [])

-- 16, where no list is: the stored count of the free slots is not their sequence's. Then L stands for the list
pub record FreeMiscounted (es : List Entry) (free : Free) (s : Shape) (l : ℕ) : Type 0 where
  pub all : l ≡ length es
  pub right : (k : ℕ) → k < length es → (entry_at es k).length ≡ length (chain_at s k)
  pub wrong : free.count ≢ length s.idle

-- ---- the first fault: its rule, its list and its position, 0 where none applies

-- in the pool over the entries of its L lists
pub data PoolBreaks (E : Engine) (links : E.Links) (values : List ℕ) (es : List Entry) (free : Free) (f : Fault) : Type 0 where
  ten : f ≡ fault 10 0 0 → (NullZero E links values → ⊥) → PoolBreaks E links values es free f
  eleven : {l place : ℕ} → f ≡ fault 11 l place → NullZero E links values → FirstWrongLive E links es l place → PoolBreaks E links values es free f
  twelve : {place : ℕ} → f ≡ fault 12 0 place → NullZero E links values → FirstWrongIdle E links es free place → PoolBreaks E links values es free f
  thirteen : {slot : ℕ} {s : Shape} → f ≡ fault 13 0 slot → NullZero E links values → AllChained E links es free s → LowestMissing (E.size links) s slot
      → PoolBreaks E links values es free f
  fourteen : {slot : ℕ} {s : Shape} → f ≡ fault 14 0 slot → NullZero E links values → AllChained E links es free s → NoneMissing (E.size links) s → Lowest values s.idle slot
      → PoolBreaks E links values es free f
  fifteen : {l : ℕ} {s : Shape} → f ≡ fault 15 l 0 → NullZero E links values → AllChained E links es free s → NoneMissing (E.size links) s → AllWiped values s
      → LowestOver es s.chains l ⊎ SharesUncovered es s l → PoolBreaks E links values es free f
  sixteen : {l : ℕ} {s : Shape} → f ≡ fault 16 l 0 → NullZero E links values → AllChained E links es free s → NoneMissing (E.size links) s → AllWiped values s → Covered es s
      → LowestMiscounted es s.chains l ⊎ FreeMiscounted es free s l → PoolBreaks E links values es free f

-- and 9, what 01 says of L, the shares and the limits, before all others
pub data Breaks (E : Engine) (links : E.Links) (values : List ℕ) (b : AnyBook) (f : Fault) : Type 0 where
  nine : f ≡ fault 9 0 0 → (BookRules (E.size links) b → ⊥) → Breaks E links values b f
  later : BookRules (E.size links) b → PoolBreaks E links values (take b.lists b.entries) b.free f → Breaks E links values b f
