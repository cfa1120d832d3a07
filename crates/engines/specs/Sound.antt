-- What it is for a pool with its book to be sound: document 01, "The pool and the book", clause by clause, and 02 c)'s counts, over any engine. It is a definition, not the check's algorithm.
use Rattle.std.specs.Prelude.{◌≡◌, true, List, ◌++◌, ℕ, ◌≤◌, ◌<◌, length, take}
use Rattle.books.specs.declared.Free.{Free}
use Rattle.books.specs.declared.Entry.{Entry}
use Rattle.books.specs.Book.{null_slot, wipe_word, entry_at, AnyBook}
use Rattle.books.specs.Rules.{Size, BookRules}
use Rattle.chains.specs.Count.{count}
use Rattle.chains.specs.Chain.{cell, first_or, last_or}
use Rattle.shapes.specs.Shape.{Shape, chain_at, every_slot, lacks}
use Rattle.engines.specs.Engine.{Engine}

-- what is asked of a list's entry: 01: "each list's head and tail are the first and last slot of its sequence, both 0 when it is empty"
pub record EntryHolds (e : Entry) (xs : List ℕ) : Type 0 where
  pub head : e.head ≡ first_or 0 xs
  pub tail : e.tail ≡ last_or 0 xs

-- what is asked of the free record: 01: "the free head is the first free slot or 0"
pub record FreeHolds (free : Free) (fs : List ℕ) : Type 0 where
  pub head : free.head ≡ first_or 0 fs

-- what 1 refuses: 01: "lengths differ, or N under 2 or over 4,096"
pub record Fit (E : Engine) (links : E.Links) (values : List ℕ) : Type 0 where
  pub even : E.even links ≡ true
  pub same : E.size links ≡ length values
  pub size : Size (E.size links)

-- `es` are the entries of the L lists, `s` the sequences; N is the length of every slice
pub record Sound (E : Engine) (links : E.Links) (values : List ℕ) (es : List Entry) (free : Free) (s : Shape) : Type 0 where
  pub fit : Fit E links values
  -- 01: "there exist L sequences of slots"
  pub lists : length s.chains ≡ length es
  -- 01: "every slot from 1 to N-1 stands exactly once in all of them together", and nothing else does
  pub once : (y : ℕ) → null_slot < y → y < E.size links → count y (every_slot s) ≡ 1
  pub only : (y : ℕ) → 0 < count y (every_slot s) → (null_slot < y) × (y < E.size links)
  -- each list's entry, and the links of its slots
  pub entry : (l : ℕ) → l < length es → EntryHolds (entry_at es l) (chain_at s l)
  pub live : (l : ℕ) → l < length es → E.Live links (chain_at s l)
  -- the free record, and the links of the free slots
  pub free_record : FreeHolds free s.idle
  pub idle : E.Idle links s.idle
  -- 01: "every free slot's value is 0"
  pub wiped : (y : ℕ) → 0 < count y s.idle → cell values y ≡ wipe_word
  -- 01: "slot 0 has link 0 and value 0"
  pub null_link : E.Null links
  pub null_value : cell values null_slot ≡ 0
  -- 01: "no list is longer than its limit"
  pub short : (l : ℕ) → l < length es → length (chain_at s l) ≤ (entry_at es l).limit
  -- 01: "the free slots are at least the sum of what each list lacks of its share"
  pub spare : lacks es s.chains ≤ length s.idle
  -- 02 c): each stored count "equals its sequence's length"
  pub counted : (l : ℕ) → l < length es → (entry_at es l).length ≡ length (chain_at s l)
  pub free_counted : free.count ≡ length s.idle

-- 01's book: the rules on L, shares and limits, and the pool sound over the first L entries
pub record SoundBook (E : Engine) (links : E.Links) (values : List ℕ) (b : AnyBook) (s : Shape) : Type 0 where
  pub rules : BookRules (E.size links) b
  pub pool : Sound E links values (take b.lists b.entries) b.free s

-- the cells hold the list `xs` and the idle chain `fs`, whatever the other lists and the stored counts are
pub record Held (E : Engine) (links : E.Links) (values : List ℕ) (list : Entry) (free : Free) (xs fs : List ℕ) : Type 0 where
  pub even : E.even links ≡ true
  pub same : E.size links ≡ length values
  pub slots : (y : ℕ) → 0 < count y (xs ++ fs) → (null_slot < y) × (y < E.size links)
  pub once : (y : ℕ) → count y (xs ++ fs) ≤ 1
  pub entry : EntryHolds list xs
  pub live : E.Live links xs
  pub free_record : FreeHolds free fs
  pub idle : E.Idle links fs
