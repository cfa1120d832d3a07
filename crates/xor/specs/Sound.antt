-- The reader's page: what it is for a pool with its book to be sound, document 01, "The pool and the book", clause by clause, and 02 c)'s counts, with the XOR list's own cells. It is a definition, not the check's algorithm. The law `page_accepts` says that the check accepts just these pools, and `page_told` that all other laws speak of them.
use Rattle.std.specs.Prelude.{◌≡◌, List, ℕ, ◌≤◌, ◌<◌, length, take}
use Rattle.books.specs.declared.Free.{Free}
use Rattle.books.specs.declared.Entry.{Entry}
use Rattle.books.specs.declared.Book.{Book}
use Rattle.books.specs.Book.{null_slot, wipe_word, entry_at, eight}
use Rattle.books.specs.Rules.{Size, BookRules}
use Rattle.chains.specs.Count.{count}
use Rattle.chains.specs.Chain.{cell, first_or, last_or, LiveChain, IdleChain}
use Rattle.shapes.specs.Shape.{Shape, chain_at, every_slot, lacks}

-- `es` are the entries of the L lists, `s` the sequences; N is the length of both slices
pub record XorSound (links values : List ℕ) (es : List Entry) (free : Free) (s : Shape) : Type 0 where
  -- 01: "The caller lends two slices of equal length N"; "N runs from 2 to 4,096"
  pub same_size : length values ≡ length links
  pub size : Size (length links)
  -- 01: "there exist L sequences of slots"
  pub lists : length s.chains ≡ length es
  -- 01: "every slot from 1 to N-1 stands exactly once in all of them together", and nothing else does
  pub once : (y : ℕ) → null_slot < y → y < length links → count y (every_slot s) ≡ 1
  pub only : (y : ℕ) → 0 < count y (every_slot s) → (null_slot < y) × (y < length links)
  -- 01: "each list's head and tail are the first and last slot of its sequence, both 0 when it is empty"
  pub head : (l : ℕ) → l < length es → (entry_at es l).head ≡ first_or 0 (chain_at s l)
  pub tail : (l : ℕ) → l < length es → (entry_at es l).tail ≡ last_or 0 (chain_at s l)
  -- 01: "a live slot's link is the XOR of the slots before and after it in its sequence, 0 standing for none"
  pub live : (l : ℕ) → l < length es → LiveChain links (chain_at s l)
  -- 01: "the free head is the first free slot or 0; a free slot's link is the next free slot, 0 at the last"
  pub free_head : free.head ≡ first_or 0 s.idle
  pub idle : IdleChain links s.idle
  -- 01: "every free slot's value is 0"
  pub wiped : (y : ℕ) → 0 < count y s.idle → cell values y ≡ wipe_word
  -- 01: "slot 0 has link 0 and value 0"
  pub null_link : cell links null_slot ≡ 0
  pub null_value : cell values null_slot ≡ 0
  -- 01: "no list is longer than its limit"
  pub short : (l : ℕ) → l < length es → length (chain_at s l) ≤ (entry_at es l).limit
  -- 01: "the free slots are at least the sum of what each list lacks of its share"
  pub spare : lacks es s.chains ≤ length s.idle
  -- 02 c): the book has "the length of each list and the number of free slots"; "each equals its sequence's length"
  pub counted : (l : ℕ) → l < length es → (entry_at es l).length ≡ length (chain_at s l)
  pub free_counted : free.count ≡ length s.idle

-- 01's book: the rules on L, shares and limits, and the pool sound over the first L entries
pub record XorBook (links values : List ℕ) (b : Book) (s : Shape) : Type 0 where
  pub rules : BookRules (length links) (eight b)
  pub pool : XorSound links values (take b.lists b.entries) b.free s
