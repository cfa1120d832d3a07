-- What the laws say of taking and releasing a slot, in 01's words, over the answer and the cells alone.
use Rattle.std.specs.Prelude.{◌≡◌, true, false, List, [], ◌∷◌, ℕ, length}
use Rattle.books.specs.declared.Free.{Free}
use Rattle.books.specs.Book.{null_slot, wipe_word}
use Rattle.books.specs.Outcome.{Outcome}
use Rattle.chains.specs.Count.{count}
use Rattle.chains.specs.Chain.{cell, first_or, IdleChain}
use Rattle.shapes.specs.Records.{Released}
use Rattle.xor.specs.Slots.{Said}

-- no cell changes but the links of the slots in `ls` and the values of the slots in `vs`
pub record Frame (links values links' values' ls vs : List ℕ) : Type 0 where
  pub other_links : (y : ℕ) → count y ls ≡ 0 → cell links' y ≡ cell links y
  pub other_values : (y : ℕ) → count y vs ≡ 0 → cell values' y ≡ cell values y
  pub same_links : length links' ≡ length links
  pub same_values : length values' ≡ length values

-- 01: "take the slot at the free head"; its link leads on
pub record Takes (links : List ℕ) (free : Free) (said : Said) : Type 0 where
  pub done : said.done ≡ true
  pub slot : said.slot ≡ free.head
  pub rest : said.free.head ≡ cell links free.head
  pub same_count : said.free.count ≡ free.count

-- none: no slot, and the idle chain as it was
pub record TakesNone (free : Free) (said : Said) : Type 0 where
  pub done : said.done ≡ false
  pub slot : said.slot ≡ null_slot
  pub rest : said.free ≡ free

-- of the idle chain that starts with s and goes on with fs, s is taken and fs is left
pub record TakesFirst (links : List ℕ) (s : ℕ) (fs : List ℕ) (said : Said) : Type 0 where
  pub done : said.done ≡ true
  pub slot : said.slot ≡ s
  pub head : said.free.head ≡ first_or 0 fs
  pub idle : IdleChain links fs

-- 01: "The slot's value becomes 0 and the slot becomes the free head, its link the old free head"
pub record Wipes (links values : List ℕ) (slot : ℕ) (free : Free) (r : Outcome Released) : Type 0 where
  pub done : r.answer.done ≡ true
  pub head : r.answer.free.head ≡ slot
  pub same_count : r.answer.free.count ≡ free.count
  pub link : cell r.links slot ≡ free.head
  pub wiped : cell r.values slot ≡ wipe_word
  pub frame : Frame links values r.links r.values (slot ∷ []) (slot ∷ [])

-- a refused release changes nothing
pub record NotReleased (links values : List ℕ) (free : Free) (r : Outcome Released) : Type 0 where
  pub done : r.answer.done ≡ false
  pub same_free : r.answer.free ≡ free
  pub same_links : r.links ≡ links
  pub same_values : r.values ≡ values
