-- What a refused and a done call mean on the sound shape that it found, over any engine: on slots, on values, on every cell and in the book.
use Rattle.std.specs.Prelude.{◌≡◌, ◌≢◌, true, List, [], ◌∷◌, ◌++◌, reverse, ℕ, ◌+◌, ◌<◌, length, get_or, set, take, drop}
use Rattle.books.specs.declared.Free.{Free}
use Rattle.books.specs.declared.Entry.{Entry}
use Rattle.books.specs.Book.{null_slot, wipe_word, entry_at, AnyBook}
use Rattle.books.specs.Place.{no_place, place_in}
use Rattle.chains.specs.Count.{count}
use Rattle.chains.specs.Chain.{cell}
use Rattle.shapes.specs.declared.End.{End}
use Rattle.shapes.specs.declared.End.TheVariants.{Front}
use Rattle.shapes.specs.Ends.{joined, contents, from_end, end_slot}
use Rattle.shapes.specs.Shape.{Shape, chain_at, put}
use Rattle.shapes.specs.Setup.{fresh_shape}
use Rattle.shapes.specs.Tests.{ReadLeft}
use Rattle.shapes.specs.Changes.{OtherEntries, OtherLists}
use Rattle.shapes.specs.Numbers.{Given}
use Rattle.engines.specs.Engine.{Engine, Step}
use Rattle.engines.specs.Counted.{counted_pop}
use Rattle.engines.specs.Sound.{SoundBook}
use Rattle.engines.specs.Conditions.{setup_conditions}
use Rattle.engines.specs.Calls.{Called, zero_book_of}

-- 01: "equals popping the front until the list is empty", with no count: a list with no tail is empty,
-- and any other is emptied to what its front pop, which is done, is emptied to
pub data Emptied (E : Engine) : E.Links → List ℕ → Entry → Free → Step E.Links → Type 0 where
  empty : {links : E.Links} {values : List ℕ} {list : Entry} {free : Free} → list.tail ≡ null_slot
      → Emptied E links values list free (record { done = true; value = 0; entry = list; free = free; links = links; values = values })
  popped : {links : E.Links} {values : List ℕ} {list : Entry} {free : Free} {r : Step E.Links} → list.tail ≢ null_slot → (counted_pop E Front links values list free).done ≡ true
      → Emptied E (counted_pop E Front links values list free).links (counted_pop E Front links values list free).values (counted_pop E Front links values list free).entry (counted_pop E Front links values list free).free r
      → Emptied E links values list free r

-- 01: "a refused setup returns the all-zero book", and "no lent slice changes"
pub record SetupRefused (E : Engine) (places : ℕ) (links : E.Links) (values : List ℕ) (r : Called E) : Type 0 where
  pub unplaced : r.place ≡ no_place
  pub no_value : r.value ≡ 0
  pub zeroed : r.book ≡ zero_book_of places
  pub same_links : r.links ≡ links
  pub same_values : r.values ≡ values

-- a done setup: the book has as many lists as were asked for, each with its share and limit, and every slot is free
pub record SetupKeeps (E : Engine) (places : ℕ) (links : E.Links) (lists : ℕ) (shares limits : List ℕ) (r : Called E) : Type 0 where
  pub number : r.number ≡ 0
  pub unplaced : r.place ≡ no_place
  pub no_value : r.value ≡ 0
  pub same_places : r.book.places ≡ places
  pub as_many : r.book.lists ≡ lists
  pub entries : length r.book.entries ≡ places
  pub share : (l : ℕ) → l < places → (entry_at r.book.entries l).share ≡ get_or shares l 0
  pub limit : (l : ℕ) → l < places → (entry_at r.book.entries l).limit ≡ get_or limits l 0
  pub free_head : r.book.free.head ≡ 1
  -- 02 c): no list has a slot, and N-1 are free
  pub no_length : (l : ℕ) → l < places → (entry_at r.book.entries l).length ≡ 0
  pub free_count : r.book.free.count + 1 ≡ E.size links
  pub same_size : E.size r.links ≡ E.size links
  pub sound : SoundBook E r.links r.values r.book (fresh_shape (E.size links) lists)

-- all that setup means: its number is 1 or 2 where 01 gives it, and else 0; refused or done, it leaves what the two records say
pub record SetupMeans (E : Engine) (places : ℕ) (links : E.Links) (values : List ℕ) (lists : ℕ) (shares limits : List ℕ) (r : Called E) : Type 1 where
  pub given : Given (setup_conditions E links values places lists shares limits) r.number
  pub refused : r.number ≢ 0 → SetupRefused E places links values r
  pub done : r.number ≡ 0 → SetupKeeps E places links lists shares limits r

module _ (E : Engine) (links : E.Links) (values : List ℕ) (b : AnyBook) where
  -- a refused call that may change the pool. 01: "A refused pop returns value 0"; "otherwise the book comes back as it went in. No lent slice changes"
  pub record Refused (r : Called E) : Type 0 where
    pub no_value : r.value ≡ 0
    pub same_book : r.book ≡ b
    pub same_links : r.links ≡ links
    pub same_values : r.values ≡ values

  -- a done push on list l: the first free slot joins the list at the end, with the value
  pub record Pushes (end : End) (l value : ℕ) (s : Shape) (r : Called E) : Type 0 where
    pub listed : l < b.lists
    pub number : r.number ≡ 0
    pub unplaced : r.place ≡ no_place
    pub no_value : r.value ≡ 0
    -- 01: "take the slot at the free head"
    pub slot : ℕ
    pub rest : List ℕ
    pub first : s.idle ≡ slot ∷ rest
    pub sound : SoundBook E r.links r.values r.book (put s l (joined end slot (chain_at s l)) rest)
    -- 000: the old sequence and the value at the end
    pub holds : contents r.values (joined end slot (chain_at s l)) ≡ joined end value (contents values (chain_at s l))
    pub other_lists : OtherLists values s l r.values
    -- 01: "Only the new slot, the old end slot and, in the book, that list's ends and the free head change"; with 02 c) the list's length and the free count too
    pub cells : r.values ≡ set values slot value
    pub frame : (y : ℕ) → count y (slot ∷ end_slot end (chain_at s l)) ≡ 0 → E.Same links r.links y
    pub book : OtherEntries b l r.book
    pub longer : (entry_at r.book.entries l).length ≡ (entry_at b.entries l).length + 1
    pub fewer : r.book.free.count + 1 ≡ b.free.count

  -- a done pop on list l: the slot at the end leaves for the front of the idle chain, wiped, and its value is handed out
  pub record Pops (end : End) (l : ℕ) (s : Shape) (r : Called E) : Type 0 where
    pub listed : l < b.lists
    pub number : r.number ≡ 0
    pub unplaced : r.place ≡ no_place
    pub slot : ℕ
    pub rest : List ℕ
    pub last : chain_at s l ≡ joined end slot rest
    pub sound : SoundBook E r.links r.values r.book (put s l rest (slot ∷ s.idle))
    -- 000: the value at the end comes back, and all but it stay
    pub holds : contents values (chain_at s l) ≡ joined end r.value (contents r.values rest)
    pub wiped : cell r.values slot ≡ wipe_word
    pub other_lists : OtherLists values s l r.values
    -- 01: "Only it, its neighbour and, in the book, that list's ends and the free head change"; with 02 c) the list's length and the free count too
    pub cells : r.values ≡ set values slot wipe_word
    pub frame : (y : ℕ) → count y (slot ∷ end_slot end rest) ≡ 0 → E.Same links r.links y
    pub book : OtherEntries b l r.book
    pub shorter : (entry_at r.book.entries l).length + 1 ≡ (entry_at b.entries l).length
    pub more : r.book.free.count ≡ b.free.count + 1

  -- a done clear of list l: its slots are in front of the idle chain, the last of them first, each wiped
  pub record Clears (l : ℕ) (s : Shape) (r : Called E) : Type 0 where
    pub listed : l < b.lists
    pub number : r.number ≡ 0
    pub unplaced : r.place ≡ no_place
    pub no_value : r.value ≡ 0
    pub sound : SoundBook E r.links r.values r.book (put s l [] (reverse (chain_at s l) ++ s.idle))
    -- 01: "equals popping the front until the list is empty"
    pub emptied : Emptied E links values (entry_at b.entries l) b.free
        (record { done = true; value = 0; entry = entry_at r.book.entries l; free = r.book.free; links = r.links; values = r.values })
    pub wiped : (y : ℕ) → 0 < count y (chain_at s l) → cell r.values y ≡ wipe_word
    pub other_lists : OtherLists values s l r.values
    pub cells : (y : ℕ) → count y (chain_at s l) ≡ 0 → cell r.values y ≡ cell values y
    pub same_size : length r.values ≡ length values
    pub frame : (y : ℕ) → count y (chain_at s l) ≡ 0 → E.Same links r.links y
    pub book : OtherEntries b l r.book
    -- 02 c): the whole length goes over to the free count
    pub no_length : (entry_at r.book.entries l).length ≡ 0
    pub all_more : r.book.free.count ≡ b.free.count + (entry_at b.entries l).length

-- a done read of list l: its values, from the end on, stand in the buffer from `at` on, and every other place keeps what it held
pub record Reads (end : End) (values : List ℕ) (l : ℕ) (buffer : List ℕ) (at : ℕ) (s : Shape) (r : ReadLeft) : Type 0 where
  pub number : r.answer.refusal.number ≡ 0
  pub unplaced : place_in r.answer.refusal ≡ no_place
  pub counted : r.answer.count ≡ length (chain_at s l)
  pub places : r.buffer ≡ take at buffer ++ from_end end (contents values (chain_at s l)) ++ drop (at + length (chain_at s l)) buffer

-- a refused read. 01: "a refused length or read returns 0"; "No lent slice changes"
pub record ReadRefused (buffer : List ℕ) (r : ReadLeft) : Type 0 where
  pub no_count : r.answer.count ≡ 0
  pub same_buffer : r.buffer ≡ buffer
