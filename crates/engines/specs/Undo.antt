-- 02 a): what it is for a call to take the one before it straight back, over any engine: everything is as it was; and the weaker law that stays when a released slot goes elsewhere.
use Rattle.std.specs.Prelude.{◌≡◌, List, ℕ, ◌<◌, length}
use Rattle.books.specs.Book.{entry_at}
use Rattle.books.specs.Place.{no_place}
use Rattle.shapes.specs.Ends.{contents}
use Rattle.shapes.specs.Shape.{Shape, chain_at}
use Rattle.shapes.specs.Moves.{Call}
use Rattle.shapes.specs.Ledger.{Ledger, one_pair}
use Rattle.engines.specs.Engine.{Engine}
use Rattle.engines.specs.Sound.{SoundBook}
use Rattle.engines.specs.Calls.{Called}
use Rattle.engines.specs.Moves.{State, left, number_of_call, after_call}
use Rattle.engines.specs.Trace.{noted}

module _ (E : Engine) where
  -- the call is done and hands out the value, 0 for a push; every link, every value and every field of the book is what it was
  pub record Undone (before : State E) (value : ℕ) (r : Called E) : Type 0 where
    pub number : r.number ≡ 0
    pub unplaced : r.place ≡ no_place
    pub handed : r.value ≡ value
    pub same_links : r.links ≡ before.links
    pub same_values : r.values ≡ before.values
    pub same_book : r.book ≡ before.book

  -- both are sound, with as many lists of the same shares and limits; each list has the same values in the same order, and there are as many free slots. Which slots they are is not said
  pub record SameHoldings (before after : State E) : Type 0 where
    pub was : Shape
    pub was_sound : SoundBook E before.links before.values before.book was
    pub is : Shape
    pub is_sound : SoundBook E after.links after.values after.book is
    pub lists : after.book.lists ≡ before.book.lists
    pub granted : (l : ℕ) → l < before.book.lists
        → ((entry_at after.book.entries l).share ≡ (entry_at before.book.entries l).share) × ((entry_at after.book.entries l).limit ≡ (entry_at before.book.entries l).limit)
    pub sequence : (l : ℕ) → l < before.book.lists → contents after.values (chain_at is l) ≡ contents before.values (chain_at was l)
    pub lengths : (l : ℕ) → l < before.book.lists → length (chain_at is l) ≡ length (chain_at was l)
    pub free : length is.idle ≡ length was.idle
    -- 02 c): and so say the stored counts
    pub stored : (l : ℕ) → l < before.book.lists → (entry_at after.book.entries l).length ≡ (entry_at before.book.entries l).length
    pub free_count : after.book.free.count ≡ before.book.free.count

  -- the weaker law: the call is done, hands out the value, and each list's sequence of values, each length and the number of free slots are as before
  pub record HeldAgain (before : State E) (value : ℕ) (r : Called E) : Type 0 where
    pub number : r.number ≡ 0
    pub handed : r.value ≡ value
    pub holdings : SameHoldings before (left r)

  -- ---- in a trace, a call that is done and the one that takes it back

  module _ (st : State E) (ledger : Ledger) (l : ℕ) (call back : Call) where
    -- the second is done too, and the ledger notes one push and one pop more of list l while every list holds the same
    pub record PairNoted : Type 0 where
      pub done_too : number_of_call E (after_call E st call) back ≡ 0
      pub account : noted E (after_call E st call) back (noted E st call ledger) ≡ one_pair l ledger

    -- and the state is as it was
    pub record UndoneNext : Type 0 where
      pub pair : PairNoted
      pub same_state : after_call E (after_call E st call) back ≡ st

    -- the weaker law: and what each list holds is as it was
    pub record HeldNext : Type 0 where
      pub pair : PairNoted
      pub holdings : SameHoldings st (after_call E (after_call E st call) back)
