-- 02 a) of the calls by name: what it is for a pop to take the push before it straight back, and for a push to put back what the pop before it took.
use Rattle.std.specs.Prelude.{◌≡◌, List, ℕ}
use Rattle.books.specs.declared.Book.{Book}
use Rattle.books.specs.declared.Answer.{Answer}
use Rattle.books.specs.declared.Popped.{Popped}
use Rattle.books.specs.Outcome.{Outcome}
use Rattle.books.specs.Place.{no_place, place_in}
use Rattle.shapes.specs.declared.End.{End}
use Rattle.shapes.specs.declared.End.TheVariants.{Front, Back}
use Rattle.shapes.specs.Moves.{Call}
use Rattle.shapes.specs.Ledger.{Ledger, one_pair}
use Rattle.engines.specs.Undo.{SameHoldings}
use Rattle.xor.specs.Engine.{xor}
use Rattle.xor.specs.Moves.{Pool, state_of, pool_left, pool_popped, given_by, after_by, noted_by}
use Rattle.xor.specs.Ten.{pop_back_of, pop_front_of}

module _ (links values : List ℕ) (b : Book) where
  -- every link, every value and every field of the book is what it was
  pub record AsBefore (after : Pool) : Type 0 where
    pub same_links : after.links ≡ links
    pub same_values : after.values ≡ values
    pub same_book : after.book ≡ b

  -- the pop that follows a push: it is done, hands out the value that was pushed, and leaves all as before the push
  pub record TakenBack (value : ℕ) (r : Outcome Popped) : Type 0 where
    pub number : r.answer.given.refusal.number ≡ 0
    pub unplaced : place_in r.answer.given.refusal ≡ no_place
    pub handed : r.answer.given.value ≡ value
    pub restored : AsBefore (pool_popped r)

  -- the push that follows a pop: it is done, and leaves all as before the pop
  pub record PutBack (r : Outcome Answer) : Type 0 where
    pub number : r.answer.refusal.number ≡ 0
    pub unplaced : place_in r.answer.refusal ≡ no_place
    pub restored : AsBefore (pool_left r)

  -- the weaker law of each: it is done, and each list's sequence of values, each length and the number of free slots are as before
  abbrev pub HeldBefore : Pool → Type 0
  HeldBefore after = SameHoldings xor (state_of (record { links = links; values = values; book = b })) (state_of after)

  pub record TakenHeld (value : ℕ) (r : Outcome Popped) : Type 0 where
    pub number : r.answer.given.refusal.number ≡ 0
    pub handed : r.answer.given.value ≡ value
    pub holdings : HeldBefore (pool_popped r)

  pub record PutHeld (r : Outcome Answer) : Type 0 where
    pub number : r.answer.refusal.number ≡ 0
    pub holdings : HeldBefore (pool_left r)

-- what a pop at either end hands out, and on a sound pool a quick one too
abbrev pub handed_at : Pool → End → ℕ → ℕ
handed_at p Front l = (pop_front_of p.links p.values p.book l).answer.given.value
handed_at p Back l = (pop_back_of p.links p.values p.book l).answer.given.value

-- ---- in a trace of the calls by name, a call that is done and the one that takes it back

module _ (p : Pool) (ledger : Ledger) (l : ℕ) (call back : Call) where
  -- the second is done too, and the ledger notes one push and one pop more of list l while every list holds the same
  pub record PoolNoted : Type 0 where
    pub done_too : given_by (after_by p call) back ≡ 0
    pub account : noted_by (after_by p call) back (noted_by p call ledger) ≡ one_pair l ledger

  -- and the pool with its book is as it was
  pub record PoolUndone : Type 0 where
    pub pair : PoolNoted
    pub same_pool : after_by (after_by p call) back ≡ p

  -- the weaker law: and what each list holds is as it was
  pub record PoolHeld : Type 0 where
    pub pair : PoolNoted
    pub holdings : SameHoldings xor (state_of p) (state_of (after_by (after_by p call) back))
