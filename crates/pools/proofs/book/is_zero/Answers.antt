-- `pools::book::is_zero`: the four words as one, and then the length.
use mathlib.Core.Path.{◌≡◌}
use mathlib.Core.Bool.{◌&&◌}
use Prim.Native.Nat.{ℕ}
use lib.Bits.{bit_or}
use lib.Dec.{eqb}
use borrow.Author.Tests.{eq-eqb, ne_eqb}
use Rattle.books.specs.Test.{is_zero}
use Rattle.books.proofs.Tests.{or_zero, and_in_turn}
use Rattle.pools.proofs.book.is_zero.Goals as goal

split : (h t s l n : ℕ) → eqb (bit_or (bit_or (bit_or h t) s) l) 0 && eqb n 0 ≡ eqb h 0 && (eqb t 0 && (eqb s 0 && (eqb l 0 && eqb n 0)))
split h t s l n =
    rw (or_zero (bit_or (bit_or h t) s) l, or_zero (bit_or h t) s, or_zero h t)
    (and_in_turn (eqb h 0) (eqb t 0) (eqb s 0) (eqb l 0) (eqb n 0))

pub returns-then-four-ne0 : goal.returns-then-four-ne0
unfolding is_zero
returns-then-four-ne0 c =
    let e = c.args.entry in
    rw (ne_eqb _ 0 c.if-four-ne0.true) at (split e.head e.tail e.share e.limit e.length)

pub returns : goal.returns
unfolding is_zero
returns c =
    let e = c.args.entry in
    rw (eq-eqb _ 0 c.if-four-ne0.false) at (split e.head e.tail e.share e.limit e.length)
