-- `digits::put`, which calls itself for the digits of the tenth, with one place less.
use mathlib.Core.Path.{◌≡◌, refl}
use Prim.Native.Nat.{◌-◌}
use lib.ListN.{length}
use borrow.Author.Rules.{rules}
use Rattle.wording.proofs.Written.{bytes_one, bytes_more, some_digit_byte, one_written, last_refused, last_written}
use Rattle.digits.proofs.+put.Goals as goal

pub returns-then-number-lt10-clause-written : goal.returns-then-number-lt10-clause-written
returns-then-number-lt10-clause-written t c = rw (bytes_one c.args.number c.if-number-lt10.true, c.ascii.ensures) (one_written _ c.args.out.now (search rules))

pub returns-in_err-count-clause-written : goal.returns-in_err-count-clause-written
returns-in_err-count-clause-written t c =
    let e : c.in_ok-room.room ≡ length c.args.out.now - 1 = search rules in
    rw (c.from_residual-in_err-count.ensures, bytes_more c.args.number c.if-number-lt10.false, e)
    (last_refused _ c.args.out.now _ (search rules) _ _ (rw e at c.in_err-count.ensures.written) (some_digit_byte _) refl)

pub returns-clause-written : goal.returns-clause-written
returns-clause-written t c =
    let e : c.in_ok-room.room ≡ length c.args.out.now - 1 = search rules in
    rw (bytes_more c.args.number c.if-number-lt10.false, c.ascii-2.ensures, e)
    (last_written _ c.args.out.now _ (search rules) _ _ (rw e at c.in_ok-count.ensures.written) c.in_ok-count.ensures.some)
