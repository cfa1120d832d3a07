-- `shares::setup::setup`: what `lay_out` leaves, and the book that goes with its number.
use mathlib.Core.Path.{refl, ap, ◌∙◌}
use native.Mathlib.Omega.{arith}
use Rattle.std.specs.Prelude.{ℕ}
use Rattle.books.specs.Book.{most_lists, zero_book, book_of}
use Rattle.books.proofs.Errors.{number_positive}
use Rattle.engines.specs.Calls.{fresh_book_of}
use Rattle.shares.proofs.LaidOut.{setup_whole, free_told}
use Rattle.shares.proofs.setup.setup.Goals as goal

pub returns-in-Err : goal.returns-in-Err
returns-in-Err c =
    let a = c.args in
    rw (c.numbered-in-Err.ensures, c.into.ensures, c.zero.ensures) (setup_whole a.links.now a.values.now a.lists a.shares a.limits zero_book c.in-Err.ensures (λ _. refl) (λ z. absurd (omega (arith, number_positive c.in-Err.number))))

pub returns-in-Ok : goal.returns-in-Ok
returns-in-Ok c =
    let a = c.args in
    let laid = c.lay_out in
    let free = free_told a.links.now a.values.now a.lists a.shares a.limits c.in-Ok.ensures refl laid.auto.links c.free_slots-free.ensures in
    rw c.numbered.ensures (setup_whole a.links.now a.values.now a.lists a.shares a.limits _ c.in-Ok.ensures (λ d. absurd (d refl))
    (λ z. c.fresh_book.ensures ∙ ap (λ (n : ℕ). book_of (fresh_book_of n most_lists a.lists a.shares a.limits)) free))
