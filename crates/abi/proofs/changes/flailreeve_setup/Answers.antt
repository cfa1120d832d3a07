-- `abi::changes::flailreeve_setup`: what `lay_out` leaves, with the words of the new book, or the lent book left where it is refused.
use mathlib.Core.Path.{refl, sym, ap, ◌∙◌}
use native.Mathlib.Omega.{arith}
use Prim.Native.Nat.{ℕ}
use Rattle.books.specs.Book.{most_lists, zero_book, book_of}
use Rattle.books.proofs.Errors.{number_positive}
use Rattle.engines.specs.Calls.{fresh_book_of}
use Rattle.shares.proofs.LaidOut.{setup_whole, free_told}
use Rattle.faces.proofs.Kept.{kept_done, kept_refused}
use Rattle.abi.proofs.Thin.{prepared_by}
use Rattle.abi.proofs.changes.flailreeve_setup.Goals as goal

pub returns-in-Ok : goal.returns-in-Ok
returns-in-Ok c =
    let a = c.args in
    let free = free_told a.links.now a.values.now a.lists a.shares.now a.limits.now c.in-Ok.ensures refl c.lay_out.auto.links c.free_slots-free.ensures in
    let book = book_of (fresh_book_of c.free_slots-free.result most_lists a.lists a.shares.now a.limits.now) in
    prepared_by _ refl (c.fresh_words.ensures ∙ sym (kept_done _ _ _ refl))
    (setup_whole a.links.now a.values.now a.lists a.shares.now a.limits.now book c.in-Ok.ensures (λ d. absurd (d refl))
    (λ z. ap (λ (n : ℕ). book_of (fresh_book_of n most_lists a.lists a.shares.now a.limits.now)) free))

pub returns-in-Err : goal.returns-in-Err
returns-in-Err c =
    let a = c.args in
    rw c.into.ensures
    (prepared_by _ refl (sym (kept_refused _ _ _ (λ z. omega (arith, number_positive c.in-Err.number, z))))
    (setup_whole a.links.now a.values.now a.lists a.shares.now a.limits.now zero_book c.in-Err.ensures (λ d. refl) (λ z. absurd (omega (arith, number_positive c.in-Err.number, z)))))
