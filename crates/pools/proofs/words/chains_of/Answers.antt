-- `pools::words::chains_of`: the words of the entry and of the free record, where there is such a list.
use mathlib.Core.Path.{sym, ap, ◌∙◌}
use native.Mathlib.Omega.{arith}
use Rattle.books.specs.Words.{entry_from}
use Rattle.books.proofs.Flat.{entry_read}
use Rattle.pools.proofs.words.chains_of.Goals as goal

pub returns-then-k-lt8 : goal.returns-then-k-lt8
returns-then-k-lt8 c =
    let a = c.args in
    let e = c.entry_at.ensures ∙ ap (entry_from a.words.now) c.from-k.ensures ∙ sym (entry_read a.words.now a.list (omega arith)) in
    (omega arith, omega arith, λ i. record { list = e i; idle = c.free_of.ensures i })
