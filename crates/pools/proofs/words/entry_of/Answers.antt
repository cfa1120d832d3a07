-- `pools::words::entry_of`: the words of the entry, where there is a place for them.
use mathlib.Core.Path.{sym, ap, ◌∙◌}
use native.Mathlib.Omega.{arith}
use Rattle.books.specs.Words.{entry_from}
use Rattle.books.proofs.Flat.{entry_read, entry_past}
use Rattle.pools.proofs.words.entry_of.Goals as goal

pub returns-then-k-lt8 : goal.returns-then-k-lt8
returns-then-k-lt8 c =
    let a = c.args in
    c.entry_at.ensures ∙ ap (entry_from a.words.now) c.from-k.ensures ∙ sym (entry_read a.words.now a.list (omega arith))

pub returns-else-k-lt8 : goal.returns-else-k-lt8
returns-else-k-lt8 c = c.zero.ensures ∙ sym (entry_past c.args.words.now c.args.list (omega arith))
