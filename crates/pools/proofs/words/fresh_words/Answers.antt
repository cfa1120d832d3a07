-- `pools::words::fresh_words`: the entries that are made, in the order of the lists, are those of a fresh book.
use mathlib.Core.Path.{◌≡◌, refl, ap, ◌∙◌}
use mathlib.Core.List.{List}
use Prim.Native.Nat.{ℕ}
use Rattle.std.specs.Prelude.{map}
use Rattle.std.specs.List.{range_with_len}
use Rattle.books.specs.declared.Entry.{Entry}
use Rattle.books.specs.Book.{most_lists, words_of}
use Rattle.books.specs.Tabulate.{tabulate}
use Rattle.shapes.specs.Setup.{fresh_entry}
use Rattle.pools.proofs.words.fresh_words.Goals as goal

in_order : (f : ℕ → Entry) → map f (range_with_len 0 8) ≡ tabulate most_lists f
unfolding tabulate
in_order f = refl

pub returns : goal.returns
returns c =
    let a = c.args in
    c.words_of.ensures
    ∙ ap (λ (es : List Entry). words_of (record { lists = a.lists; entries = es; free = record { head = 1; count = a.free } })) (c.fresh_entries.ensures ∙ in_order (fresh_entry a.shares.now a.limits.now))
