-- `pools::words::put_list`: the five words are stored. The two that are not would be stored as they are, so the words are then those of the book.
use mathlib.Core.Path.{◌≡◌, sym, ap, ◌∙◌}
use mathlib.Core.List.{List}
use Prim.Native.Nat.{ℕ, ◌+◌, ◌*◌, ◌≤◌, ◌<◌}
use native.Mathlib.Omega.{arith}
use lib.ListN.{length, get_or, set}
use lib.Seq.{get_or-set_other, set-get_or, set_out}
use Rattle.std.proofs.lemmas.List.{set_comm}
use Rattle.books.specs.declared.Entry.{Entry}
use Rattle.books.specs.Book.{zero_entry, eight, book_of, entry_at, words_of}
use Rattle.books.specs.Words.{entry_from, entries_from, book_from}
use Rattle.books.proofs.Flat.{entry_read, entries_many}
use Rattle.books.proofs.Stored.{stored_book}
use Rattle.shapes.specs.Changes.{with_list}
use Rattle.shapes.specs.declared.Chains.{Chains}
use Rattle.pools.specs.Kept.{with_ends}
use Rattle.pools.proofs.words.put_list.Goals.{then-list-lt8, else-list-lt8}
use Rattle.pools.proofs.words.put_list.Goals as goal

-- the words after the ends are stored
module _ (words : List ℕ) (l head tail : ℕ) where
  abbrev two : List ℕ
  two = set (set words (5 * l + 1) head) (5 * l + 2) tail

  share_there : get_or words (5 * l + 3) 0 ≡ get_or two (5 * l + 3) 0
  share_there = sym (get_or-set_other (set words (5 * l + 1) head) (5 * l + 2) (5 * l + 3) tail 0 (λ e. omega (arith, e)) ∙ get_or-set_other words (5 * l + 1) (5 * l + 3) head 0 (λ e. omega (arith, e)))

  limit_there : get_or words (5 * l + 4) 0 ≡ get_or two (5 * l + 4) 0
  limit_there = sym (get_or-set_other (set words (5 * l + 1) head) (5 * l + 2) (5 * l + 4) tail 0 (λ e. omega (arith, e)) ∙ get_or-set_other words (5 * l + 1) (5 * l + 4) head 0 (λ e. omega (arith, e)))

  -- the share and the limit stored as they are
  stay : set (set two (5 * l + 3) (get_or words (5 * l + 3) 0)) (5 * l + 4) (get_or words (5 * l + 4) 0) ≡ two
  stay =
      ap (λ (ws : List ℕ). set ws (5 * l + 4) (get_or words (5 * l + 4) 0)) (ap (set two (5 * l + 3)) share_there ∙ set-get_or two (5 * l + 3) 0)
      ∙ ap (set two (5 * l + 4)) limit_there
      ∙ set-get_or two (5 * l + 4) 0

-- the book with other chains
abbrev changed : List ℕ → ℕ → Chains → List ℕ
changed words l c = words_of (book_of (with_list (eight (book_from words)) l (with_ends c.list.head c.list.tail c.list.length (entry_at (entries_from words) l)) c.idle))

module _ (words : List ℕ) (c : Chains) (long : length words ≡ 43) where
  -- a list that has a place
  five_put : (l : ℕ) → l < 8 → set (set (set (set (set words (5 * l + 1) c.list.head) (5 * l + 2) c.list.tail) (5 * l + 5) c.list.length) 41 c.idle.head) 42 c.idle.count ≡ changed words l c
  five_put l h =
      ap (λ (ws : List ℕ). set (set (set ws (5 * l + 5) c.list.length) 41 c.idle.head) 42 c.idle.count) (sym (stay words l c.list.head c.list.tail))
      ∙ stored_book words l (with_ends c.list.head c.list.tail c.list.length (entry_from words l)) c.idle h long
      ∙ ap (λ (e : Entry). words_of (book_of (with_list (eight (book_from words)) l (with_ends c.list.head c.list.tail c.list.length e) c.idle))) (sym (entry_read words l h))

  -- and one that has none: only the free record is stored, as if list 0 were stored as it is
  none_put : (l : ℕ) → 8 ≤ l → set (set words 41 c.idle.head) 42 c.idle.count ≡ changed words l c
  none_put l h =
      ap (λ (ws : List ℕ). set (set ws 41 c.idle.head) 42 c.idle.count) (sym same)
      ∙ stored_book words 0 (entry_from words 0) c.idle (omega arith) long
      ∙ ap (λ (es : List Entry). words_of (record { lists = get_or words 0 0; entries = es; free = c.idle })) (kept ∙ sym (set_out (entries_from words) l _ (omega (arith, entries_many words))))
    where
      same : set (set (set (set (set words 1 (get_or words 1 0)) 2 (get_or words 2 0)) 3 (get_or words 3 0)) 4 (get_or words 4 0)) 5 (get_or words 5 0) ≡ words
      same = rw (set-get_or words 1 0, set-get_or words 2 0, set-get_or words 3 0, set-get_or words 4 0, set-get_or words 5 0)

      kept : set (entries_from words) 0 (entry_from words 0) ≡ entries_from words
      kept = ap (set (entries_from words) 0) (sym (entry_read words 0 (omega arith))) ∙ set-get_or (entries_from words) 0 zero_entry

-- the words that are stored in a list that has a place
abbrev list_put : List ℕ → ℕ → Chains → List ℕ
list_put words k c = set (set (set words (5 * k + 1) c.list.head) (5 * k + 2) c.list.tail) (5 * k + 5) c.list.length

pub returns : goal.returns
returns c =
    let a = c.args in
    let words = a.words.now in
    let idle = a.chains.idle in
    set_comm c.if-list-lt8.words 42 41 idle.count idle.head (λ e. omega (arith, e))
    ∙ elim c.if-list-lt8.branch [
      | then-list-lt8 w ↦
          ap (λ (ws : List ℕ). set (set ws 41 idle.head) 42 idle.count) (w.words-is ∙ ap (λ (k : ℕ). list_put words k a.chains) w.from-k.ensures)
          ∙ five_put words a.chains c.told-words a.list w.if-list-lt8.true
      | else-list-lt8 w ↦ ap (λ (ws : List ℕ). set (set ws 41 idle.head) 42 idle.count) w.words-is ∙ none_put words a.chains c.told-words a.list w.if-list-lt8.false
    ]
