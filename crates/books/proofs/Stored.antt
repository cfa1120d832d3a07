-- One list's words are stored, and those of the free record: the words are then those of the book with that entry and that idle chain.
use mathlib.Core.Path.{◌≡◌, sym, ap, ◌∙◌}
use mathlib.Core.Logic.{◌≢◌}
use mathlib.Core.List.{List}
use Prim.Native.Nat.{ℕ, ◌+◌, ◌*◌, ◌≤◌, ◌<◌}
use native.Mathlib.Decide.{ℕ_discrete}
use native.Mathlib.Omega.{arith}
use lib.ListN.{length, get_or, set, length-set}
use lib.Seq.{get_or-set_same, get_or-set_other, ext_get_or}
use Rattle.books.specs.declared.Free.{Free}
use Rattle.books.specs.declared.Entry.{Entry}
use Rattle.books.specs.Book.{zero_entry, entry_at, words_of}
use Rattle.books.specs.Words.{entry_from, entries_from}
use Rattle.books.proofs.Tabulate.{tabulate-length}
use Rattle.books.proofs.Flat.{words_kept, same_entry_lem, same_free_lem, same_book_lem, entry_read}

module _ (words : List ℕ) (l : ℕ) (e : Entry) (free : Free) where
  -- the words after the seven stores
  abbrev one : List ℕ
  one = set words (5 * l + 1) e.head

  abbrev two : List ℕ
  two = set one (5 * l + 2) e.tail

  abbrev three : List ℕ
  three = set two (5 * l + 3) e.share

  abbrev four : List ℕ
  four = set three (5 * l + 4) e.limit

  abbrev five : List ℕ
  five = set four (5 * l + 5) e.length

  abbrev six : List ℕ
  six = set five 41 free.head

  abbrev pub stored : List ℕ
  stored = set six 42 free.count

  module _ (b : l < 8) (h : length words ≡ 43) where
    one_size : length one ≡ 43
    one_size = length-set words (5 * l + 1) e.head ∙ h

    two_size : length two ≡ 43
    two_size = length-set one (5 * l + 2) e.tail ∙ one_size

    three_size : length three ≡ 43
    three_size = length-set two (5 * l + 3) e.share ∙ two_size

    four_size : length four ≡ 43
    four_size = length-set three (5 * l + 4) e.limit ∙ three_size

    five_size : length five ≡ 43
    five_size = length-set four (5 * l + 5) e.length ∙ four_size

    six_size : length six ≡ 43
    six_size = length-set five 41 free.head ∙ five_size

    stored_size : length stored ≡ 43
    stored_size = length-set six 42 free.count ∙ six_size

    -- a word of list l after its own store: the later ones are elsewhere
    over_free : (y : ℕ) → y ≢ 41 → y ≢ 42 → get_or stored y 0 ≡ get_or five y 0
    over_free y d c = get_or-set_other six 42 y free.count 0 c ∙ get_or-set_other five 41 y free.head 0 d

    over-length : (y : ℕ) → y ≢ 5 * l + 5 → y ≢ 41 → y ≢ 42 → get_or stored y 0 ≡ get_or four y 0
    over-length y g d c = over_free y d c ∙ get_or-set_other four (5 * l + 5) y e.length 0 g

    over_limit : (y : ℕ) → y ≢ 5 * l + 4 → y ≢ 5 * l + 5 → y ≢ 41 → y ≢ 42 → get_or stored y 0 ≡ get_or three y 0
    over_limit y f g d c = over-length y g d c ∙ get_or-set_other three (5 * l + 4) y e.limit 0 f

    over_share : (y : ℕ) → y ≢ 5 * l + 3 → y ≢ 5 * l + 4 → y ≢ 5 * l + 5 → y ≢ 41 → y ≢ 42 → get_or stored y 0 ≡ get_or two y 0
    over_share y i f g d c = over_limit y f g d c ∙ get_or-set_other two (5 * l + 3) y e.share 0 i

    over_tail : (y : ℕ) → y ≢ 5 * l + 2 → y ≢ 5 * l + 3 → y ≢ 5 * l + 4 → y ≢ 5 * l + 5 → y ≢ 41 → y ≢ 42 → get_or stored y 0 ≡ get_or one y 0
    over_tail y j i f g d c = over_share y i f g d c ∙ get_or-set_other one (5 * l + 2) y e.tail 0 j

    -- each of the seven, and every other word
    head_stored : get_or stored (5 * l + 1) 0 ≡ e.head
    head_stored = over_tail (5 * l + 1) (omega arith) (omega arith) (omega arith) (omega arith) (omega arith) (omega arith) ∙ get_or-set_same words (5 * l + 1) e.head 0 (omega (arith, h))

    tail_stored : get_or stored (5 * l + 2) 0 ≡ e.tail
    tail_stored = over_share (5 * l + 2) (omega arith) (omega arith) (omega arith) (omega arith) (omega arith) ∙ get_or-set_same one (5 * l + 2) e.tail 0 (omega (arith, one_size))

    share_stored : get_or stored (5 * l + 3) 0 ≡ e.share
    share_stored = over_limit (5 * l + 3) (omega arith) (omega arith) (omega arith) (omega arith) ∙ get_or-set_same two (5 * l + 3) e.share 0 (omega (arith, two_size))

    limit_stored : get_or stored (5 * l + 4) 0 ≡ e.limit
    limit_stored = over-length (5 * l + 4) (omega arith) (omega arith) (omega arith) ∙ get_or-set_same three (5 * l + 4) e.limit 0 (omega (arith, three_size))

    length_stored : get_or stored (5 * l + 5) 0 ≡ e.length
    length_stored = over_free (5 * l + 5) (omega arith) (omega arith) ∙ get_or-set_same four (5 * l + 5) e.length 0 (omega (arith, four_size))

    free_stored : get_or stored 41 0 ≡ free.head
    free_stored = get_or-set_other six 42 41 free.count 0 (omega arith) ∙ get_or-set_same five 41 free.head 0 (omega (arith, five_size))

    count_stored : get_or stored 42 0 ≡ free.count
    count_stored = get_or-set_same six 42 free.count 0 (omega (arith, six_size))

    other_stored : (y : ℕ) → y ≢ 5 * l + 1 → y ≢ 5 * l + 2 → y ≢ 5 * l + 3 → y ≢ 5 * l + 4 → y ≢ 5 * l + 5 → y ≢ 41 → y ≢ 42 → get_or stored y 0 ≡ get_or words y 0
    other_stored y k j i f g d c = over_tail y j i f g d c ∙ get_or-set_other words (5 * l + 1) y e.head 0 k

    -- the entries that are read from them
    this_entry : entry_from stored l ≡ e
    this_entry = same_entry_lem head_stored tail_stored share_stored limit_stored length_stored

    that_entry : (k : ℕ) → k < 8 → k ≢ l → entry_from stored k ≡ entry_from words k
    that_entry k c d = same_entry_lem (of 1 (omega arith) (omega arith)) (of 2 (omega arith) (omega arith)) (of 3 (omega arith) (omega arith)) (of 4 (omega arith) (omega arith)) (of 5 (omega arith) (omega arith))
      where
        of : (j : ℕ) → 1 ≤ j → j ≤ 5 → get_or stored (5 * k + j) 0 ≡ get_or words (5 * k + j) 0
        of j p q = other_stored (5 * k + j) (omega arith) (omega arith) (omega arith) (omega arith) (omega arith) (omega arith) (omega arith)

    each_entry : (k : ℕ) → k < 8 → entry_from stored k ≡ entry_at (set (entries_from words) l e) k
    each_entry k c = go (ℕ_discrete k l)
      where
        go : Dec (k ≡ l) → entry_from stored k ≡ entry_at (set (entries_from words) l e) k
        go (yes i) = rw i (this_entry ∙ sym (get_or-set_same (entries_from words) l e zero_entry (omega (arith, b, tabulate-length 8 (entry_from words)))))
        go (no d) = that_entry k c d ∙ sym (entry_read words k c) ∙ sym (get_or-set_other (entries_from words) l k e zero_entry d)

    entries_stored : entries_from stored ≡ set (entries_from words) l e
    entries_stored =
        ext_get_or zero_entry (entries_from stored) (set (entries_from words) l e) (tabulate-length 8 _ ∙ sym (length-set (entries_from words) l e ∙ tabulate-length 8 _))
        (λ k c. entry_read stored k (omega (arith, c, tabulate-length 8 (entry_from stored))) ∙ each_entry k (omega (arith, c, tabulate-length 8 (entry_from stored))))

    pub stored_book : stored ≡ words_of (record { lists = get_or words 0 0; entries = set (entries_from words) l e; free = free })
    stored_book =
        sym (words_kept stored stored_size)
        ∙ ap words_of (same_book_lem (other_stored 0 (omega arith) (omega arith) (omega arith) (omega arith) (omega arith) (omega arith) (omega arith)) entries_stored (same_free_lem free_stored count_stored))
