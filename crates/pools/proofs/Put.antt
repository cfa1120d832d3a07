-- A book is put into 43 words entry by entry: what holds before the loop, after each turn and at the end.
use mathlib.Core.Path.{◌≡◌, refl, sym, ◌∙◌}
use mathlib.Core.List.{List}
use Prim.Native.Nat.{ℕ, ◌+◌, ◌*◌, ◌<◌}
use native.Mathlib.Omega.{arith}
use lib.ListN.{length, get_or, set, length-set}
use Rattle.books.specs.declared.Free.{Free}
use Rattle.books.specs.declared.Entry.{Entry}
use Rattle.books.specs.declared.Book.{Book}
use Rattle.books.specs.Book.{entry_at, words_of}
use Rattle.books.proofs.Fill.{Filling, fill_more, fill_all}
use Rattle.books.proofs.Flat.{head_word, tail_word, share_word, limit_word, length_word, words-length, free_word, count_word, each_word}

-- the book that is being put: its first word stands in the words already
abbrev pub being : List ℕ → List Entry → Free → Book
being words entries free = record { lists = get_or words 0 0; entries = entries; free = free }

abbrev pub word_in : List ℕ → List Entry → Free → ℕ → ℕ
word_in words entries free y = get_or (words_of (being words entries free)) y 0

-- after the first word and `list` entries
abbrev pub Putting : List ℕ → List Entry → Free → List ℕ → ℕ → Type 0
Putting words entries free now list = Filling 0 (word_in words entries free) words now (5 * list + 1)

module _ (words : List ℕ) (entries : List Entry) (free : Free) where
  pub put_none : 0 < length words → Putting words entries free words 0
  put_none h = record { size = refl; filled = λ y c. first y (omega arith) }
    where
      first : (y : ℕ) → y ≡ 0 → get_or words y 0 ≡ word_in words entries free y
      first y e = rw e refl

  pub put_more : (now : List ℕ) (l : ℕ) → l < length entries → 5 * l + 5 < length now → Putting words entries free now l
      → Putting words entries free (set (set (set (set (set now (5 * l + 1) (entry_at entries l).head) (5 * l + 2) (entry_at entries l).tail) (5 * l + 3) (entry_at entries l).share) (5 * l + 4) (entry_at entries l).limit) (5 * l + 5) (entry_at entries l).length) (l + 1)
  put_more now l h room F = at_place (omega arith) many
    where
      b : Book
      b = being words entries free

      next : (n : List ℕ) (k m : ℕ) (a : ℕ) → k + 1 ≡ m → k < length n → a ≡ word_in words entries free k → Filling 0 (word_in words entries free) words n k → Filling 0 (word_in words entries free) words (set n k a) m
      next n k m a e c i G = rw⁻¹ e (fill_more 0 (word_in words entries free) words n k a G c i)

      at_place : {n : List ℕ} {k m : ℕ} → k ≡ m → Filling 0 (word_in words entries free) words n k → Filling 0 (word_in words entries free) words n m
      at_place e G = rw⁻¹ e G

      one : List ℕ
      one = set now (5 * l + 1) (entry_at entries l).head

      two : List ℕ
      two = set one (5 * l + 2) (entry_at entries l).tail

      three : List ℕ
      three = set two (5 * l + 3) (entry_at entries l).share

      head : Filling 0 (word_in words entries free) words one (5 * l + 2)
      head = next now (5 * l + 1) (5 * l + 2) _ (omega arith) (omega arith) (sym (head_word b l h)) F

      tail : Filling 0 (word_in words entries free) words two (5 * l + 3)
      tail = next one (5 * l + 2) (5 * l + 3) _ (omega arith) (omega (arith, length-set now (5 * l + 1) (entry_at entries l).head)) (sym (tail_word b l h)) head

      share : Filling 0 (word_in words entries free) words three (5 * l + 4)
      share = next two (5 * l + 3) (5 * l + 4) _ (omega arith) (omega (arith, tail.size, head.size, F.size)) (sym (share_word b l h)) tail

      four : List ℕ
      four = set three (5 * l + 4) (entry_at entries l).limit

      limit : Filling 0 (word_in words entries free) words four (5 * l + 5)
      limit = next three (5 * l + 4) (5 * l + 5) _ (omega arith) (omega (arith, share.size, F.size)) (sym (limit_word b l h)) share

      many : Filling 0 (word_in words entries free) words (set four (5 * l + 5) (entry_at entries l).length) (5 * l + 6)
      many = next four (5 * l + 5) (5 * l + 6) _ (omega arith) (omega (arith, limit.size, F.size)) (sym (length_word b l h)) limit

  pub put_all : (now : List ℕ) (l : ℕ) → length words ≡ 43 → length entries ≡ 8 → l ≡ 8 → Putting words entries free now l
      → set (set now 41 free.head) 42 free.count ≡ words_of (being words entries free)
  put_all now l e h i F =
      fill_all 0 (word_in words entries free) words _ 43 43 last e (omega arith) ∙ each_word (words_of b) 43 (words-length b h)
    where
      b : Book
      b = being words entries free

      before : Filling 0 (word_in words entries free) words now 41
      before = let e : 5 * l + 1 ≡ 41 = omega (arith, i) in rw⁻¹ e F

      first : Filling 0 (word_in words entries free) words (set now 41 free.head) 42
      first = fill_more 0 (word_in words entries free) words now 41 free.head before (omega (arith, F.size, e)) (sym (free_word b h))

      last : Filling 0 (word_in words entries free) words (set (set now 41 free.head) 42 free.count) 43
      last = fill_more 0 (word_in words entries free) words (set now 41 free.head) 42 free.count first (omega (arith, first.size, e)) (sym (count_word b h))
