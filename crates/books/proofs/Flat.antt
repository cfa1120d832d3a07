-- A book and its 43 words say the same: from one to the other and back nothing is lost, and each word is where C looks for it.
use mathlib.Core.Path.{◌≡◌, refl, sym, ap, ◌∙◌}
use mathlib.Core.List.{List, [], ◌∷◌, ◌++◌}
use Prim.Native.Nat.{ℕ, zero, suc, ◌+◌, ◌*◌, ◌≤◌, ◌<◌}
use native.Mathlib.Nat.{le_of_suc-le-suc, not-suc-le-zero}
use native.Mathlib.Omega.{arith}
use lib.ListN.{length, get_or, get_or-eq_default}
use lib.Seq.{ext_get_or}
use Rattle.books.specs.declared.Free.{Free}
use Rattle.books.specs.declared.Entry.{Entry}
use Rattle.books.specs.declared.Book.{Book}
use Rattle.books.specs.Book.{zero_entry, entry_at, entry_words, words_of}
use Rattle.books.specs.Place.{Place}
use Rattle.books.specs.Tabulate.{tabulate}
use Rattle.books.proofs.Tabulate.{tabulate-length, tabulate_at}
use Rattle.books.specs.Words.{entry_from, entries_from, book_from, place_from}

-- five times a number, counted up as the words are
five : ℕ → ℕ
five zero = zero
five (suc l) = suc (suc (suc (suc (suc (five l)))))

five_is : (l : ℕ) → five l ≡ 5 * l
unfolding five
five_is zero = refl
five_is (suc l) = omega (arith, five_is l)

-- list l's entry in the words of the entries
entry_words_lem : (es : List Entry) (rest : List ℕ) (l : ℕ) → l < length es
    → (get_or (entry_words es ++ rest) (five l) 0 ≡ (entry_at es l).head) × (get_or (entry_words es ++ rest) (suc (five l)) 0 ≡ (entry_at es l).tail)
    × (get_or (entry_words es ++ rest) (suc (suc (five l))) 0 ≡ (entry_at es l).share) × (get_or (entry_words es ++ rest) (suc (suc (suc (five l)))) 0 ≡ (entry_at es l).limit)
    × (get_or (entry_words es ++ rest) (suc (suc (suc (suc (five l))))) 0 ≡ (entry_at es l).length)
unfolding five
entry_words_lem [] rest l h = absurd (not-suc-le-zero h)
entry_words_lem (e ∷ es) rest zero h = (refl, refl, refl, refl, refl)
entry_words_lem (e ∷ es) rest (suc l) h = entry_words_lem es rest l (le_of_suc-le-suc h)

last_words : (es : List Entry) (x y : ℕ) → (get_or (entry_words es ++ x ∷ y ∷ []) (five (length es)) 0 ≡ x) × (get_or (entry_words es ++ x ∷ y ∷ []) (suc (five (length es))) 0 ≡ y)
unfolding five
last_words [] x y = (refl, refl)
last_words (e ∷ es) x y = last_words es x y

many_words : (es : List Entry) (x y : ℕ) → length (entry_words es ++ x ∷ y ∷ []) ≡ suc (suc (five (length es)))
unfolding five
many_words [] x y = refl
many_words (e ∷ es) x y = ap (λ n. suc (suc (suc (suc (suc n))))) (many_words es x y)

-- the first word is how many lists there are
pub lists_word : (b : Book) → get_or (words_of b) 0 0 ≡ b.lists
lists_word b = refl

-- a book has 43 words, and the last two are the free record
module _ (b : Book) (h : length b.entries ≡ 8) where
  pub words-length : length (words_of b) ≡ 43
  words-length = omega (arith, many_words b.entries b.free.head b.free.count, five_is (length b.entries), h)

  40_is : 40 ≡ five (length b.entries)
  40_is = omega (arith, five_is (length b.entries), h)

  pub free_word : get_or (words_of b) 41 0 ≡ b.free.head
  free_word = ap (λ n. get_or (words_of b) (suc n) 0) 40_is ∙ (last_words b.entries b.free.head b.free.count).0

  pub count_word : get_or (words_of b) 42 0 ≡ b.free.count
  count_word = ap (λ n. get_or (words_of b) (suc (suc n)) 0) 40_is ∙ (last_words b.entries b.free.head b.free.count).1

module _ (b : Book) (l : ℕ) (h : l < length b.entries) where
  -- a word's place after the first word
  place : (k j : ℕ) → k ≡ suc j → get_or (words_of b) k 0 ≡ get_or (words_of b) (suc j) 0
  place k j e = ap (λ n. get_or (words_of b) n 0) e

  pub head_word : get_or (words_of b) (5 * l + 1) 0 ≡ (entry_at b.entries l).head
  head_word = place (5 * l + 1) (five l) (omega (arith, five_is l)) ∙ (entry_words_lem b.entries _ l h).0

  pub tail_word : get_or (words_of b) (5 * l + 2) 0 ≡ (entry_at b.entries l).tail
  tail_word = place (5 * l + 2) (suc (five l)) (omega (arith, five_is l)) ∙ (entry_words_lem b.entries _ l h).1

  pub share_word : get_or (words_of b) (5 * l + 3) 0 ≡ (entry_at b.entries l).share
  share_word = place (5 * l + 3) (suc (suc (five l))) (omega (arith, five_is l)) ∙ (entry_words_lem b.entries _ l h).2

  pub limit_word : get_or (words_of b) (5 * l + 4) 0 ≡ (entry_at b.entries l).limit
  limit_word = place (5 * l + 4) (suc (suc (suc (five l)))) (omega (arith, five_is l)) ∙ (entry_words_lem b.entries _ l h).3

  pub length_word : get_or (words_of b) (5 * l + 5) 0 ≡ (entry_at b.entries l).length
  length_word = place (5 * l + 5) (suc (suc (suc (suc (five l))))) (omega (arith, five_is l)) ∙ (entry_words_lem b.entries _ l h).4

-- ---- there and back

-- the words of a list, one by one, are the list
pub each_word : (words : List ℕ) (n : ℕ) → length words ≡ n → tabulate n (λ y. get_or words y 0) ≡ words
each_word words n e =
    ext_get_or 0 (tabulate n (λ y. get_or words y 0)) words (tabulate-length n _ ∙ sym e)
    (λ y h. tabulate_at 0 n (λ z. get_or words z 0) y (omega (arith, h, tabulate-length n (λ z. get_or words z 0))))

-- the words of the book that 43 words are: the same words
pub words_kept : (words : List ℕ) → length words ≡ 43 → words_of (book_from words) ≡ words
unfolding tabulate
words_kept words h = each_word words 43 h

-- two entries, two free records or two books whose fields are the same
pub same_entry_lem : {a a' c c' d d' f f' g g' : ℕ} → a ≡ a' → c ≡ c' → d ≡ d' → f ≡ f' → g ≡ g'
    → ◌≡◌ {A = Entry} (record { head = a; tail = c; share = d; limit = f; length = g }) (record { head = a'; tail = c'; share = d'; limit = f'; length = g' })
same_entry_lem p q r s t = rw p (rw q (rw r (rw s (rw t refl))))

pub same_free_lem : {a a' c c' : ℕ} → a ≡ a' → c ≡ c' → ◌≡◌ {A = Free} (record { head = a; count = c }) (record { head = a'; count = c' })
same_free_lem p q = rw p (rw q refl)

pub same_book_lem : {lists lists' : ℕ} {entries entries' : List Entry} {free free' : Free} → lists ≡ lists' → entries ≡ entries' → free ≡ free'
    → ◌≡◌ {A = Book} (record { lists = lists; entries = entries; free = free }) (record { lists = lists'; entries = entries'; free = free' })
same_book_lem n p q = rw n (rw p (rw q refl))

entry_kept : (b : Book) (l : ℕ) → l < length b.entries → entry_from (words_of b) l ≡ entry_at b.entries l
entry_kept b l h = same_entry_lem (head_word b l h) (tail_word b l h) (share_word b l h) (limit_word b l h) (length_word b l h)

entries_kept : (b : Book) → length b.entries ≡ 8 → entries_from (words_of b) ≡ b.entries
entries_kept b h =
    ext_get_or zero_entry (entries_from (words_of b)) b.entries (tabulate-length 8 _ ∙ sym h)
    (λ y c. tabulate_at zero_entry 8 (entry_from (words_of b)) y (omega (arith, c, tabulate-length 8 (entry_from (words_of b)))) ∙ entry_kept b y (omega (arith, c, h, tabulate-length 8 (entry_from (words_of b)))))

-- the book that a book's words are: the same book
pub book_kept : (b : Book) → length b.entries ≡ 8 → book_from (words_of b) ≡ b
book_kept b h = same_book_lem refl (entries_kept b h) (same_free_lem (free_word b h) (count_word b h))

-- ---- what is read from the words

-- list l's entry, and none past the eighth
pub entry_read : (words : List ℕ) (l : ℕ) → l < 8 → entry_at (entries_from words) l ≡ entry_from words l
entry_read words l h = tabulate_at zero_entry 8 (entry_from words) l h

pub entry_past : (words : List ℕ) (l : ℕ) → 8 ≤ l → entry_at (entries_from words) l ≡ zero_entry
entry_past words l h = get_or-eq_default (entries_from words) zero_entry (omega (arith, h, tabulate-length 8 (entry_from words)))

pub entries_many : (words : List ℕ) → length (entries_from words) ≡ 8
entries_many words = tabulate-length 8 (entry_from words)

-- two words are the place that is read from them, and no other two are
pub place_words : (words : List ℕ) → length words ≡ 2 → words ≡ (place_from words).list ∷ (place_from words).position ∷ []
place_words words h = ext_get_or 0 words (get_or words 0 0 ∷ get_or words 1 0 ∷ []) h at
  where
    at : (i : ℕ) → i < length words → get_or words i 0 ≡ get_or (get_or words 0 0 ∷ get_or words 1 0 ∷ []) i 0
    at zero p = refl
    at (suc zero) p = refl
    at (suc (suc i)) p = absurd (omega (arith, h))

pub place_words_one : (words other : List ℕ) → length words ≡ 2 → length other ≡ 2 → place_from words ≡ place_from other → words ≡ other
place_words_one words other h k e = place_words words h ∙ ap (λ (p : Place). p.list ∷ p.position ∷ []) e ∙ sym (place_words other k)
