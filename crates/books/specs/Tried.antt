-- Books on both sides of each of 01's book rules, bit by bit and list by list, with what the test must say. And how cases are written here and in the crates above.
use Rattle.std.specs.Prelude.{Bool, true, false, not, ◌&&◌, List, [], ◌∷◌, ◌++◌, map, ℕ, zero, suc, ◌+◌, eqb, set, replicate}
use Rattle.books.specs.declared.Entry.{Entry}
use Rattle.books.specs.declared.Book.{Book}
use Rattle.books.specs.Book.{zero_entry}
use Rattle.books.specs.Test.{size_fits, keeps_rules}

-- ---- how cases are written

-- x, its double, and so on, n of them: from 1 on, the numbers with one bit
abbrev pub doubles : ℕ → ℕ → List ℕ
doubles zero x = []
doubles (suc n) x = x ∷ doubles n (x + x)

-- each bit of a word, and of a value
abbrev pub word_bits : List ℕ
word_bits = doubles 16 1

abbrev pub value_bits : List ℕ
value_bits = doubles 64 1

-- the lowest and the highest bit of a value, of its halves and of its quarters, and the last but one
abbrev pub edge_bits : List ℕ
edge_bits = 1 ∷ 32768 ∷ 65536 ∷ 2147483648 ∷ 4294967296 ∷ 140737488355328 ∷ 281474976710656 ∷ 4611686018427387904 ∷ 9223372036854775808 ∷ []

-- the largest value: all of its 64 bits are set
abbrev pub all_bits : ℕ
all_bits = 18446744073709551615

-- a, a + 1, and so on, n of them
abbrev pub numbers_from : ℕ → ℕ → List ℕ
numbers_from a zero = []
numbers_from a (suc n) = a ∷ numbers_from (suc a) n

abbrev pub same_numbers : List ℕ → List ℕ → Bool
same_numbers [] [] = true
same_numbers [] (y ∷ ys) = false
same_numbers (x ∷ xs) [] = false
same_numbers (x ∷ xs) (y ∷ ys) = eqb x y && same_numbers xs ys

abbrev pub same_answer : Bool → Bool → Bool
same_answer true answer = answer
same_answer false answer = not answer

-- a list's head, tail, share, limit and length
abbrev pub entry : ℕ → ℕ → ℕ → ℕ → ℕ → Entry
entry head tail share limit length = record { head = head; tail = tail; share = share; limit = limit; length = length }

abbrev pub none : ℕ → List Entry
none n = replicate n zero_entry

-- ---- the book rules

-- N, the places of the book, L and the entries; and whether the rules are kept
pub record Ruled : Type 0 where
  pub size : ℕ
  pub places : ℕ
  pub lists : ℕ
  pub entries : List Entry
  pub kept : Bool

abbrev ruled : ℕ → ℕ → ℕ → List Entry → Bool → Ruled
ruled size places lists entries kept = record { size = size; places = places; lists = lists; entries = entries; kept = kept }

-- eight places, and only list l's entry is not zero
abbrev only_at : ℕ → ℕ → ℕ → Entry → Bool → Ruled
only_at size lists l e kept = ruled size 8 lists (set (none 8) l e) kept

abbrev joined_ruled : List (List Ruled) → List Ruled
joined_ruled [] = []
joined_ruled (rs ∷ more) = rs ++ joined_ruled more

abbrev pub ruled_tried : List Ruled
ruled_tried =
    -- "L is 1 to 8"
    ruled 6 8 0 (none 8) false
    ∷ ruled 6 8 1 (none 8) true
    ∷ ruled 6 8 7 (none 8) true
    ∷ ruled 6 8 8 (none 8) true
    ∷ ruled 6 8 9 (none 8) false
    ∷ ruled 6 8 9 (none 9) false
    -- each list has its entry
    ∷ ruled 6 8 8 (none 7) false
    ∷ ruled 6 1 1 (none 1) true
    ∷ ruled 6 1 2 (none 2) false
    -- "share ≤ limit ≤ N-1": at the limit, one over it, at N-1, at N; in the least pool and in the largest
    ∷ ruled 6 8 1 (entry 0 0 3 3 0 ∷ none 7) true
    ∷ ruled 6 8 1 (entry 0 0 4 3 0 ∷ none 7) false
    ∷ ruled 6 8 1 (entry 0 0 5 5 0 ∷ none 7) true
    ∷ ruled 6 8 1 (entry 0 0 0 6 0 ∷ none 7) false
    ∷ ruled 2 8 1 (entry 0 0 1 1 0 ∷ none 7) true
    ∷ ruled 2 8 1 (entry 0 0 0 2 0 ∷ none 7) false
    ∷ ruled 4096 8 1 (entry 0 0 4095 4095 0 ∷ none 7) true
    ∷ ruled 4096 8 1 (entry 0 0 0 4096 0 ∷ none 7) false
    ∷ ruled 4096 8 1 (entry 0 0 65535 65535 0 ∷ none 7) false
    -- "the shares add up to at most N-1": 2 and 3 in six slots, 3 and 3; the eight of a book
    ∷ ruled 6 8 2 (entry 0 0 2 5 0 ∷ entry 0 0 3 3 0 ∷ none 6) true
    ∷ ruled 6 8 2 (entry 0 0 3 5 0 ∷ entry 0 0 3 3 0 ∷ none 6) false
    ∷ ruled 9 8 8 (replicate 8 (entry 0 0 1 8 0)) true
    ∷ ruled 8 8 8 (replicate 8 (entry 0 0 1 7 0)) false
    ∷ ruled 4096 8 8 (replicate 8 (entry 0 0 511 4095 0)) true
    ∷ ruled 4096 8 8 (replicate 8 (entry 0 0 512 4095 0)) false
    ∷ ruled 4096 8 8 (replicate 7 (entry 0 0 512 4095 0) ++ entry 0 0 511 4095 0 ∷ []) true
    -- shares that would be a small number again in a word of 12, 13 or 14 bits
    ∷ ruled 4096 8 2 (replicate 2 (entry 0 0 4095 4095 0) ++ none 6) false
    ∷ ruled 4096 8 3 (replicate 3 (entry 0 0 4095 4095 0) ++ none 5) false
    ∷ ruled 4096 8 5 (replicate 5 (entry 0 0 4095 4095 0) ++ none 3) false
    -- a list's ends and its length are no matter of these rules
    ∷ ruled 6 8 1 (entry 65535 65535 0 5 65535 ∷ none 7) true
    -- every list: its share and its limit
    ∷ joined_ruled (map (λ l. only_at 6 8 l (entry 7 7 5 5 0) true ∷ only_at 6 8 l (entry 7 7 2 1 0) false ∷ only_at 6 8 l (entry 7 7 0 6 0) false ∷ []) (numbers_from 0 8))
    -- "entries from L on are all 0": each word of the entry at L, and of those behind it
    ++ joined_ruled (map (λ l. only_at 6 l l (entry 1 0 0 0 0) false ∷ only_at 6 l l (entry 0 1 0 0 0) false ∷ only_at 6 l l (entry 0 0 1 0 0) false ∷ only_at 6 l l (entry 0 0 0 1 0) false ∷ only_at 6 l l (entry 0 0 0 0 1) false ∷ []) (numbers_from 1 7))
    ++ joined_ruled (map (λ l. only_at 6 1 l (entry 1 0 0 0 0) false ∷ only_at 6 1 l (entry 0 1 0 0 0) false ∷ only_at 6 1 l (entry 0 0 1 1 0) false ∷ only_at 6 1 l (entry 0 0 0 1 0) false ∷ only_at 6 1 l (entry 0 0 0 0 1) false ∷ []) (numbers_from 1 7))
    -- bit by bit: L; a share over the limit; a limit over N-1; each word of an entry behind the lists
    ++ map (λ b. ruled 6 8 (8 + b) (none 8) false) word_bits
    ++ map (λ b. only_at 6 8 7 (entry 0 0 b 0 0) false) word_bits
    ++ map (λ b. only_at 6 8 7 (entry 0 0 0 (5 + b) 0) false) word_bits
    ++ joined_ruled (map (λ b. only_at 6 7 7 (entry b 0 0 0 0) false ∷ only_at 6 7 7 (entry 0 b 0 0 0) false ∷ only_at 6 7 7 (entry 0 0 b 0 0) false ∷ only_at 6 7 7 (entry 0 0 0 b 0) false ∷ only_at 6 7 7 (entry 0 0 0 0 b) false ∷ []) word_bits)

abbrev pub ruled_pass : List Ruled → Bool
ruled_pass [] = true
ruled_pass (r ∷ rs) = same_answer (keeps_rules r.size (record { places = r.places; lists = r.lists; entries = r.entries; free = record { head = 65535; count = 65535 } })) r.kept && ruled_pass rs

-- ---- the sizes

-- "N runs from 2 to 4,096": what the test says of each
abbrev pub sizes_said : List Bool
sizes_said = map size_fits (0 ∷ 1 ∷ 2 ∷ 3 ∷ 255 ∷ 256 ∷ 2048 ∷ 4095 ∷ 4096 ∷ 4097 ∷ 4098 ∷ 8192 ∷ 32770 ∷ 65535 ∷ 65538 ∷ 4294967298 ∷ 18446744073709551618 ∷ [])

-- ---- the words of a book

-- a book whose words are the numbers from 1 to 43
abbrev pub numbered_book : Book
numbered_book = record { lists = 1; entries = map (λ n. entry (2 + n) (3 + n) (4 + n) (5 + n) (6 + n)) (by_fives 8 0); free = record { head = 42; count = 43 } }
  where
    by_fives : ℕ → ℕ → List ℕ
    by_fives zero n = []
    by_fives (suc k) n = n ∷ by_fives k (5 + n)
