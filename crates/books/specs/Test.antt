-- The book rules as a test that runs. What it means is `Rules`; the law `rules_hold_lem` says that it is true exactly there.
use Rattle.std.specs.Prelude.{Bool, true, ◌&&◌, List, [], ◌∷◌, ℕ, ◌+◌, leb, ltb, eqb, length, take, drop}
use Rattle.books.specs.declared.Entry.{Entry}
use Rattle.books.specs.Book.{smallest_pool, largest_pool, AnyBook}

abbrev pub size_fits : ℕ → Bool
size_fits size = leb smallest_pool size && leb size largest_pool

unfoldable pub is_fair : ℕ → Entry → Bool
is_fair size e = leb e.share e.limit && ltb e.limit size

unfoldable pub is_zero : Entry → Bool
is_zero e = eqb e.head 0 && (eqb e.tail 0 && (eqb e.share 0 && (eqb e.limit 0 && eqb e.length 0)))

-- each entry is fair, and `sum` and their shares together are below the size
unfoldable pub gather : ℕ → List Entry → ℕ → Bool
gather size [] sum = ltb sum size
gather size (e ∷ es) sum = is_fair size e && gather size es (sum + e.share)

unfoldable pub all_zero : List Entry → Bool
all_zero [] = true
all_zero (e ∷ es) = is_zero e && all_zero es

abbrev pub rules_hold : ℕ → ℕ → ℕ → List Entry → Bool
rules_hold size places lists es = leb 1 lists && (leb lists places && (leb lists (length es) && (gather size (take lists es) 0 && all_zero (drop lists es))))

-- of a book; the law `keeps_rules_lem` says that it is true exactly where `BookRules` holds
unfoldable pub keeps_rules : ℕ → AnyBook → Bool
keeps_rules size b = rules_hold size b.places b.lists b.entries
