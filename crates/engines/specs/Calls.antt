-- The ten calls over any engine, as they run: which number each gives by its tests, and what it leaves, on any cells and any book with any number of places. What the numbers mean is in `Conditions`, what a done call means in `Done`.
use Rattle.std.specs.Prelude.{cond, not, ◌&&◌, List, [], ◌∷◌, ◌++◌, ℕ, ◌-◌, leb, eqb, length, take, replicate}
use Rattle.books.specs.Place.{Place, no_place, numbered}
use Rattle.books.specs.declared.Refusal.{Refusal}
use Rattle.books.specs.Book.{zero_entry, entry_at, AnyBook}
use Rattle.books.specs.Test.{keeps_rules}
use Rattle.books.specs.Tabulate.{tabulate}
use Rattle.shapes.specs.declared.End.{End}
use Rattle.shapes.specs.Ends.{near_of}
use Rattle.shapes.specs.Shape.{stored_lacks}
use Rattle.shapes.specs.Records.{Fault}
use Rattle.shapes.specs.Records.{Found}
use Rattle.shapes.specs.Records.{Looked}
use Rattle.shapes.specs.Faults.{place_for, answering, refused_by}
use Rattle.books.specs.declared.Length.{Length}
use Rattle.shapes.specs.Numbers.{Test, test, decided}
use Rattle.shapes.specs.Setup.{fresh_value, fresh_entry}
use Rattle.shapes.specs.Changes.{with_list}
use Rattle.shapes.specs.Tests.{push_own_tests, pop_own_tests, read_own_tests, ReadLeft, read_left, read_of}
use Rattle.engines.specs.Engine.{Engine, Step}
use Rattle.engines.specs.Counted.{counted_push, counted_pop}
use Rattle.engines.specs.Check.{sizes_fit, check_found, look_of}
use Rattle.engines.specs.Reads.{count_read, buffer_after, clear_on}

-- what a call that may change the pool leaves: the number with its place, the value that it hands out, 0 for none, the book and the cells
pub record Called (E : Engine) : Type 0 where
  pub number : ℕ
  pub place : Place
  pub value : ℕ
  pub book : AnyBook
  pub links : E.Links
  pub values : List ℕ

-- ---- setup

-- the all-zero book
abbrev pub zero_book_of : ℕ → AnyBook
zero_book_of places = record { places = places; lists = 0; entries = replicate places zero_entry; free = record { head = 0; count = 0 } }

-- 01: "free head 1; lists empty"; and so many slots are free
abbrev pub fresh_book_of : (free places lists : ℕ) → List ℕ → List ℕ → AnyBook
fresh_book_of free places lists shares limits = record { places = places; lists = lists; entries = tabulate places (fresh_entry shares limits); free = record { head = 1; count = free } }

module _ (E : Engine) (places : ℕ) (links : E.Links) (values : List ℕ) (lists : ℕ) (shares limits : List ℕ) where
  abbrev pub setup_tests : List Test
  setup_tests = test 1 (not (sizes_fit E links values)) ∷ test 2 (not (keeps_rules (E.size links) (fresh_book_of (E.size links - 1) places lists shares limits))) ∷ []

  -- every slot from 1 to N-1 is free
  abbrev pub set_up : Called E
  set_up = record { number = 0; place = no_place; value = 0; book = fresh_book_of (E.size links - 1) places lists shares limits; links = E.fresh links; values = tabulate (length values) fresh_value }

  unfoldable pub setup_call : Called E
  setup_call = decided setup_tests set_up (λ n. record { number = n; place = no_place; value = 0; book = zero_book_of places; links = links; values = values })

-- ---- the nine calls

module _ (E : Engine) (links : E.Links) (values : List ℕ) (b : AnyBook) where
  -- a refusal, with the place of the first fault where the number is its rule. 01: "A refused pop returns value 0"; "the book comes back as it went in"; "No lent slice changes"
  abbrev pub not_called : Fault → ℕ → Called E
  not_called f number = record { number = number; place = place_for f number; value = 0; book = b; links = links; values = values }

  -- what a done step leaves, put back into the book
  abbrev pub stepped : ℕ → ℕ → Step E.Links → Called E
  stepped l value r = record { number = 0; place = no_place; value = value; book = with_list b l r.entry r.free; links = r.links; values = r.values }

  -- what the check finds
  abbrev pub found_of : Found
  found_of = check_found E links values b

  -- 1, and the rule that is first broken, 9 to 16, which every call but setup tests first
  abbrev pub check_tests : List Test
  check_tests = test 1 (not (sizes_fit E links values)) ∷ test found_of.fault.rule (not (eqb found_of.fault.rule 0)) ∷ []

  -- 01: "Check: 0 when sound"
  unfoldable pub check_call : Refusal
  check_call = decided check_tests (numbered 0) (answering found_of.fault)

  module _ (l : ℕ) where
    -- the stored length of the list
    abbrev pub stored_length : ℕ
    stored_length = (entry_at b.entries l).length

    -- then 4, which every call on a list tests
    abbrev pub list_tests : List Test
    list_tests = check_tests ++ test 4 (leb b.lists l) ∷ []

    -- 02 c): "6 and 7 use stored counts", and so do 5 and 8
    abbrev pub push_tests : List Test
    push_tests = list_tests ++ push_own_tests (entry_at b.entries l) stored_length (stored_lacks (take b.lists b.entries)) b.free.count

    abbrev pub pop_tests : List Test
    pop_tests = list_tests ++ pop_own_tests stored_length

    abbrev pub read_tests : ℕ → ℕ → List Test
    read_tests buffer_size at = list_tests ++ read_own_tests stored_length buffer_size at

    -- 1, 9 to 16 or 4, with nothing found, or else 0 and what the check found
    unfoldable pub on_list_of : Looked
    on_list_of =
        let seen = look_of E links values b in
        cond (eqb seen.refusal.number 0 && leb b.lists l) (refused_by (numbered 4)) seen

    -- what each call leaves where it is done
    abbrev pub after_push : End → ℕ → Called E
    after_push end value = stepped l 0 (counted_push E end links values (entry_at b.entries l) b.free value)

    abbrev pub after_pop : End → Called E
    after_pop end = let r = counted_pop E end links values (entry_at b.entries l) b.free in stepped l r.value r

    -- `many` is how many slots the list has
    abbrev pub after_clear : ℕ → Called E
    after_clear many = stepped l 0 (clear_on E many links values (entry_at b.entries l) b.free)

    -- forward is read from the front, backward from the back
    abbrev pub after_read : End → List ℕ → ℕ → ReadLeft
    after_read end buffer at =
        let start = near_of end (entry_at b.entries l) in
        read_left (read_of (numbered 0) (count_read E end links values start buffer at)) (buffer_after E end links values start buffer at)

    -- 02 c): "Length answers from the book after the check". 01: "a refused length or read returns 0"
    unfoldable pub length_call : Length
    length_call =
        decided list_tests
        (record { refusal = numbered 0; length = stored_length })
        (λ n. record { refusal = answering found_of.fault n; length = 0 })

    unfoldable pub push_call : End → ℕ → Called E
    push_call end value = decided push_tests (after_push end value) (not_called found_of.fault)

    unfoldable pub pop_call : End → Called E
    pop_call end = decided pop_tests (after_pop end) (not_called found_of.fault)

    unfoldable pub clear_call : Called E
    clear_call = decided list_tests (after_clear stored_length) (not_called found_of.fault)

    unfoldable pub read_call : End → List ℕ → ℕ → ReadLeft
    read_call end buffer at = decided (read_tests (length buffer) at) (after_read end buffer at) (λ n. read_left (read_of (answering found_of.fault n) 0) buffer)
