-- 02 d)'s quick calls over any engine, as they run: the checked calls' own tests and steps, without the check. What they give and leave, on any cells and any book. What the numbers mean is in `QuickConditions`.
use Rattle.std.specs.Prelude.{Bool, not, ◌&&◌, List, [], ◌∷◌, ◌++◌, ℕ, leb, take}
use Rattle.books.specs.declared.Free.{Free}
use Rattle.books.specs.declared.Entry.{Entry}
use Rattle.books.specs.Place.{no_place}
use Rattle.books.specs.Book.{entry_at, AnyBook}
use Rattle.shapes.specs.declared.End.{End}
use Rattle.shapes.specs.Shape.{stored_lacks}
use Rattle.shapes.specs.Counts.{word_up, word_down}
use Rattle.shapes.specs.Numbers.{Test, test, decided}
use Rattle.shapes.specs.Tests.{push_own_tests, pop_own_tests}
use Rattle.shapes.specs.Quick.{lists_inside, counts_fit, push_counts_fit, pop_counts_fit}
use Rattle.engines.specs.Engine.{Engine}
use Rattle.engines.specs.Counted.{if_made}
use Rattle.engines.specs.Check.{sizes_fit}
use Rattle.engines.specs.Calls.{Called, after_push, after_pop}
use Rattle.engines.specs.OnList.{OnList, not_on_list, stepped_on_list}

-- ---- on one list: its entry and the free record

module _ (E : Engine) (end : End) (links : E.Links) (values : List ℕ) (list : Entry) (free : Free) where
  -- no count would leave 0 to N-1, and the engine makes its step
  abbrev pub push_goes : ℕ → Bool
  push_goes value = push_counts_fit (E.size links) list.length free.count && (E.push end links values list free value).done

  abbrev pub pop_goes : Bool
  pop_goes = pop_counts_fit (E.size links) free.count && (E.pop end links values list free).done

  -- 6, 7 and then 17; 5 and then 17
  abbrev pub quick_push_own : ℕ → ℕ → List Test
  quick_push_own lacking value = push_own_tests list list.length lacking free.count ++ test 17 (not (push_goes value)) ∷ []

  abbrev pub quick_pop_own : List Test
  quick_pop_own = pop_own_tests list.length ++ test 17 (not pop_goes) ∷ []

  -- what runs below every face, with the counts in their words
  unfoldable pub quick_push_on : ℕ → ℕ → OnList E
  quick_push_on lacking value =
      decided (quick_push_own lacking value)
      (stepped_on_list E links values list free 0 (if_made (word_up list.length) (word_down free.count) (E.push end links values list free value)))
      (not_on_list E links values list free)

  unfoldable pub quick_pop_on : OnList E
  quick_pop_on =
      let r = if_made (word_down list.length) (word_up free.count) (E.pop end links values list free) in
      decided quick_pop_own (stepped_on_list E links values list free r.value r) (not_on_list E links values list free)

-- ---- the calls

module _ (E : Engine) (links : E.Links) (values : List ℕ) (b : AnyBook) (l : ℕ) where
  -- 1; 17 for L; 4; 17 for a stored count
  abbrev pub quick_list_tests : List Test
  quick_list_tests =
      test 1 (not (sizes_fit E links values))
      ∷ test 17 (not (lists_inside b))
      ∷ test 4 (leb b.lists l)
      ∷ test 17 (not (counts_fit (E.size links) b))
      ∷ []

  abbrev pub quick_push_tests : End → ℕ → List Test
  quick_push_tests end value = quick_list_tests ++ quick_push_own E end links values (entry_at b.entries l) b.free (stored_lacks (take b.lists b.entries)) value

  abbrev pub quick_pop_tests : End → List Test
  quick_pop_tests end = quick_list_tests ++ quick_pop_own E end links values (entry_at b.entries l) b.free

  -- a refusal: value 0, no place, and all is as it was
  abbrev pub not_quick : ℕ → Called E
  not_quick number = record { number = number; place = no_place; value = 0; book = b; links = links; values = values }

  -- a done one leaves what a checked call leaves once its check is passed: the engine's step, with the stored counts one up and one down
  unfoldable pub quick_push : End → ℕ → Called E
  quick_push end value = decided (quick_push_tests end value) (after_push E links values b l end value) not_quick

  unfoldable pub quick_pop : End → Called E
  quick_pop end = decided (quick_pop_tests end) (after_pop E links values b l end) not_quick
