-- 01's table of numbers with 02 b)'s and 02 c)'s: for each call the conditions in the order in which they are tested, said of the sound shape, or of the first rule that is broken. What runs is in `Calls`.
use Rattle.std.specs.Prelude.{◌≡◌, ◌⊎◌, List, [], ◌∷◌, ◌++◌, ℕ, ◌+◌, ◌≤◌, ◌<◌, length, take}
use Rattle.books.specs.Book.{entry_at, AnyBook}
use Rattle.books.specs.Table.{fault_rules}
use Rattle.shapes.specs.Shape.{Shape, chain_at, lacks, stored_lacks}
use Rattle.shapes.specs.Numbers.{Condition, condition}
use Rattle.shapes.specs.Setup.{SetupRules}
use Rattle.shapes.specs.Faults.{fault}
use Rattle.engines.specs.Engine.{Engine}
use Rattle.engines.specs.Sound.{Fit, SoundBook}
use Rattle.engines.specs.FirstFault.{Breaks}

module _ (E : Engine) (links : E.Links) (values : List ℕ) where
  -- 1: "lengths differ, or N under 2 or over 4,096"; 2: "setup's L, shares or limits break the book rules"
  abbrev pub setup_conditions : (places lists : ℕ) → List ℕ → List ℕ → List Condition
  setup_conditions places lists shares limits = condition 1 (Fit E links values → ⊥) ∷ condition 2 (SetupRules (E.size links) places lists shares limits → ⊥) ∷ []

module _ (E : Engine) (links : E.Links) (values : List ℕ) (b : AnyBook) where
  -- the sound shape of the pool, and a fact of it
  abbrev pub OfShape : (Shape → Type 0) → Type 0
  OfShape Fact = (s : Shape) × SoundBook E links values b s × Fact s

  -- rule k is broken, at some list and position, and no rule before it is
  abbrev pub FirstBroken : ℕ → Type 0
  FirstBroken k = (list : ℕ) × (place : ℕ) × Breaks E links values b (fault k list place)

  -- each of the rules, in their order
  abbrev pub rules_broken : List ℕ → List Condition
  rules_broken [] = []
  rules_broken (k ∷ ks) = condition k (FirstBroken k) ∷ rules_broken ks

  -- 1, and then 9 to 16
  abbrev pub check_conditions : List Condition
  check_conditions = condition 1 (Fit E links values → ⊥) ∷ rules_broken fault_rules

  module _ (l : ℕ) where
    -- 4: "list number not below L"
    abbrev pub list_conditions : List Condition
    list_conditions = check_conditions ++ condition 4 (b.lists ≤ l) ∷ []

    -- 6: "length equals limit"; 7: "under the limit, length at least the share, and free slots no more than the sum of lacks"
    abbrev pub push_conditions : List Condition
    push_conditions =
        list_conditions
        ++ condition 6 (OfShape (λ s. length (chain_at s l) ≡ (entry_at b.entries l).limit))
        ∷ condition 7 (OfShape (λ s. (length (chain_at s l) < (entry_at b.entries l).limit) × ((entry_at b.entries l).share ≤ length (chain_at s l)) × (length s.idle ≤ lacks (take b.lists b.entries) s.chains)))
        ∷ []

    -- 5: "the list is empty"
    abbrev pub pop_conditions : List Condition
    pop_conditions = list_conditions ++ condition 5 (OfShape (λ s. chain_at s l ≡ [])) ∷ []

    -- 8: "`at` past the buffer's end, or fewer than length places from `at`", of a buffer with `buffer_size` places
    abbrev pub TooSmall : ℕ → ℕ → Shape → Type 0
    TooSmall buffer_size at s = (buffer_size < at) ⊎ (buffer_size < at + length (chain_at s l))

    abbrev pub read_conditions : ℕ → ℕ → List Condition
    read_conditions buffer_size at = list_conditions ++ condition 8 (OfShape (TooSmall buffer_size at)) ∷ []

    -- ---- the same over the stored counts of the book. After the check they are the sequences' (02 c)

    -- 6: the stored length equals the limit; 7: it is under the limit and at least the share, and the stored free count is no more than the sum of lacks
    abbrev pub stored_push_conditions : List Condition
    stored_push_conditions =
        let e = entry_at b.entries l in
        list_conditions
        ++ condition 6 (e.length ≡ e.limit)
        ∷ condition 7 ((e.length < e.limit) × (e.share ≤ e.length) × (b.free.count ≤ stored_lacks (take b.lists b.entries)))
        ∷ []

    -- 5: the stored length is 0
    abbrev pub stored_pop_conditions : List Condition
    stored_pop_conditions = list_conditions ++ condition 5 ((entry_at b.entries l).length ≡ 0) ∷ []

    -- 8: fewer places from `at` on than the stored length
    abbrev pub stored_read_conditions : ℕ → ℕ → List Condition
    stored_read_conditions buffer_size at = list_conditions ++ condition 8 ((buffer_size < at) ⊎ (buffer_size < at + (entry_at b.entries l).length)) ∷ []
