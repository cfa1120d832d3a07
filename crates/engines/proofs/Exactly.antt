-- Which of 6, 7 and 0 a push gets on a list of a sound pool, which of 5 and 0 a pop, which of 8 and 0 a read; that length and clear are done, and that no call on a sound pool gets 1 or one of 9 to 16; on any engine.
use mathlib.Core.Path.{◌≡◌, refl, ap, subst}
use mathlib.Core.Logic.{◌↔◌, ◌≢◌, ◌⊎◌, inl, inr, ⊎_elim}
use mathlib.Core.List.{List, [], ◌∷◌, ◌++◌}
use Prim.Native.Nat.{ℕ, ◌+◌, ◌≤◌, ◌<◌}
use native.Mathlib.Decide.{ℕ_discrete, dec_le, dec_lt}
use native.Mathlib.Omega.{arith}
use lib.ListN.{length, take}
use Rattle.books.specs.declared.Entry.{Entry}
use Rattle.books.specs.Book.{entry_at, AnyBook}
use Rattle.books.specs.Table.{fault_rules}
use Rattle.shapes.specs.declared.End.{End}
use Rattle.shapes.specs.Shape.{Shape, chain_at, lacks, Room}
use Rattle.shapes.specs.Numbers.{Condition, Given}
use Rattle.shapes.specs.Numbers as N
use Rattle.shapes.proofs.Numbers.{given_only}
use Rattle.engines.specs.Engine.{Engine}
use Rattle.engines.specs.Sound.{Fit, SoundBook}
use Rattle.engines.specs.Laws.{Lawful}
use Rattle.engines.specs.Conditions.{OfShape, rules_broken, check_conditions, list_conditions, push_conditions, pop_conditions, TooSmall, read_conditions}
use Rattle.engines.specs.Calls.{length_call, push_call, pop_call, clear_call, read_call}
use Rattle.engines.proofs.Shape.{unique_book}
use Rattle.engines.proofs.Found.{entry_is, within}
use Rattle.engines.proofs.FirstFault.{sound_unbroken}
use Rattle.engines.proofs.When.{none_broken, length_given, push_given, pop_given, clear_given, read_given}

-- ---- 1, and 9 to 16

-- conditions of the calls' own, with numbers from 4 to 8
abbrev pub OwnNumbers : List Condition → Type 0
OwnNumbers [] = Unit
OwnNumbers (c ∷ cs) = (3 < c.number) × (c.number < 9) × OwnNumbers cs

own_number : {cs : List Condition} {n : ℕ} → OwnNumbers cs → Given cs n → (n ≢ 1) × (n < 9)
own_number p N.done = omega arith
own_number p (N.this h) = let q = p.0 in let r = p.1 in omega arith
own_number p (N.later h g) = own_number p.2 g

module _ {E : Engine} (L : Lawful E) {links : E.Links} {values : List ℕ} {b : AnyBook} {s : Shape} (S : SoundBook E links values b s) where
  past_rules : (ks : List ℕ) {cs : List Condition} {n : ℕ} → Given (rules_broken E links values b ks ++ cs) n → Given cs n
  past_rules [] g = g
  past_rules (k ∷ ks) (N.this (l, p, B)) = absurd (sound_unbroken L links values b S.pool.fit S B)
  past_rules (k ∷ ks) (N.later h g) = past_rules ks g

  pub not_broken : {cs : List Condition} {n : ℕ} → OwnNumbers cs → Given (check_conditions E links values b ++ cs) n → (n ≢ 1) × (n < 9)
  not_broken p (N.this h) = absurd (h S.pool.fit)
  not_broken p (N.later h g) = own_number p (past_rules fault_rules g)

-- ---- 6, 7 and 0

-- the three ways that a push on a list can go
data Way (many limit share free lacking number : ℕ) : Type 0 where
  full : number ≡ 6 → many ≡ limit → Way many limit share free lacking number
  tight : number ≡ 7 → many < limit → share ≤ many → free ≤ lacking → Way many limit share free lacking number
  roomy : number ≡ 0 → many < limit → (many < share) ⊎ (lacking < free) → Way many limit share free lacking number

module _ {E : Engine} (L : Lawful E) {links : E.Links} {values : List ℕ} {b : AnyBook} {s : Shape} (S : SoundBook E links values b s) (l : ℕ) (below : l < b.lists) where
  abbrev e : Entry
  e = entry_at b.entries l

  abbrev many : ℕ
  many = length (chain_at s l)

  abbrev lacking : ℕ
  lacking = lacks (take b.lists b.entries) s.chains

  -- 6's and 7's facts, of any shape
  abbrev Full : Shape → Type 0
  Full t = length (chain_at t l) ≡ e.limit

  abbrev Tight : Shape → Type 0
  Tight t = (length (chain_at t l) < e.limit) × (e.share ≤ length (chain_at t l)) × (length t.idle ≤ lacks (take b.lists b.entries) t.chains)

  -- what comes after 1, 9 to 16 and 4 decides
  own_decides : {cs : List Condition} {k : ℕ} → Given cs k → Given (list_conditions E links values b l ++ cs) k
  own_decides g = N.later (λ (n : Fit E links values → ⊥). n S.pool.fit) (none_broken L links values b S fault_rules (N.later (λ (h : b.lists ≤ l). omega arith) g))

  -- a fact of a sound shape is a fact of this one
  of_this : (Fact : Shape → Type 0) → OfShape E links values b Fact → Fact s
  of_this Fact (t, T, f) = subst Fact (unique_book L T S) f

  module _ (end : End) (value : ℕ) where
    abbrev number : ℕ
    number = (push_call E links values b l end value).number

    way : Way many e.limit e.share (length s.idle) lacking number
    way = go (ℕ_discrete many e.limit) (dec_le e.share many) (dec_le (length s.idle) lacking)
      where
        gives : {k : ℕ} → Given (push_conditions E links values b l) k → number ≡ k
        gives g = given_only (push_given L links values b l end value) g

        under : many ≢ e.limit → many < e.limit
        under f = omega (arith, within S l below)

        go : Dec (many ≡ e.limit) → Dec (e.share ≤ many) → Dec (length s.idle ≤ lacking) → Way many e.limit e.share (length s.idle) lacking number
        go (yes f) x y = full (gives (own_decides (N.this (s, S, f)))) f
        go (no f) (yes x) (yes y) = tight (gives (own_decides (N.later (λ o. f (of_this Full o)) (N.this (s, S, (under f, x, y)))))) (under f) x y
        go (no f) (no x) y = roomy (gives (own_decides (N.later (λ o. f (of_this Full o)) (N.later (λ o. x (of_this Tight o).1) N.done)))) (under f) (inl (omega arith))
        go (no f) (yes x) (no y) = roomy (gives (own_decides (N.later (λ o. f (of_this Full o)) (N.later (λ o. y (of_this Tight o).2) N.done)))) (under f) (inr (omega arith))

    -- 01: 6 "length equals limit"
    pub push_six : number ≡ 6 ↔ (many ≡ e.limit)
    push_six = go way
      where
        go : Way many e.limit e.share (length s.idle) lacking number → number ≡ 6 ↔ (many ≡ e.limit)
        go (full n f) = (λ k. f, λ k. n)
        go (tight n u x y) = omega arith
        go (roomy n u x) = omega arith

    -- 01: 7 "under the limit, length at least the share, and free slots no more than the sum of lacks"
    pub push_seven : number ≡ 7 ↔ Tight s
    push_seven = go way
      where
        go : Way many e.limit e.share (length s.idle) lacking number → number ≡ 7 ↔ Tight s
        go (full n f) = omega arith
        go (tight n u x y) = (λ k. (u, x, y), λ k. n)
        go (roomy n u (inl x)) = omega arith
        go (roomy n u (inr x)) = omega arith

    -- no other number
    pub push_else : number ≢ 6 → number ≢ 7 → number ≡ 0
    push_else d k = go way
      where
        go : Way many (entry_at b.entries l).limit (entry_at b.entries l).share (length s.idle) lacking number → number ≡ 0
        go (full n f) = absurd (d n)
        go (tight n u x y) = absurd (k n)
        go (roomy n u x) = n

    -- 0, where neither applies
    pub push_zero : number ≡ 0 ↔ Room (take b.lists b.entries) s l
    push_zero = go way
      where
        go : Way many e.limit e.share (length s.idle) lacking number → number ≡ 0 ↔ Room (take b.lists b.entries) s l
        go (full n f) = (λ k. absurd (omega arith), λ R. absurd (let u = rw (entry_is S l below) at R.under in omega arith))
        go (tight n u x y) = (λ k. absurd (omega arith), λ R. absurd (neither (rw (entry_is S l below) at R.enough)))
          where
            neither : (many < e.share) ⊎ (lacking < length s.idle) → ⊥
            neither (inl k) = omega arith
            neither (inr k) = omega arith
        go (roomy n u x) = (λ k. record { under = rw (entry_is S l below) u; enough = rw (entry_is S l below) x }, λ R. n)

  -- ---- 5 and 0

  module _ (end : End) where
    abbrev pop_number : ℕ
    pop_number = (pop_call E links values b l end).number

    pop_way : ((pop_number ≡ 5) × (many ≡ 0)) ⊎ ((pop_number ≡ 0) × (0 < many))
    pop_way = go (chain_at s l) refl
      where
        gives : {k : ℕ} → Given (pop_conditions E links values b l) k → pop_number ≡ k
        gives g = given_only (pop_given L links values b l end) g

        go : (xs : List ℕ) → chain_at s l ≡ xs → ((pop_number ≡ 5) × (many ≡ 0)) ⊎ ((pop_number ≡ 0) × (0 < many))
        go [] c = inl (gives (own_decides (N.this (s, S, c))), ap length c)
        go (x ∷ xs) c = inr (gives (own_decides (N.later (λ o. omega (arith, ap length c, ap length (of_this (λ t. chain_at t l ≡ []) o))) N.done)), omega (arith, ap length c))

    -- 01: 5 "the list is empty"
    pub pop_five : pop_number ≡ 5 ↔ (many ≡ 0)
    pop_five = go pop_way
      where
        go : ((pop_number ≡ 5) × (many ≡ 0)) ⊎ ((pop_number ≡ 0) × (0 < many)) → pop_number ≡ 5 ↔ (many ≡ 0)
        go (inl w) = omega arith
        go (inr w) = omega arith

    -- 0, where it is not
    pub pop_zero : pop_number ≡ 0 ↔ (0 < many)
    pop_zero = go pop_way
      where
        go : ((pop_number ≡ 5) × (many ≡ 0)) ⊎ ((pop_number ≡ 0) × (0 < many)) → pop_number ≡ 0 ↔ (0 < many)
        go (inl w) = omega arith
        go (inr w) = omega arith

  -- ---- 8 and 0

  module _ (end : End) (buffer : List ℕ) (at : ℕ) where
    abbrev read_number : ℕ
    read_number = (read_call E links values b l end buffer at).answer.refusal.number

    -- 8's fact, of any shape
    abbrev Small : Shape → Type 0
    Small = TooSmall E links values b l (length buffer) at

    read_way : ((read_number ≡ 8) × Small s) ⊎ ((read_number ≡ 0) × (Small s → ⊥))
    read_way = go (dec_lt (length buffer) at) (dec_lt (length buffer) (at + many))
      where
        gives : {k : ℕ} → Given (read_conditions E links values b l (length buffer) at) k → read_number ≡ k
        gives g = given_only (read_given L links values b l end buffer at) g

        small : Small s → ((read_number ≡ 8) × Small s) ⊎ ((read_number ≡ 0) × (Small s → ⊥))
        small t = inl (gives (own_decides (N.this (s, S, t))), t)

        go : Dec (length buffer < at) → Dec (length buffer < at + many) → ((read_number ≡ 8) × Small s) ⊎ ((read_number ≡ 0) × (Small s → ⊥))
        go (yes p) q = small (inl p)
        go (no p) (yes q) = small (inr q)
        go (no p) (no q) = inr (gives (own_decides (N.later (λ o. ⊎_elim p q (of_this Small o)) N.done)), ⊎_elim p q)

    -- 01: 8 "`at` past the buffer's end, or fewer than length places from `at`"
    pub read_eight : read_number ≡ 8 ↔ TooSmall E links values b l (length buffer) at s
    read_eight = go read_way
      where
        go : ((read_number ≡ 8) × Small s) ⊎ ((read_number ≡ 0) × (Small s → ⊥)) → read_number ≡ 8 ↔ Small s
        go (inl (n, t)) = (λ k. t, λ k. n)
        go (inr (n, t)) = (λ k. absurd (omega arith), λ k. absurd (t k))

    -- 0, where neither is so
    pub read_zero : read_number ≡ 0 ↔ (TooSmall E links values b l (length buffer) at s → ⊥)
    read_zero = go read_way
      where
        go : ((read_number ≡ 8) × Small s) ⊎ ((read_number ≡ 0) × (Small s → ⊥)) → read_number ≡ 0 ↔ (Small s → ⊥)
        go (inl (n, t)) = (λ k. absurd (omega arith), λ k. absurd (k t))
        go (inr (n, t)) = (λ k. t, λ k. n)

  -- ---- length and clear have no number of their own

  pub length_zero : (length_call E links values b l).refusal.number ≡ 0
  length_zero = given_only (length_given L links values b l) (own_decides N.done)

  pub clear_zero : (clear_call E links values b l).number ≡ 0
  clear_zero = given_only (clear_given L links values b l) (own_decides N.done)
