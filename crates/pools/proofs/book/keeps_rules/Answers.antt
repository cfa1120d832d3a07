-- `pools::book::keeps_rules`: each answer follows from the tests on the way and from what the two loops promise.
use mathlib.Core.Path.{◌≡◌, refl, sym, ap, ◌∙◌}
use mathlib.Core.List.{List}
use mathlib.Core.Logic.{◌≢◌, ◌⊎◌, inl, inr}
use mathlib.Core.Bool.{Bool, true, false, ◌&&◌}
use Prim.Native.Nat.{ℕ, zero, suc, ◌+◌, ◌-◌, ◌≤◌, ◌<◌}
use native.Mathlib.Omega.{arith}
use lib.Dec.{leb, ltb}
use lib.ListN.{length, get_or, take, drop}
use borrow.Author.Tests.{leb-true, ltb-true, le-leb, lt-leb, lt-ltb}
use Rattle.books.specs.declared.Entry.{Entry}
use Rattle.books.specs.Book.{eight}
use Rattle.books.specs.Tabulate.{tabulate}
use Rattle.books.specs.Test.{is_fair, is_zero, gather, all_zero, rules_hold, keeps_rules}
use Rattle.books.specs.Words.{entry_from, entries_from, book_from}
use Rattle.books.proofs.Eight.{fair_adds, fair_past}
use Rattle.books.proofs.Tabulate.{tabulate-length}
use Rattle.books.proofs.Flat.{entries_many}
use Rattle.pools.proofs.book.keeps_rules.Goals as goal

-- a share within its limit, and that within the pool, is itself below the pool's size
fair_share : (size : ℕ) (e : Entry) → is_fair size e && ltb e.share size ≡ is_fair size e
unfolding is_fair
fair_share size e = go (leb e.share e.limit) (ltb e.limit size) refl refl
  where
    go : (x y : Bool) → leb e.share e.limit ≡ x → ltb e.limit size ≡ y → (leb e.share e.limit && ltb e.limit size) && ltb e.share size ≡ leb e.share e.limit && ltb e.limit size
    go true true p q = rw (p, q, lt-ltb e.share size (omega (arith, leb-true e.share e.limit p, ltb-true e.limit size q))) refl
    go true false p q = rw (p, q) refl
    go false y p q = rw p refl

-- so the shares of one list are below it where the list is fair
module _ (f : ℕ → Entry) (size : ℕ) where
  one_fair : gather size (take 1 (tabulate 8 f)) 0 ≡ is_fair size (f 0)
  one_fair =
      fair_adds f 1 (omega arith) size 0 0 (omega arith)
      ∙ ap (λ (z : Bool). is_fair size (f 0) && z) (fair_past f 1 (omega arith) size 1 (0 + (f 0).share) (omega arith))
      ∙ ap (λ (n : ℕ). is_fair size (f 0) && ltb n size) (omega arith)
      ∙ fair_share size (f 0)

  one_list : (lists : ℕ) → lists ≡ 1 → rules_hold size 8 lists (tabulate 8 f) ≡ is_fair size (f 0) && all_zero (drop 1 (tabulate 8 f))
  one_list lists e = rw (e, le-leb 1 (length (tabulate 8 f)) (omega (arith, tabulate-length 8 f))) (ap (λ (z : Bool). z && all_zero (drop 1 (tabulate 8 f))) one_fair)

-- a number of lists that no book has
outside : (size lists count : ℕ) (es : List Entry) → lists ≡ count → (count ≡ 0) ⊎ ((count ≢ 0) × (8 < count)) → false ≡ rules_hold size 8 lists es
outside size lists count es e (inl z) = rw (e, z)
outside size lists count es e (inr (d, h)) = rw (e, le-leb 1 count (omega arith), lt-leb count 8 h)

-- one that some has
module _ (words : List ℕ) (size count : ℕ) (same : get_or words 0 0 ≡ count) (some : count ≢ 0) (most : count ≤ 8) where
  inside : gather size (take count (entries_from words)) 0 && all_zero (drop count (entries_from words)) ≡ keeps_rules size (eight (book_from words))
  unfolding keeps_rules
  inside = rw (same, le-leb 1 count (omega arith), le-leb count 8 most, le-leb count (length (entries_from words)) (omega (arith, entries_many words)))

pub returns-then-count-eq1 : goal.returns-then-count-eq1
unfolding keeps_rules
returns-then-count-eq1 c =
    c.keeps_one.ensures ∙ sym (one_list (entry_from c.args.words.now) c.args.size _ (sym c.lists_of.ensures ∙ sym c.from-count.ensures ∙ c.if-count-eq1.true))

pub returns-then-count-eq0 : goal.returns-then-count-eq0
unfolding keeps_rules
returns-then-count-eq0 c = outside c.args.size _ c.from-count.result _ (sym c.lists_of.ensures ∙ sym c.from-count.ensures) c.then-count-eq0.either

pub returns-then-shares_fit : goal.returns-then-shares_fit
returns-then-shares_fit c =
    let a = c.args in
    let all = inside a.words.now a.size c.from-count.result (sym (c.from-count.ensures ∙ c.lists_of.ensures)) (λ z. omega arith) (omega arith) in
    ap (λ (b : Bool). b && c.rest_zero.result) (sym c.if-shares_fit.true ∙ c.shares_fit.ensures) ∙ ap (λ (b : Bool). gather a.size (take c.from-count.result (entries_from a.words.now)) 0 && b) c.rest_zero.ensures ∙ all

pub returns-else-shares_fit : goal.returns-else-shares_fit
returns-else-shares_fit c =
    let a = c.args in
    let all = inside a.words.now a.size c.from-count.result (sym (c.from-count.ensures ∙ c.lists_of.ensures)) (λ z. omega arith) (omega arith) in
    c.if-shares_fit.false ∙ ap (λ (b : Bool). b && all_zero (drop c.from-count.result (entries_from a.words.now))) (sym c.if-shares_fit.false ∙ c.shares_fit.ensures) ∙ all
