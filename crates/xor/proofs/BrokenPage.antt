-- The reader's page for 02 b) says the same as the definition over any engine, at the XOR engine; so the check finds just what the page says.
use mathlib.Core.Path.{◌≡◌, refl, sym, ap, ◌∙◌}
use mathlib.Core.Logic.{◌↔◌, ◌≢◌, ◌⊎◌, inl, inr}
use mathlib.Core.Bool.{true}
use mathlib.Core.List.{List}
use Prim.Native.Nat.{ℕ}
use lib.ListN.{length, take}
use lib.Seq.{length-take-le}
use Rattle.books.specs.declared.Entry.{Entry}
use Rattle.books.specs.declared.Book.{Book}
use Rattle.books.specs.Book.{eight}
use Rattle.books.specs.Rules.{Size, BookRules}
use Rattle.books.proofs.Tests.{not_both}
use Rattle.shapes.specs.Records.{Fault}
use Rattle.shapes.specs.Shape.{Shape}
use Rattle.shapes.specs.Faults.{fault}
use Rattle.engines.specs.Sound.{Fit}
use Rattle.engines.specs.Positions.{Stand, Reached, InListBefore, WrongSlot, WrongLive, WrongIdle}
use Rattle.engines.specs.FirstFault.{AllChained, PoolBreaks, Breaks}
use Rattle.engines.specs.FirstFault.PoolBreaks.{ten as pool-ten, eleven as pool-eleven, twelve as pool-twelve, thirteen as pool-thirteen, fourteen as pool-fourteen, fifteen as pool-fifteen, sixteen as pool-sixteen}
use Rattle.engines.specs.FirstFault.Breaks.{nine as book-nine, later}
use Rattle.engines.specs.Check.{check_found}
use Rattle.engines.proofs.FirstFault.{breaks_some, fault_exactly, only_fault, sound_unbroken}
use Rattle.xor.specs.Engine.{xor}
use Rattle.xor.specs.Sound.{XorBook}
use Rattle.xor.specs.Broken.{WrongHere, WrongList, free_stand, Sequences, XorBroken}
use Rattle.xor.specs.Broken.XorBroken.{nine, ten, eleven, twelve, thirteen, fourteen, fifteen, uncovered, sixteen, miscounted}
use Rattle.xor.proofs.Lawful.{xor_lawful}
use Rattle.xor.proofs.Page.{page_told}

module _ (links values : List ℕ) (b : Book) where
  abbrev es : List Entry
  es = take b.lists b.entries

  -- ---- a position that is wrong

  here_told : {chain : ℕ → Stand} {l i : ℕ} → Reached chain i → WrongSlot chain (λ p x. true) (length links) (InListBefore xor links es l) i → WrongHere links values b chain l i
  here_told r w =
      record {
        reached = r;
        some = w.some;
        wrong = elim w.wrong [ inl k ↦ inl k | inr (inl (inl k)) ↦ inr (inl k) | inr (inl (inr k)) ↦ inr (inr k) | inr (inr k) ↦ not_both true refl k ];
      }

  here_of : {chain : ℕ → Stand} {l i : ℕ} → WrongHere links values b chain l i → WrongSlot chain (λ p x. true) (length links) (InListBefore xor links es l) i
  here_of w = record { some = w.some; wrong = elim w.wrong [ inl k ↦ inl k | inr (inl k) ↦ inr (inl (inl k)) | inr (inr k) ↦ inr (inl (inr k)) ] }

  list_told : {l i : ℕ} → WrongLive xor links es l i → WrongList links values b l i
  list_told {l} {i} W = elim W.wrong [ inl w ↦ inl (here_told W.reached w) | inr t ↦ inr (record { reached = W.reached; ended = t.ended; other = t.other }) ]

  list_of : {l i : ℕ} → WrongList links values b l i → WrongLive xor links es l i
  list_of (inl w) = record { reached = w.reached; wrong = inl (here_of w) }
  list_of (inr t) = record { reached = t.reached; wrong = inr (record { ended = t.ended; other = t.other }) }

  free_told : {i : ℕ} → WrongIdle xor links es b.free i → WrongHere links values b (free_stand links values b) (length es) i
  free_told W = here_told W.reached W.wrong

  free_of : {i : ℕ} → WrongHere links values b (free_stand links values b) (length es) i → WrongIdle xor links es b.free i
  free_of w = record { reached = w.reached; wrong = here_of w }

  -- ---- the sequences

  sequences_told : {s : Shape} → AllChained xor links es b.free s → Sequences links values b s
  sequences_told A =
      record {
        lists = A.chained.lists;
        only = A.distinct.inside;
        once = A.distinct.once;
        head = λ l h. (A.chained.entry l h).head;
        tail = λ l h. (A.chained.entry l h).tail;
        live = A.chained.live;
        free_head = A.free_record.head;
        idle = A.idle;
      }

  sequences_of : {s : Shape} → Sequences links values b s → AllChained xor links es b.free s
  sequences_of S =
      record {
        chained = record { lists = S.lists; entry = λ l h. record { head = S.head l h; tail = S.tail l h }; live = S.live };
        free_record = record { head = S.free_head };
        idle = S.idle;
        distinct = record { inside = S.only; once = S.once };
      }

  -- L is how many entries are read
  as_many_lem : BookRules (length links) (eight b) → length es ≡ b.lists
  as_many_lem r = length-take-le b.lists b.entries r.there

  -- ---- the rules

  pool_told : {f : Fault} → BookRules (length links) (eight b) → PoolBreaks xor links values es b.free f → XorBroken links values b f
  pool_told r (pool-ten e n) = ten e r (λ z. n (record { link = z.0; value = z.1 }))
  pool_told r (pool-eleven e z B) =
      eleven e r (z.link, z.value) B.below (list_told B.here) (λ j h W. B.sooner j h (list_of W)) (λ k h j W. B.lists_before k h j (list_of W))
  pool_told r (pool-twelve e z B) = twelve e r (z.link, z.value) (λ l h j W. B.lists l h j (list_of W)) (free_told B.here) (λ j h W. B.sooner j h (free_of W))
  pool_told r (pool-thirteen e z A u) = thirteen e r (z.link, z.value) (sequences_told A) u.inside u.none u.lowest
  pool_told r (pool-fourteen e z A c u) = fourteen e r (z.link, z.value) (sequences_told A) c u.inside u.not_wiped u.lowest
  pool_told r (pool-fifteen e z A c w (inl o)) = fifteen e r (z.link, z.value) (sequences_told A) c w o.below o.over o.lowest
  pool_told r (pool-fifteen e z A c w (inr u)) = uncovered (e ∙ ap (λ l. fault 15 l 0) (u.all ∙ as_many_lem r)) r (z.link, z.value) (sequences_told A) c w u.short u.few
  pool_told r (pool-sixteen e z A c w v (inl o)) = sixteen e r (z.link, z.value) (sequences_told A) c w (v.short, v.spare) o.below o.wrong o.lowest
  pool_told r (pool-sixteen e z A c w v (inr u)) = miscounted (e ∙ ap (λ l. fault 16 l 0) (u.all ∙ as_many_lem r)) r (z.link, z.value) (sequences_told A) c w (v.short, v.spare) u.right u.wrong

  page_to : {f : Fault} → Breaks xor links values (eight b) f → XorBroken links values b f
  page_to (book-nine e n) = nine e n
  page_to (later r B) = pool_told r B

  page_of : {f : Fault} → XorBroken links values b f → Breaks xor links values (eight b) f
  page_of (nine e n) = book-nine e n
  page_of (ten e r n) = later r (pool-ten e (λ z. n (z.link, z.value)))
  page_of (eleven e r z h w s k) =
      later r (pool-eleven e (record { link = z.0; value = z.1 }) (record { below = h; here = list_of w; sooner = λ j h W. s j h (list_told W); lists_before = λ l h j W. k l h j (list_told W) }))
  page_of (twelve e r z k w s) =
      later r (pool-twelve e (record { link = z.0; value = z.1 }) (record { lists = λ l h j W. k l h j (list_told W); here = free_of w; sooner = λ j h W. s j h (free_told W) }))
  page_of (thirteen e r z S i n l) = later r (pool-thirteen e (record { link = z.0; value = z.1 }) (sequences_of S) (record { inside = i; none = n; lowest = l }))
  page_of (fourteen e r z S c i n l) = later r (pool-fourteen e (record { link = z.0; value = z.1 }) (sequences_of S) c (record { inside = i; not_wiped = n; lowest = l }))
  page_of (fifteen e r z S c w h o l) = later r (pool-fifteen e (record { link = z.0; value = z.1 }) (sequences_of S) c w (inl (record { below = h; over = o; lowest = l })))
  page_of (uncovered e r z S c w s f) =
      later r (pool-fifteen e (record { link = z.0; value = z.1 }) (sequences_of S) c w (inr (record { all = sym (as_many_lem r); short = s; few = f })))
  page_of (sixteen e r z S c w v h o l) = later r (pool-sixteen e (record { link = z.0; value = z.1 }) (sequences_of S) c w (record { short = v.0; spare = v.1 }) (inl (record { below = h; wrong = o; lowest = l })))
  page_of (miscounted e r z S c w v h o) =
      later r (pool-sixteen e (record { link = z.0; value = z.1 }) (sequences_of S) c w (record { short = v.0; spare = v.1 }) (inr (record { all = sym (as_many_lem r); right = h; wrong = o })))

  -- what the laws of the first fault speak of at the XOR engine is what the page says
  pub broken_page_told : (f : Fault) → Breaks xor links values (eight b) f ↔ XorBroken links values b f
  broken_page_told f = (page_to, page_of)

  module _ (same : length values ≡ length links) (size : Size (length links)) where
    fit : Fit xor links values
    fit = record { even = refl; same = sym same; size = size }

    -- the fault that the check gives is exactly the one that the page names
    pub broken_page_found : (f : Fault) → f.rule ≢ 0 → (check_found xor links values (eight b)).fault ≡ f ↔ XorBroken links values b f
    broken_page_found f n =
        let e = fault_exactly xor_lawful links values (eight b) fit f n in
        (λ h. page_to (e.0 h), λ w. e.1 (page_of w))

    -- a pool with its book breaks a rule first, or is what the other page calls sound, and not both; and it breaks one rule first only
    pub broken_page_some : ((f : Fault) × XorBroken links values b f) ⊎ ((s : Shape) × XorBook links values b s)
    broken_page_some =
        elim (breaks_some xor_lawful links values (eight b) fit) [ inl w ↦ inl (w.0, page_to w.1) | inr w ↦ inr (w.0, (page_told links values b w.0).0 w.1) ]

    pub broken_page_not_sound : {f : Fault} {s : Shape} → XorBroken links values b f → XorBook links values b s → ⊥
    broken_page_not_sound {f} {s} w S = sound_unbroken xor_lawful links values (eight b) fit ((page_told links values b s).1 S) (page_of w)

    pub broken_page_one : {f g : Fault} → XorBroken links values b f → XorBroken links values b g → f ≡ g
    broken_page_one F G = only_fault xor_lawful links values (eight b) fit (page_of F) (page_of G)
