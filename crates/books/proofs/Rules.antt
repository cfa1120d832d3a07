-- The test of the book rules is true exactly where the rules hold, and how a loop takes the entries one by one.
use mathlib.Core.Path.{◌≡◌, refl, sym, ap, ◌∙◌}
use mathlib.Core.Logic.{◌↔◌}
use mathlib.Core.Bool.{true, ◌&&◌}
use mathlib.Core.List.{List, [], ◌∷◌}
use Prim.Native.Nat.{ℕ, zero, suc, ◌+◌, ◌-◌, ◌≤◌, ◌<◌, suc-le-suc}
use native.Mathlib.Nat.{le_of_suc-le-suc, not-suc-le-zero, zero-lt-suc}
use native.Mathlib.Numerals.{add-one}
use native.Mathlib.Decide.{dec_lt, ℕ_discrete}
use native.Mathlib.Omega.{arith}
use lib.Dec.{leb, ltb, eqb}
use lib.ListN.{length, set, take, drop, length-set, length-take, drop_of_length-le}
use lib.Seq.{drop-cons, length-take-le, get_or-take, get_or-drop, get_or-set_same, get_or-set_other, take-set-lt}
use borrow.Author.Tests.{leb-true, le-leb, ltb-true, lt-ltb, eqb-true}
use Rattle.books.specs.declared.Entry.{Entry}
use Rattle.books.specs.Book.{AnyBook, smallest_pool, largest_pool, zero_entry, entry_at}
use Rattle.books.specs.Rules.{Size, shares_of, Rules, BookRules}
use Rattle.books.specs.Test.{size_fits, is_fair, is_zero, gather, all_zero, rules_hold, keeps_rules}
use Rattle.books.proofs.Tests.{and_both, both_and}

-- ---- one entry at a time

pub gather_at : (size : ℕ) (es : List Entry) (k sum : ℕ) → k < length es
    → gather size (drop k es) sum ≡ is_fair size (entry_at es k) && gather size (drop (k + 1) es) (sum + (entry_at es k).share)
unfolding gather
gather_at size es k sum h = rw (drop-cons es k zero_entry h, add-one)

pub gather_end : (size : ℕ) (es : List Entry) (k sum : ℕ) → length es ≤ k → gather size (drop k es) sum ≡ ltb sum size
unfolding gather
gather_end size es k sum h = rw (drop_of_length-le es h)

pub zero_at : (es : List Entry) (k : ℕ) → k < length es → all_zero (drop k es) ≡ is_zero (entry_at es k) && all_zero (drop (k + 1) es)
unfolding all_zero
zero_at es k h = rw (drop-cons es k zero_entry h, add-one)

pub zero_end : (es : List Entry) (k : ℕ) → length es ≤ k → all_zero (drop k es) ≡ true
unfolding all_zero
zero_end es k h = rw (drop_of_length-le es h)

-- ---- what the tests mean

pub size_fits_lem : (size : ℕ) → size_fits size ≡ true ↔ Size size
size_fits_lem size = (
  λ h. let p = and_both _ _ h in record { least = leb-true _ _ p.0; most = leb-true _ _ p.1 },
  λ s. both_and _ _ (le-leb smallest_pool size s.least) (le-leb size largest_pool s.most),
)

abbrev Fair : ℕ → Entry → Type 0
Fair size e = (e.share ≤ e.limit) × (e.limit < size)

fair_iff : (size : ℕ) (e : Entry) → is_fair size e ≡ true ↔ Fair size e
unfolding is_fair
fair_iff size e = (
  λ h. let p = and_both _ _ h in (leb-true _ _ p.0, ltb-true _ _ p.1),
  λ f. both_and _ _ (le-leb _ _ f.0) (lt-ltb _ _ f.1),
)

all_fair : (size : ℕ) (es : List Entry) (sum : ℕ) → gather size es sum ≡ true → ((l : ℕ) → l < length es → Fair size (entry_at es l)) × (sum + shares_of es < size)
unfolding gather
all_fair size [] sum h = (λ l b. absurd (not-suc-le-zero b), omega (arith, ltb-true sum size h))
all_fair size (e ∷ es) sum h =
    let p = and_both (is_fair size e) (gather size es (sum + e.share)) h in
    let r = all_fair size es (sum + e.share) p.1 in
    (each ((fair_iff size e).0 p.0) r.0, omega (arith, r.1))
  where
    each : Fair size e → ((l : ℕ) → l < length es → Fair size (entry_at es l)) → (l : ℕ) → l < suc (length es) → Fair size (entry_at (e ∷ es) l)
    each f g zero b = f
    each f g (suc l) b = g l (le_of_suc-le-suc b)

fair_all : (size : ℕ) (es : List Entry) (sum : ℕ) → ((l : ℕ) → l < length es → Fair size (entry_at es l)) → sum + shares_of es < size → gather size es sum ≡ true
unfolding gather
fair_all size [] sum f h = lt-ltb sum size (omega arith)
fair_all size (e ∷ es) sum f h =
    both_and _ _ ((fair_iff size e).1 (f zero (zero-lt-suc (length es)))) (fair_all size es (sum + e.share) (λ l b. f (suc l) (suc-le-suc b)) (omega arith))

zero_iff : (e : Entry) → is_zero e ≡ true ↔ (e ≡ zero_entry)
unfolding is_zero
zero_iff e = (to, λ q. ap is_zero q)
  where
    to : is_zero e ≡ true → e ≡ zero_entry
    to h =
        let p = and_both (eqb e.head 0) (eqb e.tail 0 && (eqb e.share 0 && (eqb e.limit 0 && eqb e.length 0))) h in
        let q = and_both (eqb e.tail 0) (eqb e.share 0 && (eqb e.limit 0 && eqb e.length 0)) p.1 in
        let r = and_both (eqb e.share 0) (eqb e.limit 0 && eqb e.length 0) q.1 in
        let t = and_both (eqb e.limit 0) (eqb e.length 0) r.1 in
        λ i. record { head = eqb-true e.head 0 p.0 i; tail = eqb-true e.tail 0 q.0 i; share = eqb-true e.share 0 r.0 i; limit = eqb-true e.limit 0 t.0 i; length = eqb-true e.length 0 t.1 i }

all_zero_lem : (es : List Entry) → all_zero es ≡ true → (l : ℕ) → entry_at es l ≡ zero_entry
unfolding all_zero
all_zero_lem [] h l = refl
all_zero_lem (e ∷ es) h zero = (zero_iff e).0 (and_both (is_zero e) (all_zero es) h).0
all_zero_lem (e ∷ es) h (suc l) = all_zero_lem es (and_both (is_zero e) (all_zero es) h).1 l

zero_all : (es : List Entry) → ((l : ℕ) → entry_at es l ≡ zero_entry) → all_zero es ≡ true
unfolding all_zero
zero_all [] h = refl
zero_all (e ∷ es) h = both_and _ _ ((zero_iff e).1 (h zero)) (zero_all es (λ l. h (suc l)))

-- the test is true exactly where the rules hold
pub rules_hold_lem : (size places lists : ℕ) (es : List Entry) → rules_hold size places lists es ≡ true ↔ Rules size places lists es
rules_hold_lem size places lists es = (to, from)
  where
    to : rules_hold size places lists es ≡ true → Rules size places lists es
    to h =
        let a = and_both (leb 1 lists) _ h in
        let b = and_both (leb lists places) _ a.1 in
        let d = and_both (leb lists (length es)) _ b.1 in
        let c = and_both (gather size (take lists es) 0) (all_zero (drop lists es)) d.1 in
        let g = all_fair size (take lists es) 0 c.0 in
        record {
          least = leb-true 1 lists a.0;
          most = leb-true lists places b.0;
          there = leb-true lists (length es) d.0;
          fair = λ l b. rw (get_or-take lists es l zero_entry b) at (g.0 l (omega (arith, length-take-le lists es (leb-true lists (length es) d.0))));
          fits = omega (arith, g.1);
          unused = λ l k. ap (entry_at es) (omega arith) ∙ sym (get_or-drop lists es (l - lists) zero_entry) ∙ all_zero_lem (drop lists es) c.1 (l - lists);
        }

    from : Rules size places lists es → rules_hold size places lists es ≡ true
    from r =
        both_and _ _ (le-leb 1 lists r.least)
        (both_and _ _ (le-leb lists places r.most)
        (both_and _ _ (le-leb lists (length es) r.there)
        (both_and _ _
        (fair_all size (take lists es) 0 (λ l b. inside l b (dec_lt l lists)) (omega (arith, r.fits)))
        (zero_all (drop lists es) (λ l. get_or-drop lists es l zero_entry ∙ r.unused (lists + l) (omega arith))))))
      where
        inside : (l : ℕ) → l < length (take lists es) → Dec (l < lists) → Fair size (entry_at (take lists es) l)
        inside l b (yes c) = rw (get_or-take lists es l zero_entry c) (r.fair l c)
        inside l b (no c) = absurd (omega (arith, length-take lists es))

pub keeps_rules_lem : (size : ℕ) (b : AnyBook) → keeps_rules size b ≡ true ↔ BookRules size b
unfolding keeps_rules
keeps_rules_lem size b = rules_hold_lem size b.places b.lists b.entries

-- ---- one entry of the book changes, but not its share and limit

shares_set : (es : List Entry) (l : ℕ) (e : Entry) → e.share ≡ (entry_at es l).share → shares_of (set es l e) ≡ shares_of es
shares_set [] l e h = refl
shares_set (d ∷ es) zero e h = omega arith
shares_set (d ∷ es) (suc l) e h = omega (arith, shares_set es l e h)

-- then the book rules stay
pub rules_set : {size places lists : ℕ} {es : List Entry} → Rules size places lists es → (l : ℕ) (e : Entry) → l < lists → e.share ≡ (entry_at es l).share → e.limit ≡ (entry_at es l).limit
    → Rules size places lists (set es l e)
rules_set {size} {places} {lists} {es} R l e below sh li =
    record {
      least = R.least;
      most = R.most;
      there = omega (arith, R.there, length-set es l e);
      fair = λ k h. fair k (R.fair k h) (ℕ_discrete k l);
      fits = rw (take-set-lt lists es l e below) (omega (arith, R.fits, shares_set (take lists es) l e (rw (get_or-take lists es l zero_entry below) sh)));
      unused = λ k h. get_or-set_other es l k e zero_entry (λ i. omega arith) ∙ R.unused k h;
    }
  where
    fair : (k : ℕ) → ((entry_at es k).share ≤ (entry_at es k).limit) × ((entry_at es k).limit < size) → Dec (k ≡ l)
        → ((entry_at (set es l e) k).share ≤ (entry_at (set es l e) k).limit) × ((entry_at (set es l e) k).limit < size)
    fair k f (yes i) = rw (i, get_or-set_same es l e zero_entry (omega (arith, R.there)), sh, li) (rw i at f)
    fair k f (no i) = rw (get_or-set_other es l k e zero_entry i) f
