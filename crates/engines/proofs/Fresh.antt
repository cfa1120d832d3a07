-- When setup gives each number, and that what it leaves is sound, on any engine.
use mathlib.Core.Path.{◌≡◌, refl, sym, ap, subst, ◌∙◌}
use mathlib.Core.Logic.Iff
use mathlib.Core.Logic.{◌↔◌, ◌≢◌, ◌⊎◌, inl, inr}
use mathlib.Core.Bool.{Bool, true, false}
use mathlib.Core.List.{List, [], ◌∷◌, ◌++◌}
use Prim.Native.Nat.{ℕ, zero, suc, ◌+◌, ◌-◌, ◌≤◌, ◌<◌}
use native.Mathlib.Nat.{le_of_suc-le-suc, not-suc-le-zero, eq-zero-or-pos}
use native.Mathlib.Decide.{ℕ_discrete, dec_lt}
use native.Mathlib.Omega.{arith}
use lib.ListN.{length, get_or, take, replicate, length-replicate, get_or-eq_default}
use lib.Seq.{length-take-le, get_or-take}
use borrow.Author.Tests.{ne_eqb}
use Rattle.books.specs.declared.Entry.{Entry}
use Rattle.books.specs.Book.{wipe_word, zero_entry, entry_at, AnyBook}
use Rattle.books.specs.Rules.{shares_of, BookRules}
use Rattle.books.specs.Test.{keeps_rules}
use Rattle.books.specs.Tabulate.{tabulate}
use Rattle.books.proofs.Tabulate.{tabulate-length, tabulate_at}
use Rattle.books.proofs.Rules.{keeps_rules_lem}
use Rattle.chains.specs.Count.{hit, count}
use Rattle.chains.specs.Chain.{first_or, last_or}
use Rattle.chains.proofs.Count.{hit_same, hit_other}
use Rattle.shapes.specs.Ends.{new_of}
use Rattle.shapes.specs.Shape.{joined_up, every_slot, lacks}
use Rattle.shapes.specs.Numbers.{first_that, Given, decided}
use Rattle.shapes.specs.Setup.{added_up, slots_from, fresh_shape, fresh_value, fresh_entry, SetupRules}
use Rattle.shapes.proofs.Numbers.{Matches, given, refuted, decided_number}
use Rattle.shapes.proofs.Numbers as N
use Rattle.engines.specs.Engine.{Engine}
use Rattle.engines.specs.Sound.{Fit, Sound, SoundBook}
use Rattle.engines.specs.Laws.{FreshLinks, Lawful}
use Rattle.engines.specs.Conditions.{setup_conditions}
use Rattle.engines.specs.Check.{sizes_fit}
use Rattle.engines.specs.Calls.{Called, fresh_book_of, setup_tests, set_up, setup_call}
use Rattle.engines.specs.Done.{SetupRefused, SetupKeeps}
use Rattle.engines.proofs.Checked.{fits_exactly}

-- ---- the rules, of what the caller asks for

fresh_shares : (n m : ℕ) (shares : List ℕ) (limit : ℕ → ℕ) → n ≤ m → shares_of (take n (tabulate m (λ l. new_of (get_or shares l 0) (limit l)))) ≡ added_up (take n shares)
unfolding tabulate
fresh_shares zero m shares limit h = refl
fresh_shares (suc n) zero shares limit h = absurd (not-suc-le-zero h)
fresh_shares (suc n) (suc m) [] limit h = fresh_none (suc n) (suc m) limit
  where
    fresh_none : (n m : ℕ) (limit : ℕ → ℕ) → shares_of (take n (tabulate m (λ l. new_of (get_or [] l 0) (limit l)))) ≡ 0
    fresh_none zero m limit = refl
    fresh_none (suc n) zero limit = refl
    fresh_none (suc n) (suc m) limit = omega (arith, fresh_none n m (λ l. limit (suc l)))
fresh_shares (suc n) (suc m) (x ∷ shares) limit h = ap (λ k. x + k) (fresh_shares n m shares (λ l. limit (suc l)) (le_of_suc-le-suc h))

module _ (size places lists : ℕ) (shares limits : List ℕ) where
  abbrev entries : List Entry
  entries = tabulate places (fresh_entry shares limits)

  -- each entry is the fresh one of its list
  fresh_entry_is : (l : ℕ) → l < places → entry_at entries l ≡ fresh_entry shares limits l
  fresh_entry_is l h = tabulate_at zero_entry places (fresh_entry shares limits) l h

  -- the fresh book keeps the book rules exactly where what was asked for does
  pub fresh_rules : BookRules size (fresh_book_of (size - 1) places lists shares limits) ↔ SetupRules size places lists shares limits
  fresh_rules = (to, from)
    where
      to : BookRules size (fresh_book_of (size - 1) places lists shares limits) → SetupRules size places lists shares limits
      to R =
          record {
            least = R.least;
            most = R.most;
            fair = λ l h. rw (fresh_entry_is l (omega (arith, R.most))) at (R.fair l h);
            fits = rw (fresh_shares lists places shares (λ l. get_or limits l 0) R.most) at R.fits;
            unused = λ l h b. let e = sym (fresh_entry_is l b) ∙ R.unused l h in (ap (λ (d : Entry). d.share) e, ap (λ (d : Entry). d.limit) e);
          }

      from : SetupRules size places lists shares limits → BookRules size (fresh_book_of (size - 1) places lists shares limits)
      from R =
          record {
            least = R.least;
            most = R.most;
            there = omega (arith, R.most, tabulate-length places (fresh_entry shares limits));
            fair = λ l h. rw (fresh_entry_is l (omega (arith, R.most))) (R.fair l h);
            fits = rw (fresh_shares lists places shares (λ l. get_or limits l 0) R.most) R.fits;
            unused = λ l h. past l h (dec_lt l places);
          }
        where
          past : (l : ℕ) → lists ≤ l → Dec (l < places) → entry_at entries l ≡ zero_entry
          past l h (yes b) = let u = R.unused l h b in fresh_entry_is l b ∙ (λ i. new_of (u.0 i) (u.1 i))
          past l h (no b) = get_or-eq_default entries zero_entry (omega (arith, tabulate-length places (fresh_entry shares limits)))

module _ (E : Engine) (places : ℕ) (links : E.Links) (values : List ℕ) (lists : ℕ) (shares limits : List ℕ) where
  setup_matches : Matches (setup_tests E places links values lists shares limits) (setup_conditions E links values places lists shares limits)
  setup_matches =
      N.one refl (refuted (sizes_fit E links values) (fits_exactly E links values)) (λ f.
      N.one refl (refuted _ (Iff.trans (keeps_rules_lem (E.size links) _) (fresh_rules (E.size links) places lists shares limits))) (λ g. N.none))

  pub setup_number : (setup_call E places links values lists shares limits).number ≡ first_that (setup_tests E places links values lists shares limits)
  unfolding setup_call
  setup_number = decided_number _ _ (λ (r : Called E). r.number) (λ n. refl) refl (setup_tests E places links values lists shares limits)

  -- the number is the first of 1 and 2 whose condition holds, and 0 where neither does
  pub setup_given : Given (setup_conditions E links values places lists shares limits) (setup_call E places links values lists shares limits).number
  setup_given = rw setup_number (given setup_matches)

-- ---- the idle chain 1, 2, .. of a fresh pool

-- there are n of them
from_length : (a n : ℕ) → length (slots_from a n) ≡ n
from_length a zero = refl
from_length a (suc n) = ap suc (from_length (suc a) n)

-- each is from a to a + n - 1
from_out : (n a y : ℕ) → 0 < count y (slots_from a n) → (a ≤ y) × (y < a + n)
from_out zero a y h = absurd (not-suc-le-zero h)
from_out (suc n) a y h = go (ℕ_discrete y a) (from_out n (suc a) y)
  where
    go : Dec (y ≡ a) → (0 < count y (slots_from (suc a) n) → (suc a ≤ y) × (y < suc a + n)) → (a ≤ y) × (y < a + suc n)
    go (yes e) r = omega arith
    go (no e) r = let q = r (omega (arith, hit_other y a e)) in omega arith

-- and each of these stands there once
from_in : (n a y : ℕ) → a ≤ y → y < a + n → count y (slots_from a n) ≡ 1
from_in zero a y p q = absurd (omega arith)
from_in (suc n) a y p q = go (ℕ_discrete y a) (λ h. from_in n (suc a) y h (omega arith))
  where
    out : (count a (slots_from (suc a) n) ≡ 0) ⊎ (0 < count a (slots_from (suc a) n)) → hit a a + count a (slots_from (suc a) n) ≡ 1
    out (inl z) = omega (arith, hit_same a)
    out (inr z) = absurd (omega (arith, from_out n (suc a) a z))

    go : Dec (y ≡ a) → (suc a ≤ y → count y (slots_from (suc a) n) ≡ 1) → hit y a + count y (slots_from (suc a) n) ≡ 1
    go (yes e) r = rw e (out (eq-zero-or-pos (count a (slots_from (suc a) n))))
    go (no e) r = omega (arith, hit_other y a e, r (omega arith))

-- ---- empty lists

no_chain : (n l : ℕ) → ◌≡◌ {A = List ℕ} (get_or (replicate n []) l []) []
no_chain zero l = refl
no_chain (suc n) zero = refl
no_chain (suc n) (suc l) = no_chain n l

nothing_joined : (n : ℕ) → joined_up (replicate n []) ≡ []
nothing_joined zero = refl
nothing_joined (suc n) = nothing_joined n

-- where no list has a slot, those that are free are all
pub fresh_counted : (size lists y : ℕ) → count y (every_slot (fresh_shape size lists)) ≡ count y (slots_from 1 (size - 1))
fresh_counted size lists y = ap (λ (zs : List ℕ). count y (zs ++ slots_from 1 (size - 1))) (nothing_joined lists)

all_lack : (n : ℕ) (es : List Entry) → lacks es (replicate n []) ≡ shares_of es
all_lack n [] = refl
all_lack zero (e ∷ es) = omega (arith, all_lack zero es)
all_lack (suc n) (e ∷ es) = omega (arith, all_lack n es)

-- ---- the fresh values

fresh_zero : fresh_value 0 ≡ 0
unfolding fresh_value
fresh_zero = refl

fresh_wiped : (y : ℕ) → 0 < y → fresh_value y ≡ wipe_word
unfolding fresh_value
fresh_wiped y p = simp (ne_eqb y 0 (λ e. omega arith))

-- ---- setup leaves a sound pool

module _ {E : Engine} (L : Lawful E) (places : ℕ) (links : E.Links) (values : List ℕ) (lists : ℕ) (shares limits : List ℕ) where
  abbrev made : AnyBook
  made = fresh_book_of (E.size links - 1) places lists shares limits

  -- an empty list is held by any links
  empty_live : (any : E.Links) → E.Live any []
  empty_live any = (L.live_tied any []).1 tt

  fresh_sound : Fit E links values → BookRules (E.size links) made
      → Sound E (E.fresh links) (tabulate (length values) fresh_value) (take lists made.entries) made.free (fresh_shape (E.size links) lists)
  fresh_sound fit rules =
      record {
        fit = record { even = F.even ∙ fit.even; same = F.size ∙ fit.same ∙ sym (tabulate-length (length values) fresh_value); size = rw F.size fit.size };
        lists = length-replicate lists [] ∙ sym as_many_lem;
        once = λ y p q. fresh_counted (E.size links) lists y ∙ from_in n 1 y p (omega (arith, F.size));
        only = λ y p. let o = from_out n 1 y (omega (arith, fresh_counted (E.size links) lists y)) in (o.0, omega (arith, F.size, fit.size.least));
        entry = λ l b. record {
          head = ap (λ (e : Entry). e.head) (each_new l b) ∙ sym (ap (first_or 0) (no_chain lists l));
          tail = ap (λ (e : Entry). e.tail) (each_new l b) ∙ sym (ap (last_or 0) (no_chain lists l));
        };
        live = λ l b. rw (no_chain lists l) (empty_live (E.fresh links));
        free_record = record { head = first_idle n (omega (arith, fit.size.least)) };
        idle = F.idle;
        wiped = λ y p. let o = from_out n 1 y p in tabulate_at 0 (length values) fresh_value y (omega (arith, fit.same, fit.size.least)) ∙ fresh_wiped y o.0;
        null_link = F.null;
        null_value = tabulate_at 0 (length values) fresh_value 0 (omega (arith, fit.same, fit.size.least)) ∙ fresh_zero;
        short = λ l b. rw (no_chain lists l) (omega arith);
        spare = omega (arith, all_lack lists used, rules.fits, from_length 1 n);
        counted = λ l b. ap (λ (e : Entry). e.length) (each_new l b) ∙ sym (ap length (no_chain lists l));
        free_counted = sym (from_length 1 n);
      }
    where
      -- how many slots there are
      n : ℕ
      n = E.size links - 1

      F : FreshLinks E links
      F = L.fresh links

      used : List Entry
      used = take lists made.entries

      as_many_lem : length used ≡ lists
      as_many_lem = length-take-le lists made.entries (omega (arith, rules.most, tabulate-length places (fresh_entry shares limits)))

      each_new : (l : ℕ) → l < length used → entry_at used l ≡ fresh_entry shares limits l
      each_new l h = let b : l < lists = omega (arith, as_many_lem) in get_or-take lists made.entries l zero_entry b ∙ tabulate_at zero_entry places (fresh_entry shares limits) l (omega (arith, rules.most))

      first_idle : (k : ℕ) → 0 < k → 1 ≡ first_or 0 (slots_from 1 k)
      first_idle zero h = absurd (not-suc-le-zero h)
      first_idle (suc k) h = refl

module _ (E : Engine) (places : ℕ) (links : E.Links) (values : List ℕ) (lists : ℕ) (shares limits : List ℕ) where
  abbrev Goes : Type 0
  Goes = (Fit E links values × BookRules (E.size links) (fresh_book_of (E.size links - 1) places lists shares limits))
      × (setup_call E places links values lists shares limits ≡ set_up E places links values lists shares limits)

  abbrev Stops : Type 0
  Stops = ((setup_call E places links values lists shares limits).number ≢ 0) × SetupRefused E places links values (setup_call E places links values lists shares limits)

  -- the two ways that setup can go
  setup_way : Goes ⊎ Stops
  unfolding setup_call decided
  setup_way = go (sizes_fit E links values) (keeps_rules (E.size links) (fresh_book_of (E.size links - 1) places lists shares limits)) refl refl
    where
      go : (a b : Bool) → sizes_fit E links values ≡ a → keeps_rules (E.size links) (fresh_book_of (E.size links - 1) places lists shares limits) ≡ b → Goes ⊎ Stops
      go true true ea eb = inl (((fits_exactly E links values).0 ea, (keeps_rules_lem (E.size links) _).0 eb), rw (ea, eb))
      go true false ea eb = inr (rw (ea, eb) (λ e. omega arith, record { unplaced = refl; no_value = refl; zeroed = refl; same_links = refl; same_values = refl }))
      go false b ea eb = inr (rw ea (λ e. omega arith, record { unplaced = refl; no_value = refl; zeroed = refl; same_links = refl; same_values = refl }))

  -- a refused setup returns the all-zero book, and no slice changes
  pub setup_refused : (setup_call E places links values lists shares limits).number ≢ 0 → SetupRefused E places links values (setup_call E places links values lists shares limits)
  setup_refused d = go setup_way
    where
      go : Goes ⊎ Stops → SetupRefused E places links values (setup_call E places links values lists shares limits)
      go (inl w) = absurd (d (ap (λ (o : Called E). o.number) w.1))
      go (inr w) = w.1

module _ {E : Engine} (L : Lawful E) (places : ℕ) (links : E.Links) (values : List ℕ) (lists : ℕ) (shares limits : List ℕ) where
  -- what a done setup leaves is sound, with the fresh shape
  pub setup_sound : (setup_call E places links values lists shares limits).number ≡ 0
      → SoundBook E (setup_call E places links values lists shares limits).links (setup_call E places links values lists shares limits).values (setup_call E places links values lists shares limits).book (fresh_shape (E.size links) lists)
  setup_sound z = go (setup_way E places links values lists shares limits)
    where
      go : Goes E places links values lists shares limits ⊎ Stops E places links values lists shares limits
          → SoundBook E (setup_call E places links values lists shares limits).links (setup_call E places links values lists shares limits).values (setup_call E places links values lists shares limits).book (fresh_shape (E.size links) lists)
      go (inr w) = absurd (w.0 z)
      go (inl ((f, b), e)) = rw e (record { rules = rw (L.fresh links).size b; pool = fresh_sound L places links values lists shares limits f b })

  -- a done setup has as many lists as were asked for, with the shares and limits that were given
  pub setup_keeps : (setup_call E places links values lists shares limits).number ≡ 0 → SetupKeeps E places links lists shares limits (setup_call E places links values lists shares limits)
  setup_keeps z = go (setup_way E places links values lists shares limits)
    where
      go : Goes E places links values lists shares limits ⊎ Stops E places links values lists shares limits → SetupKeeps E places links lists shares limits (setup_call E places links values lists shares limits)
      go (inr w) = absurd (w.0 z)
      go (inl w) =
          rw w.1
          (record {
            number = refl;
            unplaced = refl;
            no_value = refl;
            same_places = refl;
            as_many = refl;
            entries = tabulate-length places (fresh_entry shares limits);
            share = λ l b. ap (λ (d : Entry). d.share) (fresh_entry_is (E.size links) places lists shares limits l b);
            limit = λ l b. ap (λ (d : Entry). d.limit) (fresh_entry_is (E.size links) places lists shares limits l b);
            free_head = refl;
            no_length = λ l b. ap (λ (d : Entry). d.length) (fresh_entry_is (E.size links) places lists shares limits l b);
            free_count = omega (arith, w.0.0.size.least);
            same_size = (L.fresh links).size;
            sound = subst (λ (o : Called E). SoundBook E o.links o.values o.book (fresh_shape (E.size links) lists)) w.1 (setup_sound z);
          })
