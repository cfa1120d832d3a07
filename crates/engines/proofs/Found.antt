-- What the check found is said of the sound shape, over any engine.
use mathlib.Core.Path.{◌≡◌, refl, sym, ap, ◌∙◌}
use mathlib.Core.Logic.{◌≢◌}
use mathlib.Core.Bool.{Bool, true, false}
use mathlib.Core.List.{List, [], ◌∷◌}
use Prim.Native.Nat.{ℕ, zero, suc, ◌+◌, ◌≤◌, ◌<◌}
use native.Mathlib.Omega.{arith}
use lib.Seq.{length-take-le, get_or-take}
use lib.ListN.{length, get_or, take, length-append}
use lib.Dec.{eqb}
use borrow.Author.Tests.{eqb-true, eqb-false}
use Rattle.books.specs.declared.Entry.{Entry}
use Rattle.books.specs.Book.{zero_entry, entry_at, AnyBook}
use Rattle.books.proofs.Tests.{not_both}
use Rattle.books.proofs.Rules.{keeps_rules_lem}
use Rattle.shapes.specs.Shape.{Shape, chain_at, joined_up, lacks, stored_lacks}
use Rattle.shapes.proofs.Shape.{lacks_stored}
use Rattle.shapes.specs.Faults.{no_fault}
use Rattle.engines.specs.Engine.{Engine}
use Rattle.engines.specs.Sound.{Fit, SoundBook}
use Rattle.engines.specs.Laws.{Lawful}
use Rattle.engines.specs.Check.{sizes_fit, pool_found, check_found, look_of}
use Rattle.engines.specs.Look.{Tells}
use Rattle.engines.proofs.Checked.{sound_chained, sound_found, sound_lacks}
use Rattle.engines.proofs.Missing.{covers_full}

-- ---- on a sound pool

-- a list's sequence is no longer than all of them together
part_length : (cs : List (List ℕ)) (l : ℕ) → length (get_or cs l []) ≤ length (joined_up cs)
part_length [] l = omega arith
part_length (xs ∷ cs) zero = omega (arith, length-append xs (joined_up cs))
part_length (xs ∷ cs) (suc l) = omega (arith, length-append xs (joined_up cs), part_length cs l)

module _ {E : Engine} {links : E.Links} {values : List ℕ} {b : AnyBook} {s : Shape} (S : SoundBook E links values b s) where
  kept : check_found E links values b ≡ pool_found E links values (take b.lists b.entries) b.free
  unfolding check_found
  kept = rw ((keeps_rules_lem (E.size links) b).1 S.rules)

  module _ (l : ℕ) (below : l < b.lists) where
    pub listed : l < length (take b.lists b.entries)
    listed = omega (arith, length-take-le b.lists b.entries S.rules.there)

    -- list l's entry is its entry in the whole book
    pub entry_is : entry_at (take b.lists b.entries) l ≡ entry_at b.entries l
    entry_is = get_or-take b.lists b.entries l zero_entry below

    -- 02 c): its stored length is its sequence's
    pub stored-length : (entry_at b.entries l).length ≡ length (chain_at s l)
    stored-length = ap (λ (e : Entry). e.length) (sym entry_is) ∙ S.pool.counted l listed

    pub within : length (chain_at s l) ≤ (entry_at b.entries l).limit
    within = rw (ap (λ (e : Entry). e.limit) entry_is) at (S.pool.short l listed)

    pub shorter : length (chain_at s l) < 4096
    shorter = omega (arith, within, (S.rules.fair l below).1, S.pool.fit.size.most)

  -- N-1 slots are in the lists and free
  pub all_slots : length (joined_up s.chains) + length s.idle + 1 ≡ E.size links
  all_slots = omega (arith, length-append (joined_up s.chains) s.idle, covers_full (sound_chained S.pool).distinct (omega (arith, S.pool.fit.size.least)) S.pool.once)

  pub some_slots : (l : ℕ) → length (chain_at s l) + length s.idle + 1 ≤ E.size links
  some_slots l = omega (arith, all_slots, part_length s.chains l)

  -- and so are the free slots, and what the lists lack
  pub stored_free : b.free.count ≡ length s.idle
  stored_free = S.pool.free_counted

  pub stored_lacks_lem : stored_lacks (take b.lists b.entries) ≡ lacks (take b.lists b.entries) s.chains
  stored_lacks_lem = lacks_stored (take b.lists b.entries) s.chains S.pool.lists S.pool.counted

module _ {E : Engine} (L : Lawful E) {links : E.Links} {values : List ℕ} {b : AnyBook} {s : Shape} (S : SoundBook E links values b s) where
  pub found_fine : (check_found E links values b).fault ≡ no_fault
  found_fine = rw (kept S) (sound_found L links values _ b.free S.pool.fit s S.pool)

  pub found_lacks : (check_found E links values b).lacks ≡ lacks (take b.lists b.entries) s.chains
  found_lacks = rw (kept S) (sound_lacks L links values _ b.free S.pool.fit s S.pool)

  -- the check hands on what the stored lengths tell too
  pub found_stored : (check_found E links values b).lacks ≡ stored_lacks (take b.lists b.entries)
  found_stored = found_lacks ∙ sym (stored_lacks_lem S)
