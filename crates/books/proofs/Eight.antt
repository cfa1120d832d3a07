-- Eight entries given one by one, as a book has them: what a loop over the first so many of them, or over the rest, goes by.
use mathlib.Core.Path.{◌≡◌, sym, ap, ◌∙◌}
use mathlib.Core.Bool.{true, ◌&&◌}
use mathlib.Core.List.{List}
use Prim.Native.Nat.{ℕ, ◌+◌, ◌≤◌, ◌<◌}
use native.Mathlib.Omega.{arith}
use lib.Dec.{ltb}
use lib.ListN.{length, take, drop}
use lib.Seq.{length-take-le, get_or-take}
use Rattle.books.specs.declared.Entry.{Entry}
use Rattle.books.specs.Book.{most_lists, zero_entry, entry_at}
use Rattle.books.specs.Test.{is_fair, is_zero, gather, all_zero}
use Rattle.books.specs.Tabulate.{tabulate}
use Rattle.books.proofs.Tabulate.{tabulate-length, tabulate_at}
use Rattle.books.proofs.Rules.{gather_at, gather_end, zero_at, zero_end}

module _ (f : ℕ → Entry) where
  abbrev entries : List Entry
  entries = tabulate most_lists f

  -- ---- from one of them on

  pub zero_adds : (k : ℕ) → k < 8 → all_zero (drop k entries) ≡ is_zero (f k) && all_zero (drop (k + 1) entries)
  zero_adds k h = zero_at entries k (omega (arith, h, tabulate-length 8 f)) ∙ ap (λ (e : Entry). is_zero e && all_zero (drop (k + 1) entries)) (tabulate_at zero_entry 8 f k h)

  pub zero_past : (k : ℕ) → 8 ≤ k → all_zero (drop k entries) ≡ true
  zero_past k h = zero_end entries k (omega (arith, h, tabulate-length 8 f))

  -- ---- the first so many

  module _ (count : ℕ) (b : count ≤ 8) where
    abbrev used : List Entry
    used = take count entries

    pub used_many : length used ≡ count
    used_many = length-take-le count entries (omega (arith, b, tabulate-length 8 f))

    pub used_at : (k : ℕ) → k < count → entry_at used k ≡ f k
    used_at k h = get_or-take count entries k zero_entry h ∙ tabulate_at zero_entry 8 f k (omega (arith, h, b))

    -- what one of them adds to what comes after it
    pub fair_adds : (size k sum : ℕ) → k < count → gather size (drop k used) sum ≡ is_fair size (f k) && gather size (drop (k + 1) used) (sum + (f k).share)
    fair_adds size k sum h =
        gather_at size used k sum (omega (arith, h, used_many)) ∙ ap (λ (e : Entry). is_fair size e && gather size (drop (k + 1) used) (sum + e.share)) (used_at k h)

    pub fair_went : (size k sum share : ℕ) → k < count → is_fair size (f k) ≡ true → share ≡ (f k).share → gather size (drop (k + 1) used) (sum + share) ≡ gather size (drop k used) sum
    fair_went size k sum share h i e = rw e (sym (rw i at (fair_adds size k sum h)))

    pub fair_past : (size k sum : ℕ) → count ≤ k → gather size (drop k used) sum ≡ ltb sum size
    fair_past size k sum h = gather_end size used k sum (omega (arith, h, used_many))
