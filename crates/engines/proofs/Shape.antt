-- What a sound pool says of its slots, and that it has one shape only, over any engine.
use mathlib.Core.Path.{◌≡◌, sym, ◌∙◌}
use mathlib.Core.Logic.{◌≢◌, ◌⊎◌, inl, inr}
use mathlib.Core.List.{List, []}
use Prim.Native.Nat.{ℕ, ◌+◌, ◌≤◌, ◌<◌}
use native.Mathlib.Nat.{eq-zero-or-pos}
use native.Mathlib.Omega.{arith}
use lib.ListN.{length}
use lib.Seq.{ext_get_or}
use Rattle.books.specs.declared.Free.{Free}
use Rattle.books.specs.declared.Entry.{Entry}
use Rattle.books.specs.Book.{AnyBook}
use Rattle.chains.specs.Count.{count}
use Rattle.chains.specs.Chain.{first_or}
use Rattle.chains.proofs.Count.{count-append}
use Rattle.shapes.specs.declared.End.TheVariants.{Front}
use Rattle.shapes.specs.Shape.{Shape, chain_at, joined_up, every_slot}
use Rattle.shapes.proofs.Shape.{joined_part, joined_two}
use Rattle.engines.specs.Engine.{Engine}
use Rattle.engines.specs.Sound.{Sound, SoundBook}
use Rattle.engines.specs.Laws.{Lawful}
use Rattle.shapes.proofs.Walks.{tied_one}

module _ {E : Engine} {links : E.Links} {values : List ℕ} {es : List Entry} {free : Free} {s : Shape} (S : Sound E links values es free s) where
  pub at_most : (y : ℕ) → count y (every_slot s) ≤ 1
  at_most y = go (eq-zero-or-pos (count y (every_slot s)))
    where
      go : (count y (every_slot s) ≡ 0) ⊎ (0 < count y (every_slot s)) → count y (every_slot s) ≤ 1
      go (inl e) = omega arith
      go (inr h) = let o = S.only y h in omega (arith, S.once y o.0 o.1)

  pub no_null : count 0 (every_slot s) ≡ 0
  no_null = go (eq-zero-or-pos (count 0 (every_slot s)))
    where
      go : (count 0 (every_slot s) ≡ 0) ⊎ (0 < count 0 (every_slot s)) → count 0 (every_slot s) ≡ 0
      go (inl e) = e
      go (inr h) = omega (arith, S.only 0 h)

  -- one list and the idle chain are among them
  pub part : (l y : ℕ) → count y (chain_at s l) + count y s.idle ≤ count y (every_slot s)
  part l y = omega (arith, joined_part s.chains l y, count-append y (joined_up s.chains) s.idle)

  pub two_parts : (l k y : ℕ) → k ≢ l → count y (chain_at s l) + count y (chain_at s k) + count y s.idle ≤ count y (every_slot s)
  two_parts l k y d = omega (arith, joined_two s.chains l k y d, count-append y (joined_up s.chains) s.idle)

module _ {E : Engine} (L : Lawful E) where
  -- a sequence without the null slot is determined by its first slot and the links
  pub live_one : (links : E.Links) (xs ys : List ℕ) → count 0 xs ≡ 0 → count 0 ys ≡ 0 → E.Live links xs → E.Live links ys → first_or 0 xs ≡ first_or 0 ys → xs ≡ ys
  live_one links xs ys a b c d e = tied_one (E.onward Front links) (E.fits links) 0 xs ys a b ((L.live_tied links xs).0 c) ((L.live_tied links ys).0 d) e

  pub idle_one : (links : E.Links) (xs ys : List ℕ) → count 0 xs ≡ 0 → count 0 ys ≡ 0 → E.Idle links xs → E.Idle links ys → first_or 0 xs ≡ first_or 0 ys → xs ≡ ys
  idle_one links xs ys a b c d e = tied_one (E.idle_onward links) (E.idle_fits links) 0 xs ys a b ((L.idle_tied links xs).0 c) ((L.idle_tied links ys).0 d) e

  -- 01: "Such sequences, where they exist, are the only ones"
  pub unique : {links : E.Links} {values : List ℕ} {es : List Entry} {free : Free} {s t : Shape} → Sound E links values es free s → Sound E links values es free t → s ≡ t
  unique {links} {values} {es} {free} {s} {t} S T = λ i. record { chains = cs i; idle = fs i }
    where
      cs : s.chains ≡ t.chains
      cs = ext_get_or [] s.chains t.chains (S.lists ∙ sym T.lists) (λ l b₀.
          let b : l < length es = rw S.lists at b₀ in
          live_one links (chain_at s l) (chain_at t l)
          (omega (arith, part S l 0, no_null S)) (omega (arith, part T l 0, no_null T)) (S.live l b) (T.live l b) (sym (S.entry l b).head ∙ (T.entry l b).head))

      fs : s.idle ≡ t.idle
      fs =
          idle_one links s.idle t.idle
          (omega (arith, part S 0 0, no_null S)) (omega (arith, part T 0 0, no_null T)) S.idle T.idle (sym S.free_record.head ∙ T.free_record.head)

  pub unique_book : {links : E.Links} {values : List ℕ} {b : AnyBook} {s t : Shape} → SoundBook E links values b s → SoundBook E links values b t → s ≡ t
  unique_book S T = unique S.pool T.pool
