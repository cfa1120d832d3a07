-- What a look at a pool tells, over any engine: 1, the first rule that is broken with its place, or 0, and of a sound pool what the lists lack. The counts are in the book.
use Rattle.std.specs.Prelude.{◌≡◌, ◌↔◌, ◌≢◌, List, ℕ, take}
use Rattle.books.specs.Book.{AnyBook}
use Rattle.books.specs.Place.{numbered}
use Rattle.shapes.specs.Records.{Fault}
use Rattle.shapes.specs.Records.{Looked}
use Rattle.shapes.specs.Shape.{Shape, lacks}
use Rattle.shapes.specs.Faults.{no_fault, naming, faulty}
use Rattle.engines.specs.Engine.{Engine}
use Rattle.engines.specs.Sound.{Fit, SoundBook}
use Rattle.engines.specs.FirstFault.{Breaks}

pub record Tells (E : Engine) (links : E.Links) (values : List ℕ) (b : AnyBook) (r : Looked) : Type 0 where
  -- 1: "lengths differ, or N under 2 or over 4,096"
  pub one : r.refusal ≡ numbered 1 ↔ (Fit E links values → ⊥)
  -- 9 to 16, with the place, where 1 does not apply
  pub named : (f : Fault) → f.rule ≢ 0 → f.rule ≢ 1 → r.refusal ≡ naming f ↔ (Fit E links values × Breaks E links values b f)
  -- "0 when sound"
  pub fine : r.refusal ≡ numbered 0 ↔ ((s : Shape) × SoundBook E links values b s)
  pub nothing : r.refusal.number ≢ 0 → r.found ≡ faulty no_fault
  pub clean : r.refusal.number ≡ 0 → r.found.fault ≡ no_fault
  pub lacking : r.refusal.number ≡ 0 → (s : Shape) → SoundBook E links values b s → r.found.lacks ≡ lacks (take b.lists b.entries) s.chains
