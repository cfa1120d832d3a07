-- A thin function gives what the by-value call gives: said once for the calls that change the pool, for the pops and for the reads.
use Rattle.std.specs.Prelude.{◌≡◌, ℕ, List}
use mathlib.Core.Path.{refl, ap, ◌∙◌}
use Rattle.books.specs.Outcome.{Outcome, outcome}
use Rattle.books.specs.declared.Answer.{Answer}
use Rattle.books.specs.declared.Popped.{Popped}
use Rattle.books.specs.declared.Read.{Read}
use Rattle.books.specs.Place.{Place, place_in}
use Rattle.shapes.specs.Tests.{ReadLeft, read_left}
use Rattle.faces.specs.Words.{kept}
use Rattle.faces.specs.Quick.{quick_pushed, quick_popped, as_quick_pushed, as_quick_popped}
use Rattle.faces.specs.Face.{prepared, changed, handed, shown, as_prepared, as_changed, as_handed, as_shown}

-- setup, which has no place
pub prepared_by : (words : List ℕ) {after links values : List ℕ} {number : ℕ} {r : Answer} {o : Outcome Answer} → number ≡ r.refusal.number → after ≡ kept r.refusal.number words r.book → outcome r links values ≡ o
    → outcome (prepared number after) links values ≡ as_prepared words o
prepared_by words {r = r} e f g = rw e (rw f refl) ∙ ap (λ (x : Outcome Answer). as_prepared words x) g

module _ (words : List ℕ) {after links values : List ℕ} {number : ℕ} {place : Place} where
  pub changed_by : {r : Answer} {o : Outcome Answer} → number ≡ r.refusal.number → place ≡ place_in r.refusal → after ≡ kept r.refusal.number words r.book → outcome r links values ≡ o
      → outcome (changed number place after) links values ≡ as_changed words o
  changed_by {r} e p f g = rw e (rw (p, f) refl) ∙ ap (λ (x : Outcome Answer). as_changed words x) g

  pub handed_by : {r : Popped} {o : Outcome Popped} {value : ℕ} → number ≡ r.given.refusal.number → place ≡ place_in r.given.refusal → value ≡ r.given.value → after ≡ kept r.given.refusal.number words r.book → outcome r links values ≡ o
      → outcome (handed number place value after) links values ≡ as_handed words o
  handed_by {r} e p v f g = rw (e, p, v, f) (ap (λ (x : Outcome Popped). as_handed words x) g)

pub shown_by : {buffer : List ℕ} {r : Read} {o : ReadLeft} → read_left r buffer ≡ o → shown r.refusal.number (place_in r.refusal) r.count buffer ≡ as_shown o
shown_by g = ap (λ (x : ReadLeft). as_shown x) g

-- ---- the quick functions, which have no place

module _ (words : List ℕ) {after links values : List ℕ} {number : ℕ} where
  pub quick_pushed_by : {r : Answer} {o : Outcome Answer} → number ≡ r.refusal.number → after ≡ kept r.refusal.number words r.book → outcome r links values ≡ o
      → outcome (quick_pushed number after) links values ≡ as_quick_pushed words o
  quick_pushed_by {r} e f g = rw e (rw f refl) ∙ ap (λ (x : Outcome Answer). as_quick_pushed words x) g

  pub quick_popped_by : {r : Popped} {o : Outcome Popped} {value : ℕ} → number ≡ r.given.refusal.number → value ≡ r.given.value → after ≡ kept r.given.refusal.number words r.book → outcome r links values ≡ o
      → outcome (quick_popped number value after) links values ≡ as_quick_popped words o
  quick_popped_by {r} e v f g = rw (e, v, f) (ap (λ (x : Outcome Popped). as_quick_popped words x) g)
