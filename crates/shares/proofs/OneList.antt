-- The stored counts, where the engine's step is done and where it is not.
use Rattle.std.specs.Prelude.{◌≡◌, ℕ, Bool, true, false, cond, List}
use mathlib.Core.Path.{sym, ap, ◌∙◌}
use Rattle.engines.specs.Engine.{Step}
use Rattle.engines.specs.Counted.{with_counts, if_made}

pub step_made : {r o : Step (List ℕ)} (n m : ℕ) → r ≡ o → r.done ≡ true → with_counts n m r ≡ if_made n m o
step_made {r} {o} n m q d = ap (with_counts n m) q ∙ sym (ap (λ (b : Bool). cond b (with_counts n m o) o) (sym (ap (λ (x : Step (List ℕ)). x.done) q) ∙ d))

pub step_refused : {r o : Step (List ℕ)} (n m : ℕ) → r ≡ o → r.done ≡ false → r ≡ if_made n m o
step_refused {r} {o} n m q d = q ∙ sym (ap (λ (b : Bool). cond b (with_counts n m o) o) (sym (ap (λ (x : Step (List ℕ)). x.done) q) ∙ d))
