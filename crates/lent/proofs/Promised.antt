-- The promise that each lent call carries is the one that the laws are about, whole: `a` is what it is called with, `r` its answer, `e` what it leaves.
use mathlib.Core.Path.{◌≡◌, refl}
use seplogic.Ra.Ura.{Ura}
use base.Logic.{SProp, emp}
use prog.Memory.{Memory}
use prog.Routine.{Routine}
use types.Logic.{Logic}
use contract.Monad.{Fun, fact}
use denote.Triple.Clauses.{closing}
use Rattle.books.specs.Outcome.{outcome}
use Rattle.xor.specs.Ten.{push_back_of, push_front_of, pop_back_of, pop_front_of}
use Rattle.lent.specs.Lent.{pushed, popped}
use Rattle.lent.specs.contracts.flailreeve_lent_push_back as push-back
use Rattle.lent.specs.contracts.flailreeve_lent_push_front as push_front_lem
use Rattle.lent.specs.contracts.flailreeve_lent_pop_back as pop-back
use Rattle.lent.specs.contracts.flailreeve_lent_pop_front as pop_front_lem

module _ {M : Type 1} {𝓤 : Ura M} (𝓛 : Logic 𝓤) (mem : Memory → SProp 𝓤) (run : Routine → Fun 𝓤) where
  pub lent_push_back_promises : push-back.spec 𝓛 mem run ≡ closing 𝓛 push-back.ended (λ κs a. record { ghost = Unit {0}; requires = λ _. emp 𝓤; ensures = λ _ r e. fact 𝓤 (outcome (pushed r e.1.1.0.now) e.0.now e.1.0.now ≡ push_back_of a.0.now a.1.0.now a.1.1.0.now a.1.1.1.0 a.1.1.1.1.0) })
  lent_push_back_promises = refl

  pub lent_push_front_promises : push_front_lem.spec 𝓛 mem run ≡ closing 𝓛 push_front_lem.ended (λ κs a. record { ghost = Unit {0}; requires = λ _. emp 𝓤; ensures = λ _ r e. fact 𝓤 (outcome (pushed r e.1.1.0.now) e.0.now e.1.0.now ≡ push_front_of a.0.now a.1.0.now a.1.1.0.now a.1.1.1.0 a.1.1.1.1.0) })
  lent_push_front_promises = refl

  pub lent_pop_back_promises : pop-back.spec 𝓛 mem run ≡ closing 𝓛 pop-back.ended (λ κs a. record { ghost = Unit {0}; requires = λ _. emp 𝓤; ensures = λ _ r e. fact 𝓤 (outcome (popped r e.1.1.0.now) e.0.now e.1.0.now ≡ pop_back_of a.0.now a.1.0.now a.1.1.0.now a.1.1.1.0) })
  lent_pop_back_promises = refl

  pub lent_pop_front_promises : pop_front_lem.spec 𝓛 mem run ≡ closing 𝓛 pop_front_lem.ended (λ κs a. record { ghost = Unit {0}; requires = λ _. emp 𝓤; ensures = λ _ r e. fact 𝓤 (outcome (popped r e.1.1.0.now) e.0.now e.1.0.now ≡ pop_front_of a.0.now a.1.0.now a.1.1.0.now a.1.1.1.0) })
  lent_pop_front_promises = refl
