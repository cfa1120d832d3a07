-- The promise that `rows::may_give` carries is 01's table, whole: no code calls it, so nothing else holds its promise to that.
use mathlib.Core.Path.{◌≡◌, refl}
use seplogic.Ra.Ura.{Ura}
use base.Logic.{SProp, emp}
use prog.Memory.{Memory}
use prog.Routine.{Routine}
use types.Logic.{Logic}
use contract.Monad.{Fun, fact}
use denote.Triple.Clauses.{closing}
use Rattle.books.specs.Table.{may_give}
use Rattle.rules.specs.contracts.rows.may_give as may-give

module _ {M : Type 1} {𝓤 : Ura M} (𝓛 : Logic 𝓤) (mem : Memory → SProp 𝓤) (run : Routine → Fun 𝓤) where
  pub may_give_promises : may-give.spec 𝓛 mem run ≡ closing 𝓛 may-give.ended (λ κs a. record { ghost = Unit {0}; requires = λ _. emp 𝓤; ensures = λ _ r e. fact 𝓤 (r ≡ may_give a.0 a.1.0) })
  may_give_promises = refl
