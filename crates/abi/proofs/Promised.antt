-- The promise that each exported function carries is the one that the laws are about, whole: `a` is what it is called with, `r` its answer, `e` what it leaves.
use Rattle.std.specs.Prelude.{◌≡◌}
use mathlib.Core.Path.{refl}
use seplogic.Ra.Ura.{Ura}
use base.Logic.{SProp, emp}
use prog.Memory.{Memory}
use prog.Routine.{Routine}
use types.Logic.{Logic}
use contract.Monad.{Fun, fact}
use denote.Triple.Clauses.{closing}
use Rattle.books.specs.Outcome.{outcome}
use Rattle.books.specs.Words.{place_from}
use Rattle.faces.specs.Face.{prepared, checked, changed, handed, told, shown, setup_face, check_face, length_face, push_back_face, push_front_face, pop_back_face, pop_front_face, read_forward_face, read_backward_face, clear_face}
use Rattle.faces.specs.Quick.{quick_pushed, quick_popped, quick_push_back_face, quick_push_front_face, quick_pop_back_face, quick_pop_front_face}
use Rattle.abi.specs.contracts.changes.flailreeve_setup as setup
use Rattle.abi.specs.contracts.looks.flailreeve_check as check
use Rattle.abi.specs.contracts.looks.flailreeve_length as length
use Rattle.abi.specs.contracts.changes.flailreeve_push_back as push-back
use Rattle.abi.specs.contracts.changes.flailreeve_push_front as push_front_lem
use Rattle.abi.specs.contracts.changes.flailreeve_pop_back as pop-back
use Rattle.abi.specs.contracts.changes.flailreeve_pop_front as pop_front_lem
use Rattle.abi.specs.contracts.looks.flailreeve_read_forward as read-forward
use Rattle.abi.specs.contracts.looks.flailreeve_read_backward as read-backward
use Rattle.abi.specs.contracts.changes.flailreeve_clear as clear
use Rattle.abi.specs.contracts.quick.flailreeve_quick_push_back as quick-push-back
use Rattle.abi.specs.contracts.quick.flailreeve_quick_push_front as quick-push-front
use Rattle.abi.specs.contracts.quick.flailreeve_quick_pop_back as quick-pop-back
use Rattle.abi.specs.contracts.quick.flailreeve_quick_pop_front as quick-pop-front
use Rattle.abi.specs.contracts.about.flailreeve_version as version
use Rattle.abi.specs.contracts.about.flailreeve_text as text
use Rattle.wording.specs.Digits.{Written}
use Rattle.wording.specs.Texts.{text_of}
use Rattle.faces.specs.Version.{face_version}

module _ {M : Type 1} {𝓤 : Ura M} (𝓛 : Logic 𝓤) (mem : Memory → SProp 𝓤) (run : Routine → Fun 𝓤) where
  pub face_setup_promises : setup.spec 𝓛 mem run ≡ closing 𝓛 setup.ended (λ κs a. record { ghost = Unit {0}; requires = λ _. emp 𝓤; ensures = λ _ r e. fact 𝓤 (outcome (prepared r e.1.1.1.1.1.0.now) e.0.now e.1.0.now ≡ setup_face a.0.now a.1.0.now a.1.1.0 a.1.1.1.0.now a.1.1.1.1.0.now a.1.1.1.1.1.0.now) })
  face_setup_promises = refl

  pub face_check_promises : check.spec 𝓛 mem run ≡ closing 𝓛 check.ended (λ κs a. record { ghost = Unit {0}; requires = λ _. emp 𝓤; ensures = λ _ r e. fact 𝓤 (checked r (place_from e.1.1.1.0.now) ≡ check_face a.0.now a.1.0.now a.1.1.0.now) })
  face_check_promises = refl

  pub face_length_promises : length.spec 𝓛 mem run ≡ closing 𝓛 length.ended (λ κs a. record { ghost = Unit {0}; requires = λ _. emp 𝓤; ensures = λ _ r e. fact 𝓤 (told r (place_from e.1.1.1.1.1.0.now) e.1.1.1.1.0.now ≡ length_face a.0.now a.1.0.now a.1.1.0.now a.1.1.1.0) })
  face_length_promises = refl

  pub face_push_back_promises : push-back.spec 𝓛 mem run ≡ closing 𝓛 push-back.ended (λ κs a. record { ghost = Unit {0}; requires = λ _. emp 𝓤; ensures = λ _ r e. fact 𝓤 (outcome (changed r (place_from e.1.1.1.1.1.0.now) e.1.1.0.now) e.0.now e.1.0.now ≡ push_back_face a.0.now a.1.0.now a.1.1.0.now a.1.1.1.0 a.1.1.1.1.0) })
  face_push_back_promises = refl

  pub face_push_front_promises : push_front_lem.spec 𝓛 mem run ≡ closing 𝓛 push_front_lem.ended (λ κs a. record { ghost = Unit {0}; requires = λ _. emp 𝓤; ensures = λ _ r e. fact 𝓤 (outcome (changed r (place_from e.1.1.1.1.1.0.now) e.1.1.0.now) e.0.now e.1.0.now ≡ push_front_face a.0.now a.1.0.now a.1.1.0.now a.1.1.1.0 a.1.1.1.1.0) })
  face_push_front_promises = refl

  pub face_pop_back_promises : pop-back.spec 𝓛 mem run ≡ closing 𝓛 pop-back.ended (λ κs a. record { ghost = Unit {0}; requires = λ _. emp 𝓤; ensures = λ _ r e. fact 𝓤 (outcome (handed r (place_from e.1.1.1.1.1.0.now) e.1.1.1.1.0.now e.1.1.0.now) e.0.now e.1.0.now ≡ pop_back_face a.0.now a.1.0.now a.1.1.0.now a.1.1.1.0) })
  face_pop_back_promises = refl

  pub face_pop_front_promises : pop_front_lem.spec 𝓛 mem run ≡ closing 𝓛 pop_front_lem.ended (λ κs a. record { ghost = Unit {0}; requires = λ _. emp 𝓤; ensures = λ _ r e. fact 𝓤 (outcome (handed r (place_from e.1.1.1.1.1.0.now) e.1.1.1.1.0.now e.1.1.0.now) e.0.now e.1.0.now ≡ pop_front_face a.0.now a.1.0.now a.1.1.0.now a.1.1.1.0) })
  face_pop_front_promises = refl

  pub face_read_forward_promises : read-forward.spec 𝓛 mem run ≡ closing 𝓛 read-forward.ended (λ κs a. record { ghost = Unit {0}; requires = λ _. emp 𝓤; ensures = λ _ r e. fact 𝓤 (shown r (place_from e.1.1.1.1.1.1.1.0.now) e.1.1.1.1.1.1.0.now e.1.1.1.1.0.now ≡ read_forward_face a.0.now a.1.0.now a.1.1.0.now a.1.1.1.0 a.1.1.1.1.0.now a.1.1.1.1.1.0) })
  face_read_forward_promises = refl

  pub face_read_backward_promises : read-backward.spec 𝓛 mem run ≡ closing 𝓛 read-backward.ended (λ κs a. record { ghost = Unit {0}; requires = λ _. emp 𝓤; ensures = λ _ r e. fact 𝓤 (shown r (place_from e.1.1.1.1.1.1.1.0.now) e.1.1.1.1.1.1.0.now e.1.1.1.1.0.now ≡ read_backward_face a.0.now a.1.0.now a.1.1.0.now a.1.1.1.0 a.1.1.1.1.0.now a.1.1.1.1.1.0) })
  face_read_backward_promises = refl

  pub face_quick_push_back_promises : quick-push-back.spec 𝓛 mem run ≡ closing 𝓛 quick-push-back.ended (λ κs a. record { ghost = Unit {0}; requires = λ _. emp 𝓤; ensures = λ _ r e. fact 𝓤 (outcome (quick_pushed r e.1.1.0.now) e.0.now e.1.0.now ≡ quick_push_back_face a.0.now a.1.0.now a.1.1.0.now a.1.1.1.0 a.1.1.1.1.0) })
  face_quick_push_back_promises = refl

  pub face_quick_push_front_promises : quick-push-front.spec 𝓛 mem run ≡ closing 𝓛 quick-push-front.ended (λ κs a. record { ghost = Unit {0}; requires = λ _. emp 𝓤; ensures = λ _ r e. fact 𝓤 (outcome (quick_pushed r e.1.1.0.now) e.0.now e.1.0.now ≡ quick_push_front_face a.0.now a.1.0.now a.1.1.0.now a.1.1.1.0 a.1.1.1.1.0) })
  face_quick_push_front_promises = refl

  pub face_quick_pop_back_promises : quick-pop-back.spec 𝓛 mem run ≡ closing 𝓛 quick-pop-back.ended (λ κs a. record { ghost = Unit {0}; requires = λ _. emp 𝓤; ensures = λ _ r e. fact 𝓤 (outcome (quick_popped r e.1.1.1.1.0.now e.1.1.0.now) e.0.now e.1.0.now ≡ quick_pop_back_face a.0.now a.1.0.now a.1.1.0.now a.1.1.1.0) })
  face_quick_pop_back_promises = refl

  pub face_quick_pop_front_promises : quick-pop-front.spec 𝓛 mem run ≡ closing 𝓛 quick-pop-front.ended (λ κs a. record { ghost = Unit {0}; requires = λ _. emp 𝓤; ensures = λ _ r e. fact 𝓤 (outcome (quick_popped r e.1.1.1.1.0.now e.1.1.0.now) e.0.now e.1.0.now ≡ quick_pop_front_face a.0.now a.1.0.now a.1.1.0.now a.1.1.1.0) })
  face_quick_pop_front_promises = refl

  pub face_clear_promises : clear.spec 𝓛 mem run ≡ closing 𝓛 clear.ended (λ κs a. record { ghost = Unit {0}; requires = λ _. emp 𝓤; ensures = λ _ r e. fact 𝓤 (outcome (changed r (place_from e.1.1.1.1.0.now) e.1.1.0.now) e.0.now e.1.0.now ≡ clear_face a.0.now a.1.0.now a.1.1.0.now a.1.1.1.0) })
  face_clear_promises = refl

  pub face_version_promises : version.spec 𝓛 mem run ≡ closing 𝓛 version.ended (λ κs a. record { ghost = Unit {0}; requires = λ _. emp 𝓤; ensures = λ _ r e. fact 𝓤 (r ≡ face_version) })
  face_version_promises = refl

  pub face_text_promises : text.spec 𝓛 mem run ≡ closing 𝓛 text.ended (λ κs a. record { ghost = Unit {0}; requires = λ _. emp 𝓤; ensures = λ _ r e. fact 𝓤 (Written (text_of a.0) a.1.0.now 0 r e.1.0.now) })
  face_text_promises = refl
