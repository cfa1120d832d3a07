-- `demo::run`: what is shown in any memory, in one of six slots.
use mathlib.Core.Path.{refl, subst}
use Rattle.wording.specs.Digits.{Written}
use Rattle.shows.proofs.Six.{six_lines_lem}
use Rattle.demo.proofs.run.Goals as goal

pub returns : goal.returns
returns c = subst (λ bytes. Written bytes c.args.out.now 0 c.show.result c.show.new.out) (six_lines_lem _ _ refl refl) c.show.ensures
