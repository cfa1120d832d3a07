-- `shares::setup::shares_fit`: a turn adds the test and the share of one pair.
use Rattle.std.specs.Prelude.{◌≡◌, ℕ, suc, ◌<◌, List, ◌∷◌, length, get_or, take}
use mathlib.Core.Path.{ap, ◌∙◌}
use native.Mathlib.Omega.{arith}
use lib.Seq.{length-take-le}
use Rattle.books.specs.declared.Entry.{Entry}
use Rattle.books.specs.Test.{gather}
use Rattle.shares.proofs.Paired.{paired, paired_first, over_limit, over_size, fair, pair_stops, pair_adds, pairs_end, taken_fits}
use Rattle.shares.proofs.setup.shares_fit.Goals.{then-limit-share-via-then-limit-share, then-limit-share-via-else-limit-share+then-size-from}
use Rattle.shares.proofs.setup.shares_fit.Goals as goal

pub loop-share-init : goal.loop-share-init
loop-share-init c =
    let a = c.args in
    let shares : c.into_iter-share-iterator.result.a.rest.now ≡ take a.count a.shares.now = cc (c.iter.ensures.rest, c.zip-share-items.ensures.first, c.into_iter-share-iterator.ensures.into_iter_gives) in
    let limits : c.into_iter-share-iterator.result.b.rest.now ≡ take a.count a.limits.now = cc (c.zip-share-items.ensures.second.0, c.into_iter-share-iterator.ensures.into_iter_gives) in
    record {
      same = (λ i. gather a.size (paired (shares i) (limits i)) 0) ∙ ap (λ (es : List Entry). gather a.size es 0) (paired_first a.count 8 a.shares.now a.limits.now c.told-shares c.told-limits);
      fits = λ k. rw shares (taken_fits a.count a.shares.now c.fits-shares k);
      small = omega (arith, ap length shares, length-take-le a.count a.shares.now (omega arith));
    }

pub returns-then-limit-share : goal.returns-then-limit-share
returns-then-limit-share c =
    let steps = c.in-Some.ensures.steps in
    pair_stops c.args.size c.loop-share.sum steps.0 steps.1
    (elim c.then-limit-share.branch [
      | then-limit-share-via-then-limit-share w ↦ over_limit _ _ _ (omega arith)
      | then-limit-share-via-else-limit-share+then-size-from w ↦ over_size _ _ _ (omega arith) (omega arith)
    ])
    ∙ c.loop-share.invariant.same

pub loop-share-preserved : goal.loop-share-preserved
loop-share-preserved c =
    let steps = c.in-Some.ensures.steps in
    let fits : (k : ℕ) → get_or (c.in-Some.field-0-0.now ∷ c.next.new.self.a.rest.now) k 0 < 65536 = λ k. rw steps.0 at (c.loop-share.invariant.fits k) in
    let first : c.in-Some.field-0-0.now < 65536 = fits 0 in
    record {
      same = pair_adds c.args.size c.loop-share.sum steps.0 steps.1 (fair _ _ _ (omega arith) (omega arith)) c.from-sum.ensures ∙ c.loop-share.invariant.same;
      fits = λ k. fits (suc k);
      small = omega (arith, ap length steps.0);
    }

pub returns : goal.returns
returns c = pairs_end c.args.size c.loop-share.sum _ _ c.in-None.ensures.steps ∙ c.loop-share.invariant.same
