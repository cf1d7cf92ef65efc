use Rattle.enumeration.proofs.Limits.{limited_one, limited_kept, limited_times}
use Rattle.enumeration.proofs.power.Goals as goal
use Rattle.enumeration.proofs.power.Goals.{then-product-le-MOST_CANDIDATES, else-product-le-MOST_CANDIDATES}

pub loop-init : goal.loop-init
loop-init c = limited_one c.args.base

pub loop-preserved : goal.loop-preserved
loop-preserved c =
    elim c.if-product-le-MOST_CANDIDATES.branch [
      | then-product-le-MOST_CANDIDATES w ↦ limited_times c.args.base c.requires.0 c.requires.1 c.loop.counter c.loop.product c.loop.invariant w.if-product-le-MOST_CANDIDATES.true _ w.product-is
      | else-product-le-MOST_CANDIDATES w ↦ limited_kept c.args.base c.requires.0 c.requires.1 c.loop.counter c.loop.product c.loop.invariant w.if-product-le-MOST_CANDIDATES.false _ w.product-is
    ]
