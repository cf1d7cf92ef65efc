use Rattle.std.proofs.Common.{rules}
use Rattle.enumeration.proofs.Limits.{candidates_fit, states_fit, roomy}
use Rattle.enumeration.proofs.basis.Basis.is_too_short.Goals as goal

pub overflow_mul-candidates : goal.overflow_mul-candidates
overflow_mul-candidates c = let h = (candidates_fit _ _ _ c.args.self.now.fits _ c.width.ensures).0 in search rules

pub overflow_mul-candidates-2 : goal.overflow_mul-candidates-2
overflow_mul-candidates-2 c = let h = (candidates_fit _ _ _ c.args.self.now.fits _ c.width.ensures).1 in search rules

pub returns-then-candidates-m : goal.returns-then-candidates-m
returns-then-candidates-m c = roomy _ _ _ c.args.self.now.fits _ _ c.width.ensures c.if-candidates-m.true

pub overflow_mul-result : goal.overflow_mul-result
overflow_mul-result c = let h = rw (← c.count.ensures) at (states_fit _ _ _ c.args.self.now.fits) in search rules
