use Rattle.std.proofs.Common.{arith}
use Rattle.mathematics.proofs.Bits.{power_shifted}
use Rattle.su2_even_sets.proofs.Tables.{closed_kept, joined_kept, kept_by}
use Rattle.su2_even_sets.proofs.Forest.grow.Goals as goal

pub returns-then-from-to : goal.returns-then-from-to
returns-then-from-to c =
    let start = c.requires in
    record {
      keeps = λ g k w.
          closed_kept g c.args.self.now k c.args.a c.args.b c.args.e (omega (arith, start.3, start.5)) (omega (arith, start.4, start.5)) _ (rw (power_shifted c.args.e (omega (arith, start.2)))) c.if-from-to.true (omega (arith, start.1, start.2));
      few = omega arith;
    }

pub returns-else-from-to : goal.returns-else-from-to
returns-else-from-to c =
    let start = c.requires in
    let same = c.join.ensures.loops in
    record {
      keeps = λ g k w.
          kept_by _ c.args.self.now c.join.new.self
          (joined_kept g c.args.self.now k c.args.a c.args.b c.args.e (omega (arith, start.3, start.5)) (omega (arith, start.4, start.5)) _ (rw (power_shifted c.args.e (omega (arith, start.2)))) c.if-from-to.false c.args.n_vertices start.4 w _ _ c.join.ensures.tables)
          same.0 same.1 same.2;
      few = omega (arith, same.2);
    }
