use Rattle.std.proofs.Common.{◌≤◌, length}
use Rattle.complex.specs.Complex.{complex_of}
use Rattle.matrices.specs.Weights.{weight, is_given, given_list}
use Rattle.su2_rows.specs.Rows.{Tables}
use Rattle.su2_rows.proofs.tables.write_tables.Given as goal

abbrev pub invariant-loop-t : goal.invariant-loop-t
invariant-loop-t l =
    record {
      few : l.t-end ≤ 256;
      places_long : l.t-end ≤ length l.places;
      terms_long : l.t-end ≤ length l.terms;
      made : Tables (complex_of l.fn.c) l.p (weight (is_given l.weights) (given_list l.weights)) l.t l.places l.terms;
    }
