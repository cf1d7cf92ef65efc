-- Where the order of the float operations shows: a tiny weight, and a weight of zero.
use mathlib.Core.Path.{◌≡◌, refl}
use lib.Ieee.{binary64, of_int, of_bits, add, mul, div, neg}
use Rattle.matrices.specs.Coupling.{float_of, u1_params}
use Rattle.matrices.specs.Terms.{dense_plaquette_term, row_plaquette_term}

-- g² 3 and the weight 2^-1071 give -2^-1073 in the dense matrix and -2^-1074 in the rows
small_weight : dense_plaquette_term (u1_params (float_of 3)) (of_bits binary64 8) ≡ of_bits binary64 9223372036854775810
unfolding dense_plaquette_term u1_params float_of mul div neg of_int of_bits
small_weight = refl

small_weight_rows : row_plaquette_term (u1_params (float_of 3)) (of_bits binary64 8) ≡ of_bits binary64 9223372036854775809
unfolding row_plaquette_term u1_params float_of mul div neg of_int of_bits
small_weight_rows = refl

-- the weight 0 gives -0.0, which leaves 0.0 when it is added
zero_weight : (dense_plaquette_term (u1_params (float_of 1)) (float_of 0) ≡ neg (float_of 0)) × (add binary64 (float_of 0) (neg (float_of 0)) ≡ float_of 0)
unfolding dense_plaquette_term u1_params float_of add mul div neg of_int
zero_weight = (refl, refl)

-- in the rows -0.0 is an entry
zero_weight_rows : row_plaquette_term (u1_params (float_of 1)) (float_of 0) ≡ neg (float_of 0)
unfolding row_plaquette_term u1_params float_of mul div neg of_int
zero_weight_rows = refl
