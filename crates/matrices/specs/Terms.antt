-- What a triangle adds to an entry of a matrix of U(1). The order of the two products shows in the last bits, and differs between the dense
-- matrix and the row lists.
use Rattle.std.specs.Prelude.{Float}
use Rattle.std.specs.Float.{binary64}
use Rattle.std.specs.Float.Ieee.{mul, div}
use Rattle.matrices.specs.declared.coupling.KSParams.{KSParams}
use Rattle.matrices.specs.Coupling.{float_of}

-- in the dense matrix a triangle with a weight adds (magnetic factor × weight) × 0.5
unfoldable pub dense_plaquette_term : KSParams → Float → Float
dense_plaquette_term p w = mul binary64 (mul binary64 p.magnetic w) (div binary64 (float_of 1) (float_of 2))

-- in the row lists it gives (magnetic factor × 0.5) × weight
unfoldable pub row_plaquette_term : KSParams → Float → Float
row_plaquette_term p w = mul binary64 (mul binary64 p.magnetic (div binary64 (float_of 1) (float_of 2))) w
