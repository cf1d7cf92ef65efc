-- What the fields of a case hold, numbers low byte first (recorded/specs/Bytes).
use Rattle.std.specs.Prelude.{ℕ, ◌*◌, Bool, List, eqb, ℤ, Float}
use Rattle.std.specs.Int.{w32, w64}
use Rattle.std.proofs.Common.{to_z}
use Rattle.matrices.specs.declared.coupling.KSParams.{KSParams}
use Rattle.recorded.specs.Bytes.{number_at, float_of, i8s, i32s, u64s, floats}
use Rattle.recorded_fields.specs.Layout.{Case}

abbrev pub sheet_of : Case → List ℕ
sheet_of c = c.field 0

-- one of the numbers that a call takes
abbrev pub number_of : Case → ℕ → ℕ
number_of c i = number_at 8 (c.field 1) (8 * i)

-- weights are given where the first number is 1
unfoldable pub given_of : Case → Bool
given_of c = eqb (number_of c 0) 1

abbrev pub configuration_of : Case → List ℤ
configuration_of c = i32s (c.field 2)

-- what a shift adds
abbrev pub delta_of : Case → ℤ
delta_of c = to_z w32 (number_at 4 (c.field 3) 0)

abbrev pub path_of : Case → List ℕ
path_of c = c.field 4

-- along or against the path's edges
abbrev pub directions_of : Case → List ℤ
directions_of c = i8s (c.field 5)

abbrev pub pentachora_of : Case → List ℕ
pentachora_of c = u64s (c.field 6)

-- g² and the two factors
unfoldable pub coupling_of : Case → KSParams
coupling_of c =
    record {
      g_squared = float_of (number_at 8 (c.field 7) 0);
      electric = float_of (number_at 8 (c.field 7) 8);
      magnetic = float_of (number_at 8 (c.field 7) 16);
    }

abbrev pub weights_of : Case → List Float
weights_of c = floats (c.field 8)

abbrev pub vector_of : Case → List Float
vector_of c = floats (c.field 9)

-- the number that the call told
abbrev pub told_of : Case → ℤ
told_of c = to_z w64 (number_at 8 (c.field 10) 0)
