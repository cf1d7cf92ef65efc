-- The coupling: g² with the electric and the magnetic factor that it gives, in each of the two modes.
use Prim.{Unit}
use Rattle.std.specs.Prelude.{ℕ, ◌^◌, List, [], ◌∷◌, Bool, not, ◌&&◌, pos, Float}
use Rattle.std.specs.Float.{binary64}
use Rattle.std.specs.Float.Ieee.{of_int, neg, mul, div, le, eq}
use Rattle.mathematics.specs.Calls.{Call, NoneLent, none_lent}
use Rattle.matrices.specs.declared.coupling.KSParams.{KSParams}

-- a whole number as a float
unfoldable pub float_of : ℕ → Float
float_of n = of_int binary64 (pos n)

-- g² is from 2^-32 to 2^32; nothing that is not a number passes
unfoldable pub coupling_right : Float → Bool
coupling_right g² = le (div binary64 (float_of 1) (float_of (2 ^ 32))) g² && le g² (float_of (2 ^ 32))

-- U(1): g²/2 and -1/g²
unfoldable pub u1_params : Float → KSParams
u1_params g² = record { g_squared = g²; electric = div binary64 g² (float_of 2); magnetic = div binary64 (neg (float_of 1)) g² }

-- Z2: (3 g²)/8 and -0.5/g²
unfoldable pub su2_params : Float → KSParams
su2_params g² = record { g_squared = g²; electric = div binary64 (mul binary64 (float_of 3) g²) (float_of 8); magnetic = div binary64 (neg (div binary64 (float_of 1) (float_of 2))) g² }

-- 14 for a g² out of its range
abbrev pub coupling_tests : Float → List (ℕ × Bool)
coupling_tests g² = (14, not (coupling_right g²)) ∷ []

-- KSParams::u1 and KSParams::su2: the record of g² in the mode is told. They write no list.
unfoldable pub coupling_call : Float → KSParams → Call KSParams NoneLent
coupling_call g² own = record { tests = coupling_tests g²; value = own; before = none_lent; after = none_lent; known = Unit {0} }

-- a record whose g² is in its range and whose factors are those of its g²
unfoldable pub params_right : KSParams → KSParams → Bool
params_right p own = coupling_right p.g_squared && (eq p.electric own.electric && eq p.magnetic own.magnetic)

unfoldable pub u1_right : KSParams → Bool
u1_right p = params_right p (u1_params p.g_squared)

unfoldable pub su2_right : KSParams → Bool
su2_right p = params_right p (su2_params p.g_squared)
