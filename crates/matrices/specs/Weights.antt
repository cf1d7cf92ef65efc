-- The weights of the triangles: given, or 1 everywhere.
use Rattle.std.specs.Prelude.{ℕ, ◌^◌, List, [], ◌∷◌, Bool, true, false, Option, Some, None, not, ◌&&◌, ◌||◌, cond, ◌≡◌, eqb, Float, get_or, length}
use Rattle.std.specs.Borrow.{Bor}
use Rattle.std.specs.Float.{nan}
use Rattle.std.specs.Float.Ieee.{neg, le}
use Rattle.mathematics.specs.Tests.{every_entry}
use Rattle.matrices.specs.Coupling.{float_of}

-- from -limit to limit; nothing that is not a number passes
abbrev pub within : Float → Float → Bool
within limit x = le (neg limit) x && le x limit

-- from -2^32 to 2^32
unfoldable pub bounded : Float → Bool
bounded x = within (float_of (2 ^ 32)) x

-- the weight of triangle t, 1 where no weights are given
unfoldable pub weight : Bool → List Float → ℕ → Float
weight given weights t = cond given (get_or weights t nan) (float_of 1)

-- 12 where weights are given and are not one for each of n triangles, 14 where the coupling is not right or a given weight is out of its range
unfoldable pub weights_tests : ℕ → Bool → Bool → List Float → List (ℕ × Bool)
weights_tests n coupling-ok given weights = (12, given && not (eqb (length weights) n)) ∷ (14, not coupling-ok || (given && not (every_entry bounded weights))) ∷ []

-- the same where a vector is given too: 12 also where the amplitudes are not one for each of n states, 14 also where one is out of its range
unfoldable pub vector_tests : ℕ → List Float → ℕ → Bool → Bool → List Float → List (ℕ × Bool)
vector_tests n vector triangles coupling-ok given weights =
    (12, (given && not (eqb (length weights) triangles)) || not (eqb (length vector) n))
    ∷ (14, (not coupling-ok || (given && not (every_entry bounded weights))) || not (every_entry bounded vector))
    ∷ []

-- ---- as the code keeps it
-- weights that were judged: one for each of n triangles where they are given
pub record Weighed (n : ℕ) (given : Bool) (weights : List Float) : Type 0 where
  pub one_each : given ≡ true → length weights ≡ n

-- ---- weights that are lent as an option
abbrev pub is_given : Option (Bor (List Float)) → Bool
is_given (Some _) = true
is_given None = false

-- the list, where weights are given
abbrev pub given_list : Option (Bor (List Float)) → List Float
given_list (Some l) = l.now
given_list None = []
