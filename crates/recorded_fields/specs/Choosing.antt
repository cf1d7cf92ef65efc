-- A test chosen by the kind of a case.
use Rattle.std.specs.Prelude.{ℕ, Bool, false, cond, List, [], ◌∷◌, eqb}

-- the test that stands beside a number in a table; no where there is none
unfoldable pub chosen : ℕ → List (ℕ × Bool) → Bool
chosen n [] = false
chosen n (t ∷ l) = cond (eqb n t.0) t.1 (chosen n l)
