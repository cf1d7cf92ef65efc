-- What tri_edge_indices tells, and how the code finds it.
use Prim.{Unit}
use Rattle.std.specs.Prelude.{ℕ, ◌+◌, ◌-◌, ◌*◌, ◌≤◌, ◌<◌, List, [], ◌∷◌, ◌++◌, Bool, ◌≡◌, get_or, length, set, leb, Result, Ok, Err}
use Rattle.mathematics.specs.Refusals.{Outcome, value, refused}
use Rattle.answers.specs.Refusal.{refusal_number}
use Rattle.answers.specs.declared.refusal.Refusal.{Refusal}
use Rattle.mathematics.specs.Calls.{Call, NoneLent, none_lent}
use Rattle.triangles.specs.declared.Sides.{Sides}
use Rattle.complex.specs.Complex.{Simplex, Complex, start, end, entries}
use Rattle.complex.specs.Judge.{complex_tests}
use Rattle.complex.specs.Sides.{sides}

-- what an answer says
abbrev pub indices_answer : Result Sides Refusal → Outcome (List ℕ)
indices_answer (Ok s) = value (s.first ∷ s.second ∷ s.third ∷ [])
indices_answer (Err r) = refused (refusal_number r)

-- 4, 7 to 9, then 13 for a number that is no triangle's
abbrev pub indices_tests : Complex → ℕ → List (ℕ × Bool)
indices_tests c t =
    complex_tests c ++ ((13, leb (length c.triangles) t) ∷ [])

-- tri_edge_indices: the numbers of the triangle's three edges are told. It writes no list.
unfoldable pub indices_call : Complex → ℕ → Call (List ℕ) NoneLent
indices_call c t = record { tests = indices_tests c t; value = sides c t; before = none_lent; after = none_lent; known = Unit {0} }

-- ---- as the code keeps it
-- the three edges of triangle t
pub record SidesOf (c : Complex) (t : ℕ) (s : Sides) : Type 0 where
  pub number : t < length c.triangles
  pub are : sides c t ≡ s.first ∷ s.second ∷ s.third ∷ []

-- a list of the edges of all triangles, three entries for each
pub record AllSides (c : Complex) (all : List ℕ) : Type 0 where
  pub are : (t : ℕ) → t < length c.triangles → sides c t ≡ entries all (3 * t) 3

-- a list with three edges at the places of triangle t
abbrev pub with_sides : List ℕ → ℕ → Sides → List ℕ
with_sides all t s = set (set (set all (3 * t) s.first) (3 * t + 1) s.second) (3 * t + 2) s.third

-- the vertices of a triangle are below 64, and the table has a number for each of its edges
pub record Sided (table : List ℕ) (s : Simplex) : Type 0 where
  pub a_small : start s < 64
  pub b_small : end s < 64
  pub c_small : get_or s 2 0 < 64
  pub ab : 1 ≤ get_or table (64 * start s + end s) 0
  pub ac : 1 ≤ get_or table (64 * start s + get_or s 2 0) 0
  pub bc : 1 ≤ get_or table (64 * end s + get_or s 2 0) 0

unfoldable pub sides_in : List ℕ → Simplex → Sides
sides_in table s =
    record {
      first = get_or table (64 * start s + end s) 0 - 1;
      second = get_or table (64 * start s + get_or s 2 0) 0 - 1;
      third = get_or table (64 * end s + get_or s 2 0) 0 - 1;
    }
