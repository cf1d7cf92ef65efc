-- The check of Gauss's law: the lowest vertex that breaks it, the answer, and the steps of the code.
use Rattle.std.specs.Prelude.{ℕ, ◌^◌, ◌<◌, ◌≤◌, List, [], ◌∷◌, ◌++◌, Bool, Option, Some, ◌≡◌, ◌≢◌, ℤ, pos, ◌+ℤ◌, ◌-ℤ◌, nat_abs, get_or, length, set, is_none}
use Rattle.std.specs.Option.{option_map}
use Rattle.mathematics.specs.Integers.{equal}
use Rattle.mathematics.specs.Tests.{lowest_failing}
use Rattle.mathematics.specs.Calls.{Call, NoneLent, none_lent}
use Rattle.complex.specs.Complex.{Simplex, Complex, start, end}
use Rattle.complex.specs.Judge.{complex_tests, length_test}
use Rattle.answers.specs.declared.finding.Unlawful.{Unlawful}
use Rattle.gauss_law.specs.Gauss.{gauss, lawful}

-- the lowest vertex below n whose sum is not its charge, with the sum minus the charge
unfoldable pub lowest_broken : (ℕ → ℤ) → (ℕ → ℤ) → ℕ → Option Unlawful
lowest_broken sum q n =
    option_map (λ v. record { vertex = v; excess = sum v -ℤ q v }) (lowest_failing (λ v. equal (sum v) (q v)) n)

-- the lowest vertex at which the law does not hold
unfoldable pub unlawful : Complex → (ℕ → ℤ) → List ℤ → Option Unlawful
unlawful c q s = lowest_broken (gauss c.edges s) q c.vertices

-- what is said of a vertex that breaks the law: what its sum has more than its charge, and that the law holds at all lower vertices
pub record Breaks (c : Complex) (q : ℕ → ℤ) (s : List ℤ) (f : Unlawful) : Type 0 where
  pub below : f.vertex < c.vertices
  pub told : f.excess ≡ gauss c.edges s f.vertex -ℤ q f.vertex
  pub wrong : f.excess ≢ pos 0
  pub lower : (v : ℕ) → v < f.vertex → gauss c.edges s v ≡ q v

-- what the check is worth: nothing is found exactly where the law holds, and what is found is the lowest
pub record LawKnown (c : Complex) (q : ℕ → ℤ) (s : List ℤ) : Type 0 where
  pub lawful : is_none (unlawful c q s) ≡ lawful c q s
  pub lowest : (f : Unlawful) → unlawful c q s ≡ Some f → Breaks c q s f

-- 4, 7 to 9, then 12 for a configuration of n values
abbrev pub law_tests : Complex → ℕ → List (ℕ × Bool)
law_tests c n =
    complex_tests c ++ (length_test c n ∷ [])

-- check_gauss_law: the lowest vertex that breaks the law is told, or that there is none. It writes no list.
unfoldable pub law_call : Complex → List ℤ → Call (Option Unlawful) NoneLent
law_call c s =
    record { tests = law_tests c (length s); value = unlawful c c.charges s; before = none_lent; after = none_lent; known = LawKnown c c.charges s }

-- ---- the steps of the code
-- the sums with one value more, on edge e, whose ends differ
unfoldable pub sums_with : Simplex → ℤ → List ℤ → List ℤ
sums_with e x sums = set (set sums (start e) (get_or sums (start e) (pos 0) -ℤ x)) (end e) (get_or sums (end e) (pos 0) +ℤ x)

-- both ends are below 64, and their sums are far enough from the ends of the range
pub record EdgeAddable (sums : List ℤ) (e : Simplex) : Type 0 where
  pub start_below : start e < 64
  pub end_below : end e < 64
  pub start_small : nat_abs (get_or sums (start e) (pos 0)) ≤ 2 ^ 62
  pub end_small : nat_abs (get_or sums (end e) (pos 0)) ≤ 2 ^ 62

-- the sums of the values on the edges at all of 64 vertices
pub record Summed (es : List Simplex) (s sums : List ℤ) : Type 0 where
  pub long : length sums ≡ 64
  pub sum : (v : ℕ) → v < 64 → get_or sums v (pos 0) ≡ gauss es s v
