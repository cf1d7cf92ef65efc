-- What apply_shift tells, and what its lists then hold.
use Rattle.std.specs.Prelude.{ℕ, List, [], ◌∷◌, ◌++◌, Bool, not, ◌||◌, ◌≡◌, ◌≢◌, leb, ltb, ℤ, length}
use Rattle.mathematics.specs.Writing.{front}
use Rattle.mathematics.specs.Calls.{Call}
use Rattle.complex.specs.Complex.{Complex}
use Rattle.gauss_law.specs.Shifts.{raised, shifted}
use Rattle.complex.specs.Judge.{length_test}
use Rattle.enumeration.specs.Enumeration.{basis_tests, short, basis_first}
use Rattle.answers.specs.declared.finding.Finding.{Finding}
use Rattle.answers.specs.declared.finding.Finding.TheVariants.{OutsideBand}
use Rattle.hilbert.specs.Basis.{in_basis, place, PlaceKnown, Unlisted}
use Rattle.gauss_law.specs.Gauss.{within}

-- 4, 5, 7 to 10, then 12, 13 for a number that is no edge's, 15 for a list that has too few entries for the basis or for the configuration,
-- 16 where the edge's value leaves -L to L, and 17
abbrev pub shift_tests : Complex → ℕ → List ℤ → ℕ → ℤ → ℕ → ℕ → List (ℕ × Bool)
shift_tests c L s e delta work-room result_room =
    basis_tests c L
    ++ (length_test c (length s)
    ∷ (13, leb (length c.edges) e)
    ∷ (15, short c L work-room || ltb result_room (length c.edges))
    ∷ (16, not (within L (raised s e delta)))
    ∷ (17, not (in_basis c L (shifted s e delta)))
    ∷ [])

-- apply_shift: the place of the shifted configuration is told, and the two lists begin with the basis and with the shifted configuration.
unfoldable pub shift_call : Complex → ℕ → List ℤ → ℕ → ℤ → List ℤ → List ℤ → Call ℕ (List ℤ × List ℤ)
shift_call c L s e delta work result =
    record {
      tests = shift_tests c L s e delta (length work) (length result);
      value = place c L (shifted s e delta);
      before = (work, result);
      after = (basis_first c L work, front (shifted s e delta) result);
      known = PlaceKnown c L (shifted s e delta);
    }

-- what is known of a finding: it is about the shifted configuration, and the edge that it tells is not the shifted one, which 16 has judged
pub record ShiftUnlisted (c : Complex) (L : ℕ) (s : List ℤ) (e : ℕ) (delta : ℤ) (f : Finding) : Type 0 where
  pub shifted : Unlisted c L (shifted s e delta) f
  pub other : (d : ℕ) → f ≡ OutsideBand d → d ≢ e
