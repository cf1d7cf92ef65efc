-- How many entries the row lists have, whatever the coupling and the weights are.
use Rattle.std.specs.Prelude.{ℕ, ◌+◌, ◌-◌, ◌*◌, ◌≤◌, true, ◌≡◌, Float, length}
use Rattle.mathematics.specs.Calls.{Call, NoneLent, none_lent}
use Rattle.complex.specs.Complex.{Complex}
use Rattle.matrices.specs.declared.coupling.KSParams.{KSParams}
use Rattle.matrices.specs.Coupling.{su2_right}
use Rattle.gauss_law.specs.Listing.{limit}
use Rattle.su2_even_sets.specs.EvenSets.{su2_states}
use Rattle.su2_masks.specs.Basis.{su2_tests}
use Rattle.su2_rows.specs.Rows.{su2_entries}

-- one for each state and triangle, and one for each state on the diagonal, all but the first, which has no edge
unfoldable pub entries_number : Complex → ℕ
entries_number c = (length c.triangles + 1) * length (su2_states c) - 1

-- what is known where they are counted: there are at most 256 triangles and not more states than the limit, and build_csr_su2 tells the same
-- number, with any coupling in its range and any weights
pub record EntriesKnown (c : Complex) : Type 0 where
  pub few_triangles : length c.triangles ≤ 256
  pub few : length (su2_states c) ≤ limit
  pub every : (p : KSParams) (w : ℕ → Float) → su2_right p ≡ true → su2_entries c p w ≡ entries_number c

-- su2_count_entries: their number is told, without a list.
unfoldable pub su2_entries_call : Complex → Call ℕ NoneLent
su2_entries_call c =
    record {
      tests = su2_tests c;
      value = entries_number c;
      before = none_lent;
      after = none_lent;
      known = EntriesKnown c;
    }
