-- The number of entries of the row lists is small.
use Prim.Native.Nat.{ℕ, ◌+◌, ◌*◌, ◌^◌, ◌<◌, ◌≤◌}
use mathlib.Core.Path.{◌≡◌}
use native.Mathlib.Nat.{mul-le-mul}
use native.Mathlib.Omega.{arith}
use lib.Ieee.{Float}
use lib.ListN.{length}
use Rattle.complex.specs.declared.SimplicialComplex.{SimplicialComplex}
use Rattle.complex.specs.Complex.{Complex, complex_of}
use Rattle.complex.specs.Judge.{refusal}
use Rattle.complex.proofs.Accepting.{accepted}
use Rattle.matrices.specs.declared.coupling.KSParams.{KSParams}
use Rattle.su2_even_sets.specs.EvenSets.{su2_states}
use Rattle.su2_rows.specs.Rows.{su2_entries, RowsKnown}
use Rattle.su2_entries.specs.Entries.{entries_number, EntriesKnown}

-- 257 for each of at most 2^20 states
product_small : (t n : ℕ) → t ≤ 256 → n ≤ 1048576 → (t + 1) * n ≤ 257 * 1048576
product_small t n few most = let one_more : t + 1 ≤ 257 = omega arith in mul-le-mul one_more most

pub number_small : {c : Complex} → EntriesKnown c → entries_number c < 2 ^ 31
unfolding entries_number
number_small {c} h = omega (arith, product_small (length c.triangles) (length (su2_states c)) h.few_triangles h.few)

-- of an accepted record
pub entries_small : (r : SimplicialComplex) → refusal (complex_of r) ≡ 0 → {p : KSParams} {w : ℕ → Float} → RowsKnown (complex_of r) p w → su2_entries (complex_of r) p w < 2 ^ 31
entries_small r good {p} {w} h =
    let count = h.count in
    omega (arith, product_small (length (complex_of r).triangles) (length (su2_states (complex_of r))) ((accepted r).0 good).few_triangles h.few)
