-- The number of entries of the row lists is small.
use Prim.Native.Nat.{ℕ, ◌*◌, ◌<◌, ◌≤◌, ◌^◌}
use mathlib.Core.Path.{◌≡◌}
use native.Mathlib.Nat.{mul-le-mul_left}
use native.Mathlib.Omega.{arith}
use lib.Ieee.{Float}
use lib.ListN.{length}
use Rattle.complex.specs.declared.SimplicialComplex.{SimplicialComplex}
use Rattle.complex.specs.Complex.{Complex, complex_of}
use Rattle.complex.specs.Judge.{refusal}
use Rattle.complex.proofs.Accepting.{accepted}
use Rattle.gauss_law.specs.Listing.{states}
use Rattle.matrices.specs.declared.coupling.KSParams.{KSParams}
use Rattle.entries.specs.Rows.{csr_entries}
use Rattle.entries.specs.Entries.{entries_number, EntriesKnown}
use Rattle.entries.proofs.EntryNumbers.{entries_few}
use Rattle.csr.specs.Csr.{RowsKnown}

pub entries_small : {c : Complex} {L : ℕ} → EntriesKnown c L → entries_number c L < 2 ^ 31
entries_small h = let few = h.few in omega arith

-- of an accepted record
pub rows_small : (r : SimplicialComplex) → refusal (complex_of r) ≡ 0 → (L : ℕ) (p : KSParams) (w : ℕ → Float) → RowsKnown (complex_of r) L → csr_entries (complex_of r) L p w < 2 ^ 31
rows_small r good L p w known =
    let most : 513 * length (states (complex_of r) L) ≤ 513 * 1048576 = mul-le-mul_left 513 known.few in
    omega (arith, entries_few (complex_of r) ((accepted r).0 good) L p w)
