-- The Hamiltonian of a sheet, held against what was recorded.
use Rattle.std.specs.Prelude.{ℕ, List, Bool, ◌&&◌, ℤ, Float}
use Rattle.exports.specs.Exports.{on_sheet}
use Rattle.matrices.specs.declared.coupling.KSParams.{KSParams}
use Rattle.hamiltonian.specs.Dense.{u1_dense_call}
use Rattle.csr.specs.Csr.{csr_call}
use Rattle.entries.specs.Entries.{entries_call}
use Rattle.recorded.specs.Bytes.{holds_i32s, holds_u32s, holds_floats}
use Rattle.recorded.specs.Answers.{tells, agrees}
use Rattle.u1_recorded.specs.Room.{states_room, starts_room, columns_room, entries_room}

-- build_hamiltonian: the states, and the entries row by row
unfoldable pub dense_agrees : List ℕ → KSParams → Bool → List Float → ℤ → List ℕ → List ℕ → Bool
dense_agrees sheet p given weights told states values =
    agrees (on_sheet sheet (λ c L. u1_dense_call c L p given weights states_room entries_room)) told
    (λ l. holds_i32s l.0 states && holds_floats l.1 values)

-- build_csr: the states and the row lists
unfoldable pub csr_agrees : List ℕ → KSParams → Bool → List Float → ℤ → List ℕ → List ℕ → List ℕ → List ℕ → Bool
csr_agrees sheet p given weights told states starts columns values =
    agrees (on_sheet sheet (λ c L. csr_call c L p given weights states_room starts_room columns_room entries_room)) told
    (λ l. holds_i32s l.0 states && (holds_u32s l.1 starts && (holds_u32s l.2 columns && holds_floats l.3 values)))

-- count_entries
unfoldable pub entries_agrees : List ℕ → ℤ → Bool
entries_agrees sheet told = tells (on_sheet sheet (λ c L. entries_call c L)) told
