-- Places of configurations and of shifted states, held against what was recorded.
use Rattle.std.specs.Prelude.{ℕ, List, Bool, ◌&&◌, ℤ}
use Rattle.exports.specs.Exports.{on_sheet}
use Rattle.hilbert.specs.Index.{index_call}
use Rattle.shifts.specs.Shift.{shift_call}
use Rattle.plaquettes.specs.Triangle.{triangle_call}
use Rattle.recorded.specs.Bytes.{holds_i32s}
use Rattle.recorded.specs.Answers.{agrees}
use Rattle.u1_recorded.specs.Room.{states_room, shifted_room}

-- config_to_index
unfoldable pub index_agrees : List ℕ → List ℤ → ℤ → List ℕ → Bool
index_agrees sheet s told states = agrees (on_sheet sheet (λ c L. index_call c L s states_room)) told (λ l. holds_i32s l states)

-- apply_shift: the states, and the shifted configuration
unfoldable pub shift_agrees : List ℕ → List ℤ → ℕ → ℤ → ℤ → List ℕ → List ℕ → Bool
shift_agrees sheet s edge delta told states shifted =
    agrees (on_sheet sheet (λ c L. shift_call c L s edge delta states_room shifted_room)) told
    (λ l. holds_i32s l.0 states && holds_i32s l.1 shifted)

-- apply_triangle_shift
unfoldable pub triangle_agrees : List ℕ → ℕ → ℕ → ℤ → List ℕ → Bool
triangle_agrees sheet triangle state told states =
    agrees (on_sheet sheet (λ c L. triangle_call c L triangle state states_room)) told (λ l. holds_i32s l states)
