-- The law and the states of a sheet, held against what was recorded.
use Rattle.std.specs.Prelude.{ℕ, List, Bool, ℤ}
use Rattle.exports.specs.Exports.{on_sheet, none_found}
use Rattle.law_check.specs.Law.{law_call}
use Rattle.enumeration.specs.Enumeration.{enumerated_call, counted_call}
use Rattle.recorded.specs.Bytes.{holds_i32s}
use Rattle.recorded.specs.Answers.{tells, agrees}
use Rattle.u1_recorded.specs.Room.{states_room}

-- check_gauss_law
unfoldable pub law_agrees : List ℕ → List ℤ → ℤ → Bool
law_agrees sheet s told = tells (on_sheet sheet (λ c L. none_found (law_call c s))) told

-- enumerate_gauge_invariant
unfoldable pub enumerated_agrees : List ℕ → ℤ → List ℕ → Bool
enumerated_agrees sheet told states = agrees (on_sheet sheet (λ c L. enumerated_call c L states_room)) told (λ l. holds_i32s l states)

-- count_states
unfoldable pub counted_agrees : List ℕ → ℤ → Bool
counted_agrees sheet told = tells (on_sheet sheet (λ c L. counted_call c L)) told
