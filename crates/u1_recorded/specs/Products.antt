-- The product with a vector and the expectations in a state, held against what was recorded.
use Rattle.std.specs.Prelude.{ℕ, List, [], ◌∷◌, Bool, ◌&&◌, ℤ, Float}
use Rattle.std.specs.Float.{binary64}
use Rattle.std.specs.Float.Ieee.{of_bits}
use Rattle.exports.specs.Exports.{on_sheet, value_lent}
use Rattle.matrices.specs.declared.coupling.KSParams.{KSParams}
use Rattle.lanczos.specs.Matvec.{u1_product_call}
use Rattle.electric.specs.Electric.{electric_call}
use Rattle.wilson.specs.Wilson.{wilson_call}
use Rattle.recorded.specs.Bytes.{holds_i32s, holds_floats}
use Rattle.recorded.specs.Answers.{agrees}
use Rattle.u1_recorded.specs.Room.{states_room, result_room}

-- hamiltonian_matvec: the states, and the product
unfoldable pub product_agrees : List ℕ → KSParams → Bool → List Float → List Float → ℤ → List ℕ → List ℕ → Bool
product_agrees sheet p given weights v told states values =
    agrees (on_sheet sheet (λ c L. u1_product_call c L p given weights v states_room result_room)) told
    (λ l. holds_i32s l.0 states && holds_floats l.1 values)

-- electric_field_sq: the states, and the square on each edge
unfoldable pub electric_agrees : List ℕ → List Float → ℤ → List ℕ → List ℕ → Bool
electric_agrees sheet a told states values =
    agrees (on_sheet sheet (λ c L. electric_call c L a states_room result_room)) told
    (λ l. holds_i32s l.0 states && holds_floats l.1 values)

-- wilson_loop: the states, and the expectation
unfoldable pub wilson_agrees : List ℕ → List Float → List ℕ → List ℤ → ℤ → List ℕ → List ℕ → Bool
wilson_agrees sheet a edges directions told states values =
    agrees (on_sheet sheet (λ c L. value_lent (wilson_call c L a edges directions states_room) (of_bits binary64 0))) told
    (λ l. holds_i32s l.0 states && holds_floats (l.1 ∷ []) values)
