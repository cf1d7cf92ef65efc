-- When a case of U(1) agrees: the call of its kind, on what its fields hold, tells the recorded number and leaves the recorded lists.
use Rattle.std.specs.Prelude.{Bool, [], ◌∷◌}
use Rattle.recorded_fields.specs.Layout.{Case}
use Rattle.recorded_fields.specs.Inputs.{sheet_of, number_of, configuration_of, delta_of, path_of, directions_of, coupling_of, given_of, weights_of, vector_of, told_of}
use Rattle.recorded_fields.specs.Choosing.{chosen}
use Rattle.u1_recorded.specs.States.{law_agrees, enumerated_agrees, counted_agrees}
use Rattle.u1_recorded.specs.Places.{index_agrees, shift_agrees, triangle_agrees}
use Rattle.u1_recorded.specs.Matrix.{dense_agrees, csr_agrees, entries_agrees}
use Rattle.u1_recorded.specs.Products.{product_agrees, electric_agrees, wilson_agrees}

-- states of U(1) and their places
unfoldable pub states_agreed : Case → Bool
states_agreed c =
    chosen c.kind
    ((6, law_agrees (sheet_of c) (configuration_of c) (told_of c))
    ∷ (7, enumerated_agrees (sheet_of c) (told_of c) (c.field 11))
    ∷ (8, counted_agrees (sheet_of c) (told_of c))
    ∷ (9, index_agrees (sheet_of c) (configuration_of c) (told_of c) (c.field 11))
    ∷ (10, shift_agrees (sheet_of c) (configuration_of c) (number_of c 0) (delta_of c) (told_of c) (c.field 11) (c.field 12))
    ∷ (11, triangle_agrees (sheet_of c) (number_of c 0) (number_of c 1) (told_of c) (c.field 11))
    ∷ [])

-- matrices, products and expectations of U(1)
unfoldable pub matrices_agreed : Case → Bool
matrices_agreed c =
    chosen c.kind
    ((12, dense_agrees (sheet_of c) (coupling_of c) (given_of c) (weights_of c) (told_of c) (c.field 11) (c.field 14))
    ∷ (13, csr_agrees (sheet_of c) (coupling_of c) (given_of c) (weights_of c) (told_of c) (c.field 11) (c.field 12) (c.field 13) (c.field 14))
    ∷ (14, entries_agrees (sheet_of c) (told_of c))
    ∷ (15, product_agrees (sheet_of c) (coupling_of c) (given_of c) (weights_of c) (vector_of c) (told_of c) (c.field 11) (c.field 14))
    ∷ (16, electric_agrees (sheet_of c) (vector_of c) (told_of c) (c.field 11) (c.field 14))
    ∷ (17, wilson_agrees (sheet_of c) (vector_of c) (path_of c) (directions_of c) (told_of c) (c.field 11) (c.field 14))
    ∷ [])
