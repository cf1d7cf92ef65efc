-- When a case of the two-valued mode agrees: the call of its kind, on what its fields hold, tells the recorded number and leaves the recorded lists.
use Rattle.std.specs.Prelude.{Bool, [], ◌∷◌}
use Rattle.recorded_fields.specs.Layout.{Case}
use Rattle.recorded_fields.specs.Inputs.{sheet_of, path_of, coupling_of, given_of, weights_of, vector_of, told_of}
use Rattle.recorded_fields.specs.Choosing.{chosen}
use Rattle.su2_recorded.specs.Agreement.{su2_basis_agrees, su2_counted_agrees, su2_dense_agrees, su2_rows_agrees, su2_entries_agrees, su2_product_agrees, su2_loop_agrees, su2_passes_agrees}

-- the two-valued mode
unfoldable pub z2_agreed : Case → Bool
z2_agreed c =
    chosen c.kind
    ((18, su2_basis_agrees (sheet_of c) (told_of c) (c.field 11))
    ∷ (19, su2_counted_agrees (sheet_of c) (told_of c))
    ∷ (20, su2_dense_agrees (sheet_of c) (coupling_of c) (given_of c) (weights_of c) (told_of c) (c.field 11) (c.field 14))
    ∷ (21, su2_rows_agrees (sheet_of c) (coupling_of c) (given_of c) (weights_of c) (told_of c) (c.field 11) (c.field 12) (c.field 13) (c.field 14))
    ∷ (22, su2_entries_agrees (sheet_of c) (told_of c))
    ∷ (23, su2_product_agrees (sheet_of c) (coupling_of c) (given_of c) (weights_of c) (vector_of c) (told_of c) (c.field 11) (c.field 14))
    ∷ (24, su2_loop_agrees (sheet_of c) (vector_of c) (path_of c) (told_of c) (c.field 11) (c.field 14))
    ∷ (26, su2_passes_agrees (sheet_of c) (vector_of c) (path_of c) (told_of c) (c.field 11) (c.field 14))
    ∷ [])
