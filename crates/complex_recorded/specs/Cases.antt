-- When a case of complexes, trees, loops or row lists agrees: the call of its kind, on what its fields hold, tells the recorded number and leaves the
-- recorded lists.
use Rattle.std.specs.Prelude.{Bool, [], ◌∷◌}
use Rattle.recorded.specs.Bytes.{u32s}
use Rattle.recorded_fields.specs.Layout.{Case}
use Rattle.recorded_fields.specs.Inputs.{sheet_of, number_of, pentachora_of, weights_of, vector_of, told_of}
use Rattle.recorded_fields.specs.Choosing.{chosen}
use Rattle.complex_recorded.specs.Agreement.{pentachora_agrees, indices_agrees, tree_agrees, loops_agrees, su2_loops_agrees, matvec_agrees}

-- complexes, trees and loops
unfoldable pub complexes_agreed : Case → Bool
complexes_agreed c =
    chosen c.kind
    ((1, pentachora_agrees (number_of c 0) (pentachora_of c) (told_of c) (c.field 11) (c.field 12) (c.field 13))
    ∷ (2, indices_agrees (sheet_of c) (number_of c 0) (told_of c) (c.field 11))
    ∷ (3, tree_agrees (sheet_of c) (told_of c) (c.field 11) (c.field 12))
    ∷ (4, loops_agrees (sheet_of c) (told_of c) (c.field 12) (c.field 11) (c.field 13))
    ∷ (5, su2_loops_agrees (sheet_of c) (told_of c) (c.field 12) (c.field 11))
    ∷ [])

-- row lists: the starts and columns that go in stand in fields 11 and 12, the values where weights stand
unfoldable pub rows_agreed : Case → Bool
rows_agreed c = matvec_agrees (u32s (c.field 11)) (u32s (c.field 12)) (weights_of c) (vector_of c) (told_of c) (c.field 14)
