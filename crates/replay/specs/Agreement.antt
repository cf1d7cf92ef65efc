-- When a case agrees, by the group of calls that its kind is of.
use Rattle.std.specs.Prelude.{Bool, cond, leb, eqb}
use Rattle.recorded_fields.specs.Layout.{Case}
use Rattle.complex_recorded.specs.Cases.{complexes_agreed, rows_agreed}
use Rattle.u1_recorded.specs.Cases.{states_agreed, matrices_agreed}
use Rattle.su2_recorded.specs.Cases.{z2_agreed}

-- kinds 1 to 5, 6 to 11, 12 to 17, 25, and all others: 18 to 24 and 26
unfoldable pub agreed : Case → Bool
agreed c =
    cond (leb c.kind 5) (complexes_agreed c)
    (cond (leb c.kind 11) (states_agreed c)
    (cond (leb c.kind 17) (matrices_agreed c)
    (cond (eqb c.kind 25) (rows_agreed c)
    (z2_agreed c))))
