-- How far bytes were moved by a stream.
use Prim.{Unit}
use Rattle.std.specs.Prelude.{ℕ, ◌<◌, ◌≤◌, List, Option, Result, Ok, Err, length, take}
use Rattle.std.specs.Io.KnownBytes.{Consumes, IsAtEnd}

-- what was read stands in the list
abbrev pub InputFits : {E : Type 0} → ℕ → Result ℕ E → Type 0
InputFits room (Ok n) = n ≤ room
InputFits room (Err why) = Unit {0}

-- Of a reader whose bytes are known, before and after: what was read are its next bytes, in their order, and it has none left where the list is not
-- full. Where reading failed, those before the failure stand in the list.
abbrev pub InputTaken : {E : Type 0} → Option (List ℕ) → Option (List ℕ) → List ℕ → Result ℕ E → Type 0
InputTaken old new list (Ok n) = Consumes old new (take n list) × (n < length list → IsAtEnd new)
InputTaken old new list (Err why) = (n : ℕ) × (n ≤ length list) × Consumes old new (take n list)
