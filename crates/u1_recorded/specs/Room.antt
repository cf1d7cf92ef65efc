-- What is lent to the calls: zeros, at least as many as a recorded answer has entries.
use Rattle.std.specs.Prelude.{List, ℕ, ℤ, pos, Float, replicate}
use Rattle.std.specs.Float.{binary64}
use Rattle.std.specs.Float.Ieee.{of_bits}

-- for states
abbrev pub states_room : List ℤ
states_room = replicate 2048 (pos 0)

-- for one configuration
abbrev pub shifted_room : List ℤ
shifted_room = replicate 63 (pos 0)

-- for where the rows start
abbrev pub starts_room : List ℕ
starts_room = replicate 128 0

-- for the columns of the entries
abbrev pub columns_room : List ℕ
columns_room = replicate 1024 0

-- for the entries of a matrix
abbrev pub entries_room : List Float
entries_room = replicate 1024 (of_bits binary64 0)

-- for a product, and for the squares on the edges
abbrev pub result_room : List Float
result_room = replicate 256 (of_bits binary64 0)
