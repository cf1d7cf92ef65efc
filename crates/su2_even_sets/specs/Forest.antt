-- The tables in which the code keeps a growth, and what it asks of them.
use Rattle.std.specs.Prelude.{ℕ, ◌+◌, ◌<◌, ◌≤◌, List, cond, ◌≡◌, ◌≢◌, eqb, get_or, length, take}
use Rattle.std.specs.Int.Bits.{bit_xor}
use Rattle.su2_even_sets.specs.declared.Forest.{Forest}
use Rattle.complex.specs.Complex.{Simplex}
use Rattle.su2_even_sets.specs.Loops.{Growth, grow}

-- a table of 64 entries, the first n of them f 0, f 1, ..
pub record Mapped (f : ℕ → ℕ) (n : ℕ) (table : List ℕ) : Type 0 where
  pub long : length table ≡ 64
  pub entries : (v : ℕ) → v < n → get_or table v 0 ≡ f v

-- a list of 63 entries that begins with l
pub record Front (l list : List ℕ) (n : ℕ) : Type 0 where
  pub long : length list ≡ 63
  pub count : n ≡ length l
  pub few : n ≤ 63
  pub stands : take n list ≡ l

-- the tables of a growth
pub record Keeps (g : Growth) (f : Forest) : Type 0 where
  pub part : Mapped g.part 64 f.part
  pub path : Mapped g.path 64 f.path
  pub closing : Front g.closing f.closing f.count
  pub loops : Front g.loops f.loops f.count

-- the record of the tables and the number of closing edges
abbrev pub forest_of : List ℕ → List ℕ → List ℕ → List ℕ → ℕ → Forest
forest_of part path closing loops count = record { part = part; path = path; count = count; closing = closing; loops = loops }

-- the sizes of the tables
pub record Sized (f : Forest) : Type 0 where
  pub part : length f.part ≡ 64
  pub path : length f.path ≡ 64
  pub closing : length f.closing ≡ 63
  pub loops : length f.loops ≡ 63

-- a table whose first n entries are now f 0, f 1, .., the others as before
pub record Changed (f : ℕ → ℕ) (n : ℕ) (old new : List ℕ) : Type 0 where
  pub front : Mapped f n new
  pub rest : (v : ℕ) → n ≤ v → get_or new v 0 ≡ get_or old v 0

-- one part goes over into another, among the first n vertices
pub record Joined (part path : List ℕ) (from to cycle n : ℕ) (new_part new_path : List ℕ) : Type 0 where
  pub parts : Changed (λ v. cond (eqb (get_or part v 0) from) to (get_or part v 0)) n part new_part
  pub paths : Changed (λ v. cond (eqb (get_or part v 0) from) (bit_xor (get_or path v 0) cycle) (get_or path v 0)) n path new_path

-- no vertex from n on is in a part of the first n
pub record Within (n : ℕ) (g : Growth) : Type 0 where
  pub apart : (u v : ℕ) → u < n → n ≤ v → g.part u ≢ g.part v

-- one edge more among the first n vertices, whatever growth the tables are of
pub record Grows (n : ℕ) (f : Forest) (s : Simplex) (e : ℕ) (r : Forest) : Type 0 where
  pub keeps : (g : Growth) → Keeps g f → Within n g → Keeps (grow g s e) r
  pub few : r.count ≤ f.count + 1
