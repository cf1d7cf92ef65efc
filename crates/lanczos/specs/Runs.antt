-- Runs of states, as the code keeps them.
use Rattle.std.specs.Prelude.{ℕ, ◌-◌, ◌<◌, ◌≤◌, List, ◌≡◌, ◌≢◌, ℤ, pos, negsuc, nat_abs, ◌+ℤ◌, ◌*ℤ◌, neg_ℤ, get_or, length}
use Rattle.complex.specs.Complex.{Complex}
use Rattle.gauss_law.specs.Listing.{free_edges}
use Rattle.cycles.specs.Cycles.{Cycle}
use Rattle.hilbert.specs.Search.{row}
use Rattle.triangles.specs.declared.Sides.{Sides}
use Rattle.plaquettes.specs.declared.target.Sizes.{Sizes}
use Rattle.plaquettes.specs.Pairs.{three, MovableRows, NextStaying}
use Rattle.lanczos.specs.declared.state_runs.Run.{Run}

-- the first entries of a list are edges of a cycle, and all on which it is not 0
pub record Covers (edges : List ℕ) (count : ℕ) (z : List ℤ) : Type 0 where
  pub long : count ≤ length edges
  pub few : count ≤ length z
  pub below : (q : ℕ) → q < count → get_or edges q 0 < length z
  pub all : (e : ℕ) → e < length z → get_or z e (pos 0) ≢ pos 0 → (q : ℕ) × (q < count) × (get_or edges q 0 ≡ e)

-- a sign added to x fewer than r times leaves it within -L to L
pub record Room (L : ℕ) (x sign : ℤ) (most r : ℕ) : Type 0 where
  pub some : 1 ≤ r
  pub limited : r ≤ most
  pub inside : (d : ℕ) → d < r → nat_abs (x +ℤ pos d *ℤ sign) ≤ L

-- a row within -L to L and a cycle on its edges
pub record Banded (L : ℕ) (row z : List ℤ) : Type 0 where
  pub truncation : L ≤ 1000
  pub edges_few : length row ≤ 63
  pub sized : length z ≡ length row
  pub values : (e : ℕ) → nat_abs (get_or row e (pos 0)) ≤ L
  pub signs : (e : ℕ) → nat_abs (get_or z e (pos 0)) ≤ 1

-- a cycle added to a row fewer than r times leaves the listed edges within -L to L
pub record CycleRun (L : ℕ) (row z : List ℤ) (edges : List ℕ) (count most r : ℕ) : Type 0 where
  pub some : 1 ≤ r
  pub limited : r ≤ most
  pub inside : (q : ℕ) → q < count → (d : ℕ) → d < r → nat_abs (get_or row (get_or edges q 0) (pos 0) +ℤ pos d *ℤ get_or z (get_or edges q 0) (pos 0)) ≤ L

-- a cycle added to a row fewer than r times leaves three edges within -L to L, on which a triangle's move by u was made
pub record MoveRun (L : ℕ) (row z : List ℤ) (edges : List ℕ) (u : ℤ) (most r : ℕ) : Type 0 where
  pub some : 1 ≤ r
  pub limited : r ≤ most
  pub first : (d : ℕ) → d < r → nat_abs ((get_or row (get_or edges 0 0) (pos 0) +ℤ u) +ℤ pos d *ℤ get_or z (get_or edges 0 0) (pos 0)) ≤ L
  pub second : (d : ℕ) → d < r → nat_abs ((get_or row (get_or edges 1 0) (pos 0) +ℤ neg_ℤ u) +ℤ pos d *ℤ get_or z (get_or edges 1 0) (pos 0)) ≤ L
  pub third : (d : ℕ) → d < r → nat_abs ((get_or row (get_or edges 2 0) (pos 0) +ℤ u) +ℤ pos d *ℤ get_or z (get_or edges 2 0) (pos 0)) ≤ L

-- a list that begins with rows within the bounds, three edges of a row, and a cycle with its edges
pub record RunRows (list : List ℤ) (s : Sizes) (sides : Sides) (edges : List ℕ) (count : ℕ) (z : List ℤ) : Type 0 where
  pub movable : MovableRows list s sides
  pub values : (k : ℕ) → k < s.states → (e : ℕ) → nat_abs (get_or (row s.edges list k) e (pos 0)) ≤ s.lambda
  pub sized : length z ≡ s.edges
  pub signs : (e : ℕ) → nat_abs (get_or z e (pos 0)) ≤ 1
  pub covers : Covers edges count z

-- from row k on r rows are a run
pub record RunLength (list : List ℤ) (s : Sizes) (sides : Sides) (edges : List ℕ) (count : ℕ) (z : List ℤ) (u : ℤ) (k r : ℕ) : Type 0 where
  pub cycle : CycleRun s.lambda (row s.edges list k) z edges count (s.states - k) r
  pub moves : MoveRun s.lambda (row s.edges list k) z (three sides) u r r

-- the run that is found from state i and target j on
pub record RunGoes (list : List ℤ) (s : Sizes) (sides : Sides) (edges : List ℕ) (count : ℕ) (z : List ℤ) (i j : ℕ) (r : Run) : Type 0 where
  pub next : NextStaying list s sides (pos 1) i r.from
  pub back : NextStaying list s sides (negsuc 0) j r.to
  pub below : r.to < s.states
  pub some : 1 ≤ r.length
  pub forth_run : RunLength list s sides edges count z (pos 1) r.from r.length
  pub back_run : RunLength list s sides edges count z (negsuc 0) r.to r.length

-- no run is left: one of the two rows is missing
pub record RunOver (list : List ℤ) (s : Sizes) (sides : Sides) (i j : ℕ) (r : Run) : Type 0 where
  pub from_is : r.from ≡ s.states
  pub to_is : r.to ≡ s.states
  pub none : r.length ≡ 0
  pub a : ℕ
  pub b : ℕ
  pub next : NextStaying list s sides (pos 1) i a
  pub back : NextStaying list s sides (negsuc 0) j b
  pub missing : a < s.states → s.states ≤ b

pub record RunFound (list : List ℤ) (s : Sizes) (sides : Sides) (edges : List ℕ) (count : ℕ) (z : List ℤ) (i j : ℕ) (r : Run) : Type 0 where
  pub goes : r.from < s.states → RunGoes list s sides edges count z i j r
  pub over : s.states ≤ r.from → RunOver list s sides i j r

-- a row of signs, the cycle of the first free edge where there is one
pub record FirstCycle (c : Complex) (z : List ℤ) : Type 0 where
  pub sized : length z ≡ length c.edges
  pub signs : (e : ℕ) → nat_abs (get_or z e (pos 0)) ≤ 1
  pub is : 0 < length (free_edges c) → Cycle c (get_or (free_edges c) 0 0) z
