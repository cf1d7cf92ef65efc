-- A list that begins with the basis: how it comes about, and that its rows are small.
use Prim.Native.Nat.{ℕ, ◌+◌, ◌*◌, ◌<◌, ◌≤◌}
use mathlib.Core.List.{List, [], flatten}
use mathlib.Core.Path.{◌≡◌, refl, sym, ◌∙◌}
use native.Mathlib.Nat.{mul-le-mul, mul-le-mul_right}
use native.Mathlib.Omega.{arith}
use lib.IntN.{ℤ, pos, nat_abs}
use lib.ListN.{get_or, length, drop, length-take, length-drop}
use Rattle.complex.specs.Complex.{Complex}
use Rattle.walker.specs.declared.tables.Walker.{Walker}
use Rattle.walker.specs.Blocks.{StatesWritten}
use Rattle.walker.specs.Tables.{states_of}
use Rattle.enumeration.specs.Enumeration.{basis_first, BasisWalks}
use Rattle.enumeration.specs.Basis.{BasisOf}
use Rattle.enumeration.specs.declared.basis.Basis.{Basis}
use Rattle.gauss_law.specs.Listing.{states}
use Rattle.enumeration.proofs.Enumerating.{basis_written}
use Rattle.hilbert.specs.Search.{row}
use Rattle.plaquettes.specs.declared.target.Sizes.{Sizes}
use Rattle.plaquettes.specs.Targets.{BasisList, BasisListed}
use Rattle.plaquettes.specs.Rows.{SmallRows}
use Rattle.plaquettes.proofs.TriangleTelling.{state_there}
use Rattle.plaquettes.proofs.Targets.{edges_few, there, list_long, row_is}

-- how many states are counted
pub basis_counted : {c : Complex} {L : ℕ} {b : Basis} → BasisOf c L b → {n : ℕ} → n ≡ length (states_of b.walker b.lambda b.blocks) → n ≡ length (states c L)
basis_counted h e = e ∙ rw (h.truncated, h.walks.listed)

-- the list that the walk has written begins with the basis
pub basis_listed : (c : Complex) (L : ℕ) (w : Walker) (blocks : ℕ) → BasisWalks c L w blocks → (old new : List ℤ) (r : ℕ) → StatesWritten (states_of w L blocks) old new r
    → (s : Sizes) → s ≡ record { states = r; edges = w.n_edges; free = w.n_free; lambda = L } → BasisList c new s w.free
unfolding basis_first
basis_listed c L w blocks basis old new r h s e =
    let made = basis_written c L w blocks basis old new r h in
    rw e
    (record {
      accepted = basis.walks.accepted;
      truncation = basis.truncation;
      count = made.0;
      few = rw made.0 basis.few;
      edges = basis.walks.edges;
      rest = drop (length (flatten (states c L))) old;
      begins = made.1;
      free_count = basis.walks.count;
      free_few = basis.walks.few;
      free_fit = rw (← basis.fit.sized) basis.fit.walkable.free_fit;
      free_listed = basis.walks.listed;
    })

pub states_listed : (c : Complex) (L : ℕ) (b : Basis) → BasisOf c L b → (old new : List ℤ) (r : ℕ) → StatesWritten (states_of b.walker b.lambda b.blocks) old new r
    → BasisListed c L old new (record { states = r; edges = b.walker.n_edges; free = b.walker.n_free; lambda = b.lambda }) b.walker.free
states_listed c L b h old new r wrote =
    let told = rw h.truncated at wrote in
    record {
      basis = basis_listed c L b.walker b.blocks h.walks old new r told _ (rw h.truncated refl);
      truncated = h.truncated;
      list = (basis_written c L b.walker b.blocks h.walks old new r told).1;
    }

-- as many states are listed as were counted
pub listed_counted : {c : Complex} {L : ℕ} {old new : List ℤ} {s : Sizes} {free : List ℕ} → BasisListed c L old new s free → {n : ℕ} → n ≡ length (states c L) → s.states ≡ n
listed_counted h e = h.basis.count ∙ rw h.truncated (sym e)

-- a row of small values lies in the list
module _ (list : List ℤ) (n m : ℕ) (small : SmallRows list n m) (i : ℕ) (h : i < n) where
  pub row_room : (i * m + m ≤ length list) × (i * m ≤ 1048576 * 63)
  row_room =
      let few : i ≤ 1048576 = omega (arith, small.few, h) in
      (omega (arith, small.long, mul-le-mul_right m h), mul-le-mul few small.edges_few)

  pub row_sized : length (row m list i) ≡ m
  row_sized = rw (length-take, length-drop) (omega (arith, row_room.0))

module _ (c : Complex) (list : List ℤ) (s : Sizes) (free : List ℕ) (basis : BasisList c list s free) where
  -- the values of its rows can be squared
  pub small_rows : SmallRows list s.states s.edges
  small_rows =
      record {
        few = basis.few;
        edges_few = edges_few c list s free basis;
        long = list_long c list s free basis;
        small = λ i h e k. rw (row_is c list s free basis i h) (value i h e k);
      }
    where
      value : (i : ℕ) → i < s.states → (e : ℕ) → e < s.edges → nat_abs (get_or (get_or (states c s.lambda) i []) e (pos 0)) ≤ 1000
      value i h e k =
          let w = (state_there c basis.accepted s.lambda i (there c list s free basis i h)).within e (rw (← basis.edges) k) in
          omega (arith, w, basis.truncation)
