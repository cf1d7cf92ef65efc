-- The number that a call refuses with is the smallest that holds, since the numbers of its tests rise. (From pentachora they do not: that call has an
-- order of its own.)
use Prim.Native.Nat.{ℕ}
use mathlib.Core.List.{List}
use mathlib.Core.Bool.{Bool}
use mathlib.Core.Path.{refl}
use lib.IntN.{ℤ}
use lib.Ieee.{Float}
use Rattle.mathematics.specs.Refusals.{first, rising_from, Smallest}
use Rattle.mathematics.proofs.Refusals.{first_smallest}
use Rattle.complex.specs.Complex.{Complex}
use Rattle.complex.specs.Judge.{complex_tests, truncated_tests, refusal}
use Rattle.triangles.specs.Indices.{indices_tests}
use Rattle.sheet.specs.Sheet.{header_tests, reading_tests, reading_refusal, writing_tests}
use Rattle.making.specs.Making.{size_tests, making_tests}
use Rattle.law_check.specs.Law.{law_tests}
use Rattle.gauss_law.specs.Spanning.{tree_tests}
use Rattle.loops.specs.Loops.{loops_tests, su2_loops_tests}
use Rattle.enumeration.specs.Enumeration.{basis_tests, enumerated_tests}
use Rattle.hilbert.specs.Index.{index_tests}
use Rattle.shifts.specs.Shift.{shift_tests}
use Rattle.plaquettes.specs.Triangle.{triangle_tests}
use Rattle.matrices.specs.declared.coupling.KSParams.{KSParams}
use Rattle.matrices.specs.Coupling.{coupling_tests}
use Rattle.matrices.specs.Weights.{weights_tests, vector_tests}
use Rattle.hamiltonian.specs.Dense.{u1_dense_tests}
use Rattle.lanczos.specs.Matvec.{u1_product_tests}
use Rattle.electric.specs.Electric.{electric_tests}
use Rattle.wilson.specs.Wilson.{wilson_tests}
use Rattle.su2_masks.specs.Basis.{su2_tests, su2_basis_tests}
use Rattle.su2_quantum.specs.Dense.{su2_dense_tests}
use Rattle.refusals.specs.Sentences.{text_tests}
use Rattle.matvec.specs.Product.{product_tests}
use Rattle.held_rows.specs.Lists.{lists_tests}
use Rattle.su2_rows.specs.Rows.{su2_rows_tests}
use Rattle.csr.specs.Csr.{csr_tests}
use Rattle.su2_products.specs.Product.{su2_product_tests}
use Rattle.su2_loops.specs.Loop.{loop_tests, su2_loop_tests}

pub judge_smallest : (c : Complex) → Smallest (complex_tests c) (refusal c)
unfolding refusal rising_from
judge_smallest c = first_smallest (complex_tests c) refl

pub truncated_smallest : (c : Complex) (L : ℕ) → Smallest (truncated_tests c L) (first (truncated_tests c L))
unfolding rising_from
truncated_smallest c L = first_smallest (truncated_tests c L) refl

pub indices_smallest : (c : Complex) (t : ℕ) → Smallest (indices_tests c t) (first (indices_tests c t))
unfolding rising_from
indices_smallest c t = first_smallest (indices_tests c t) refl

pub reading_smallest : (b : List ℕ) → Smallest (reading_tests b) (reading_refusal b)
unfolding reading_refusal header_tests rising_from
reading_smallest b = first_smallest (reading_tests b) refl

pub writing_smallest : (c : Complex) (L room : ℕ) → Smallest (writing_tests c L room) (first (writing_tests c L room))
unfolding rising_from
writing_smallest c L room = first_smallest (writing_tests c L room) refl

pub making_smallest : (n : ℕ) (edges triangles : List ℕ) (L room : ℕ) → Smallest (making_tests n edges triangles L room) (first (making_tests n edges triangles L room))
unfolding size_tests rising_from
making_smallest n edges triangles L room = first_smallest (making_tests n edges triangles L room) refl

pub tree_smallest : (c : Complex) (tree_room free_room : ℕ) → Smallest (tree_tests c tree_room free_room) (first (tree_tests c tree_room free_room))
unfolding rising_from
tree_smallest c tree_room free_room = first_smallest (tree_tests c tree_room free_room) refl

pub loops_smallest : (c : Complex) (starts_room edges_room directions_room : ℕ)
    → Smallest (loops_tests c starts_room edges_room directions_room) (first (loops_tests c starts_room edges_room directions_room))
unfolding rising_from
loops_smallest c starts_room edges_room directions_room = first_smallest (loops_tests c starts_room edges_room directions_room) refl

pub su2_loops_smallest : (c : Complex) (starts_room edges_room : ℕ) → Smallest (su2_loops_tests c starts_room edges_room) (first (su2_loops_tests c starts_room edges_room))
unfolding rising_from
su2_loops_smallest c starts_room edges_room = first_smallest (su2_loops_tests c starts_room edges_room) refl

pub law_smallest : (c : Complex) (n : ℕ) → Smallest (law_tests c n) (first (law_tests c n))
unfolding rising_from
law_smallest c n = first_smallest (law_tests c n) refl

pub listing_smallest : (c : Complex) (L room : ℕ) → Smallest (enumerated_tests c L room) (first (enumerated_tests c L room))
unfolding rising_from
listing_smallest c L room = first_smallest (enumerated_tests c L room) refl

pub index_smallest : (c : Complex) (L : ℕ) (s : List ℤ) (room : ℕ) → Smallest (index_tests c L s room) (first (index_tests c L s room))
unfolding rising_from
index_smallest c L s room = first_smallest (index_tests c L s room) refl

pub shift_smallest : (c : Complex) (L : ℕ) (s : List ℤ) (e : ℕ) (delta : ℤ) (work result : ℕ) → Smallest (shift_tests c L s e delta work result) (first (shift_tests c L s e delta work result))
unfolding rising_from
shift_smallest c L s e delta work result = first_smallest (shift_tests c L s e delta work result) refl

pub triangle_smallest : (c : Complex) (L t k room : ℕ) → Smallest (triangle_tests c L t k room) (first (triangle_tests c L t k room))
unfolding rising_from
triangle_smallest c L t k room = first_smallest (triangle_tests c L t k room) refl

pub coupling_smallest : (g² : Float) → Smallest (coupling_tests g²) (first (coupling_tests g²))
unfolding rising_from
coupling_smallest g² = first_smallest (coupling_tests g²) refl

pub u1_dense_smallest : (c : Complex) (L : ℕ) (p : KSParams) (given : Bool) (weights : List Float) (work result : ℕ) → Smallest (u1_dense_tests c L p given weights work result) (first (u1_dense_tests c L p given weights work result))
unfolding weights_tests rising_from
u1_dense_smallest c L p given weights work result = first_smallest (u1_dense_tests c L p given weights work result) refl

pub u1_product_smallest : (c : Complex) (L : ℕ) (p : KSParams) (given : Bool) (weights vector : List Float) (work result : ℕ) → Smallest (u1_product_tests c L p given weights vector work result) (first (u1_product_tests c L p given weights vector work result))
unfolding vector_tests rising_from
u1_product_smallest c L p given weights vector work result = first_smallest (u1_product_tests c L p given weights vector work result) refl

pub electric_smallest : (c : Complex) (L : ℕ) (amplitudes : List Float) (work result : ℕ) → Smallest (electric_tests c L amplitudes work result) (first (electric_tests c L amplitudes work result))
unfolding rising_from
electric_smallest c L amplitudes work result = first_smallest (electric_tests c L amplitudes work result) refl

pub wilson_smallest : (c : Complex) (L : ℕ) (amplitudes : List Float) (edges : List ℕ) (directions : List ℤ) (work : ℕ) → Smallest (wilson_tests c L amplitudes edges directions work) (first (wilson_tests c L amplitudes edges directions work))
unfolding rising_from
wilson_smallest c L amplitudes edges directions work = first_smallest (wilson_tests c L amplitudes edges directions work) refl

pub su2_basis_smallest : (c : Complex) (room : ℕ) → Smallest (su2_basis_tests c room) (first (su2_basis_tests c room))
unfolding rising_from
su2_basis_smallest c room = first_smallest (su2_basis_tests c room) refl

pub su2_dense_smallest : (c : Complex) (p : KSParams) (given : Bool) (weights : List Float) (work result : ℕ) → Smallest (su2_dense_tests c p given weights work result) (first (su2_dense_tests c p given weights work result))
unfolding weights_tests rising_from
su2_dense_smallest c p given weights work result = first_smallest (su2_dense_tests c p given weights work result) refl

pub text_smallest : (n room : ℕ) → Smallest (text_tests n room) (first (text_tests n room))
unfolding rising_from
text_smallest n room = first_smallest (text_tests n room) refl

pub product_smallest : (starts columns : List ℕ) (values vector : List Float) (room : ℕ) → Smallest (product_tests starts columns values vector room) (first (product_tests starts columns values vector room))
unfolding rising_from
product_smallest starts columns values vector room = first_smallest (product_tests starts columns values vector room) refl

pub lists_smallest : (starts columns : List ℕ) (values : List Float) → Smallest (lists_tests starts columns values) (first (lists_tests starts columns values))
unfolding rising_from
lists_smallest starts columns values = first_smallest (lists_tests starts columns values) refl

pub su2_rows_smallest : (c : Complex) (p : KSParams) (given : Bool) (weights : List Float) (work starts columns values : ℕ) → Smallest (su2_rows_tests c p given weights work starts columns values) (first (su2_rows_tests c p given weights work starts columns values))
unfolding weights_tests rising_from
su2_rows_smallest c p given weights work starts columns values = first_smallest (su2_rows_tests c p given weights work starts columns values) refl

pub su2_product_smallest : (c : Complex) (p : KSParams) (given : Bool) (weights vector : List Float) (work result : ℕ) → Smallest (su2_product_tests c p given weights vector work result) (first (su2_product_tests c p given weights vector work result))
unfolding vector_tests rising_from
su2_product_smallest c p given weights vector work result = first_smallest (su2_product_tests c p given weights vector work result) refl

-- of both loops in Z2, which have the same tests
pub su2_loop_smallest : (c : Complex) (vector : List Float) (path : List ℕ) (work : ℕ) → Smallest (su2_loop_tests c vector path work) (first (su2_loop_tests c vector path work))
unfolding loop_tests rising_from
su2_loop_smallest c vector path work = first_smallest (su2_loop_tests c vector path work) refl

pub csr_smallest : (c : Complex) (L : ℕ) (p : KSParams) (given : Bool) (weights : List Float) (work starts columns values : ℕ) → Smallest (csr_tests c L p given weights work starts columns values) (first (csr_tests c L p given weights work starts columns values))
unfolding weights_tests rising_from
csr_smallest c L p given weights work starts columns values = first_smallest (csr_tests c L p given weights work starts columns values) refl

-- of what is counted, states and entries, in both modes
pub counted_smallest : (c : Complex) (L : ℕ) → Smallest (basis_tests c L) (first (basis_tests c L))
unfolding rising_from
counted_smallest c L = first_smallest (basis_tests c L) refl

pub su2_counted_smallest : (c : Complex) → Smallest (su2_tests c) (first (su2_tests c))
unfolding rising_from
su2_counted_smallest c = first_smallest (su2_tests c) refl
