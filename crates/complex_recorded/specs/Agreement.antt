-- When a call on complexes, trees, loops or row lists agrees with what was recorded of it: it tells the recorded number, and the lists that were
-- lent to it, zeros before, begin with the recorded numbers.
use Rattle.std.specs.Prelude.{ℕ, Bool, ◌&&◌, List, [], ◌∷◌, ℤ, pos, Float, replicate}
use Rattle.std.specs.Float.{binary64}
use Rattle.std.specs.Float.Ieee.{of_bits}
use Rattle.triangles.specs.Indices.{indices_call}
use Rattle.pentachora.specs.Pentachora.{pentachora_call}
use Rattle.gauss_law.specs.Spanning.{tree_call}
use Rattle.loops.specs.Loops.{loops_call, su2_loops_call}
use Rattle.matvec.specs.Product.{product_call}
use Rattle.exports.specs.Exports.{on_sheet, stored, second_lent, in_place, zero_told}
use Rattle.recorded.specs.Bytes.{holds_bytes, holds_i8s, holds_u32s, holds_u64s, holds_floats}
use Rattle.recorded.specs.Answers.{agrees}

-- from_pentachorons: room for 63 edges and 256 triangles
unfoldable pub pentachora_agrees : (vertices : ℕ) (pentachora : List ℕ) (told : ℤ) (edges triangles n_triangles : List ℕ) → Bool
pentachora_agrees vertices pentachora told edges triangles n_triangles =
    agrees (second_lent (pentachora_call vertices pentachora (replicate 126 0) (replicate 768 0)) 0) told
    (λ l. holds_bytes l.0 edges && (holds_bytes l.1 triangles && holds_u64s (l.2 ∷ []) n_triangles))

-- tri_edge_indices
unfoldable pub indices_agrees : (sheet : List ℕ) (triangle : ℕ) (told : ℤ) (indices : List ℕ) → Bool
indices_agrees sheet triangle told indices =
    agrees (on_sheet sheet (λ c L. stored (indices_call c triangle) in_place (replicate 3 0))) told (λ l. holds_u64s l indices)

-- spanning_tree
unfoldable pub tree_agrees : (sheet : List ℕ) (told : ℤ) (tree free : List ℕ) → Bool
tree_agrees sheet told tree free =
    agrees (on_sheet sheet (λ c L. tree_call c (replicate 64 0) (replicate 64 0))) told (λ l. holds_u32s l.0 tree && holds_u32s l.1 free)

-- fundamental_loops
unfoldable pub loops_agrees : (sheet : List ℕ) (told : ℤ) (starts edges directions : List ℕ) → Bool
loops_agrees sheet told starts edges directions =
    agrees (on_sheet sheet (λ c L. loops_call c (replicate 64 0) (replicate 1024 0) (replicate 1024 (pos 0)))) told
    (λ l. holds_u32s l.0 starts && (holds_bytes l.1 edges && holds_i8s l.2 directions))

-- su2_fundamental_loops
unfoldable pub su2_loops_agrees : (sheet : List ℕ) (told : ℤ) (starts edges : List ℕ) → Bool
su2_loops_agrees sheet told starts edges =
    agrees (on_sheet sheet (λ c L. su2_loops_call c (replicate 64 0) (replicate 1024 0))) told
    (λ l. holds_u32s l.0 starts && holds_bytes l.1 edges)

-- matvec
unfoldable pub matvec_agrees : (starts columns : List ℕ) (values vector : List Float) (told : ℤ) (product : List ℕ) → Bool
matvec_agrees starts columns values vector told product =
    agrees (zero_told (product_call starts columns values vector (replicate 256 (of_bits binary64 0)))) told (λ l. holds_floats l product)
