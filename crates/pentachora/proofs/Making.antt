-- The complex that pentachora make is never refused.
use Prim.Native.Nat.{ℕ, ◌*◌}
use mathlib.Core.List.{List, []}
use mathlib.Core.Path.{◌≡◌, refl}
use mathlib.Core.Bool.{Bool, true, false, not, ◌&&◌, ◌||◌, cond}
use native.Mathlib.Omega.{arith}
use lib.ListN.{length}
use lib.Dec.{eqb, leb, ltb}
use Rattle.mathematics.specs.Lists.{same, distinct, firsts}
use Rattle.mathematics.specs.Refusals.{first}
use Rattle.mathematics.proofs.Tests.{and_parts, all_weaker}
use Rattle.mathematics.proofs.Lists.{lists_equal, noted_all_distinct}
use Rattle.complex.specs.Complex.{Simplex}
use Rattle.complex.specs.Search.{connected}
use Rattle.complex.specs.Judge.{counts_right, rising, sides_listed, simplices_right, triangles_right, refusal}
use Rattle.pentachora.specs.Pentachora.{pentachora_right, faces, complex_from, pentachora_refusal}
use Rattle.complex.proofs.Accepting.{pass}
use Rattle.complex.proofs.Triangles.{fitting}
use Rattle.pentachora.proofs.Appearing.{right_rises, faces_fit}
use Rattle.pentachora.proofs.Refusing.{edges_rising}

five_pass : (a b c d e : Bool) → ◌≡◌ {A = ℕ} (cond (not a) 4 (cond (not b) 11 (cond (not c) 4 (cond (not d) 9 (cond e 15 0))))) 0 → (b ≡ true) × (c ≡ true) × (d ≡ true)
five_pass true true true true e h = (refl, refl, refl)
five_pass true true true false e h = absurd (omega arith)
five_pass true true false d e h = absurd (omega arith)
five_pass true false c d e h = absurd (omega arith)
five_pass false b c d e h = absurd (omega arith)

-- no face is listed twice
faces_once : (k : ℕ) (l : List ℕ) → distinct same (faces k l) ≡ true
unfolding faces firsts distinct
faces_once k l = noted_all_distinct same lists_equal [] _ refl

pub from_accepted : (n : ℕ) (l : List ℕ) (edge_room triangle_room : ℕ) → pentachora_refusal n l edge_room triangle_room ≡ 0 → refusal (complex_from n l) ≡ 0
unfolding pentachora_refusal first complex_from simplices_right triangles_right fitting
from_accepted n l edge_room triangle_room h =
    let es = faces 2 l in
    let ts = faces 3 l in
    let p = five_pass (leb 1 n && leb n 64) (pentachora_right n l) (counts_right n (length es) (length ts)) (connected es n) (ltb edge_room (2 * length es) || ltb triangle_room (3 * length ts)) h in
    let rise = right_rises n l p.0 in
    let fit = faces_fit n l rise in
    let parts : (s : Simplex) → fitting n es s ≡ true → (rising n s ≡ true) × (sides_listed es s ≡ true) =
    λ s f. and_parts (rising n s) (sides_listed es s) (and_parts (eqb (length s) 3) (rising n s && sides_listed es s) f).1 in
    pass (complex_from n l)
    (record {
      counts = p.1;
      edges = rw (edges_rising n l rise, faces_once 2 l);
      triangles =
          rw
          (all_weaker (fitting n es) (rising n) (λ s f. (parts s f).0) ts fit, faces_once 3 l, all_weaker (fitting n es) (sides_listed es) (λ s f. (parts s f).1) ts fit);
      joined = p.2;
    })
