-- The parts of a sheet, and the numbers of the faces of pentachora.
use Prim.Native.Nat.{ℕ, ◌^◌, ◌<◌}
use mathlib.Core.List.{List}
use mathlib.Core.Path.{◌≡◌, ap}
use native.Mathlib.Omega.{arith}
use lib.ListN.{length}
use Rattle.mathematics.specs.Refusals.{value}
use Rattle.mathematics.specs.Calls.{Answered}
use Rattle.complex.proofs.Accepting.{counts, passed}
use Rattle.pentachora.specs.Pentachora.{faces, complex_from, pentachora_call}
use Rattle.answers.proofs.Outcomes.{value_none}

-- the edges of pentachora are few
pub few_edges : (n : ℕ) (l edges triangles : List ℕ) {e t : ℕ} {p : List ℕ × List ℕ} → Answered (pentachora_call n l edges triangles) (value (e, t)) p → e < 2 ^ 31
unfolding pentachora_call complex_from
few_edges n l edges triangles {e} {t} h =
    let told = value_none (e, t) _ _ h.answer in
    let few = (counts n (length (faces 2 l)) (length (faces 3 l)) (passed (complex_from n l) (h.known told.0)).counts).edges in
    let is : e ≡ length (faces 2 l) = ap (λ q. q.0) told.1 in
    omega arith
