-- The Gauss sums at all vertices, with one value more: what they are, and that they stay small.
use Prim.Native.Nat.{ℕ, ◌+◌, ◌*◌, ◌^◌, ◌<◌, ◌≤◌}
use mathlib.Core.List.{List, [], ◌∷◌, ◌++◌}
use mathlib.Core.Path.{◌≡◌, refl, sym, ◌∙◌}
use mathlib.Core.Logic.{◌≢◌}
use native.Mathlib.Omega.{arith}
use native.Mathlib.Decide.{ℕ_discrete}
use lib.IntN.{ℤ, pos, neg_ℤ, ◌+ℤ◌, ◌-ℤ◌, nat_abs}
use mir.Syntax.{w64}
use mir.Val.{to_z, of_z}
use Rattle.std.proofs.lemmas.Int.{to_z-of_z}
use lib.ListN.{get_or, length, set, take, length-set, replicate, get_or-replicate}
use lib.Seq.{get_or-set_same, get_or-set_other, length-take-le}
use Rattle.mathematics.proofs.Front.{take_next}
use Rattle.mathematics.proofs.Integers.{linear, the, nought, ◌⊞◌}
use Rattle.mathematics.proofs.Signed.{size_neg, size_sum, size_difference, size_fits}
use Rattle.complex.specs.Complex.{Simplex, start, end, entries, simplices}
use Rattle.complex.specs.Search.{Ends}
use Rattle.complex.proofs.Simplices.{simplices_length, simplex_at}
use Rattle.complex.proofs.Indexes.{simplices_next}
use Rattle.gauss_law.specs.Gauss.{flow, gauss}
use Rattle.law_check.specs.Law.{sums_with, EdgeAddable, Summed}
use Rattle.gauss_law.proofs.Gauss.{flow_misses, flow_ends, flow_starts, gauss_last}

-- no sum is larger than n values can make it
abbrev pub Small : ℕ → List ℤ → Type 0
Small n sums = (v : ℕ) → v < 64 → nat_abs (get_or sums v (pos 0)) ≤ n * 2 ^ 31

-- ---- one value more
module _ (e : Simplex) (x : ℤ) (sums : List ℤ) (long : length sums ≡ 64) (rises : start e < end e) (inside : end e < 64) where
  apart : start e ≢ end e
  apart q = omega arith

  added_at : (v : ℕ) → get_or (sums_with e x sums) v (pos 0) ≡ get_or sums v (pos 0) +ℤ flow e x v
  unfolding sums_with
  added_at v = go (ℕ_discrete v (start e)) (ℕ_discrete v (end e))
    where
      began : List ℤ
      began = set sums (start e) (get_or sums (start e) (pos 0) +ℤ neg_ℤ x)

      ended : ℤ
      ended = get_or sums (end e) (pos 0) +ℤ x

      go : Dec (v ≡ start e) → Dec (v ≡ end e) → get_or (set began (end e) ended) v (pos 0) ≡ get_or sums v (pos 0) +ℤ flow e x v
      go (yes p) d =
          rw (p, flow_starts e x (start e) refl (λ q. apart (sym q)))
          (get_or-set_other began (end e) (start e) ended (pos 0) apart
          ∙ get_or-set_same sums (start e) (get_or sums (start e) (pos 0) +ℤ neg_ℤ x) (pos 0) (omega arith))
      go (no p) (yes q) =
          rw (q, flow_ends e x (end e) refl apart)
          (get_or-set_same began (end e) ended (pos 0) (omega (arith, length-set sums (start e) (get_or sums (start e) (pos 0) +ℤ neg_ℤ x))))
      go (no p) (no q) =
          rw (flow_misses e x v (λ r. p (sym r), λ r. q (sym r)))
          (get_or-set_other began (end e) v ended (pos 0) q
          ∙ get_or-set_other sums (start e) v (get_or sums (start e) (pos 0) +ℤ neg_ℤ x) (pos 0) p
          ∙ linear (the (get_or sums v (pos 0))) (the (get_or sums v (pos 0)) ⊞ nought) (omega arith))

  flow_size : (v : ℕ) → nat_abs (flow e x v) ≤ nat_abs x
  flow_size v = go (ℕ_discrete (start e) v) (ℕ_discrete (end e) v)
    where
      go : Dec (start e ≡ v) → Dec (end e ≡ v) → nat_abs (flow e x v) ≤ nat_abs x
      go (yes p) d = rw (flow_starts e x v p (λ q. apart (p ∙ sym q))) (omega (arith, size_neg x))
      go (no p) (yes q) = rw (flow_ends e x v q p) (omega arith)
      go (no p) (no q) = rw (flow_misses e x v (p, q)) (omega arith)

  pub added_summed : (es : List Simplex) (s : List ℤ) → length s ≡ length es → Summed es s sums → Summed (es ++ (e ∷ [])) (s ++ (x ∷ [])) (sums_with e x sums)
  unfolding sums_with
  added_summed es s same h =
      record {
        long = simp length-set long;
        sum = λ v k. added_at v ∙ rw (h.sum v k) (sym (gauss_last es s e x v same));
      }

  pub added_small : (n : ℕ) → nat_abs x ≤ 2 ^ 31 → Small n sums → Small (n + 1) (sums_with e x sums)
  added_small n k h v l =
      rw (added_at v) (omega (arith, h v l, flow_size v, size_sum (get_or sums v (pos 0)) (flow e x v)))

-- ---- the edges of a flat list
pub none_summed : (edges : List ℕ) → Summed (simplices 2 edges 0) [] (replicate 64 (pos 0))
unfolding simplices gauss
none_summed edges = record { long = refl; sum = λ v h. get_or-replicate 64 v (pos 0) (pos 0) h }

pub none_small : Small 0 (replicate 64 (pos 0))
none_small v h = rw (get_or-replicate 64 v (pos 0) (pos 0) h) (omega arith)

module _ (edges : List ℕ) (m : ℕ) (ends : Ends 64 (simplices 2 edges m)) (e : ℕ) (inside : e < m) where
  pub edge_ends : (start (entries edges (2 * e) 2) < end (entries edges (2 * e) 2)) × (end (entries edges (2 * e) 2) < 64)
  edge_ends = rw (simplex_at 2 edges m e inside) at (ends e (rw (simplices_length 2 edges m) inside))

  pub edge_addable : m ≤ 63 → (sums : List ℤ) → Small e sums → EdgeAddable sums (entries edges (2 * e) 2)
  edge_addable few sums h =
      let rises = edge_ends.0 in
      let below = edge_ends.1 in
      let start_below : start (entries edges (2 * e) 2) < 64 = omega arith in
      record {
        start_below = start_below;
        end_below = below;
        start_small = omega (arith, h (start (entries edges (2 * e) 2)) start_below);
        end_small = omega (arith, h (end (entries edges (2 * e) 2)) below);
      }

  pub edge_summed : (s : List ℤ) → length s ≡ m → (sums : List ℤ) → Summed (simplices 2 edges e) (take e s) sums → Summed (simplices 2 edges (e + 1)) (take (e + 1) s) (sums_with (entries edges (2 * e) 2) (get_or s e (pos 0)) sums)
  edge_summed s long sums h =
      let here : e < length s = omega arith in
      let same : length (take e s) ≡ length (simplices 2 edges e) = length-take-le e s (omega arith) ∙ sym (simplices_length 2 edges e) in
      rw (simplices_next 2 edges e, take_next s e (pos 0) here)
      (added_summed (entries edges (2 * e) 2) (get_or s e (pos 0)) sums h.long edge_ends.0 edge_ends.1 (simplices 2 edges e) (take e s) same h)

-- ---- one value taken off and added, as the machine does it
abbrev pub read : ℤ → ℤ
read z = to_z w64 (of_z w64 z)

back : (z : ℤ) → nat_abs z ≤ 2 ^ 62 + 2 ^ 31 → read z ≡ z
back z h = to_z-of_z w64 z (size_fits w64 z (omega arith))

pub carried : (sums : List ℤ) (a b : ℕ) (x y z : ℤ) → y ≡ x → z ≡ x → EdgeAddable sums (a ∷ b ∷ []) → a ≢ b → nat_abs x ≤ 2 ^ 31
    → set (set sums a (read (read (get_or sums a (pos 0)) -ℤ read y))) b (read (read (get_or (set sums a (read (read (get_or sums a (pos 0)) -ℤ read y))) b (pos 0)) +ℤ read z))
    ≡ sums_with (a ∷ b ∷ []) x sums
unfolding sums_with
carried sums a b x y z is also h apart small =
    let start_small = h.start_small in
    let end_small = h.end_small in
    rw
    (is, also, back (get_or sums a (pos 0)) (omega arith), back x (omega arith), back (get_or sums a (pos 0) -ℤ x) (omega (arith, size_difference (get_or sums a (pos 0)) x)), get_or-set_other sums a b (get_or sums a (pos 0) -ℤ x) (pos 0) (λ q. apart (sym q)), back (get_or sums b (pos 0)) (omega arith), back (get_or sums b (pos 0) +ℤ x) (omega (arith, size_sum (get_or sums b (pos 0)) x)))
