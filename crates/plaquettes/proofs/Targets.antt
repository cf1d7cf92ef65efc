-- Where a triangle takes the states of a list: the row that is shifted, and the row that is sought.
use Prim.Native.Nat.{ℕ, ◌+◌, ◌*◌, ◌<◌, ◌≤◌}
use mathlib.Core.List.{List, [], flatten}
use mathlib.Core.Bool.{true, false}
use mathlib.Core.Path.{◌≡◌, refl, sym, ap, ◌∙◌}
use native.Mathlib.Nat.{mul_comm, mul-le-mul_right}
use native.Mathlib.Omega.{arith}
use borrow.Author.Tests.{eq-eqb}
use lib.IntN.{ℤ, pos}
use lib.ListN.{get_or, length, length-append}
use Rattle.mathematics.proofs.Flat.{flatten_length}
use Rattle.complex.specs.Complex.{Complex}
use Rattle.gauss_law.specs.Listing.{states}
use Rattle.hilbert.specs.Search.{Rows, row}
use Rattle.hilbert.proofs.Order.{row_state}
use Rattle.plaquettes.specs.declared.target.Sizes.{Sizes}
use Rattle.plaquettes.specs.Triangle.{target, hits}
use Rattle.plaquettes.specs.Targets.{BasisList}
use Rattle.plaquettes.proofs.TriangleTelling.{state_there}
use Rattle.plaquettes.proofs.Hits.{hits_target, outside_hit}

module _ (c : Complex) (list : List ℤ) (s : Sizes) (free : List ℕ) (basis : BasisList c list s free) where
  abbrev L : ℕ
  L = s.lambda

  pub edges_few : s.edges ≤ 63
  edges_few = rw basis.edges basis.accepted.few_edges

  pub there : (i : ℕ) → i < s.states → i < length (states c L)
  there i h = rw (← basis.count) h

  pub list_long : s.states * s.edges ≤ length list
  list_long =
      let is : length list ≡ length c.edges * length (states c L) + length basis.rest =
      ap length basis.begins ∙ length-append (flatten (states c L)) basis.rest
      ∙ ap (λ (k : ℕ). k + length basis.rest) (flatten_length (length c.edges) (states c L) (λ i h. (state_there c basis.accepted L i h).sized)) in
      rw (basis.count, basis.edges, mul_comm (length (states c L)) (length c.edges), is) (omega arith)

  -- a row of the list lies in it
  pub row_within : (i : ℕ) → i < s.states → i * s.edges + s.edges ≤ length list
  row_within i h = omega (arith, list_long, mul-le-mul_right s.edges h)

  pub row_is : (i : ℕ) → i < s.states → row s.edges list i ≡ get_or (states c L) i []
  row_is i h = rw basis.edges (ap (λ (l : List ℤ). row (length c.edges) l i) basis.begins ∙ row_state c basis.accepted L basis.rest i (there i h))

  pub row_long : (i : ℕ) → i < s.states → length (row s.edges list i) ≡ s.edges
  row_long i h = ap length (row_is i h) ∙ (state_there c basis.accepted L i (there i h)).sized ∙ sym basis.edges

  pub list_rows : (config : List ℤ) → length config ≡ s.edges → Rows list s.states config free s.free
  list_rows config e =
      record {
        edges_few = rw e edges_few;
        few = basis.few;
        long = rw e list_long;
        free_few = basis.free_few;
        free_fit = rw e basis.free_fit;
      }

  -- ---- the hits of a triangle
  module _ (t : ℕ) (number : t < length c.triangles) where
    -- a target that is a place is a hit
    pub hit_found : (i : ℕ) → target c L t (pos 1) i < s.states → hits c L t i (target c L t (pos 1) i) ≡ true
    hit_found i k = hits_target c L t i (target c L t (pos 1) i) (there _ k) ∙ eq-eqb (target c L t (pos 1) i) (target c L t (pos 1) i) refl

    pub hit_none : (i : ℕ) → i < s.states → s.states ≤ target c L t (pos 1) i → (q : ℕ) → hits c L t i q ≡ false
    hit_none i h k = outside_hit c basis.accepted L t number i (there i h) (rw (← basis.count) k)
