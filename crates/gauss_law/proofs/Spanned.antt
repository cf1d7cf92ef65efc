-- The tree and the free edges of an accepted record, as the code keeps them.
use Prim.Native.Nat.{ℕ, ◌+◌, ◌<◌, ◌≤◌}
use mathlib.Core.List.{List, [], ◌∷◌, ◌++◌}
use mathlib.Core.Bool.{not}
use mathlib.Core.Path.{◌≡◌, refl, sym, ap, ◌∙◌}
use native.Mathlib.Omega.{arith}
use borrow.Author.Tests.{eq-eqb, ne_eqb}
use lib.Dec.{eqb}
use lib.ListN.{get_or, length, set, take, replicate, get_or-replicate, length-set}
use lib.Seq.{length-take-le, get_or-take}
use Rattle.mathematics.specs.Lists.{listed}
use Rattle.mathematics.specs.Counting.{below, keep}
use Rattle.mathematics.proofs.Front.{take_next}
use Rattle.mathematics.proofs.Flags.{flag_more, flag_zero}
use Rattle.mathematics.proofs.Below.{keep_next, keep_skip, keep_agree}
use Rattle.complex.specs.declared.SimplicialComplex.{SimplicialComplex}
use Rattle.complex.specs.declared.search.SpanningTree.{SpanningTree}
use Rattle.complex.specs.Complex.{simplices, complex_of}
use Rattle.complex.specs.Search.{whole_search}
use Rattle.complex.specs.Judge.{refusal, Accepted}
use Rattle.complex.specs.Tree.{search_of, Searchable, Searched}
use Rattle.complex.proofs.Simplices.{simplices_length}
use Rattle.complex.proofs.Accepting.{accepted}
use Rattle.numbers.specs.declared.edge_list.EdgeList.{EdgeList}
use Rattle.gauss_law.specs.Listing.{tree_edges, free_edges}
use Rattle.gauss_law.specs.Spanning.{Spanned, Flagged, Unflagged, FreeOf}
use Rattle.gauss_law.proofs.Accepted.{accepted_ends, accepted_spans}

-- ---- the flags
pub none_flagged : Flagged (replicate 63 0) []
unfolding listed
none_flagged = record { long = refl; flag = λ e h. get_or-replicate 63 e 0 0 h }

pub one_flagged : (flags l : List ℕ) (i w : ℕ) → w ≡ get_or l i 0 → i < length l → get_or l i 0 < 63 → Flagged flags (take i l) → Flagged (set flags w 1) (take (i + 1) l)
one_flagged flags l i w is more inside f =
    rw (is, take_next l i 0 more)
    (record {
      long = length-set flags (get_or l i 0) 1 ∙ f.long;
      flag = λ v h. flag_more flags (take i l) (get_or l i 0) (rw f.long inside) v (f.flag v h);
    })

-- ---- the numbers that are not flagged
pub none_unflagged : (flags : List ℕ) (f : EdgeList) → f.count ≡ 0 → Unflagged flags 0 f
unfolding keep below
none_unflagged flags f none = record { few = omega arith; stands = rw none }

module _ (flags : List ℕ) (e : ℕ) (f : EdgeList) (h : Unflagged flags e f) where
  pub unflagged_same : (get_or flags e 0 ≡ 0 → ⊥) → Unflagged flags (e + 1) f
  unflagged_same n =
      let few = h.few in
      record { few = omega arith; stands = h.stands ∙ sym (keep_skip (λ e. eqb (get_or flags e 0) 0) e (ne_eqb (get_or flags e 0) 0 n)) }

  pub unflagged_more : (g : EdgeList) → g.count ≡ f.count + 1 → take g.count g.list ≡ take f.count f.list ++ (e ∷ []) → get_or flags e 0 ≡ 0 → Unflagged flags (e + 1) g
  unflagged_more g longer last z =
      let few = h.few in
      record {
        few = omega arith;
        stands = last ∙ ap (λ l. l ++ (e ∷ [])) h.stands ∙ sym (keep_next (λ e. eqb (get_or flags e 0) 0) e (eq-eqb (get_or flags e 0) 0 z));
      }

-- ---- an accepted record can be searched
pub edges_long : (c : SimplicialComplex) → length (complex_of c).edges ≡ c.n_edges
unfolding complex_of
edges_long c = simplices_length 2 c.edges c.n_edges

pub accepted_searchable : (c : SimplicialComplex) → refusal (complex_of c) ≡ 0 → Searchable c.edges c.n_vertices c.n_edges
unfolding complex_of
accepted_searchable c h =
    let a = (accepted c).0 h in
    record {
      some_vertex = a.some_vertex;
      vertices_fit = a.few_vertices;
      edges_fit = rw (edges_long c) at a.few_edges;
      ends = accepted_ends (complex_of c) a;
    }

pub searched_spanned : (c : SimplicialComplex) (t : SpanningTree) → refusal (complex_of c) ≡ 0
    → Searched c.n_vertices t (whole_search (simplices 2 c.edges c.n_edges) c.n_vertices) → Spanned c t
unfolding complex_of
searched_spanned c t h s = record { accepted = h; searched = s }

-- ---- its tree and its free edges

module _ (c : SimplicialComplex) (t : SpanningTree) (s : Spanned c t) where
  good : Accepted (complex_of c)
  good = (accepted c).0 s.accepted

  pub spanned_tree : take t.found t.tree_edges ≡ tree_edges (complex_of c)
  unfolding tree_edges search_of complex_of
  spanned_tree = ap (λ x. x.tree) s.searched.stands

  pub spanned_edges : c.n_edges ≤ 63
  spanned_edges = (accepted_searchable c s.accepted).edges_fit

  pub spanned_found : t.found ≡ length (tree_edges (complex_of c))
  spanned_found =
      let long = s.searched.fits.tree_long in
      let room = s.searched.fits.room in
      sym (length-take-le t.found t.tree_edges (omega arith)) ∙ ap length spanned_tree

  pub spanned_numbered : (i : ℕ) → i < length (take t.found t.tree_edges) → get_or (take t.found t.tree_edges) i 0 < 63
  unfolding tree_edges complex_of
  spanned_numbered =
      let few = good.few_edges in
      rw spanned_tree (λ i h. let k = (accepted_spans (complex_of c) good).numbered i h in omega arith)

  pub spanned_free : (flags : List ℕ) (f : EdgeList) → Flagged flags (take t.found t.tree_edges) → Unflagged (take c.n_edges flags) c.n_edges f → length f.list ≡ 63 → FreeOf (complex_of c) f
  unfolding free_edges
  spanned_free flags f marked rest long =
      let few = spanned_edges in
      let r = rest.few in
      record {
        long = long;
        count = sym (length-take-le f.count f.list (omega arith)) ∙ ap length same;
        few = omega arith;
        stands = same;
      }
    where
      each : (e : ℕ) → e < c.n_edges → eqb (get_or (take c.n_edges flags) e 0) 0 ≡ not (listed eqb e (tree_edges (complex_of c)))
      each e h = rw (get_or-take c.n_edges flags e 0 h, ← spanned_tree) (flag_zero _ e _ (marked.flag e (let few = spanned_edges in omega arith)))

      same : take f.count f.list ≡ keep (λ e. not (listed eqb e (tree_edges (complex_of c)))) (below (length (complex_of c).edges))
      same = rest.stands ∙ keep_agree (λ e. eqb (get_or (take c.n_edges flags) e 0) 0) (λ e. not (listed eqb e (tree_edges (complex_of c)))) c.n_edges each ∙ rw (edges_long c)
