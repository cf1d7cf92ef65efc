-- A turn of the climb as the code makes it takes a step off the path, at its front or at its back.
use Prim.Native.Nat.{ℕ, suc, ◌*◌, ◌<◌, ◌≤◌}
use mathlib.Core.List.{List, [], ◌∷◌, ◌++◌}
use mathlib.Core.Bool.{true, false, cond}
use mathlib.Core.Path.{◌≡◌, refl, sym, ap, ◌∙◌}
use mathlib.Core.Logic.{◌≢◌}
use native.Mathlib.Omega.{arith}
use lib.Dec.{eqb}
use lib.IntN.{pos, negsuc}
use lib.ListN.{get_or, length, length-append}
use Rattle.mathematics.specs.Lists.{listed}
use Rattle.mathematics.proofs.Lists.{listed_at, numbers_equal}
use Rattle.complex.specs.declared.SimplicialComplex.{SimplicialComplex}
use Rattle.complex.specs.Complex.{Simplex, Complex, complex_of, entries}
use Rattle.complex.specs.Search.{Search, whole_search, across}
use Rattle.complex.specs.Judge.{Accepted}
use Rattle.complex.proofs.Accepting.{accepted}
use Rattle.complex.proofs.Simplices.{simplex_at, start_at}
use Rattle.gauss_law.specs.Listing.{tree_edges}
use Rattle.gauss_law.proofs.Accepted.{accepted_spans}
use Rattle.gauss_law.proofs.Spanned.{edges_long}
use Rattle.loops.specs.declared.climbing.TreeParents.{TreeParents}
use Rattle.loops.specs.Parents.{Parents, ParentsOf, parent, step_from}
use Rattle.loops.specs.Walks.{Step, Walk, stay, onward}
use Rattle.loops.specs.Loops.{parents, path}
use Rattle.loops.specs.Climbing.{Parented}
use Rattle.loops.proofs.TreePaths.{tree_path_met, later_climbs, later_reached}
use Rattle.loops.proofs.AcceptedLoops.{accepted_seen, accepted_parents, accepted_together, accepted_path, tree_below, path_few}

-- what the code reads: the edge that led to v, the vertex across an edge from v, and the step over an edge from v
abbrev pub led_by : TreeParents → ℕ → ℕ
led_by r v = get_or r.led v 0

abbrev pub across_read : SimplicialComplex → ℕ → ℕ → ℕ
across_read c e v = across (entries c.edges (2 * e) 2) v

abbrev pub step_read : SimplicialComplex → ℕ → ℕ → Step
step_read c e v = (e, cond (eqb (get_or c.edges (2 * e) 0) v) (pos 1) (negsuc 0))

-- What a loop knows of its two vertices: there is a step between them just where they are not the same, and an edge led to the one found later.
pub record Between (c : SimplicialComplex) (r : TreeParents) (a b : ℕ) : Type 0 where
  pub first : a < c.n_vertices
  pub second : b < c.n_vertices
  pub few : c.n_vertices ≤ 64
  pub none : a ≡ b → length (path (complex_of c) a b) ≡ 0
  pub some : a ≢ b → 1 ≤ length (path (complex_of c) a b)
  pub first_led : a ≢ b → get_or r.place b 0 < get_or r.place a 0 → led_by r a < 63
  pub second_led : a ≢ b → get_or r.place a 0 ≤ get_or r.place b 0 → led_by r b < 63

-- a climbs to u, or b does, and the path between them has one step less
pub record FirstClimbs (c : SimplicialComplex) (r : TreeParents) (a b u : ℕ) : Type 0 where
  pub between : Between c r u b
  pub path_is : path (complex_of c) a b ≡ step_read c (led_by r a) a ∷ path (complex_of c) u b
  pub shorter : length (path (complex_of c) a b) ≡ suc (length (path (complex_of c) u b))

pub record SecondClimbs (c : SimplicialComplex) (r : TreeParents) (a b u : ℕ) : Type 0 where
  pub between : Between c r a u
  pub path_is : path (complex_of c) a b ≡ path (complex_of c) a u ++ (step_read c (led_by r b) u ∷ [])
  pub shorter : length (path (complex_of c) a b) ≡ suc (length (path (complex_of c) a u))

-- a walk to another vertex has a step
walk_some : {es : List Simplex} {given : List ℕ} {a b : ℕ} {l : List Step} → Walk es given a l b → a ≢ b → 1 ≤ length l
walk_some stay apart = absurd (apart refl)
walk_some (onward i g r) apart = omega arith

module _ {c : SimplicialComplex} {r : TreeParents} (h : Parented c r) where
  abbrev K : Complex
  K = complex_of c

  abbrev es : List Simplex
  es = (complex_of c).edges

  abbrev p : Parents
  p = parents (complex_of c)

  pub good : Accepted K
  good = (accepted c).0 h.accepted

  abbrev found : Search
  found = whole_search (complex_of c).edges (complex_of c).vertices

  abbrev Seen : ℕ → Type 0
  Seen v = listed eqb v found.seen ≡ true

  kin : ParentsOf es found.seen found.tree p
  kin = accepted_parents K good

  seen : (v : ℕ) → v < c.n_vertices → Seen v
  unfolding complex_of
  seen v l = accepted_seen K good v l

  inside : (v : ℕ) → Seen v → v < c.n_vertices
  unfolding complex_of
  inside v s =
      let spans = accepted_spans K good in
      let i = listed_at eqb numbers_equal 0 v found.seen s in
      rw i.2 at (spans.below i.0 i.1)

  pub edges_few : c.n_edges ≤ 63
  edges_few = let few = good.few_edges in omega (arith, edges_long c)

  pub path_met : {a b : ℕ} → a ≡ b → path K a b ≡ []
  unfolding path
  path_met {a} {b} q = rw q (tree_path_met es found.seen found.tree p kin b)

  pub path_short : {a b : ℕ} → a < c.n_vertices → b < c.n_vertices → length (path K a b) ≤ 63
  unfolding complex_of
  path_short {a} {b} la lb = let k = path_few K good a b la lb in let few = edges_few in omega (arith, edges_long c)

  -- ---- what the code reads of a vertex that is no root
  module _ (v : ℕ) (s : Seen v) (n : p.root v ≡ false) where
    led_is : led_by r v ≡ p.edge v
    led_is = h.edges v (inside v s) n

    edge_few : led_by r v < c.n_edges
    unfolding tree_edges
    edge_few = rw led_is (rw (edges_long c) at (tree_below K good (p.edge v) (kin.edge v s n)))

    -- the vertex across e, the edge that led to v
    up_is : {e u : ℕ} → e ≡ led_by r v → u ≡ across_read c e v → u ≡ parent es p v
    unfolding complex_of
    up_is led to =
        (rw led at to) ∙ ap (λ e. across e v) (sym (simplex_at 2 c.edges c.n_edges (led_by r v) edge_few)) ∙ ap (λ e. across (get_or es e []) v) led_is

    up_inside : parent es p v < c.n_vertices
    up_inside = inside (parent es p v) (kin.parent_seen v s n)

    step_is : (w : ℕ) → step_from es (p.edge v) w ≡ step_read c (led_by r v) w
    unfolding complex_of
    step_is w = rw (← led_is, start_at c.edges c.n_edges (led_by r v) edge_few)

  -- ---- a turn
  module _ {a b : ℕ} (la : a < c.n_vertices) (lb : b < c.n_vertices) (apart : a ≢ b) where
    first_later : get_or r.place b 0 < get_or r.place a 0 → (p.root a ≡ false) × (path K a b ≡ step_from es (p.edge a) a ∷ path K (parent es p a) b)
    unfolding path complex_of
    first_later l = later_climbs es found.seen found.tree p kin a b (seen a la) (seen b lb) (accepted_together K good a b la lb) apart (rw (h.places a la, h.places b lb) at l)

    second_later : get_or r.place a 0 ≤ get_or r.place b 0
        → (p.root b ≡ false) × (path K a b ≡ path K a (parent es p b) ++ (step_from es (p.edge b) (parent es p b) ∷ []))
    unfolding path complex_of
    second_later l = later_reached es found.seen found.tree p kin a b (seen a la) (seen b lb) (accepted_together K good a b la lb) apart (rw (h.places a la, h.places b lb) at l)

  pub between : {a b : ℕ} → a < c.n_vertices → b < c.n_vertices → Between c r a b
  unfolding complex_of
  between {a} {b} la lb =
      let few = edges_few in
      record {
        first = la;
        second = lb;
        few = good.few_vertices;
        none = λ q. ap length (path_met q);
        some = λ apart. walk_some (accepted_path K good a b la lb).walk apart;
        first_led = λ apart l. let k = edge_few a (seen a la) (first_later la lb apart l).0 in omega arith;
        second_led = λ apart l. let k = edge_few b (seen b lb) (second_later la lb apart l).0 in omega arith;
      }

  -- the code reads the edge e that led to the one found later, and the vertex u across it
  module _ {a b e u : ℕ} (t : Between c r a b) (apart : a ≢ b) where
    pub first_climbs : get_or r.place b 0 < get_or r.place a 0 → e ≡ led_by r a → u ≡ across_read c e a → FirstClimbs c r a b u
    first_climbs l led to =
        let later = first_later t.first t.second apart l in
        let s = seen a t.first in
        let up = up_is a s later.0 led to in
        let step : path K a b ≡ step_read c (led_by r a) a ∷ path K u b = rw (up, ← (step_is a s later.0 a)) later.1 in
        record { between = between (rw up (up_inside a s later.0)) t.second; path_is = step; shorter = ap length step }

    pub second_climbs : get_or r.place a 0 ≤ get_or r.place b 0 → e ≡ led_by r b → u ≡ across_read c e b → SecondClimbs c r a b u
    second_climbs l led to =
        let later = second_later t.first t.second apart l in
        let s = seen b t.second in
        let up = up_is b s later.0 led to in
        let step : path K a b ≡ path K a u ++ (step_read c (led_by r b) u ∷ []) = rw (up, ← (step_is b s later.0 (parent es p b))) later.1 in
        let long = length-append (path K a u) (step_read c (led_by r b) u ∷ []) in
        record { between = between t.first (rw up (up_inside b s later.0)); path_is = step; shorter = ap length step ∙ (omega arith) }
