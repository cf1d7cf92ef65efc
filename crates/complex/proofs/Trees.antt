-- A search as the code keeps it: what its flags say, that there is room, and what each function of the code does to it.
use Prim.Native.Nat.{ℕ, zero, suc, ◌+◌, ◌*◌, ◌/◌, ◌<◌, ◌≤◌}
use mathlib.Core.List.{List, [], ◌∷◌}
use mathlib.Core.Path.{◌≡◌, refl, sym, ap, ◌∙◌}
use mathlib.Core.Bool.{Bool, true, false, cond}
use native.Mathlib.Nat.{lt_of_lt_of_le}
use native.Mathlib.Numerals.{add-one}
use native.Mathlib.Omega.{arith}
use borrow.Author.Tests.{eq-eqb, ne_eqb, lt-ltb, ltb-true}
use lib.ListN.{get_or, set, take, length, length-set, replicate, get_or-replicate}
use lib.Seq.{length-take-le, take-suc-set, get_or-take}
use lib.Dec.{eqb, ltb}
use Rattle.mathematics.specs.Lists.{listed, distinct}
use Rattle.mathematics.specs.Tests.{every_entry}
use Rattle.mathematics.proofs.Tests.{all_at}
use Rattle.mathematics.proofs.Flags.{flag_more}
use Rattle.mathematics.proofs.Counting.{every_at, more_below, more_different, different_room, different_all}
use Rattle.complex.specs.Complex.{simplices, Joins}
use Rattle.complex.specs.Search.{across, look, scan, serve, whole_search, connected}
use Rattle.complex.specs.Tree.{opposite, search_of, Fits, Searchable, Searched}
use Rattle.complex.specs.declared.search.SpanningTree.{SpanningTree}
use Rattle.complex.proofs.Simplices.{simplices_length}
use Rattle.complex.proofs.Looks.{found, joins_across, joins_touches, across_below, look_new, look_old, serve_filled, serve_past, serve_full}
use Rattle.complex.proofs.HalfEdges.{half_joins}
use Rattle.complex.proofs.Searches.{connected_full}

-- the record with vertex w, found by edge e
abbrev pub grown : SpanningTree → ℕ → ℕ → SpanningTree
grown t w e =
    record {
      queue = set t.queue (t.found + 1) w;
      found = t.found + 1;
      tree_edges = set t.tree_edges t.found e;
      visited = set t.visited w 1;
    }

module _ (n : ℕ) (t : SpanningTree) (fits : Fits n t) where
  pub seen_length : length (search_of t).seen ≡ t.found + 1
  unfolding search_of
  seen_length = length-take-le (t.found + 1) t.queue (let a = fits.queue_long in let b = fits.room in omega arith)

  seen_at : (h : ℕ) → h ≤ t.found → get_or (search_of t).seen h 0 ≡ get_or t.queue h 0
  unfolding search_of
  seen_at h l = get_or-take (t.found + 1) t.queue h 0 (omega arith)

  pub queue_below : (h : ℕ) → h ≤ t.found → get_or t.queue h 0 < n
  queue_below h l =
      let inside : h < t.found + 1 = omega arith in
      rw (seen_at h l) at (ltb-true (get_or (search_of t).seen h 0) n (all_at (λ v. ltb v n) 0 (search_of t).seen fits.below h (rw seen_length inside)))

  flag_zero : (v : ℕ) → v < 64 → get_or t.visited v 0 ≡ 0 → listed eqb v (search_of t).seen ≡ false
  flag_zero v l z = go (listed eqb v (search_of t).seen) (sym (fits.flags v l) ∙ z)
    where
      go : (b : Bool) → cond {A = ℕ} b 1 0 ≡ 0 → b ≡ false
      go true h = absurd (omega arith)
      go false h = refl

  flag_other : (v : ℕ) → v < 64 → (get_or t.visited v 0 ≡ 0 → ⊥) → listed eqb v (search_of t).seen ≡ true
  flag_other v l z = go (listed eqb v (search_of t).seen) (fits.flags v l)
    where
      go : (b : Bool) → get_or t.visited v 0 ≡ cond b 1 0 → b ≡ true
      go true h = refl
      go false h = absurd (z h)

  module _ (w : ℕ) (inside : w < n) (new : listed eqb w (search_of t).seen ≡ false) where
    -- where a vertex is unseen, there is room for it
    has_room : t.found + 1 < n
    has_room = rw seen_length at (different_room (search_of t).seen w n fits.below fits.different inside new)

    module _ (e : ℕ) (small : n ≤ 64) where
      grown_stands : search_of (grown t w e) ≡ found (search_of t) w e
      unfolding search_of
      grown_stands =
          let a = fits.queue_long in
          let b = fits.tree_long in
          let r = has_room in
          let p : t.found + 1 < length t.queue = omega arith in
          let q : t.found < length t.tree_edges = omega arith in
          λ i. record {
            seen = (ap (λ k. take k (set t.queue (t.found + 1) w)) (add-one (t.found + 1)) ∙ take-suc-set t.queue (t.found + 1) w p) i;
            tree = (ap (λ k. take k (set t.tree_edges t.found e)) (add-one t.found) ∙ take-suc-set t.tree_edges t.found e q) i;
          }

      grown_searched : Searched n (grown t w e) (found (search_of t) w e)
      grown_searched =
          record {
            fits =
                record {
                  queue_long = length-set t.queue (t.found + 1) w ∙ fits.queue_long;
                  tree_long = length-set t.tree_edges t.found e ∙ fits.tree_long;
                  visited_long = length-set t.visited w 1 ∙ fits.visited_long;
                  room = let r = has_room in omega arith;
                  below = rw grown_stands (more_below (search_of t).seen w n fits.below inside);
                  different = rw grown_stands (more_different (search_of t).seen w fits.different new);
                  flags = λ v l. rw grown_stands (flag_more t.visited (search_of t).seen w (let a = fits.visited_long in omega arith) v (fits.flags v l));
                };
            stands = grown_stands;
          }

-- the edge of half-edge d is looked at from the vertex of d, with w at the other end o
module _ {edges : List ℕ} {n m : ℕ} (ok : Searchable edges n m) {t : SpanningTree} (fits : Fits n t) {d : ℕ} (inside : d < 2 * m) {o : ℕ} (there : o ≡ opposite d) {w : ℕ} (is : w ≡ get_or edges o 0) where
  joins : Joins (get_or (simplices 2 edges m) (d / 2) []) (get_or edges d 0) w
  joins = rw (is, there) (half_joins edges m d inside)

  same_across : across (get_or (simplices 2 edges m) (d / 2) []) (get_or edges d 0) ≡ w
  same_across = joins_across (get_or (simplices 2 edges m) (d / 2) []) (get_or edges d 0) w joins

  below : w < n
  below =
      rw same_across at (across_below n (simplices 2 edges m) ok.ends (d / 2) (get_or edges d 0) (rw (simplices_length 2 edges m) (omega arith)))

  -- w has a flag
  pub look_inside : w < 64
  look_inside = lt_of_lt_of_le below ok.vertices_fit

  -- w was seen before
  pub look_kept : (get_or t.visited w 0 ≡ 0 → ⊥) → Searched n t (look (simplices 2 edges m) (get_or edges d 0) (search_of t) (d / 2))
  look_kept z =
      let u = flag_other n t fits w look_inside z in
      record { fits = fits; stands = sym (look_old (simplices 2 edges m) (get_or edges d 0) (search_of t) (d / 2) (rw same_across u)) }

  module _ (unseen : get_or t.visited w 0 ≡ 0) where
    new : listed eqb w (search_of t).seen ≡ false
    new = flag_zero n t fits w look_inside unseen

    -- there is room for w
    pub look_room : t.found + 1 < 64
    look_room = lt_of_lt_of_le (has_room n t fits w below new) ok.vertices_fit

    pub look_grown : Searched n (grown t w (d / 2)) (look (simplices 2 edges m) (get_or edges d 0) (search_of t) (d / 2))
    look_grown =
        let touch = joins_touches (get_or (simplices 2 edges m) (d / 2) []) (get_or edges d 0) w joins in
        rw (look_new (simplices 2 edges m) (get_or edges d 0) (search_of t) (d / 2) touch (rw same_across new), same_across)
        (grown_searched n t fits w below new (d / 2) ok.vertices_fit)

module _ (edges : List ℕ) (n m : ℕ) (t : SpanningTree) (fits : Fits n t) (h : ℕ) where
  pub serve_none : t.found < h → Searched n t (serve (simplices 2 edges m) (search_of t) h)
  serve_none l =
      record { fits = fits; stands = sym (serve_past (simplices 2 edges m) (search_of t) h (let a = seen_length n t fits in omega arith)) }

  pub serve_all : Searchable edges n m → t.found + 1 ≡ n → Searched n t (serve (simplices 2 edges m) (search_of t) h)
  serve_all ok full =
      let seen = every_at (λ v. listed eqb v (search_of t).seen) n (different_all n (search_of t).seen fits.below fits.different ∙ eq-eqb _ _ (seen_length n t fits ∙ full)) in
      record { fits = fits; stands = sym (serve_full (simplices 2 edges m) (search_of t) h n ok.ends seen) }

  pub serve_scanned : (r : SpanningTree) → h ≤ t.found → Searched n r (scan (simplices 2 edges m) (get_or t.queue h 0) (search_of t) m) → Searched n r (serve (simplices 2 edges m) (search_of t) h)
  serve_scanned r l d =
      let inside : h < t.found + 1 = omega arith in
      rw (serve_filled (simplices 2 edges m) (search_of t) h (rw (seen_length n t fits) inside), simplices_length 2 edges m, seen_at n t fits h l) d

pub start_searched : (n : ℕ) → 1 ≤ n → Searched n (record { queue = replicate 64 0; found = 0; tree_edges = replicate 63 0; visited = set (replicate 64 0) 0 1 }) (record { seen = 0 ∷ []; tree = [] })
unfolding search_of every_entry distinct listed
start_searched n some =
    record {
      fits =
          record {
            queue_long = refl;
            tree_long = refl;
            visited_long = refl;
            room = omega arith;
            below = rw (lt-ltb 0 n some);
            different = refl;
            flags = flags;
          };
      stands = refl;
    }
  where
    flags : (v : ℕ) → v < 64 → ◌≡◌ {A = ℕ} (get_or (set (replicate 64 0) 0 1) v 0) (cond (listed eqb v (0 ∷ [])) 1 0)
    flags zero l = refl
    flags (suc v) l = rw (ne_eqb (suc v) 0 (λ q. omega arith)) (get_or-replicate 63 v 0 0 (omega arith))

pub found_connected : (edges : List ℕ) (n m : ℕ) → Searchable edges n m → (t : SpanningTree) → Searched n t (whole_search (simplices 2 edges m) n) → eqb (t.found + 1) n ≡ connected (simplices 2 edges m) n
found_connected edges n m ok t d =
    rw (connected_full (simplices 2 edges m) n ok.some_vertex ok.ends, ← d.stands, seen_length n t d.fits)
