-- The faces of pentachora whose vertices are different and below n.
use Prim.Native.Nat.{ℕ, ◌+◌, ◌-◌, ◌*◌, ◌/◌, ◌%◌, ◌<◌, ◌≤◌, min}
use mathlib.Core.List.{List, [], ◌∷◌, map, map-append, flat_map}
use mathlib.Core.Path.{◌≡◌, refl, sym, ap, ◌∙◌}
use mathlib.Core.Bool.{Bool, true, ◌&&◌}
use native.Mathlib.Omega.{arith}
use borrow.Author.Tests.{eqb-true, ltb-true, lt-ltb}
use lib.ListN.{get_or, length, take, length-map}
use lib.Seq.{get_or-take, take_all}
use lib.Dec.{eqb, ltb}
use Rattle.mathematics.specs.Lists.{same, listed, noted_all, firsts, choose}
use Rattle.mathematics.specs.Tests.{every_entry}
use Rattle.mathematics.proofs.Tests.{and_parts, all_at, at_all, all_weaker}
use Rattle.mathematics.proofs.Maps.{map_at, map_back}
use Rattle.mathematics.proofs.Lists.{numbers_equal, lists_equal, noted_all_append, firsts_map}
use Rattle.mathematics.proofs.Firsts.{firsts_pass, firsts_have}
use Rattle.mathematics.proofs.Flat.{flat_map_last, all_flat_map}
use Rattle.complex.specs.Complex.{Simplex, start, end, entries, simplices}
use Rattle.complex.specs.declared.numbering.Numbering.{Numbering}
use Rattle.complex.specs.Judge.{rising, sides_listed}
use Rattle.complex.specs.Numbering.{number, Numbered, key, EdgeTable, triangle_key, Keyed}
use Rattle.pentachora.specs.Pentachora.{pentachora, pentachoron_right, pentachora_right, sorted, faces}
use Rattle.pentachora.specs.Faces.{all_faces, edge_of, triangle_of}
use Rattle.complex.proofs.Simplices.{entries_length, simplices_length, simplex_at}
use Rattle.mathematics.proofs.Front.{take_next}
use Rattle.complex.proofs.Indexes.{two, small_pair, key_apart, number_key}
use Rattle.complex.proofs.Triangles.{number_place, fitting, fits, fitting_keyed, triangle_apart}
use Rattle.pentachora.proofs.Sorting.{sorted_length, sorted_rises, rising_weaker}

-- an edge of two vertices that rise below n
unfoldable pub pair : ℕ → Simplex → Bool
pair n s = eqb (length s) 2 && rising n s

pub five_vertices : (s : Simplex) → length s ≡ 5 → s ≡ get_or s 0 0 ∷ get_or s 1 0 ∷ get_or s 2 0 ∷ get_or s 3 0 ∷ get_or s 4 0 ∷ []
five_vertices [] h = absurd (omega arith)
five_vertices (a ∷ []) h = absurd (omega arith)
five_vertices (a ∷ b ∷ []) h = absurd (omega arith)
five_vertices (a ∷ b ∷ c ∷ []) h = absurd (omega arith)
five_vertices (a ∷ b ∷ c ∷ d ∷ []) h = absurd (omega arith)
five_vertices (a ∷ b ∷ c ∷ d ∷ e ∷ []) h = refl
five_vertices (a ∷ b ∷ c ∷ d ∷ e ∷ f ∷ s) h = absurd (omega arith)

-- five vertices that rise
module _ (n a b c d e : ℕ) (h : rising n (a ∷ b ∷ c ∷ d ∷ e ∷ []) ≡ true) where
  steps : (a < b) × (b < c) × (c < d) × (d < e) × (e < n)
  unfolding rising
  steps =
      let p = and_parts (ltb a b) (ltb b c && (ltb c d && (ltb d e && ltb e n))) h in
      let q = and_parts (ltb b c) (ltb c d && (ltb d e && ltb e n)) p.1 in
      let r = and_parts (ltb c d) (ltb d e && ltb e n) q.1 in
      let s = and_parts (ltb d e) (ltb e n) r.1 in
      (ltb-true a b p.0, ltb-true b c q.0, ltb-true c d r.0, ltb-true d e s.0, ltb-true e n s.1)

  pairs_five : every_entry (pair n) (choose 2 (a ∷ b ∷ c ∷ d ∷ e ∷ [])) ≡ true
  unfolding pair rising every_entry choose
  pairs_five =
      let s = steps in
      let ab = s.0 in
      let bc = s.1 in
      let cd = s.2 in
      let de = s.3 in
      let en = s.4 in
      rw (lt-ltb a b ab, lt-ltb a c (omega arith), lt-ltb a d (omega arith), lt-ltb a e (omega arith), lt-ltb b c bc, lt-ltb b d (omega arith), lt-ltb b e (omega arith), lt-ltb c d cd, lt-ltb c e (omega arith), lt-ltb d e de, lt-ltb b n (omega arith), lt-ltb c n (omega arith), lt-ltb d n (omega arith), lt-ltb e n en)

  triples_five : (es : List Simplex) → every_entry (λ q. listed same q es) (choose 2 (a ∷ b ∷ c ∷ d ∷ e ∷ [])) ≡ true → every_entry (fitting n es) (choose 3 (a ∷ b ∷ c ∷ d ∷ e ∷ [])) ≡ true
  unfolding fitting rising sides_listed every_entry choose
  triples_five es k =
      let s = steps in
      let ab = s.0 in
      let bc = s.1 in
      let cd = s.2 in
      let de = s.3 in
      let en = s.4 in
      let side = all_at (λ q. listed same q es) [] (choose 2 (a ∷ b ∷ c ∷ d ∷ e ∷ [])) k in
      rw (side 0 (omega arith), side 1 (omega arith), side 2 (omega arith), side 3 (omega arith), side 4 (omega arith), side 5 (omega arith), side 6 (omega arith), side 7 (omega arith), side 8 (omega arith), side 9 (omega arith), lt-ltb a b ab, lt-ltb a c (omega arith), lt-ltb a d (omega arith), lt-ltb b c bc, lt-ltb b d (omega arith), lt-ltb c d cd, lt-ltb c e (omega arith), lt-ltb b e (omega arith), lt-ltb d e de, lt-ltb c n (omega arith), lt-ltb d n (omega arith), lt-ltb e n en)

module _ (n : ℕ) (s : Simplex) (long : length s ≡ 5) (h : rising n s ≡ true) where
  rises : rising n (get_or s 0 0 ∷ get_or s 1 0 ∷ get_or s 2 0 ∷ get_or s 3 0 ∷ get_or s 4 0 ∷ []) ≡ true
  rises = rw (five_vertices s long) at h

  pub pairs_rise : every_entry (pair n) (choose 2 s) ≡ true
  pairs_rise = rw (five_vertices s long) (pairs_five n _ _ _ _ _ rises)

  pub triples_fit : (es : List Simplex) → every_entry (λ q. listed same q es) (choose 2 s) ≡ true → every_entry (fitting n es) (choose 3 s) ≡ true
  triples_fit es k = rw (five_vertices s long) (triples_five n _ _ _ _ _ rises es (rw (five_vertices s long) at k))

-- an edge below 64 has a key, and the key gives it back
pub pair_small : (n : ℕ) → n ≤ 64 → (s : Simplex) → pair n s ≡ true → small_pair s ≡ true
unfolding pair small_pair rising
pair_small n few s h =
    let p = and_parts (eqb (length s) 2) (rising n s) h in
    let e = two s (eqb-true (length s) 2 p.0) in
    let q = and_parts (ltb (start s) (end s)) (ltb (end s) n) (rw e at p.1) in
    let first = ltb-true (start s) (end s) q.0 in
    let second = ltb-true (end s) n q.1 in
    rw (p.0, lt-ltb (start s) 64 (omega arith), lt-ltb (end s) 64 (omega arith))

pub edge_back : (s : Simplex) → small_pair s ≡ true → edge_of (key s) ≡ s
unfolding edge_of key small_pair
edge_back s h =
    let p = and_parts (eqb (length s) 2) (ltb (start s) 64 && ltb (end s) 64) h in
    let q = and_parts (ltb (start s) 64) (ltb (end s) 64) p.1 in
    let first = ltb-true (start s) 64 q.0 in
    let second = ltb-true (end s) 64 q.1 in
    let a : (64 * start s + end s) / 64 % 64 ≡ start s = omega arith in
    let b : (64 * start s + end s) % 64 ≡ end s = omega arith in
    rw (a, b) (sym (two s (eqb-true (length s) 2 p.0)))

-- the keys of small edges are below 4096
pub edge_keys_below : (l : List Simplex) → every_entry small_pair l ≡ true → (i : ℕ) → i < length (map key l) → get_or (map key l) i 0 < 4096
unfolding key small_pair
edge_keys_below l h i il =
    let inside : i < length l = omega (arith, length-map l key) in
    let s = get_or l i [] in
    let p = and_parts (eqb (length s) 2) (ltb (start s) 64 && ltb (end s) 64) (all_at small_pair [] l h i inside) in
    let q = and_parts (ltb (start s) 64) (ltb (end s) 64) p.1 in
    let first = ltb-true (start s) 64 q.0 in
    let second = ltb-true (end s) 64 q.1 in
    let e : get_or (map key l) i 0 ≡ 64 * start s + end s = map_at key [] 0 l i inside in
    omega arith

-- the keys of one pentachoron more
pub faces_next : (f : Simplex → ℕ) (k : ℕ) (l : List Simplex) (p : ℕ) → p < length l → noted_all eqb [] (map f (all_faces k (take (p + 1) l))) ≡ noted_all eqb (noted_all eqb [] (map f (all_faces k (take p l)))) (map f (choose k (sorted (get_or l p []))))
unfolding all_faces
faces_next f k l p h =
    let new = get_or l p [] in
    let old = flat_map (λ q. choose k (sorted q)) (take p l) in
    rw (take_next l p [] h, flat_map_last (λ q. choose k (sorted q)) (take p l) new, map-append f old (choose k (sorted new)))
    (noted_all_append eqb [] (map f old) (map f (choose k (sorted new))))

-- the faces of the first p pentachora are noted by their keys
pub record FacesNoted (limit : ℕ) (f : Simplex → ℕ) (k : ℕ) (l : List Simplex) (p : ℕ) (n : Numbering) : Type 0 where
  pub within : n.limit ≡ limit
  pub noted : Numbered limit n.table n.keys n.count (noted_all eqb [] (map f (all_faces k (take p l))))

module _ {limit : ℕ} {f : Simplex → ℕ} {k : ℕ} {l : List Simplex} where
  pub none_noted : {n : Numbering} → n.limit ≡ limit → Numbered limit n.table n.keys n.count [] → FacesNoted limit f k l 0 n
  unfolding noted_all all_faces flat_map
  none_noted same none = record { within = same; noted = none }

  pub more_noted : {p : ℕ} {n n' : Numbering} → FacesNoted limit f k l p n → p < length l → n'.limit ≡ n.limit
      → ((m : List ℕ) → Numbered n.limit n.table n.keys n.count m → Numbered n'.limit n'.table n'.keys n'.count (noted_all eqb m (map f (choose k (sorted (get_or l p []))))))
      → FacesNoted limit f k l (p + 1) n'
  more_noted {p} h more same next =
      let one = rw (same, h.within) at next in
      record { within = same ∙ h.within; noted = rw (faces_next f k l p more) (one _ h.noted) }

  pub all_noted : {p : ℕ} {n : Numbering} → FacesNoted limit f k l p n → length l ≤ p → Numbered limit n.table n.keys n.count (firsts eqb (map f (all_faces k l)))
  unfolding firsts
  all_noted {p} h past = rw (take_all p l past) at h.noted

-- each pentachoron, sorted, rises below n
abbrev pub Rises : ℕ → List ℕ → Type 0
Rises n l = (p : ℕ) → p < length l / 5 → rising n (sorted (entries l (5 * p) 5)) ≡ true

pub rises_weaker : (n m : ℕ) → n ≤ m → (l : List ℕ) → Rises n l → Rises m l
rises_weaker n m more l h p pl = rising_weaker n m more (sorted (entries l (5 * p) 5)) (h p pl)

pub right_rises : (n : ℕ) (l : List ℕ) → pentachora_right n l ≡ true → Rises n l
unfolding pentachora_right pentachoron_right pentachora
right_rises n l h p pl =
    let ps = simplices 5 l (length l / 5) in
    let are_right = (and_parts (eqb (length l % 5) 0) (every_entry (pentachoron_right n) ps) h).1 in
    let here : p < length ps = omega (arith, simplices_length 5 l (length l / 5)) in
    let one : pentachoron_right n (entries l (5 * p) 5) ≡ true = rw (simplex_at 5 l (length l / 5) p pl) at (all_at (pentachoron_right n) [] ps are_right p here) in
    let parts = and_parts _ _ one in
    sorted_rises n (entries l (5 * p) 5) parts.0 parts.1

module _ (n : ℕ) (l : List ℕ) (h : Rises n l) where
  five_long : (p : ℕ) → length (sorted (entries l (5 * p) 5)) ≡ 5
  five_long p = sorted_length (entries l (5 * p) 5) ∙ entries_length l (5 * p) 5

  -- a test of the faces of each pentachoron
  each : (k : ℕ) (t : Simplex → Bool) → ((p : ℕ) → p < length l / 5 → every_entry t (choose k (sorted (entries l (5 * p) 5))) ≡ true) → every_entry t (all_faces k (pentachora l)) ≡ true
  unfolding all_faces pentachora
  each k t g =
      let ps = simplices 5 l (length l / 5) in
      all_flat_map (λ q. choose k (sorted q)) t ps
      ∙ at_all (λ q. every_entry t (choose k (sorted q))) [] ps
      (λ p pl.
      let here : p < length l / 5 = omega (arith, simplices_length 5 l (length l / 5)) in
      rw (simplex_at 5 l (length l / 5) p here) (g p here))

  one : (k : ℕ) (t : Simplex → Bool) → every_entry t (all_faces k (pentachora l)) ≡ true → (p : ℕ) → p < length l / 5 → every_entry t (choose k (sorted (entries l (5 * p) 5))) ≡ true
  unfolding all_faces pentachora
  one k t g p pl =
      let ps = simplices 5 l (length l / 5) in
      let here : p < length ps = omega (arith, simplices_length 5 l (length l / 5)) in
      let each_one : every_entry (λ q. every_entry t (choose k (sorted q))) ps ≡ true = sym (all_flat_map (λ q. choose k (sorted q)) t ps) ∙ g in
      rw (simplex_at 5 l (length l / 5) p pl) at (all_at (λ q. every_entry t (choose k (sorted q))) [] ps each_one p here)

  all_pairs : every_entry (pair n) (all_faces 2 (pentachora l)) ≡ true
  all_pairs = each 2 (pair n) (λ p pl. pairs_rise n (sorted (entries l (5 * p) 5)) (five_long p) (h p pl))

  pub faces_pairs : every_entry (pair n) (faces 2 l) ≡ true
  unfolding faces all_faces
  faces_pairs = firsts_pass same lists_equal (pair n) (all_faces 2 (pentachora l)) all_pairs

  -- every edge of a triangle is an edge of the pentachoron
  all_fit : every_entry (fitting n (faces 2 l)) (all_faces 3 (pentachora l)) ≡ true
  unfolding faces all_faces
  all_fit =
      each 3 (fitting n (faces 2 l))
      (λ p pl.
      triples_fit n (sorted (entries l (5 * p) 5)) (five_long p) (h p pl) (faces 2 l)
      (one 2 (λ q. listed same q (faces 2 l)) (firsts_have same lists_equal [] (all_faces 2 (pentachora l))) p pl))

  pub faces_fit : every_entry (fitting n (faces 2 l)) (faces 3 l) ≡ true
  unfolding faces all_faces
  faces_fit = firsts_pass same lists_equal (fitting n (faces 2 l)) (all_faces 3 (pentachora l)) all_fit

  -- what the numbering of all edges' keys says
  module _ (few : n ≤ 64) where
    faces_small : every_entry small_pair (faces 2 l) ≡ true
    faces_small = all_weaker (pair n) small_pair (pair_small n few) (faces 2 l) faces_pairs

    edge_keys_are : firsts eqb (map key (all_faces 2 (pentachora l))) ≡ map key (faces 2 l)
    unfolding faces all_faces
    edge_keys_are =
        firsts_map same lists_equal eqb numbers_equal small_pair key key_apart (all_faces 2 (pentachora l))
        (all_weaker (pair n) small_pair (pair_small n few) (all_faces 2 (pentachora l)) all_pairs)

    module _ (table keys : List ℕ) (count : ℕ) (m : Numbered 63 table keys count (firsts eqb (map key (all_faces 2 (pentachora l))))) where
      edges_numbered : Numbered 63 table keys count (map key (faces 2 l))
      edges_numbered = rw edge_keys_are at m

      pub edges_counted : count ≡ min 64 (length (faces 2 l))
      edges_counted = rw (length-map (faces 2 l) key) at edges_numbered.counted

      module _ (within : count ≤ 63) where
        pub edges_many : count ≡ length (faces 2 l)
        edges_many = omega (arith, edges_counted)

        edges_few : length (map key (faces 2 l)) ≤ 63
        edges_few = rw (length-map (faces 2 l) key) (omega (arith, edges_counted))

        pub edges_kept : take count keys ≡ map key (faces 2 l)
        edges_kept =
            let e : count ≡ length (map key (faces 2 l)) = edges_many ∙ sym (length-map (faces 2 l) key) in
            rw e (edges_numbered.kept edges_few)

        pub edges_back : map edge_of (take count keys) ≡ faces 2 l
        edges_back = rw edges_kept (map_back small_pair key edge_of edge_back (faces 2 l) faces_small)

        pub edges_table : EdgeTable table (faces 2 l)
        edges_table =
            record {
              long = edges_numbered.table_long;
              numbers =
                  λ a b al bl.
                  edges_numbered.numbers edges_few (64 * a + b) (omega arith)
                  ∙ number_key (faces 2 l) faces_small a b al bl;
            }

    -- what the numbering of all triangles' keys says, over a table of the edges
    module _ (short : length (faces 2 l) ≤ 63) (table : List ℕ) (i : EdgeTable table (faces 2 l)) where
      pub triangles_keyed : (p : ℕ) → p < length l / 5 → (j : ℕ) → j < length (choose 3 (sorted (entries l (5 * p) 5))) → Keyed table (get_or (choose 3 (sorted (entries l (5 * p) 5))) j [])
      triangles_keyed p pl j jl =
          fitting_keyed n (faces 2 l) few short table i _
          (all_at (fitting n (faces 2 l)) [] (choose 3 (sorted (entries l (5 * p) 5))) (one 3 (fitting n (faces 2 l)) all_fit p pl) j jl)

      triangle_keys_are : firsts eqb (map (triangle_key table) (all_faces 3 (pentachora l))) ≡ map (triangle_key table) (faces 3 l)
      unfolding faces all_faces
      triangle_keys_are =
          firsts_map same lists_equal eqb numbers_equal (fitting n (faces 2 l)) (triangle_key table) (triangle_apart n (faces 2 l) few short table i) (all_faces 3 (pentachora l)) all_fit

      module _ (noted keys : List ℕ) (count : ℕ) (m : Numbered 256 noted keys count (firsts eqb (map (triangle_key table) (all_faces 3 (pentachora l))))) where
        triangles_numbered : Numbered 256 noted keys count (map (triangle_key table) (faces 3 l))
        triangles_numbered = rw triangle_keys_are at m

        pub triangles_counted : count ≡ min 257 (length (faces 3 l))
        triangles_counted = rw (length-map (faces 3 l) (triangle_key table)) at triangles_numbered.counted

        module _ (within : count ≤ 256) where
          pub triangles_many : count ≡ length (faces 3 l)
          triangles_many = omega (arith, triangles_counted)

          pub triangles_kept : take count keys ≡ map (triangle_key table) (faces 3 l)
          triangles_kept =
              let e : count ≡ length (map (triangle_key table) (faces 3 l)) = triangles_many ∙ sym (length-map (faces 3 l) (triangle_key table)) in
              let f : length (map (triangle_key table) (faces 3 l)) ≤ 256 = rw (length-map (faces 3 l) (triangle_key table)) (omega (arith, triangles_many)) in
              rw e (triangles_numbered.kept f)

          -- the keys of the edges give the triangles back
          module _ (edges : List ℕ) (kept : take (length (faces 2 l)) edges ≡ map key (faces 2 l)) where
            triangle_back : (s : Simplex) → fitting n (faces 2 l) s ≡ true → triangle_of edges (triangle_key table s) ≡ s
            unfolding triangle_of triangle_key edge_of key
            triangle_back s g =
                let es = faces 2 l in
                let f = fits n es s g in
                let a = f.first in
                let b = f.second in
                let d = f.third in
                let side = start s ∷ end s ∷ [] in
                let e : get_or table (64 * start s + end s) 0 ≡ number same side es = i.numbers (start s) (end s) (omega arith) (omega arith) in
                let p = number_place side es f.first_side in
                let low = p.0 in
                let high = p.1 in
                let at = get_or table (64 * start s + end s) 0 - 1 in
                let inside : at < length es = omega arith in
                let q : (64 * at + get_or s 2 0) / 64 % 64 ≡ at = omega arith in
                let r : (64 * at + get_or s 2 0) % 64 ≡ get_or s 2 0 = omega arith in
                let here : get_or es at [] ≡ side = ap (λ (j : ℕ). get_or es (j - 1) []) e ∙ p.2 in
                let found : get_or edges at 0 ≡ 64 * start s + end s =
                sym (get_or-take (length es) edges at 0 inside) ∙ ap (λ (m : List ℕ). get_or m at 0) kept ∙ map_at key [] 0 es at inside ∙ ap key here in
                let x : (64 * start s + end s) / 64 % 64 ≡ start s = omega arith in
                let y : (64 * start s + end s) % 64 ≡ end s = omega arith in
                rw (q, r, found, x, y) (sym f.is)

            pub triangles_back : map (triangle_of edges) (take count keys) ≡ faces 3 l
            triangles_back = rw triangles_kept (map_back (fitting n (faces 2 l)) (triangle_key table) (triangle_of edges) triangle_back (faces 3 l) faces_fit)
