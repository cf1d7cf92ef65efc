-- The refusals of pentachora, test by test.
use Prim.Native.Nat.{ℕ, zero, suc, ◌*◌, ◌/◌, ◌<◌, ◌≤◌}
use mathlib.Core.List.{List, [], ◌∷◌, map, flat_map}
use mathlib.Core.Path.{◌≡◌, refl, sym, ap, ◌∙◌}
use mathlib.Core.Bool.{Bool, true, false, ◌&&◌, ◌||◌, cond}
use native.Mathlib.Nat.{not-suc-le-zero}
use native.Mathlib.Omega.{arith}
use borrow.Author.Tests.{eqb-true, eq-eqb, ne_eqb, le-leb, lt-leb, leb-true, ltb-false, le-ltb}
use lib.ListN.{get_or, length, take}
use lib.Dec.{eqb, leb, ltb}
use Rattle.mathematics.specs.Tests.{every_entry}
use Rattle.mathematics.specs.Refusals.{first}
use Rattle.mathematics.proofs.Tests.{and_parts, or_fell, all_at, all_weaker}
use Rattle.mathematics.specs.Lists.{noted_all, firsts, choose}
use Rattle.complex.specs.Search.{Search, scan, serve, served, whole_search, connected, Ends}
use Rattle.complex.specs.Judge.{counts_right, rising}
use Rattle.complex.specs.Numbering.{Numbered, key, EdgeTable, triangle_key, Keyed}
use Rattle.complex.specs.Complex.{Simplex, entries, simplices}
use Rattle.pentachora.specs.Pentachora.{pentachora, pentachora_right, sorted, faces, pentachora_refusal}
use Rattle.pentachora.specs.Faces.{all_faces, edge_of, JudgedFaces}
use Prim.{tt}
use Rattle.std.proofs.Common.{Ok, Err}
use Rattle.std.specs.Simd.{first_chunks}
use Rattle.answers.specs.Refusal.{refusal_number}
use Rattle.answers.specs.declared.refusal.Refusal.{Refusal}
use Rattle.answers.specs.declared.refusal.Refusal.TheVariants.{WrongCounts, Disconnected, NoRoom}
use Rattle.complex.specs.declared.numbering.Numbering.{Numbering}
use Rattle.complex.proofs.Accepting.{rising_ends}
use Rattle.complex.proofs.Searches.{connected_full}
use Rattle.pentachora.proofs.Fives.{cut}
use Rattle.pentachora.proofs.Appearing.{pair, Rises, rises_weaker, right_rises, faces_pairs, edges_counted, edges_many, edges_kept, edges_back, edges_table, triangles_keyed, triangles_counted, triangles_many, triangles_back}

pub vertices_right : (n : ℕ) → (leb 1 n && leb n 64) ≡ true → (1 ≤ n) × (n ≤ 64)
vertices_right n h = let p = and_parts (leb 1 n) (leb n 64) h in (leb-true 1 n p.0, leb-true n 64 p.1)

module _ (n : ℕ) (l : List ℕ) (edge_room triangle_room : ℕ) where
  pub vertices_wrong : (leb 1 n && leb n 64) ≡ false → pentachora_refusal n l edge_room triangle_room ≡ 4
  unfolding pentachora_refusal first
  vertices_wrong h = rw h

  module _ (some : 1 ≤ n) (few : n ≤ 64) where
    pub pentachora_wrong : pentachora_right n l ≡ false → pentachora_refusal n l edge_room triangle_room ≡ 11
    unfolding pentachora_refusal first
    pentachora_wrong h = rw (le-leb 1 n some, le-leb n 64 few, h)

    module _ (right : pentachora_right n l ≡ true) where
      pub edges_over : 63 < length (faces 2 l) → pentachora_refusal n l edge_room triangle_room ≡ 4
      unfolding pentachora_refusal first counts_right
      edges_over h = rw (le-leb 1 n some, le-leb n 64 few, right, lt-leb (length (faces 2 l)) 63 h)

      module _ (edges_few : length (faces 2 l) ≤ 63) where
        pub triangles_over : 256 < length (faces 3 l) → pentachora_refusal n l edge_room triangle_room ≡ 4
        unfolding pentachora_refusal first counts_right
        triangles_over h = rw (le-leb 1 n some, le-leb n 64 few, right, le-leb (length (faces 2 l)) 63 edges_few, lt-leb (length (faces 3 l)) 256 h)

        module _ (triangles_few : length (faces 3 l) ≤ 256) where
          pub not_connected : connected (faces 2 l) n ≡ false → pentachora_refusal n l edge_room triangle_room ≡ 9
          unfolding pentachora_refusal first counts_right
          not_connected h = rw (le-leb 1 n some, le-leb n 64 few, right, le-leb (length (faces 2 l)) 63 edges_few, le-leb (length (faces 3 l)) 256 triangles_few, h)

          module _ (joined : connected (faces 2 l) n ≡ true) where
            pub no_room : (ltb edge_room (2 * length (faces 2 l)) || ltb triangle_room (3 * length (faces 3 l))) ≡ true → pentachora_refusal n l edge_room triangle_room ≡ 15
            unfolding pentachora_refusal first counts_right
            no_room h = rw (le-leb 1 n some, le-leb n 64 few, right, le-leb (length (faces 2 l)) 63 edges_few, le-leb (length (faces 3 l)) 256 triangles_few, joined, h)

            pub not_refused : (ltb edge_room (2 * length (faces 2 l)) || ltb triangle_room (3 * length (faces 3 l))) ≡ false → pentachora_refusal n l edge_room triangle_room ≡ 0
            unfolding pentachora_refusal first counts_right
            not_refused h = rw (le-leb 1 n some, le-leb n 64 few, right, le-leb (length (faces 2 l)) 63 edges_few, le-leb (length (faces 3 l)) 256 triangles_few, joined, h)

-- the edges can be searched
module _ (n : ℕ) (l : List ℕ) (h : Rises n l) where
  pub edges_sized : (i : ℕ) → i < length (faces 2 l) → length (get_or (faces 2 l) i []) ≡ 2
  unfolding pair
  edges_sized i il =
      let s = get_or (faces 2 l) i [] in
      eqb-true (length s) 2 (and_parts (eqb (length s) 2) (rising n s) (all_at (pair n) [] (faces 2 l) (faces_pairs n l h) i il)).0

  pub edges_rising : every_entry (rising n) (faces 2 l) ≡ true
  unfolding pair
  edges_rising = all_weaker (pair n) (rising n) (λ s p. (and_parts (eqb (length s) 2) (rising n s) p).1) (faces 2 l) (faces_pairs n l h)

  pub edges_ends : Ends n (faces 2 l)
  edges_ends = rising_ends n (faces 2 l) edges_sized edges_rising

-- what is refused is judged by its number alone
pub judged_refused : (n : ℕ) (l : List ℕ) (edge_room triangle_room : ℕ) (r : Refusal) → pentachora_refusal n l edge_room triangle_room ≡ refusal_number r → JudgedFaces n l edge_room triangle_room (Err r)
judged_refused n l edge_room triangle_room r q = record { refusal = sym q; found = tt }

-- ---- without pentachora
none_served : (s : Search) (k : ℕ) → served [] s k ≡ s
unfolding served serve scan
none_served s zero = refl
none_served s (suc k) = rw (none_served s k) (go (ltb k (length s.seen)))
  where
    go : (t : Bool) → cond t s s ≡ s
    go true = refl
    go false = refl

none_joined : (n : ℕ) → 1 ≤ n → connected [] n ≡ eqb 1 n
unfolding whole_search
none_joined n some =
    connected_full [] n some (λ e h. absurd (not-suc-le-zero h)) ∙ ap (λ s. eqb (length s.seen) n) (none_served (record { seen = 0 ∷ []; tree = [] }) n)

no_face : (k : ℕ) → faces k [] ≡ []
unfolding faces pentachora simplices firsts noted_all flat_map
no_face k = refl

module _ (n : ℕ) (some : 1 ≤ n) (few : n ≤ 64) where
  none_right : pentachora_right n [] ≡ true
  unfolding pentachora_right pentachora simplices every_entry
  none_right = refl

  pub none_apart : (n ≡ 1 → ⊥) → (edge_room triangle_room : ℕ) → JudgedFaces n [] edge_room triangle_room (Err Disconnected)
  none_apart more edge_room triangle_room =
      judged_refused n [] edge_room triangle_room Disconnected
      (not_connected n [] edge_room triangle_room some few none_right (rw (no_face 2) (omega arith)) (rw (no_face 3) (omega arith))
      (rw (no_face 2) (none_joined n some ∙ ne_eqb 1 n (λ e. more (sym e)))))

  pub none_found : n ≡ 1 → (keys : List ℕ) → length keys ≡ 256 → (edge_room triangle_room : ℕ) → JudgedFaces n [] edge_room triangle_room (Ok (record { n_edges = 0; edge_keys = keys; n_triangles = 0; triangle_keys = keys }))
  none_found one keys long edge_room triangle_room =
      let room : (ltb edge_room (2 * length (faces 2 [])) || ltb triangle_room (3 * length (faces 3 []))) ≡ false = rw (no_face 2, no_face 3, le-ltb edge_room 0 (omega arith), le-ltb triangle_room 0 (omega arith)) refl in
      record {
        refusal =
            sym
            (not_refused n [] edge_room triangle_room some few none_right (rw (no_face 2) (omega arith)) (rw (no_face 3) (omega arith))
            (rw (no_face 2) (none_joined n some ∙ eq-eqb 1 n (sym one))) room);
        found =
            record {
              edge_count = rw (no_face 2) refl;
              triangle_count = rw (no_face 3) refl;
              few_edges = omega arith;
              few_triangles = omega arith;
              edge_keys_long = long;
              triangle_keys_long = long;
              edges = rw (no_face 2) refl;
              triangles = rw (no_face 3) refl;
              edges_fit = omega arith;
              triangles_fit = omega arith;
            };
      }

-- the tests that follow one another as the faces are numbered
module _ (n : ℕ) (l : List ℕ) (edge_room triangle_room : ℕ) (some : 1 ≤ n) (few : n ≤ 64) (right : pentachora_right n l ≡ true) where
  rise : Rises n l
  rise = right_rises n l right

  pub rise_small : Rises 64 l
  rise_small = rises_weaker n 64 few l rise

  -- too many edges, of the pentachora as they are cut
  pub judged_edges : {parts : List Simplex} → parts ≡ first_chunks 5 (length l / 5) l → (e : Numbering) → Numbered 63 e.table e.keys e.count (firsts eqb (map key (all_faces 2 parts))) → 63 < e.count → JudgedFaces n l edge_room triangle_room (Err WrongCounts)
  judged_edges is e m over =
      judged_refused n l edge_room triangle_room WrongCounts
      (edges_over n l edge_room triangle_room some few right (omega (arith, edges_counted n l rise few e.table e.keys e.count (rw (is, cut l) at m))))

  module _ (e : Numbering) (m : Numbered 63 e.table e.keys e.count (firsts eqb (map key (all_faces 2 (pentachora l))))) where
    module _ (within : e.count ≤ 63) where
      edges : e.count ≡ length (faces 2 l)
      edges = edges_many n l rise few e.table e.keys e.count m within

      short : length (faces 2 l) ≤ 63
      short = omega (arith, edges)

      indexed : EdgeTable e.table (faces 2 l)
      indexed = edges_table n l rise few e.table e.keys e.count m within

      back : map edge_of (take e.count e.keys) ≡ faces 2 l
      back = edges_back n l rise few e.table e.keys e.count m within

      pub keyed : (p : ℕ) → p < length l / 5 → (j : ℕ) → j < length (choose 3 (sorted (entries l (5 * p) 5))) → Keyed e.table (get_or (choose 3 (sorted (entries l (5 * p) 5))) j [])
      keyed = triangles_keyed n l rise few short e.table indexed

      pub ends : Ends n (map edge_of (take e.count e.keys))
      ends = rw back (edges_ends n l rise)

      module _ (t : Numbering) (m' : Numbered 256 t.table t.keys t.count (firsts eqb (map (triangle_key e.table) (all_faces 3 (pentachora l))))) where
        pub judged_triangles : 256 < t.count → JudgedFaces n l edge_room triangle_room (Err WrongCounts)
        judged_triangles over =
            judged_refused n l edge_room triangle_room WrongCounts
            (triangles_over n l edge_room triangle_room some few right short (omega (arith, triangles_counted n l rise few short e.table indexed t.table t.keys t.count m')))

        module _ (within' : t.count ≤ 256) where
          triangles : t.count ≡ length (faces 3 l)
          triangles = triangles_many n l rise few short e.table indexed t.table t.keys t.count m' within'

          short' : length (faces 3 l) ≤ 256
          short' = omega (arith, triangles)

          pub judged_apart : connected (map edge_of (take e.count e.keys)) n ≡ false → JudgedFaces n l edge_room triangle_room (Err Disconnected)
          judged_apart apart =
              judged_refused n l edge_room triangle_room Disconnected
              (not_connected n l edge_room triangle_room some few right short short' (rw back at apart))

          module _ (joined : connected (map edge_of (take e.count e.keys)) n ≡ true) where
            pub judged_room : (ltb edge_room (2 * e.count) || ltb triangle_room (3 * t.count)) ≡ true → JudgedFaces n l edge_room triangle_room (Err NoRoom)
            judged_room none =
                judged_refused n l edge_room triangle_room NoRoom
                (no_room n l edge_room triangle_room some few right short short' (rw back at joined) (rw (edges, triangles) at none))

            pub judged_faces : (ltb edge_room (2 * e.count) || ltb triangle_room (3 * t.count)) ≡ false → JudgedFaces n l edge_room triangle_room (Ok (record { n_edges = e.count; edge_keys = e.keys; n_triangles = t.count; triangle_keys = t.keys }))
            judged_faces room =
                let fell = or_fell (ltb edge_room (2 * e.count)) (ltb triangle_room (3 * t.count)) room in
                record {
                  refusal = sym (not_refused n l edge_room triangle_room some few right short short' (rw back at joined) (rw (edges, triangles) at room));
                  found =
                      record {
                        edge_count = edges;
                        triangle_count = triangles;
                        few_edges = within;
                        few_triangles = within';
                        edge_keys_long = m.keys_long;
                        triangle_keys_long = m'.keys_long;
                        edges = back;
                        triangles =
                            triangles_back n l rise few short e.table indexed t.table t.keys t.count m' within' e.keys
                            (rw edges at (edges_kept n l rise few e.table e.keys e.count m within));
                        edges_fit = ltb-false edge_room (2 * e.count) fell.0;
                        triangles_fit = ltb-false triangle_room (3 * t.count) fell.1;
                      };
                }
