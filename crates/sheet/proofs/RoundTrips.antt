-- Reading what was written gives the same complex and truncation; writing what was read gives the same bytes.
use Prim.Native.Nat.{ℕ, ◌+◌, ◌-◌, ◌*◌, ◌/◌, ◌%◌, ◌<◌, ◌≤◌}
use mathlib.Core.List.{List, [], ◌∷◌, ◌++◌, flatten}
use mathlib.Core.Path.{◌≡◌, refl, sym, ap, ◌∙◌}
use mathlib.Core.Bool.{true}
use native.Mathlib.Omega.{arith}
use lib.ListN.{get_or, length, take, drop, replicate, length-append, length-drop}
use lib.Seq.{drop-cons, get_or-take, length-take-le, take_at, drop_at, drop-drop, take-add, take_all}
use Rattle.mathematics.specs.Lists.{same}
use Rattle.mathematics.specs.Refusals.{first}
use Rattle.mathematics.proofs.Lists.{lists_equal}
use Rattle.mathematics.proofs.Refusals.{first_none}
use Rattle.mathematics.proofs.Flat.{flatten_length}
use Rattle.complex.specs.Complex.{Complex, simplices, complex_of, uncharged}
use Rattle.complex.specs.Judge.{counts_right, shape_tests, truncated_tests, refusal}
use Rattle.complex.proofs.Simplices.{simplices_length}
use Rattle.complex.proofs.Accepting.{passed, Sized, simplices_sized}
use Rattle.complex.proofs.Judging.{truncated_passed}
use Rattle.complex.proofs.Flattened.{flatten_simplices, simplices_flatten}
use Rattle.sheet.specs.declared.Sheet.{Sheet}
use Rattle.sheet.specs.RoundTrips.{WrittenThenRead, ReadThenWritten}
use Rattle.sheet.specs.Sheet.{word, padded, sheet_in, header_tests, Header, reading_refusal, header_bytes, sheet_bytes}
use Rattle.sheet.proofs.Sheets.{header_of, of_header, shape_decides}

-- the length of a sheet of pairs and triples
pub sheet_length : (c : Complex) (lambda : ℕ) → Sized 2 c.edges → Sized 3 c.triangles → length (sheet_bytes c lambda) ≡ 11 + 2 * length c.edges + 3 * length c.triangles
unfolding sheet_bytes header_bytes
sheet_length c lambda pairs triples =
    let h = header_bytes c.vertices (length c.edges) (length c.triangles) lambda in
    omega (arith, length-append h (flatten c.edges ++ flatten c.triangles), length-append (flatten c.edges) (flatten c.triangles), flatten_length 2 c.edges pairs, flatten_length 3 c.triangles triples)

-- a complex of pairs and triples with small counts
record Plain (c : Complex) (lambda : ℕ) : Type 0 where
  pairs : Sized 2 c.edges
  triples : Sized 3 c.triangles
  counts_pass : counts_right c.vertices (length c.edges) (length c.triangles) ≡ true
  truncation : lambda ≤ 1000
  neutral : c.charges ≡ uncharged

module _ (c : Complex) (lambda : ℕ) (plain : Plain c lambda) where
  edges_flat : length (flatten c.edges) ≡ 2 * length c.edges
  edges_flat = flatten_length 2 c.edges plain.pairs

  triangles_flat : length (flatten c.triangles) ≡ 3 * length c.triangles
  triangles_flat = flatten_length 3 c.triangles plain.triples

  -- the numbers in the header
  triangles_read : word (sheet_bytes c lambda) 7 ≡ length c.triangles
  unfolding sheet_bytes header_bytes word
  triangles_read = omega arith

  truncation_read : word (sheet_bytes c lambda) 9 ≡ lambda
  unfolding sheet_bytes header_bytes word
  truncation_read = omega arith

  edges_read : get_or (sheet_bytes c lambda) 6 0 ≡ length c.edges
  unfolding sheet_bytes header_bytes
  edges_read = refl

  vertices_read : get_or (sheet_bytes c lambda) 5 0 ≡ c.vertices
  unfolding sheet_bytes header_bytes
  vertices_read = refl

  after_header : drop 11 (sheet_bytes c lambda) ≡ flatten c.edges ++ flatten c.triangles
  unfolding sheet_bytes header_bytes
  after_header = refl

  edges_part : take (2 * length c.edges) (drop 11 (sheet_bytes c lambda)) ≡ flatten c.edges
  edges_part = rw after_header (take_at (flatten c.edges) (flatten c.triangles) (2 * length c.edges) edges_flat)

  triangles_part : take (3 * length c.triangles) (drop (11 + 2 * length c.edges) (sheet_bytes c lambda)) ≡ flatten c.triangles
  triangles_part =
      let e : drop (11 + 2 * length c.edges) (sheet_bytes c lambda) ≡ flatten c.triangles =
      sym (drop-drop (2 * length c.edges) 11 (sheet_bytes c lambda)) ∙ ap (drop (2 * length c.edges)) after_header ∙ drop_at (flatten c.edges) (flatten c.triangles) (2 * length c.edges) edges_flat in
      rw e (take_all (3 * length c.triangles) (flatten c.triangles) (omega (arith, triangles_flat)))

  same_complex : complex_of (sheet_in (sheet_bytes c lambda)).complex ≡ c
  unfolding complex_of sheet_in padded
  same_complex =
      rw (vertices_read, triangles_read, edges_read, edges_part, triangles_part, simplices_flatten 2 c.edges (replicate (126 - length (flatten c.edges)) 0) plain.pairs, simplices_flatten 3 c.triangles (replicate (768 - length (flatten c.triangles)) 0) plain.triples)
      (λ i. record { vertices = c.vertices; edges = c.edges; triangles = c.triangles; charges = sym plain.neutral i })

  written_header : Header (sheet_bytes c lambda)
  unfolding sheet_bytes header_bytes word same
  written_header =
      let t = triangles_read in
      let l = truncation_read in
      record {
        long = omega (arith, sheet_length c lambda plain.pairs plain.triples);
        mark = refl;
        version = refl;
        counts_pass = rw triangles_read plain.counts_pass;
        truncation = rw truncation_read plain.truncation;
        size = sheet_length c lambda plain.pairs plain.triples ∙ rw triangles_read;
      }

-- the sheet's own complex is plain
plain_of : (s : Sheet) → first (truncated_tests (complex_of s.complex) s.lambda) ≡ 0 → Plain (complex_of s.complex) s.lambda
unfolding complex_of
plain_of s h =
    let p = truncated_passed s.complex s.lambda h in
    record {
      pairs = simplices_sized 2 s.complex.edges s.complex.n_edges;
      triples = simplices_sized 3 s.complex.triangles s.complex.n_triangles;
      counts_pass = (passed (complex_of s.complex) p.0).counts;
      truncation = p.1;
      neutral = refl;
    }

pub read_written : WrittenThenRead
unfolding sheet_in
read_written s h =
    let c = complex_of s.complex in
    let b = sheet_bytes c s.lambda in
    let plain = plain_of s h in
    let back : complex_of (sheet_in b).complex ≡ c = same_complex c s.lambda plain in
    let none : refusal (complex_of (sheet_in b).complex) ≡ 0 = rw back (truncated_passed s.complex s.lambda h).0 in
    record {
      accepted = shape_decides b (of_header b (written_header c s.lambda plain)) ∙ none;
      complex = back;
      truncation = truncation_read c s.lambda plain;
    }

-- ---- the other way
pub header_none : (b : List ℕ) → reading_refusal b ≡ 0 → first (header_tests b) ≡ 0
unfolding reading_refusal
header_none b h = first_none (header_tests b) (shape_tests (complex_of (sheet_in b).complex)) h

-- eleven bytes and the rest
eleven : (b : List ℕ) → 11 ≤ length b → b ≡ get_or b 0 0 ∷ get_or b 1 0 ∷ get_or b 2 0 ∷ get_or b 3 0 ∷ get_or b 4 0 ∷ get_or b 5 0 ∷ get_or b 6 0 ∷ get_or b 7 0 ∷ get_or b 8 0 ∷ get_or b 9 0 ∷ get_or b 10 0 ∷ drop 11 b
eleven b h =
    rw (← drop-cons b 10 0 (omega arith), ← drop-cons b 9 0 (omega arith), ← drop-cons b 8 0 (omega arith), ← drop-cons b 7 0 (omega arith), ← drop-cons b 6 0 (omega arith), ← drop-cons b 5 0 (omega arith), ← drop-cons b 4 0 (omega arith), ← drop-cons b 3 0 (omega arith), ← drop-cons b 2 0 (omega arith), ← drop-cons b 1 0 (omega arith), ← drop-cons b 0 0 (omega arith))

padded_front : (n : ℕ) (l : List ℕ) (k : ℕ) → k ≤ length l → take k (padded n (take k l)) ≡ take k l
unfolding padded
padded_front n l k h = take_at (take k l) (replicate (n - length (take k l)) 0) k (length-take-le k l h)

padded_long : (n : ℕ) (l : List ℕ) (k : ℕ) → k ≤ length l → k ≤ length (padded n (take k l))
unfolding padded
padded_long n l k h = omega (arith, length-append (take k l) (replicate (n - length (take k l)) 0), length-take-le k l h)

module _ (b : List ℕ) (bytes : (i : ℕ) → i < length b → get_or b i 0 < 256) (head : Header b) where
  -- the two parts behind the header
  flat_edges : flatten (simplices 2 (padded 126 (take (2 * get_or b 6 0) (drop 11 b))) (get_or b 6 0)) ≡ take (2 * get_or b 6 0) (drop 11 b)
  flat_edges =
      let m = get_or b 6 0 in
      let size = head.size in
      let room : 2 * m ≤ length (drop 11 b) = omega (arith, length-drop 11 b) in
      flatten_simplices 2 (padded 126 (take (2 * m) (drop 11 b))) m (padded_long 126 (drop 11 b) (2 * m) room) ∙ padded_front 126 (drop 11 b) (2 * m) room

  flat_triangles : flatten (simplices 3 (padded 768 (take (3 * word b 7) (drop (11 + 2 * get_or b 6 0) b))) (word b 7)) ≡ take (3 * word b 7) (drop (11 + 2 * get_or b 6 0) b)
  flat_triangles =
      let t = word b 7 in
      let rest = drop (11 + 2 * get_or b 6 0) b in
      let size = head.size in
      let room : 3 * t ≤ length rest = omega (arith, length-drop (11 + 2 * get_or b 6 0) b) in
      flatten_simplices 3 (padded 768 (take (3 * t) rest)) t (padded_long 768 rest (3 * t) room) ∙ padded_front 768 rest (3 * t) room

  both_parts : take (2 * get_or b 6 0) (drop 11 b) ++ take (3 * word b 7) (drop (11 + 2 * get_or b 6 0) b) ≡ drop 11 b
  both_parts =
      let m = get_or b 6 0 in
      let t = word b 7 in
      let size = head.size in
      rw (← drop-drop (2 * m) 11 b, ← take-add (2 * m) (3 * t) (drop 11 b))
      (take_all (2 * m + 3 * t) (drop 11 b) (omega (arith, length-drop 11 b)))

  -- the eleven bytes of the header
  same_header : header_bytes (get_or b 5 0) (get_or b 6 0) (word b 7) (word b 9) ++ drop 11 b ≡ b
  unfolding header_bytes word
  same_header =
      let size = head.long in
      let m = marks in
      let low = bytes 3 (omega arith) in
      let t_low = bytes 7 (omega arith) in
      let l_low = bytes 9 (omega arith) in
      let v = head.version in
      let one : 1 ≡ get_or b 3 0 = omega arith in
      let nil : 0 ≡ get_or b 4 0 = omega arith in
      let t : (get_or b 7 0 + 256 * get_or b 8 0) % 256 ≡ get_or b 7 0 = omega arith in
      let t_high : (get_or b 7 0 + 256 * get_or b 8 0) / 256 ≡ get_or b 8 0 = omega arith in
      let l : (get_or b 9 0 + 256 * get_or b 10 0) % 256 ≡ get_or b 9 0 = omega arith in
      let l_high : (get_or b 9 0 + 256 * get_or b 10 0) / 256 ≡ get_or b 10 0 = omega arith in
      let all_eleven : 71 ∷ 76 ∷ 83 ∷ 1 ∷ 0 ∷ get_or b 5 0 ∷ get_or b 6 0 ∷ (get_or b 7 0 + 256 * get_or b 8 0) % 256 ∷ (get_or b 7 0 + 256 * get_or b 8 0) / 256 ∷ (get_or b 9 0 + 256 * get_or b 10 0) % 256 ∷ (get_or b 9 0 + 256 * get_or b 10 0) / 256 ∷ drop 11 b ≡ get_or b 0 0 ∷ get_or b 1 0 ∷ get_or b 2 0 ∷ get_or b 3 0 ∷ get_or b 4 0 ∷ get_or b 5 0 ∷ get_or b 6 0 ∷ get_or b 7 0 ∷ get_or b 8 0 ∷ get_or b 9 0 ∷ get_or b 10 0 ∷ drop 11 b =
      (λ i. m.0 i ∷ m.1 i ∷ m.2 i ∷ one i ∷ nil i ∷ get_or b 5 0 ∷ get_or b 6 0 ∷ t i ∷ t_high i ∷ l i ∷ l_high i ∷ drop 11 b) in
      all_eleven ∙ sym (eleven b size)
    where
      marks : (71 ≡ get_or b 0 0) × (76 ≡ get_or b 1 0) × (83 ≡ get_or b 2 0)
      marks =
          let e : take 3 b ≡ 71 ∷ 76 ∷ 83 ∷ [] = lists_equal.equal (take 3 b) (71 ∷ 76 ∷ 83 ∷ []) head.mark in (
            sym (ap (λ (l : List ℕ). get_or l 0 0) e) ∙ get_or-take 3 b 0 0 (omega arith),
            sym (ap (λ (l : List ℕ). get_or l 1 0) e) ∙ get_or-take 3 b 1 0 (omega arith),
            sym (ap (λ (l : List ℕ). get_or l 2 0) e) ∙ get_or-take 3 b 2 0 (omega arith),
          )

-- writing the sheet that was read gives the bytes again
pub written_read : ReadThenWritten
unfolding sheet_bytes complex_of sheet_in
written_read b bytes h =
    let head : Header b = header_of b (header_none b h) in
    rw
    (simplices_length 2 (padded 126 (take (2 * get_or b 6 0) (drop 11 b))) (get_or b 6 0), simplices_length 3 (padded 768 (take (3 * word b 7) (drop (11 + 2 * get_or b 6 0) b))) (word b 7), flat_edges b bytes head, flat_triangles b bytes head, both_parts b bytes head)
    (same_header b bytes head)
