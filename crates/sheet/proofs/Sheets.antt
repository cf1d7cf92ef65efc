-- What the tests of a sheet say, and what reading and writing make of it.
use Prim.{tt}
use Prim.Native.Nat.{ℕ, zero, suc, ◌+◌, ◌-◌, ◌*◌, ◌/◌, ◌%◌, ◌≤◌, ◌<◌}
use mathlib.Core.List.{List, [], ◌∷◌, ◌++◌, flatten, append_assoc}
use mathlib.Core.Path.{◌≡◌, refl, sym, ap, ◌∙◌}
use mathlib.Core.Bool.{Bool, true, false, not, cond}
use native.Mathlib.Omega.{arith}
use borrow.Author.Tests.{eqb-true, eq-eqb, ne_eqb, ltb-false, lt-ltb, le-ltb}
use lib.ListN.{get_or, length, take, drop, replicate, length-append, length-drop}
use lib.Seq.{paste, length-take-le, take_all, take_at, drop-append-add, drop-drop}
use lib.Dec.{eqb, ltb}
use Rattle.mathematics.specs.Writing.{front}
use Rattle.mathematics.specs.Lists.{same}
use Rattle.mathematics.specs.Tests.{every_entry}
use Rattle.mathematics.specs.Refusals.{first, value, refused}
use Rattle.mathematics.specs.Calls.{Answered, none_lent}
use Rattle.mathematics.proofs.Refusals.{numbered, first_goes_on}
use Rattle.mathematics.proofs.Calls.{none, here, past, among, refuses, ends}
use Rattle.complex.specs.declared.SimplicialComplex.{SimplicialComplex}
use Rattle.complex.specs.Complex.{simplices, complex_of}
use Rattle.complex.specs.Judge.{counts_right, shape_tests, truncated_tests, refusal}
use Rattle.complex.proofs.Simplices.{simplices_length}
use Rattle.complex.proofs.Flattened.{flatten_simplices}
use Rattle.complex.proofs.Accepting.{counts, counts_own}
use Rattle.complex.proofs.Judging.{truncated_passed}
use Rattle.complex.proofs.Refusing.{truncated_refuses, past_truncated}
use Rattle.std.specs.Int.{w16, to_le_bytes}
use Rattle.std.proofs.lemmas.Slice.{put_mid-paste}
use borrow.Rule.Slice.PartMut.{put_mid}
use Rattle.sheet.specs.declared.Sheet.{Sheet}
use Rattle.sheet.specs.Sheet.{word, padded, sheet_in, header_tests, Header, reading_refusal, reading_call, header_bytes, sheet_bytes, Writable, writing_call}

-- ---- the header
six_pass : (p q r s t u : Bool) → ◌≡◌ {A = ℕ} (cond p 1 (cond (not q) 2 (cond (not r) 3 (cond (not s) 4 (cond t 5 (cond (not u) 6 0)))))) 0 → (p ≡ false) × (q ≡ true) × (r ≡ true) × (s ≡ true) × (t ≡ false) × (u ≡ true)
six_pass true q r s t u h = absurd (omega arith)
six_pass false false r s t u h = absurd (omega arith)
six_pass false true false s t u h = absurd (omega arith)
six_pass false true true false t u h = absurd (omega arith)
six_pass false true true true true u h = absurd (omega arith)
six_pass false true true true false false h = absurd (omega arith)
six_pass false true true true false true h = (refl, refl, refl, refl, refl, refl)

pub header_of : (b : List ℕ) → first (header_tests b) ≡ 0 → Header b
unfolding first header_tests
header_of b h =
    let p = six_pass (ltb (length b) 11) (same (take 3 b) (71 ∷ 76 ∷ 83 ∷ [])) (eqb (word b 3) 1) (counts_right (get_or b 5 0) (get_or b 6 0) (word b 7)) (ltb 1000 (word b 9)) (eqb (length b) (11 + 2 * get_or b 6 0 + 3 * word b 7)) h in
    record {
      long = ltb-false (length b) 11 p.0;
      mark = p.1;
      version = eqb-true (word b 3) 1 p.2;
      counts_pass = p.3;
      truncation = ltb-false 1000 (word b 9) p.4;
      size = eqb-true (length b) (11 + 2 * get_or b 6 0 + 3 * word b 7) p.5;
    }

pub of_header : (b : List ℕ) → Header b → first (header_tests b) ≡ 0
unfolding first header_tests
of_header b h =
    rw (le-ltb (length b) 11 h.long, h.mark, eq-eqb (word b 3) 1 h.version, h.counts_pass, le-ltb 1000 (word b 9) h.truncation, eq-eqb (length b) (11 + 2 * get_or b 6 0 + 3 * word b 7) h.size)

module _ {b : List ℕ} (h : Header b) where
  pub few_pairs : get_or b 6 0 ≤ 63
  few_pairs = (counts (get_or b 5 0) (get_or b 6 0) (word b 7) h.counts_pass).edges

  pub few_triples : word b 7 ≤ 256
  few_triples = (counts (get_or b 5 0) (get_or b 6 0) (word b 7) h.counts_pass).triangles

  -- the lists behind the header
  pub sheet_held : sheet_in b ≡ record {
    complex = record {
      n_vertices = get_or b 5 0;
      n_edges = get_or b 6 0;
      edges = padded 126 (take (2 * get_or b 6 0) (drop 11 b));
      n_triangles = word b 7;
      triangles = padded 768 (drop (2 * get_or b 6 0) (drop 11 b));
    };
    lambda = word b 9;
  }
  unfolding sheet_in
  sheet_held =
      let m = get_or b 6 0 in
      let size = h.size in
      rw (drop-drop (2 * m) 11 b, take_all (3 * word b 7) (drop (11 + 2 * m) b) (omega (arith, length-drop (11 + 2 * m) b)))

-- ---- reading
module _ (b : List ℕ) where
  -- after the header, the judge of the complex decides
  pub shape_decides : first (header_tests b) ≡ 0 → reading_refusal b ≡ refusal (complex_of (sheet_in b).complex)
  unfolding reading_refusal refusal complex_of sheet_in first header_tests numbered every_entry
  shape_decides h =
      let c = (sheet_in b).complex in
      let on : first (header_tests b ++ shape_tests (complex_of c)) ≡ first (shape_tests (complex_of c)) = first_goes_on (header_tests b) (shape_tests (complex_of c)) refl h in
      let right : counts_right (get_or b 5 0) (length (simplices 2 c.edges (get_or b 6 0))) (length (simplices 3 c.triangles (word b 7))) ≡ true =
      rw (simplices_length 2 c.edges (get_or b 6 0), simplices_length 3 c.triangles (word b 7)) (header_of b h).counts_pass in
      on ∙ rw right

  pub header_refuses : {k : ℕ} → k ≡ first (header_tests b) → (k ≡ 0 → ⊥) → Answered (reading_call b) (refused k) none_lent
  unfolding reading_call
  header_refuses {k} e some = refuses (reading_call b) (among (header_tests b) _ e some) (ne_eqb k 0 some)

  pub shape_refuses : first (header_tests b) ≡ 0 → {k : ℕ} → k ≡ refusal (complex_of (sheet_in b).complex) → (k ≡ 0 → ⊥) → Answered (reading_call b) (refused k) none_lent
  unfolding reading_call reading_refusal
  shape_refuses h {k} e some = refuses (reading_call b) (record { number = shape_decides h ∙ sym e }) (ne_eqb k 0 some)

  pub sheet_read : first (header_tests b) ≡ 0 → refusal (complex_of (sheet_in b).complex) ≡ 0 → Answered (reading_call b) (value (sheet_in b)) none_lent
  unfolding reading_call reading_refusal
  sheet_read h e = ends (reading_call b) (record { number = shape_decides h ∙ e }) refl refl tt

-- ---- lists that are copied
drop_zeros : (n k : ℕ) → k ≤ n → ◌≡◌ {A = List ℕ} (drop k (replicate n 0)) (replicate (n - k) 0)
drop_zeros n zero h = let e : n - 0 ≡ n = omega arith in rw e
drop_zeros zero (suc k) h = absurd (omega arith)
drop_zeros (suc n) (suc k) h = let e : suc n - suc k ≡ n - k = omega arith in rw e (drop_zeros n k (omega arith))

pub padded_is : (n : ℕ) (l m : List ℕ) → m ≡ l → length l ≤ n → m ++ drop (length l) (replicate n 0) ≡ padded n l
unfolding padded
padded_is n l m is h = rw (is, drop_zeros n (length l) h)

-- entries that go behind those written so far
front_paste : (p out s : List ℕ) (n k : ℕ) → length p ≡ n → paste (p ++ drop n out) n s k ≡ (p ++ take k s) ++ drop (n + k) out
front_paste p out s n k long =
    rw (take_at p (drop n out) n long, ← long, drop-append-add p (drop (length p) out) k, drop-drop k (length p) out)

-- the simplices of a list, copied to the front of another
pub copied_front : (k n : ℕ) (l out : List ℕ) {new : List ℕ} → new ≡ take (k * n) l → k * n ≤ length l → new ++ drop (k * n) out ≡ front (flatten (simplices k l n)) out
copied_front k n l out is room = rw (is, flatten_simplices k l n room, length-take-le (k * n) l room)

-- a part that goes right behind what was written
part_written : (p q l out : List ℕ) (n k : ℕ) → length p ≡ n → q ≡ l → k ≡ length l → put_mid n k (p ++ drop n out) q ≡ (p ++ l) ++ drop (n + k) out
part_written p q l out n k long is size =
    put_mid-paste n k (p ++ drop n out) q l k is refl size ∙ front_paste p out l n k long ∙ rw (take_all k l (omega arith))

pub three_parts : (h h' es es' ts ts' out : List ℕ) (k j : ℕ) → length h ≡ 11 → h' ≡ h → es' ≡ es → ts' ≡ ts → length es ≡ k → length ts ≡ j → put_mid (11 + k) (11 + k + j - (11 + k)) (put_mid 11 (11 + k - 11) (h' ++ drop 11 out) es') ts' ≡ (h ++ (es ++ ts)) ++ drop (11 + k + j) out
three_parts h h' es es' ts ts' out k j long a b c el tl =
    let second : 11 + k - 11 ≡ k = omega arith in
    let third : 11 + k + j - (11 + k) ≡ j = omega arith in
    let size : length (h ++ es) ≡ 11 + k = omega (arith, length-append h es) in
    rw (second, third, a, part_written h es' es out 11 k long b (sym el), part_written (h ++ es) ts' ts out (11 + k) j size c (sym tl), append_assoc h es ts)

header_long : (v e t lambda : ℕ) → length (header_bytes v e t lambda) ≡ 11
unfolding header_bytes
header_long v e t lambda = refl

-- the bytes of a record's complex
module _ (s : Sheet) (edges_long : length s.complex.edges ≡ 126) (triangles_long : length s.complex.triangles ≡ 768) (few : s.complex.n_edges ≤ 63) (less : s.complex.n_triangles ≤ 256) where
  pub bytes_are : sheet_bytes (complex_of s.complex) s.lambda ≡ header_bytes s.complex.n_vertices s.complex.n_edges s.complex.n_triangles s.lambda ++ (take (2 * s.complex.n_edges) s.complex.edges ++ take (3 * s.complex.n_triangles) s.complex.triangles)
  unfolding sheet_bytes complex_of
  bytes_are =
      let c = s.complex in
      rw
      (simplices_length 2 c.edges c.n_edges, simplices_length 3 c.triangles c.n_triangles, flatten_simplices 2 c.edges c.n_edges (omega arith), flatten_simplices 3 c.triangles c.n_triangles (omega arith))

  pub bytes_long : length (sheet_bytes (complex_of s.complex) s.lambda) ≡ 11 + 2 * s.complex.n_edges + 3 * s.complex.n_triangles
  unfolding header_bytes
  bytes_long =
      let c = s.complex in
      let e = take (2 * c.n_edges) c.edges in
      let t = take (3 * c.n_triangles) c.triangles in
      let el : length e ≡ 2 * c.n_edges = length-take-le (2 * c.n_edges) c.edges (omega arith) in
      let tl : length t ≡ 3 * c.n_triangles = length-take-le (3 * c.n_triangles) c.triangles (omega arith) in
      let h = header_bytes c.n_vertices c.n_edges c.n_triangles s.lambda in
      ap length bytes_are ∙ omega (arith, length-append h (e ++ t), length-append e t)

  -- the bytes, copied in three steps
  pub copied : (out h es ts : List ℕ) → h ≡ header_bytes s.complex.n_vertices s.complex.n_edges s.complex.n_triangles s.lambda → es ≡ take (2 * s.complex.n_edges) s.complex.edges → ts ≡ take (3 * s.complex.n_triangles) s.complex.triangles
      → put_mid (11 + 2 * s.complex.n_edges) (11 + 2 * s.complex.n_edges + 3 * s.complex.n_triangles - (11 + 2 * s.complex.n_edges)) (put_mid 11 (11 + 2 * s.complex.n_edges - 11) (h ++ drop 11 out) es) ts ≡ front (sheet_bytes (complex_of s.complex) s.lambda) out
  copied out h es ts first second third =
      let c = s.complex in
      let el : length (take (2 * c.n_edges) c.edges) ≡ 2 * c.n_edges = length-take-le (2 * c.n_edges) c.edges (omega arith) in
      let tl : length (take (3 * c.n_triangles) c.triangles) ≡ 3 * c.n_triangles = length-take-le (3 * c.n_triangles) c.triangles (omega arith) in
      three_parts _ h _ es _ ts out (2 * c.n_edges) (3 * c.n_triangles) (header_long c.n_vertices c.n_edges c.n_triangles s.lambda) first second third el tl ∙ rw (bytes_long, bytes_are)

-- ---- writing
pub header_written : (v e t lambda : ℕ) (x y : List ℕ) → t < 65536 → lambda < 65536 → x ≡ to_le_bytes w16 t → y ≡ to_le_bytes w16 lambda
    → 71 ∷ 76 ∷ 83 ∷ 1 ∷ 0 ∷ v ∷ e ∷ get_or x 0 0 ∷ get_or x 1 0 ∷ get_or y 0 0 ∷ get_or y 1 0 ∷ [] ≡ header_bytes v e t lambda
unfolding header_bytes
header_written v e t lambda x y small few is are =
    let high : (t / 256) % 256 ≡ t / 256 = omega arith in
    let above : (lambda / 256) % 256 ≡ lambda / 256 = omega arith in
    rw (is, are, high, above)

-- the numbers of an accepted record are small
module _ (c : SimplicialComplex) (lambda : ℕ) (accepted : 0 ≡ first (truncated_tests (complex_of c) lambda)) where
  pub few_edges : c.n_edges ≤ 63
  few_edges = (counts_own c (truncated_passed c lambda (sym accepted)).0).edges

  pub few_triangles : c.n_triangles ≤ 256
  few_triangles = (counts_own c (truncated_passed c lambda (sym accepted)).0).triangles

pub writable : (s : Sheet) (out : List ℕ) → 0 ≡ first (truncated_tests (complex_of s.complex) s.lambda) → 11 + 2 * s.complex.n_edges + 3 * s.complex.n_triangles ≤ length out → Writable s out
writable s out h room =
    let p = truncated_passed s.complex s.lambda (sym h) in
    let k = counts_own s.complex p.0 in
    record { vertices = k.vertices; edges = k.edges; triangles = k.triangles; truncation = p.1; room = room }

module _ (s : Sheet) (edges_long : length s.complex.edges ≡ 126) (triangles_long : length s.complex.triangles ≡ 768) where
  module _ (accepted : 0 ≡ first (truncated_tests (complex_of s.complex) s.lambda)) where
    few_own : (s.complex.n_edges ≤ 63) × (s.complex.n_triangles ≤ 256)
    few_own = (few_edges s.complex s.lambda accepted, few_triangles s.complex s.lambda accepted)

    size_own : length (sheet_bytes (complex_of s.complex) s.lambda) ≡ 11 + 2 * s.complex.n_edges + 3 * s.complex.n_triangles
    size_own = bytes_long s edges_long triangles_long few_own.0 few_own.1

    pub no_room : (out : List ℕ) → length out < 11 + 2 * s.complex.n_edges + 3 * s.complex.n_triangles → Answered (writing_call (complex_of s.complex) s.lambda out) (refused 15) out
    unfolding writing_call
    no_room out h = refuses (writing_call (complex_of s.complex) s.lambda out) (past_truncated (complex_of s.complex) s.lambda (sym accepted) (here (ap (ltb (length out)) size_own ∙ lt-ltb (length out) _ h))) refl

    pub sheet_written : (out : List ℕ) {new : List ℕ} → 11 + 2 * s.complex.n_edges + 3 * s.complex.n_triangles ≤ length out → new ≡ front (sheet_bytes (complex_of s.complex) s.lambda) out
        → Answered (writing_call (complex_of s.complex) s.lambda out) (value (11 + 2 * s.complex.n_edges + 3 * s.complex.n_triangles)) new
    unfolding writing_call
    sheet_written out h is =
        let few = few_own in
        let small : length (sheet_bytes (complex_of s.complex) s.lambda) ≤ 905 = omega (arith, size_own) in
        ends (writing_call (complex_of s.complex) s.lambda out) (past_truncated (complex_of s.complex) s.lambda (sym accepted) (past (ap (ltb (length out)) size_own ∙ le-ltb (length out) _ h) none)) (sym size_own) is small

pub unwritten : (s : Sheet) (out : List ℕ) {k : ℕ} → k ≡ first (truncated_tests (complex_of s.complex) s.lambda) → (k ≡ 0 → ⊥) → Answered (writing_call (complex_of s.complex) s.lambda out) (refused k) out
unfolding writing_call
unwritten s out {k} e some = refuses (writing_call (complex_of s.complex) s.lambda out) (truncated_refuses (complex_of s.complex) s.lambda e some _) (ne_eqb k 0 some)
