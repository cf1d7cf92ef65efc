-- What is printed, by the test that decides it.
use Prim.Native.Nat.{ℕ, ◌+◌, ◌-◌, ◌*◌, ◌^◌, ◌≤◌, ◌<◌}
use mathlib.Core.List.{List, [], ◌∷◌, ◌++◌}
use mathlib.Core.Bool.{true, false}
use mathlib.Core.Path.{◌≡◌, sym, ◌∙◌}
use native.Mathlib.Omega.{arith}
use lib.Dec.{ltb}
use lib.ListN.{length}
use borrow.Author.Tests.{ltb-false}
use Rattle.mathematics.specs.Refusals.{first, written, value, refused}
use Rattle.mathematics.specs.Calls.{Answered, none_lent}
use Rattle.mathematics.proofs.Refusals.{refused_kept}
use Rattle.complex.specs.declared.SimplicialComplex.{SimplicialComplex}
use Rattle.complex.specs.Complex.{Complex, complex_of}
use Rattle.complex.specs.Judge.{refusal}
use Rattle.complex.proofs.Simplices.{simplices_length}
use Rattle.complex.proofs.Accepting.{accepted}
use Rattle.gauss_law.proofs.Spanned.{edges_long}
use Rattle.sheet.specs.declared.Sheet.{Sheet}
use Rattle.sheet.specs.Sheet.{sheet_in, reading_refusal, reading_call}
use Rattle.sheet.proofs.Reading.{stops, read_is, read_goes_on, refused_none, refused_stops}
use Rattle.walker.specs.declared.tables.Walker.{Walker}
use Rattle.walker.specs.Tables.{Walks, states_of, Fit}
use Rattle.enumeration.proofs.Limits.{power_less}
use Rattle.walker.proofs.Fitting.{walks_fit, walks_states}
use Rattle.lines.specs.Lines.{first_line, state_lines, refused_line}
use Rattle.lines.specs.Printed.{printed}
use Rattle.lines.proofs.Lengths.{first_line_long}
use Rattle.enumeration.specs.Enumeration.{limit_test}
use Rattle.gauss_law.specs.Listing.{states}
use Rattle.pages.specs.Text.{told, basis_refusal, basis_text}

-- the first line is short enough
pub first_line_short : (c : SimplicialComplex) (L dim : ℕ) → refusal (complex_of c) ≡ 0 → L ≤ 1000 → dim < 2 ^ 64 → length (first_line c.n_vertices c.n_edges c.n_triangles L dim) ≤ 400
unfolding complex_of
first_line_short c L dim good truncation few =
    let a = (accepted c).0 good in
    let vertices : c.n_vertices ≤ 64 = a.few_vertices in
    let edges : c.n_edges ≤ 63 = rw (simplices_length 2 c.edges c.n_edges) at a.few_edges in
    let triangles : c.n_triangles ≤ 256 = rw (simplices_length 3 c.triangles c.n_triangles) at a.few_triangles in
    omega (arith, first_line_long c.n_vertices c.n_edges c.n_triangles L dim (omega arith) (omega arith) (omega arith) (omega arith) few)

-- ---- the candidates
module _ (c : SimplicialComplex) (L : ℕ) (w : Walker) (walks : Walks (complex_of c) L w) where
  pub over_number : ltb 1048576 ((2 * L + 1) ^ w.n_free) ≡ true → first (limit_test (complex_of c) L ∷ []) ≡ 10
  unfolding first
  over_number h = rw (← walks.count, h)

  pub over : ltb 1048576 ((2 * L + 1) ^ w.n_free) ≡ true → told (first (limit_test (complex_of c) L ∷ [])) (complex_of c) L ≡ refused_line 10
  unfolding told written
  over h = rw (over_number h)

  module _ (under : ltb 1048576 ((2 * L + 1) ^ w.n_free) ≡ false) where
    pub under_number : first (limit_test (complex_of c) L ∷ []) ≡ 0
    unfolding first
    under_number = rw (← walks.count, under)

    pub candidates_few : (2 * L + 1) ^ w.n_free ≤ 1048576
    candidates_few = ltb-false 1048576 ((2 * L + 1) ^ w.n_free) under

    module _ (blocks : ℕ) (number : blocks ≡ (2 * L + 1) ^ (w.n_free - 1)) where
      pub blocks_fit : L ≤ 1000 → Fit w L blocks
      blocks_fit h = walks_fit (complex_of c) w L walks blocks h (rw number (omega (arith, power_less L w.n_free, candidates_few)))

      pub under_told : told (first (limit_test (complex_of c) L ∷ [])) (complex_of c) L
          ≡ first_line c.n_vertices c.n_edges c.n_triangles L (length (states_of w L blocks)) ++ state_lines 0 (states_of w L blocks)
      unfolding told written printed complex_of states
      under_told =
          rw (under_number, number, walks_states (complex_of c) w L walks, edges_long c, simplices_length 3 c.triangles c.n_triangles)

-- ---- the sheet
module _ (b : List ℕ) where
  -- the text is that of its refusal
  read_told : (n : ℕ) → n ≡ basis_refusal b → told n (complex_of (sheet_in b).complex) (sheet_in b).lambda ≡ basis_text b
  unfolding basis_text
  read_told n h = rw h

  told_refused : (n : ℕ) → (n ≡ 0 → ⊥) → (c : Complex) (L : ℕ) → refused_line n ≡ told n c L
  unfolding told
  told_refused n some c L = refused_kept n (printed c L) (refused_line n) some

  stopped_told : (n : ℕ) → (n ≡ 0 → ⊥) → n ≡ basis_refusal b → refused_line n ≡ basis_text b
  stopped_told n some e = told_refused n some (complex_of (sheet_in b).complex) (sheet_in b).lambda ∙ read_told n e

  pub refusal_told : (n : ℕ) → reading_refusal b ≡ n → (n ≡ 0 → ⊥) → refused_line n ≡ basis_text b
  unfolding basis_refusal
  refusal_told n e some = stopped_told n some (sym (stops b n e some _))

  -- it was read
  module _ (s : Sheet) (h : Answered (reading_call b) (value s) none_lent) where
    pub accepted_number : first (limit_test (complex_of s.complex) s.lambda ∷ []) ≡ basis_refusal b
    unfolding basis_refusal
    accepted_number = rw (read_is b s h) (sym (read_goes_on b s h _))

    pub accepted_told : told (first (limit_test (complex_of s.complex) s.lambda ∷ [])) (complex_of s.complex) s.lambda ≡ basis_text b
    accepted_told = let number = accepted_number in rw (read_is b s h) (read_told _ (rw (read_is b s h) at number))

  -- or refused
  module _ (k : ℕ) (h : Answered (reading_call b) (refused k) none_lent) where
    pub refused_kind : k ≡ basis_refusal b
    unfolding basis_refusal
    refused_kind = sym (refused_stops b k h _)

    pub refused_told : refused_line k ≡ basis_text b
    refused_told = stopped_told k (refused_none b k h) refused_kind
