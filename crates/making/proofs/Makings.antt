-- A sheet from flat lists.
use Prim.Native.Nat.{ℕ, ◌-◌, ◌*◌, ◌/◌, ◌%◌, ◌<◌, ◌≤◌}
use mathlib.Core.List.{List, [], ◌∷◌, ◌++◌}
use mathlib.Core.Path.{◌≡◌, refl, sym, ◌∙◌}
use mathlib.Core.Bool.{Bool, true, false, not, ◌&&◌, cond}
use native.Mathlib.Omega.{arith}
use borrow.Author.Tests.{eqb-true, ne_eqb, lt-ltb, le-ltb}
use lib.ListN.{length, replicate}
use lib.Dec.{eqb, ltb}
use Rattle.mathematics.specs.Refusals.{Outcome, refused, first}
use Rattle.mathematics.specs.Calls.{Answered}
use Rattle.mathematics.proofs.Tests.{and_parts}
use Rattle.mathematics.proofs.Refusals.{first_none}
use Rattle.mathematics.proofs.Calls.{among, refuses}
use Rattle.complex.specs.Complex.{simplices, complex_of}
use Rattle.complex.specs.Judge.{counts_right, shape_tests, truncated_tests}
use Rattle.complex.proofs.Simplices.{simplices_length}
use Rattle.complex.proofs.Accepting.{counts}
use Rattle.complex.proofs.Flattened.{simplices_front}
use Rattle.sheet.specs.declared.Sheet.{Sheet}
use Rattle.sheet.specs.Sheet.{padded, sheet_bytes, writing_tests, writing_call}
use Rattle.sheet.proofs.RoundTrips.{read_written}
use Rattle.making.specs.Making.{flat_complex, size_tests, making_tests, making_call, MadeThenRead, Sizes}

three_pass : (p q r : Bool) → ◌≡◌ {A = ℕ} (cond (not p) 4 (cond q 5 (cond (not r) 6 0))) 0 → (p ≡ true) × (q ≡ false) × (r ≡ true)
three_pass false q r h = absurd (omega arith)
three_pass true true r h = absurd (omega arith)
three_pass true false false h = absurd (omega arith)
three_pass true false true h = (refl, refl, refl)

-- ---- what the judge of the sizes tells, by the test that decides it
module _ (n : ℕ) (edges triangles : List ℕ) (lambda : ℕ) where
  pub counts_told : counts_right n (length edges / 2) (length triangles / 3) ≡ false → 4 ≡ first (size_tests n edges triangles lambda)
  unfolding first size_tests
  counts_told h = rw h

  module _ (right : counts_right n (length edges / 2) (length triangles / 3) ≡ true) where
    pub truncation_told : 1000 < lambda → 5 ≡ first (size_tests n edges triangles lambda)
    unfolding first size_tests
    truncation_told h = rw (right, lt-ltb 1000 lambda h)

    module _ (few : lambda ≤ 1000) where
      pub lengths_told : (length edges % 2 ≡ 0 → length triangles % 3 ≡ 0 → ⊥) → 6 ≡ first (size_tests n edges triangles lambda)
      unfolding first size_tests
      lengths_told h = rw (right, le-ltb 1000 lambda few) (go (eqb (length edges % 2) 0) refl (eqb (length triangles % 3) 0) refl)
        where
          go : (a : Bool) → eqb (length edges % 2) 0 ≡ a → (b : Bool) → eqb (length triangles % 3) 0 ≡ b → ◌≡◌ {A = ℕ} 6 (cond (not (a && b)) 6 0)
          go false e b f = refl
          go true e false f = refl
          go true e true f = absurd (h (eqb-true (length edges % 2) 0 e) (eqb-true (length triangles % 3) 0 f))

      pub sizes_told : length edges % 2 ≡ 0 → length triangles % 3 ≡ 0 → 0 ≡ first (size_tests n edges triangles lambda)
      unfolding first size_tests
      sizes_told even third = rw (right, le-ltb 1000 lambda few, even, third)

-- sizes that passed their tests
record Passed (n : ℕ) (edges triangles : List ℕ) (lambda : ℕ) : Type 0 where
  counts_pass : counts_right n (length edges / 2) (length triangles / 3) ≡ true
  truncation : ltb 1000 lambda ≡ false
  multiples : (eqb (length edges % 2) 0 && eqb (length triangles % 3) 0) ≡ true

passed_of : (n : ℕ) (edges triangles : List ℕ) (lambda : ℕ) → first (size_tests n edges triangles lambda) ≡ 0 → Passed n edges triangles lambda
unfolding first size_tests
passed_of n edges triangles lambda h =
    let p = three_pass (counts_right n (length edges / 2) (length triangles / 3)) (ltb 1000 lambda) (eqb (length edges % 2) 0 && eqb (length triangles % 3) 0) h in
    record { counts_pass = p.0; truncation = p.1; multiples = p.2 }

pub sizes_of : (n : ℕ) (edges triangles : List ℕ) (lambda : ℕ) → 0 ≡ first (size_tests n edges triangles lambda) → Sizes n edges triangles
sizes_of n edges triangles lambda h =
    let p = passed_of n edges triangles lambda (sym h) in
    let q = and_parts (eqb (length edges % 2) 0) (eqb (length triangles % 3) 0) p.multiples in
    let even = eqb-true (length edges % 2) 0 q.0 in
    let third = eqb-true (length triangles % 3) 0 q.1 in
    record { counts_pass = p.counts_pass; pairs = omega arith; triples = omega arith }

-- the simplices of a whole list, with zeros behind it
whole_list : (k m : ℕ) (l : List ℕ) (n : ℕ) → length l ≡ k * n → simplices k (padded m l) n ≡ simplices k l n
unfolding padded
whole_list k m l n long = simplices_front k l (replicate (m - length l) 0) n (omega arith)

module _ {n : ℕ} {edges triangles : List ℕ} (s : Sizes n edges triangles) where
  pub edges_fit : length edges ≤ 126
  edges_fit = let pairs = s.pairs in let few = (counts n (length edges / 2) (length triangles / 3) s.counts_pass).edges in omega arith

  pub triangles_fit : length triangles ≤ 768
  triangles_fit = let triples = s.triples in let few = (counts n (length edges / 2) (length triangles / 3) s.counts_pass).triangles in omega arith

module _ (n : ℕ) (edges triangles : List ℕ) (lambda : ℕ) where
  -- sizes that are refused
  pub sizes_refuse : (old : List ℕ) {k : ℕ} → k ≡ first (size_tests n edges triangles lambda) → (k ≡ 0 → ⊥) → Answered (making_call n edges triangles lambda old) (refused k) old
  unfolding making_call
  sizes_refuse old {k} e some = refuses (making_call n edges triangles lambda old) (among (size_tests n edges triangles lambda) _ e some) (ne_eqb k 0 some)

  -- past the sizes, what is judged in writing is what is judged in making
  same_refusal : first (size_tests n edges triangles lambda) ≡ 0 → (room : ℕ) → first (writing_tests (flat_complex n edges triangles) lambda room) ≡ first (making_tests n edges triangles lambda room)
  unfolding first size_tests flat_complex
  same_refusal h room =
      let s = passed_of n edges triangles lambda h in
      rw (simplices_length 2 edges (length edges / 2), simplices_length 3 triangles (length triangles / 3), s.counts_pass, s.truncation, s.multiples)

  pub made_by : 0 ≡ first (size_tests n edges triangles lambda) → (old : List ℕ) {a : Outcome ℕ} {new : List ℕ} → Answered (writing_call (flat_complex n edges triangles) lambda old) a new → Answered (making_call n edges triangles lambda old) a new
  unfolding writing_call making_call
  made_by h old w =
      let e = same_refusal (sym h) (length old) in
      record { answer = rw e at w.answer; lists = rw e at w.lists; known = λ z. w.known (e ∙ z) }

-- ---- what is made is read back
abbrev flat_sheet : ℕ → List ℕ → List ℕ → ℕ → Sheet
flat_sheet n edges triangles lambda =
    record {
      complex = record {
        n_vertices = n;
        n_edges = length edges / 2;
        edges = padded 126 edges;
        n_triangles = length triangles / 3;
        triangles = padded 768 triangles;
      };
      lambda = lambda;
    }

pub flat_is : (n : ℕ) (edges triangles : List ℕ) (lambda : ℕ) → Sizes n edges triangles → complex_of (flat_sheet n edges triangles lambda).complex ≡ flat_complex n edges triangles
unfolding complex_of flat_complex
flat_is n edges triangles lambda s = rw (whole_list 2 126 edges (length edges / 2) s.pairs, whole_list 3 768 triangles (length triangles / 3) s.triples)

pub made_read : MadeThenRead
made_read n edges triangles lambda room none =
    let c = flat_complex n edges triangles in
    let full : List (ℕ × Bool) = (15, ltb room (length (sheet_bytes c lambda))) ∷ [] in
    let h = first_none (size_tests n edges triangles lambda) (shape_tests c ++ full) none in
    let is = flat_is n edges triangles lambda (sizes_of n edges triangles lambda (sym h)) in
    let fine : first (truncated_tests c lambda) ≡ 0 = first_none (truncated_tests c lambda) full (same_refusal n edges triangles lambda h room ∙ none) in
    let back = read_written (flat_sheet n edges triangles lambda) (rw is fine) in
    record { accepted = rw is at back.accepted; complex = rw is at back.complex; truncation = rw is at back.truncation }
