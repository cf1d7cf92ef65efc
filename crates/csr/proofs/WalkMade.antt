-- A list that begins with the basis, its numbers and the tables of the moves make a walk.
use Prim.Native.Nat.{ℕ, ◌+◌, ◌*◌, ◌^◌, ◌<◌, ◌≤◌}
use mathlib.Core.List.{List, []}
use mathlib.Core.Path.{◌≡◌, refl, sym, ap, ◌∙◌}
use native.Mathlib.Omega.{arith}
use lib.IntN.{ℤ}
use lib.Ieee.{Float, nan}
use lib.ListN.{get_or, length, take}
use lib.Seq.{get_or-take, length-take-le}
use Rattle.complex.specs.Complex.{Complex}
use Rattle.complex.specs.Judge.{Accepted}
use Rattle.gauss_law.specs.Listing.{free_edges, states, limit}
use Rattle.matrices.specs.declared.coupling.KSParams.{KSParams}
use Rattle.hilbert.specs.Search.{row}
use Rattle.plaquettes.specs.declared.target.Sizes.{Sizes}
use Rattle.plaquettes.specs.Targets.{BasisList}
use Rattle.plaquettes.proofs.TriangleTelling.{state_there}
use Rattle.plaquettes.proofs.Targets.{there, row_long, row_is}
use Rattle.plaquettes.proofs.Moves.{small_everywhere}
use Rattle.moves.specs.Numbers.{number, lower, Numbered}
use Rattle.moves.specs.Moves.{tables, move_in}
use Rattle.moves.specs.Tables.{MovesWritten}
use Rattle.moves.proofs.Numbers.{number_few}
use Rattle.entries.specs.Rows.{csr_entries}
use Rattle.csr.specs.Words.{FirstWords}
use Rattle.csr.specs.Fill.{walk_of, WalkOf}
use Rattle.entries.proofs.EntryNumbers.{entries_few}

lower_small : (x : ℕ) → x < limit → lower x ≡ x
unfolding lower
lower_small x h = omega arith

-- the moves stand in the first places of their tables
first_moves : (c : Complex) (L : ℕ) (p : KSParams) (w : ℕ → Float) (free sides keys : List ℕ) (terms : List Float) (n : ℕ) → n ≡ 2 * length c.triangles → MovesWritten c L p w free (tables sides keys terms)
    → MovesWritten c L p w free (tables sides (take n keys) (take n terms))
first_moves c L p w free sides keys terms n n_is moves =
    record {
      sides_are = moves.sides_are;
      each = λ k h. let m = moves.each k h in record { inside = rw (key k h) m.inside; key_is = rw (key k h) m.key_is; term_is = rw (key k h, get_or-take n terms k nan (inside k h)) m.term_is };
      once = λ k j less h e. moves.once k j less h (ap move_in (sym (key k (omega arith))) ∙ e ∙ ap move_in (key j h));
      every = λ q low number. let r = moves.every q low number in (r.0, r.1, ap move_in (key r.0 r.1) ∙ r.2);
    }
  where
    inside : (k : ℕ) → k < 2 * length c.triangles → k < n
    inside k h = rw n_is h

    key : (k : ℕ) → k < 2 * length c.triangles → get_or (take n keys) k 0 ≡ get_or keys k 0
    key k h = get_or-take n keys k 0 (inside k h)

module _ (c : Complex) (list : List ℤ) (s : Sizes) (free : List ℕ) (basis : BasisList c list s free) (candidates : (2 * s.lambda + 1) ^ s.free ≤ limit) where
  abbrev L : ℕ
  L = s.lambda

  abbrev N : ℕ
  N = length (states c L)

  listed : (j : ℕ) → j < length (free_edges c) → get_or free j 0 ≡ get_or (free_edges c) j 0
  listed j h = basis.free_listed j (rw basis.free_count h)

  few : (i : ℕ) → i < N → number L L free (length (free_edges c)) (get_or (states c L) i []) < limit
  few i h = number_few c basis.accepted L free listed (rw basis.free_count at candidates) i h

  -- the number of a row
  number_is : (i : ℕ) → i < s.states → number L L free s.free (row s.edges list i) ≡ number L L free (length (free_edges c)) (get_or (states c L) i [])
  number_is i h = rw (basis.free_count, row_is c list s free basis i h)

  pub numbered : (i : ℕ) → i < s.states → Numbered L L free s.free (row s.edges list i)
  numbered i h =
      let state = state_there c basis.accepted L i (there c list s free basis i h) in
      let is = number_is i h in
      let small = few i (there c list s free basis i h) in
      record {
        truncation = basis.truncation;
        low_small = basis.truncation;
        free_few = basis.free_few;
        free_fit = rw (row_long c list s free basis i h) basis.free_fit;
        small = λ e. rw (row_is c list s free basis i h) (small_everywhere c L (get_or (states c L) i []) state e);
        few = omega arith;
      }

  module _ (p : KSParams) (w : ℕ → Float) (starts words : List ℕ) (written : FirstWords (λ i. number L L free s.free (row s.edges list i)) s.states starts words) where
    word_is : (i : ℕ) → i < N → get_or words i 0 ≡ number L L free (length (free_edges c)) (get_or (states c L) i [])
    word_is i h = let b : i < s.states = rw basis.count h in written.are i b ∙ number_is i b

    pub word_small : (i : ℕ) → i < N → get_or words i 0 < 2 ^ 20
    word_small i h = omega (arith, word_is i h, few i h)

    pub walk_made : (sides keys : List ℕ) (terms : List Float) (count : ℕ) → count ≡ 2 * length c.triangles → MovesWritten c L p w free (tables sides keys terms)
        → WalkOf c L p w free (walk_of sides keys terms count L words s.states list s.edges p.electric)
    walk_made sides keys terms count count_is moves =
        record {
          accepted = basis.accepted;
          few = rw (← basis.count) basis.few;
          small = basis.truncation;
          listed = listed;
          count = count_is;
          candidates = rw basis.free_count at candidates;
          moves_are = moves;
          truncation = refl;
          count_states = basis.count;
          state_is = λ i h. row_is c list s free basis i (rw basis.count h);
          numbers_are = λ i h. ap lower (word_is i h) ∙ lower_small _ (few i h);
          factor = refl;
        }

    -- the same by the first moves of longer tables
    pub walk_sliced : (sides keys : List ℕ) (terms : List Float) (n : ℕ) → n ≡ 2 * length c.triangles → n ≤ length keys → MovesWritten c L p w free (tables sides keys terms)
        → WalkOf c L p w free (walk_of sides (take n keys) (take n terms) (length (take n keys)) L words s.states list s.edges p.electric)
    walk_sliced sides keys terms n n_is room moves = walk_made sides (take n keys) (take n terms) (length (take n keys)) (length-take-le n keys room ∙ n_is) (first_moves c L p w free sides keys terms n n_is moves)

pub entries_small : (c : Complex) → Accepted c → (L : ℕ) (p : KSParams) (w : ℕ → Float) → length (states c L) ≤ 1048576 → csr_entries c L p w < 2 ^ 32
entries_small c accepted L p w few = omega (arith, entries_few c accepted L p w)
