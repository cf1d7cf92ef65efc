-- The states and the place of a mask, by the tables of their complex.
use Prim.Native.Nat.{ℕ, zero, suc, ◌*◌, ◌^◌, ◌<◌, ◌≤◌}
use mathlib.Core.List.{List, [], ◌∷◌}
use mathlib.Core.Bool.{true}
use mathlib.Core.Path.{◌≡◌, refl, sym, ap, ap₂, ◌∙◌}
use native.Mathlib.Nat.{lt_of_lt_of_le}
use native.Mathlib.Omega.{arith}
use lib.ListN.{get_or, length, take}
use lib.Seq.{get_or-take, length-take-le}
use Rattle.complex.specs.declared.SimplicialComplex.{SimplicialComplex}
use Rattle.complex.specs.Complex.{Complex, complex_of, entries}
use Rattle.complex.specs.Judge.{refusal}
use Rattle.complex.proofs.Accepting.{accepted}
use Rattle.gauss_law.specs.Listing.{free_edges}
use Rattle.gauss_law.proofs.Spanned.{edges_long}
use Rattle.triangles.specs.declared.Sides.{Sides}
use Rattle.triangles.specs.Indices.{SidesOf, AllSides}
use Rattle.triangles.proofs.AllSides.{own_sides}
use Rattle.triangles.proofs.SidesFound.{triangles_long, sides_below}
use Rattle.su2_even_sets.specs.declared.Forest.{Forest}
use Rattle.su2_even_sets.specs.EvenSets.{even, su2_states, mask_place}
use Rattle.su2_even_sets.specs.Loops.{grown, loop_sums, closing_bits}
use Rattle.su2_even_sets.specs.Forest.{Front, Keeps}
use Rattle.su2_masks.specs.Place.{LoopsOf, Readable}
use Rattle.su2_even_sets.proofs.Forests.{all_grown, closing_below}
use Rattle.su2_even_sets.proofs.ClosingCount.{closing_free}
use Rattle.su2_even_sets.proofs.EvenLists.{masks_listed, even_count, mask_place_read}

-- only the first entries matter
bits_same : (l m : List ℕ) (x n : ℕ) → ((j : ℕ) → j < n → get_or l j 0 ≡ get_or m j 0) → closing_bits l x n ≡ closing_bits m x n
unfolding closing_bits
bits_same l m x zero h = refl
bits_same l m x (suc n) h = rw (bits_same l m x n (λ j k. h j (omega arith)), h n (omega arith))

front_at : (l list : List ℕ) (n : ℕ) → Front l list n → (j : ℕ) → j < n → get_or list j 0 ≡ get_or l j 0
front_at l list n h j k = sym (get_or-take n list j 0 k) ∙ ap (λ (m : List ℕ). get_or m j 0) h.stands

-- the part of the tables that is read
module _ (f : Forest) (ready : Readable f) where
  long_sliced : length (take f.count f.closing) ≡ f.count
  long_sliced = let few = ready.few in length-take-le f.count f.closing (omega (arith, ready.long))

  pub few_sliced : length (take f.count f.closing) ≤ 20
  few_sliced = rw long_sliced ready.few

  pub below_sliced : (j : ℕ) → j < length (take f.count f.closing) → get_or (take f.count f.closing) j 0 < 64
  below_sliced j h = let k : j < f.count = omega (arith, long_sliced) in rw (get_or-take f.count f.closing j 0 k) (ready.below j k)

  pub bits_sliced : (x : ℕ) → closing_bits (take f.count f.closing) x (length (take f.count f.closing)) ≡ closing_bits f.closing x f.count
  bits_sliced x = rw long_sliced (bits_same (take f.count f.closing) f.closing x f.count (λ j k. get_or-take f.count f.closing j 0 k))

-- the tables that are made of an accepted record
pub loops_of : (c : SimplicialComplex) → refusal (complex_of c) ≡ 0 → (f : Forest) → Keeps (grown (complex_of c).edges c.n_edges) f → LoopsOf (complex_of c) f
loops_of c good f keeps = record { accepted = (accepted c).0 good; keeps = rw (edges_long c) keeps }

-- ---- the states
module _ (c : Complex) (f : Forest) (of : LoopsOf c f) where
  pub closing_number : f.count ≡ length (free_edges c)
  closing_number = of.keeps.closing.count ∙ closing_free c of.accepted

  pub states_number : length (su2_states c) ≡ 2 ^ f.count
  states_number = even_count c of.accepted ∙ ap (λ (k : ℕ). 2 ^ k) (sym closing_number)

  pub loops_number : length (take f.count f.loops) ≡ f.count
  loops_number = ap length of.keeps.loops.stands ∙ sym of.keeps.loops.count

  pub masks_are : loop_sums (take f.count f.loops) (length (take f.count f.loops)) ≡ su2_states c
  masks_are =
      ap₂ loop_sums of.keeps.loops.stands (loops_number ∙ of.keeps.closing.count) ∙ masks_listed c of.accepted

-- ---- the place of a mask
module _ (c : Complex) (f : Forest) (of : LoopsOf c f) (x : ℕ) where
  abbrev closing : List ℕ
  closing = (all_grown c.edges).closing

  abbrev loops : List ℕ
  loops = (all_grown c.edges).loops

  number : f.count ≡ length closing
  number = of.keeps.closing.count

  place_is : closing_bits f.closing x f.count ≡ closing_bits closing x (length closing)
  place_is = bits_same f.closing closing x f.count (front_at closing f.closing f.count of.keeps.closing) ∙ ap (closing_bits closing x) number

  -- the place of a listed mask
  pub listed_place : even c x ≡ true → x < 2 ^ length c.edges → closing_bits f.closing x f.count ≡ mask_place c x
  listed_place e b = place_is ∙ sym (mask_place_read c of.accepted x e b)

-- the tables of an accepted complex with few closing edges can be read
loops_readable : (c : Complex) (f : Forest) → LoopsOf c f → f.count ≤ 20 → Readable f
loops_readable c f of few =
    record {
      long = of.keeps.closing.long;
      loops_long = of.keeps.loops.long;
      few = few;
      below = λ j h.
          rw (front_at (all_grown c.edges).closing f.closing f.count of.keeps.closing j h)
          (lt_of_lt_of_le (closing_below c.edges j (rw (← of.keeps.closing.count) h)) edges_few);
    }
  where
    edges_few : length c.edges ≤ 64
    edges_few = omega (arith, of.accepted.few_edges)

-- triangle t of a record, whose sides were read off the table of all
module _ (c : SimplicialComplex) {f : Forest} (of : LoopsOf (complex_of c) f) {t : ℕ} (inside : t < c.n_triangles) {all : List ℕ} (sides : AllSides (complex_of c) all) {s : Sides}
    (told : entries all (3 * t) 3 ≡ s.first ∷ s.second ∷ s.third ∷ []) where
  -- they are its own
  pub sides_told : SidesOf (complex_of c) t s
  sides_told = own_sides (complex_of c) all sides t s (rw (triangles_long c) inside) told

  -- and their place can be read
  pub place_asked : f.count ≤ 20 → Readable f × (s.first < 64) × (s.second < 64) × (s.third < 64)
  place_asked few =
      let right = of.accepted in
      let below = sides_below _ _ _ sides_told.are right sides_told.number in
      (loops_readable (complex_of c) f of few, omega (arith, below.0, right.few_edges), omega (arith, below.1, right.few_edges), omega (arith, below.2, right.few_edges))
