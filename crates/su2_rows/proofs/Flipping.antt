-- Entries in another order make the same row. From a row to the next the columns of all triangles are flipped by the same bits.
use Prim.Native.Nat.{ℕ, zero, suc, ◌+◌, ◌%◌, ◌≤◌, ◌<◌}
use mathlib.Core.List.{List, [], ◌∷◌, ◌++◌, map, map-append, map-map}
use mathlib.Core.Bool.{Bool, true, false, cond}
use mathlib.Core.Path.{◌≡◌, refl, sym, ap, ap₂, ◌∙◌}
use mathlib.Core.Logic.{◌≢◌}
use native.Mathlib.Numerals.{add-one}
use native.Mathlib.Decide.{ℕ_discrete}
use native.Mathlib.Omega.{arith}
use lib.Bits.{bit_xor, xor_comm}
use lib.Ieee.{Float, nan}
use lib.ListN.{get_or, length, take, set}
use lib.Seq.{take_all, get_or-set_same, get_or-set_other}
use Rattle.mathematics.specs.Bits.{bit}
use Rattle.mathematics.specs.Counting.{below}
use Rattle.mathematics.specs.Entries.{Each}
use Rattle.mathematics.proofs.Bits.{bit_xor_lem, same_bits, xor_back}
use Rattle.mathematics.proofs.Front.{take_next}
use Rattle.mathematics.proofs.Maps.{map_same}
use Rattle.mathematics.proofs.Ordered.{before, at_each, ordered_map, ordered_at, at_ordered}
use Rattle.rows.specs.Entries.{pairs}
use Rattle.rows.specs.Row.{kept, diagonal_first, ColumnsDiffer, SameEntries, Sorted}
use Rattle.rows.specs.RowLists.{RowFits}
use Rattle.rows.proofs.Pairs.{pairs_length, pairs_at}
use Rattle.rows.proofs.SameEntries.{each_same, same_then, same_behind, same_map}
use Rattle.su2_rows.specs.Rows.{flipped_entries, flip_entries, RowAdded}

-- ---- columns that differ
-- those of the diagonal of row i and of others behind it
module _ (i : ℕ) (x : Float) (others : List (ℕ × Float)) where
  diagonal_differs : (kept x ≡ true → Each (λ e. i ≢ e.0) others) → ColumnsDiffer others → ColumnsDiffer (diagonal_first i x others)
  diagonal_differs first later = go (kept x) refl
    where
      go : (b : Bool) → kept x ≡ b → ColumnsDiffer (cond b ((i, x) ∷ []) [] ++ others)
      go true is = ordered_at {R = λ (e f : ℕ × Float). e.0 ≢ f.0} (0, nan) (before (first is) (at_ordered (0, nan) others later))
      go false is = later

  module _ (all : ColumnsDiffer (diagonal_first i x others)) where
    first_differs : kept x ≡ true → Each (λ e. i ≢ e.0) others
    first_differs is = at_each (0, nan) others (λ k b. (rw is at all) 0 (suc k) (omega arith) (omega arith))

    pub others_differ : ColumnsDiffer others
    others_differ = go (kept x) all
      where
        go : (b : Bool) → ColumnsDiffer (cond b ((i, x) ∷ []) [] ++ others) → ColumnsDiffer others
        go true h = λ m n less inside. h (suc m) (suc n) (omega arith) (omega arith)
        go false h = h

-- ---- the same entries behind the diagonal of row i
module _ {entries l : List (ℕ × Float)} (s : SameEntries entries l) where
  module _ (i : ℕ) (x : Float) where
    all_same : SameEntries (diagonal_first i x entries) (diagonal_first i x l)
    all_same = same_behind (cond (kept x) ((i, x) ∷ []) []) s

    pub same_differ : ColumnsDiffer (diagonal_first i x entries) → ColumnsDiffer l → ColumnsDiffer (diagonal_first i x l)
    same_differ all later = diagonal_differs i x l (λ is. each_same s (first_differs i x entries all is)) later

    pub same_fits : {at columns_room values_room : ℕ} → RowFits (diagonal_first i x entries) at columns_room values_room → RowFits (diagonal_first i x l) at columns_room values_room
    same_fits h =
        let long = all_same.count in
        record {
          columns_fit = omega (arith, long, h.columns_fit);
          values_fit = omega (arith, long, h.values_fit);
          small = omega (arith, long, h.small);
        }

    pub same_added : {at : ℕ} {starts columns : List ℕ} {values : List Float} {r : ℕ} {starts' columns' : List ℕ} {values' : List Float}
        → RowAdded (diagonal_first i x l) i at starts columns values r starts' columns' values' → RowAdded (diagonal_first i x entries) i at starts columns values r starts' columns' values'
    same_added h =
        record {
          row = h.row;
          is = record { rising = h.is.rising; same = same_then all_same h.is.same };
          appended = h.appended;
        }

-- ---- entries of two lists, one by one
module _ (g : ℕ → ℕ) (f : ℕ → Float) (columns : List ℕ) (values : List Float) (long : length columns ≡ length values) where
  entries_are : (n : ℕ) → n ≤ length columns → ((t : ℕ) → t < n → get_or columns t 0 ≡ g t) → ((t : ℕ) → t < n → get_or values t nan ≡ f t) → take n (pairs columns values) ≡ map (λ t. (g t, f t)) (below n)
  unfolding below
  entries_are zero h cs vs = refl
  entries_are (suc n) h cs vs =
      let inside : n < length (pairs columns values) = rw (pairs_length columns values long) h in
      ap (λ k. take k (pairs columns values)) (sym (add-one n))
      ∙ take_next (pairs columns values) n (0, nan) inside
      ∙ ap₂ (λ l e. l ++ (e ∷ [])) (entries_are n (omega arith) (λ t b. cs t (omega arith)) (λ t b. vs t (omega arith))) (pairs_at columns values n long ∙ ap₂ (λ c v. (c, v)) (cs n (omega arith)) (vs n (omega arith)))
      ∙ sym (map-append (λ t. (g t, f t)) (below n) (n ∷ []))

-- ---- flipped columns
xor_swap : (x a b : ℕ) → bit_xor (bit_xor x a) b ≡ bit_xor (bit_xor x b) a
xor_swap x a b = same_bits _ _ (λ k. rw (bit_xor_lem (bit_xor x a) b k, bit_xor_lem (bit_xor x b) a k, bit_xor_lem x a k, bit_xor_lem x b k) (turned (bit x k) (bit a k) (bit b k)))
  where
    turned : (m n l : ℕ) → ((m + n) % 2 + l) % 2 ≡ ((m + l) % 2 + n) % 2
    turned m n l = omega arith

-- from row i to row i'
xor_moved : (i i' p : ℕ) → bit_xor (bit_xor i p) (bit_xor i i') ≡ bit_xor i' p
xor_moved i i' p = xor_swap i p (bit_xor i i') ∙ ap (λ (x : ℕ). bit_xor x p) (xor_comm i (bit_xor i i') ∙ ap (λ (x : ℕ). bit_xor x i) (xor_comm i i') ∙ xor_back i' i)

-- columns that differ still do
pub flipped_differ : (by : ℕ) (l : List (ℕ × Float)) → ColumnsDiffer l → ColumnsDiffer (flipped_entries by l)
flipped_differ by l differ =
    ordered_at (0, nan)
    (ordered_map {R = λ (e f : ℕ × Float). e.0 ≢ f.0} (λ (e : ℕ × Float). (bit_xor e.0 by, e.1))
    (at_ordered (0, nan) l (λ i j less inside same. differ i j less inside (sym (xor_back (get_or l i (0, nan)).0 by) ∙ ap (λ (x : ℕ). bit_xor x by) same ∙ xor_back (get_or l j (0, nan)).0 by))))

-- the first n columns of a list, flipped by the same bits
pub record Flipped (old : List ℕ) (by n : ℕ) (new : List ℕ) : Type 0 where
  pub flipped : (t : ℕ) → t < n → get_or new t 0 ≡ bit_xor (get_or old t 0) by
  pub rest : (t : ℕ) → n ≤ t → get_or new t 0 ≡ get_or old t 0

pub none_flipped : (old : List ℕ) (by : ℕ) → Flipped old by 0 old
none_flipped old by = record { flipped = λ t h. absurd (omega arith); rest = λ t h. refl }

pub one_flipped : (old : List ℕ) (by n : ℕ) (new : List ℕ) → n < length new → Flipped old by n new → Flipped old by (n + 1) (set new n (bit_xor (get_or new n 0) by))
one_flipped old by n new inside so_far =
    record {
      flipped = λ t h. go t h (ℕ_discrete t n);
      rest = λ t h. get_or-set_other new n t (bit_xor (get_or new n 0) by) 0 (λ e. omega arith) ∙ so_far.rest t (omega arith);
    }
  where
    go : (t : ℕ) → t < n + 1 → Dec (t ≡ n) → get_or (set new n (bit_xor (get_or new n 0) by)) t 0 ≡ bit_xor (get_or old t 0) by
    go t h (yes e) = rw (e, get_or-set_same new n (bit_xor (get_or new n 0) by) 0 inside) (ap (λ (x : ℕ). bit_xor x by) (so_far.rest n (omega arith)))
    go t h (no e) = get_or-set_other new n t (bit_xor (get_or new n 0) by) 0 e ∙ so_far.flipped t (omega arith)

flipped_are : (old new : List ℕ) (values : List Float) (n by : ℕ) → n ≤ length old → length new ≡ length old → length old ≡ length values → ((t : ℕ) → t < n → get_or new t 0 ≡ bit_xor (get_or old t 0) by)
    → take n (pairs new values) ≡ flipped_entries by (take n (pairs old values))
flipped_are old new values n by room same_long long flipped =
    entries_are (λ t. bit_xor (get_or old t 0) by) (λ t. get_or values t nan) new values (same_long ∙ long) n (rw same_long room) flipped (λ t b. refl)
    ∙ sym (ap (flipped_entries by) (entries_are (λ t. get_or old t 0) (λ t. get_or values t nan) old values long n room (λ t b. refl) (λ t b. refl))
    ∙ map-map (λ (e : ℕ × Float). (bit_xor e.0 by, e.1)) (λ t. (get_or old t 0, get_or values t nan)) (below n))

-- those of a row
pub row_flipped : (old new : List ℕ) (values : List Float) (by : ℕ) → length new ≡ length old → length old ≡ length values → ((t : ℕ) → t < length new → get_or new t 0 ≡ bit_xor (get_or old t 0) by)
    → take (length new) (pairs new values) ≡ flipped_entries by (pairs old values)
row_flipped old new values by same long flipped =
    flipped_are old new values (length new) by (omega (arith, same)) same long flipped
    ∙ ap (flipped_entries by) (take_all (length new) (pairs old values) (omega (arith, same, pairs_length old values long)))

pub row_whole : (n : ℕ) (columns : List ℕ) (values : List Float) → length columns ≡ n → length columns ≡ length values → take n (pairs columns values) ≡ pairs columns values
row_whole n columns values many long = take_all n (pairs columns values) (omega (arith, many, pairs_length columns values long))

-- ---- the tables of the triangles
-- are those of row 0
pub flips_first : (places : List ℕ) (terms : List Float) → length places ≡ length terms → pairs places terms ≡ flip_entries places terms (length places) 0
flips_first places terms long =
    sym (row_whole (length places) places terms refl long)
    ∙ entries_are (λ t. bit_xor 0 (get_or places t 0)) (λ t. get_or terms t nan) places terms long (length places) (omega arith) (λ t b. refl) (λ t b. refl)

module _ (places : List ℕ) (terms : List Float) (n : ℕ) where
  flips_moved : (i i' : ℕ) → flipped_entries (bit_xor i i') (flip_entries places terms n i) ≡ flip_entries places terms n i'
  flips_moved i i' =
      map-map (λ (e : ℕ × Float). (bit_xor e.0 (bit_xor i i'), e.1)) (λ t. (bit_xor i (get_or places t 0), get_or terms t nan)) (below n)
      ∙ map_same (λ t. (bit_xor (bit_xor i (get_or places t 0)) (bit_xor i i'), get_or terms t nan)) (λ t. (bit_xor i' (get_or places t 0), get_or terms t nan)) (below n) (λ t. ap (λ (j : ℕ). (j, get_or terms t nan)) (xor_moved i i' (get_or places t 0)))

  -- and flipped become those of another row
  pub flips_next : (i i' : ℕ) {now new : List (ℕ × Float)} → SameEntries (flip_entries places terms n i) now → Sorted (flipped_entries (bit_xor i i') now) new → SameEntries (flip_entries places terms n i') new
  flips_next i i' so_far flipped = same_then (rw (flips_moved i i') at (same_map (λ (e : ℕ × Float). (bit_xor e.0 (bit_xor i i'), e.1)) so_far)) flipped.same
