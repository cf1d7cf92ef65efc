-- The list of all states is complete.
use Prim.Native.Nat.{ℕ, ◌+◌, ◌*◌, ◌-◌, ◌≤◌, ◌<◌}
use mathlib.Core.List.{List, [], ◌++◌, map}
use mathlib.Core.Bool.{Bool, true, false}
use mathlib.Core.Path.{◌≡◌, refl, sym, ◌∙◌, ap}
use mathlib.Core.Logic.{◌≢◌}
use native.Mathlib.Omega.{arith}
use native.Mathlib.Decide.{dec_lt}
use lib.Dec.{eqb}
use lib.IntN.{ℤ, pos, ◌-ℤ◌, nat_abs}
use lib.Signed.{◌<ℤ◌}
use lib.ListN.{get_or, length, length-append, length-map}
use lib.Seq.{ext_get_or, get_or-append-add}
use Rattle.mathematics.specs.Lists.{listed, position}
use Rattle.mathematics.specs.Counting.{below, counted}
use Rattle.mathematics.proofs.Integers.{positive, negative, integral, parts, parts_size, one_part, the, ◌⊟◌, less_by_parts, less_trans, less_apart}
use Rattle.mathematics.specs.Entries.{Each}
use Rattle.mathematics.proofs.Ordered.{Member, Ordered, each_to, each_both, each_append, each_map, each_at, each_anywhere, at_each, member_map, member_left, member_right, member_place, place_member, ordered_append, ordered_map, ordered_to, ordered_at, at_ordered, keep_passes, keep_each, keep_ordered, keep_member, same_members}
use Rattle.mathematics.proofs.Below.{length_below, below_each, below_ordered, below_member, map_at, map_below_at, listed_member, member_listed, not_listed, place_at, complement}
use Rattle.mathematics.proofs.Digits.{Smaller, counted_each, counted_member, counted_ordered}
use Rattle.complex.specs.Complex.{Complex}
use Rattle.gauss_law.specs.Gauss.{gauss, Lawful, lawful, State}
use Rattle.gauss_law.specs.Listing.{tree_edges, free_edges, values, placed, listing, Free, Before, Complete}
use Rattle.gauss_law.proofs.Gauss.{lawful_true, true_lawful}
use Rattle.gauss_law.proofs.Tree.{Solvable}
use Rattle.gauss_law.proofs.Free.{free_below, free_rising, free_once, free_not_tree, not_tree_free, determined}

-- ---- the values -L to L
shifted : (L d : ℕ) → d < 2 * L + 1 → nat_abs (pos d -ℤ pos L) ≤ L
unfolding positive negative
shifted L d h = omega (arith, parts_size (pos d -ℤ pos L), one_part (pos d -ℤ pos L), parts (the (pos d) ⊟ the (pos L)))

pub values_within : (L : ℕ) → Each (λ x. nat_abs x ≤ L) (values L)
unfolding values
values_within L = each_map (λ d. pos d -ℤ pos L) (each_to (λ d h. shifted L d h) (below_each (2 * L + 1)))

pub values_ordered : (L : ℕ) → Ordered ◌<ℤ◌ (values L)
unfolding values positive negative
values_ordered L =
    ordered_map (λ d. pos d -ℤ pos L)
    (ordered_to (λ d e a b h. less_by_parts (pos d -ℤ pos L) (pos e -ℤ pos L) (omega (arith, parts (the (pos d) ⊟ the (pos L)), parts (the (pos e) ⊟ the (pos L)))))
    (below_each (2 * L + 1)) (below_ordered (2 * L + 1)))

pub values_member : (L : ℕ) (x : ℤ) → nat_abs x ≤ L → Member x (values L)
unfolding values positive negative
values_member L x h =
    let d = (positive x + L) - negative x in
    let e : pos d -ℤ pos L ≡ x = omega (integral, parts_size x, parts (the (pos d) ⊟ the (pos L))) in
    rw e at (member_map (λ d. pos d -ℤ pos L) (below_member (2 * L + 1) d (omega (arith, parts_size x))))

-- ---- an assignment and its digits
-- all edges, the least significant first
abbrev pub ranked : Complex → List ℕ
ranked c = tree_edges c ++ free_edges c

-- the values of an assignment, the least significant first
abbrev digits : Complex → List ℤ → List ℤ
digits c s = map (λ e. get_or s e (pos 0)) (ranked c)

pub placed_length : (order : List ℕ) (xs : List ℤ) → length (placed order xs) ≡ length xs
unfolding placed
placed_length order xs = length-map (below (length xs)) (λ e. get_or xs (position eqb e order) (pos 0)) ∙ length_below (length xs)

module _ (c : Complex) (tree : Solvable c.edges c.vertices (tree_edges c)) where
  pub ranked_length : length (ranked c) ≡ length c.edges
  unfolding free_edges
  ranked_length = length-append (tree_edges c) (free_edges c) ∙ complement (tree_edges c) (length c.edges) tree.once tree.numbered

  ranked_once : Ordered (λ d e. d ≢ e) (ranked c)
  ranked_once =
      ordered_append tree.once (free_once c)
      (at_each 0 (tree_edges c) (λ i h. each_to (λ e f k. f (rw k at (place_member 0 (tree_edges c) i h))) (free_not_tree c)))

  ranked_below : Each (λ e. e < length c.edges) (ranked c)
  ranked_below = each_append tree.numbered (free_below c)

  ranked_member : (e : ℕ) → e < length c.edges → Member e (ranked c)
  ranked_member e h = go (listed eqb e (tree_edges c)) refl
    where
      go : (b : Bool) → listed eqb e (tree_edges c) ≡ b → Member e (ranked c)
      go true k = member_left (free_edges c) (listed_member e (tree_edges c) k)
      go false k = member_right (tree_edges c) (not_tree_free c e h (not_listed k))

  -- the k-th digit stands on the k-th edge
  placed_at : (xs : List ℤ) → length xs ≡ length c.edges → (k : ℕ) → k < length c.edges
      → get_or (placed (ranked c) xs) (get_or (ranked c) k 0) (pos 0) ≡ get_or xs k (pos 0)
  unfolding placed
  placed_at xs l k h =
      let i : k < length (ranked c) = omega (arith, ranked_length) in
      let j : get_or (ranked c) k 0 < length xs = omega (arith, each_at 0 ranked_below k i) in
      map_below_at (λ e. get_or xs (position eqb e (ranked c)) (pos 0)) (length xs) (get_or (ranked c) k 0) (pos 0) j
      ∙ ap (λ m. get_or xs m (pos 0)) (place_at 0 ranked_once k i)

  digits_length : (s : List ℤ) → length (digits c s) ≡ length c.edges
  digits_length s = length-map (ranked c) (λ e. get_or s e (pos 0)) ∙ ranked_length

  -- an assignment is placed from its digits
  restored : (s : List ℤ) → length s ≡ length c.edges → placed (ranked c) (digits c s) ≡ s
  restored s l = ext_get_or (pos 0) (placed (ranked c) (digits c s)) s (long ∙ sym l) (λ e h. each e (member_place 0 (ranked_member e (omega (arith, long)))))
    where
      long : length (placed (ranked c) (digits c s)) ≡ length c.edges
      long = placed_length (ranked c) (digits c s) ∙ digits_length s

      each : (e : ℕ) → (k : ℕ) × (k < length (ranked c)) × (get_or (ranked c) k 0 ≡ e) → get_or (placed (ranked c) (digits c s)) e (pos 0) ≡ get_or s e (pos 0)
      each e (k, b, f) =
          rw (← f) (placed_at (digits c s) (digits_length s) k (omega (arith, ranked_length)) ∙ map_at (λ e. get_or s e (pos 0)) (ranked c) k 0 (pos 0) b)

  pub free_place : (e : ℕ) → Free c e → (m : ℕ) × (m < length (free_edges c)) × (get_or (free_edges c) m 0 ≡ e)
  free_place e f = member_place 0 (listed_member e (free_edges c) f)

  -- the free edges stand past the tree edges
  past_tree : (m : ℕ) → get_or (ranked c) (length (tree_edges c) + m) 0 ≡ get_or (free_edges c) m 0
  past_tree m = get_or-append-add (tree_edges c) (free_edges c) m 0

  pub edges_split : length (tree_edges c) + length (free_edges c) ≡ length c.edges
  edges_split = sym (length-append (tree_edges c) (free_edges c)) ∙ ranked_length

  -- of two free edges the lower stands earlier
  pub earlier : (i m : ℕ) → i < length (free_edges c) → m < length (free_edges c) → get_or (free_edges c) i 0 < get_or (free_edges c) m 0 → i < m
  earlier i m a b h = go (dec_lt i m) (dec_lt m i)
    where
      go : Dec (i < m) → Dec (m < i) → i < m
      go (yes k) r = k
      go (no k) (yes l) = absurd (omega (arith, ordered_at 0 (free_rising c) m i l a))
      go (no k) (no l) =
          let e : i ≡ m = omega arith in
          let f : get_or (free_edges c) i 0 ≡ get_or (free_edges c) m 0 = ap (λ j. get_or (free_edges c) j 0) e in
          absurd (omega arith)

  -- ---- in order
  module _ (xs ys : List ℤ) (lx : length xs ≡ length c.edges) (ly : length ys ≡ length c.edges) (smaller : Smaller (pos 0) ◌<ℤ◌ xs ys) where
    -- digits above the one where they differ agree
    placed_above : (m : ℕ) → m < length (free_edges c) → smaller.at < length (tree_edges c) + m
        → get_or (placed (ranked c) xs) (get_or (free_edges c) m 0) (pos 0) ≡ get_or (placed (ranked c) ys) (get_or (free_edges c) m 0) (pos 0)
    placed_above m h k =
        let l : length (tree_edges c) + m < length c.edges = omega (arith, edges_split) in
        rw (← (past_tree m)) (placed_at xs lx (length (tree_edges c) + m) l ∙ smaller.above (length (tree_edges c) + m) k ∙ sym (placed_at ys ly (length (tree_edges c) + m) l))

    placed_less : get_or (placed (ranked c) xs) (get_or (ranked c) smaller.at 0) (pos 0) <ℤ get_or (placed (ranked c) ys) (get_or (ranked c) smaller.at 0) (pos 0)
    placed_less =
        let h : smaller.at < length c.edges = omega (arith, smaller.within) in
        rw (placed_at xs lx smaller.at h, placed_at ys ly smaller.at h) smaller.less

    -- where they differ on a free edge last, the one comes before the other
    free_last : (m : ℕ) → smaller.at ≡ length (tree_edges c) + m → Before c (placed (ranked c) xs) (placed (ranked c) ys)
    free_last m e =
        let h : m < length (free_edges c) = omega (arith, smaller.within, edges_split) in
        let f : get_or (ranked c) smaller.at 0 ≡ get_or (free_edges c) m 0 = ap (λ k. get_or (ranked c) k 0) e ∙ past_tree m in
        record {
          edge = get_or (free_edges c) m 0;
          free = member_listed (place_member 0 (free_edges c) m h);
          less = rw f at placed_less;
          above = λ g k r. above h g k (free_place g r);
        }
      where
        above : m < length (free_edges c) → (g : ℕ) → get_or (free_edges c) m 0 < g → (i : ℕ) × (i < length (free_edges c)) × (get_or (free_edges c) i 0 ≡ g)
            → get_or (placed (ranked c) xs) g (pos 0) ≡ get_or (placed (ranked c) ys) g (pos 0)
        above h g k (i, b, f) = rw (← f) (placed_above i b (omega (arith, earlier m i h b (omega arith))))

    -- where they differ on no free edge they are equal, if they have the same Gauss sums
    tree_last : smaller.at < length (tree_edges c) → ((v : ℕ) → v < c.vertices → gauss c.edges (placed (ranked c) xs) v ≡ gauss c.edges (placed (ranked c) ys) v) → ⊥
    tree_last h same =
        less_apart _ _ placed_less
        (ap (λ s. get_or s (get_or (ranked c) smaller.at 0) (pos 0))
        (determined c tree (placed (ranked c) xs) (placed (ranked c) ys) (placed_length (ranked c) xs ∙ lx) (placed_length (ranked c) ys ∙ ly) (λ e f. agree e (free_place e f)) same))
      where
        agree : (e : ℕ) → (m : ℕ) × (m < length (free_edges c)) × (get_or (free_edges c) m 0 ≡ e) → get_or (placed (ranked c) xs) e (pos 0) ≡ get_or (placed (ranked c) ys) e (pos 0)
        agree e (m, b, f) = rw (← f) (placed_above m b (omega arith))

    placed_before : ((v : ℕ) → v < c.vertices → gauss c.edges (placed (ranked c) xs) v ≡ gauss c.edges (placed (ranked c) ys) v)
        → Before c (placed (ranked c) xs) (placed (ranked c) ys)
    placed_before same = go (dec_lt smaller.at (length (tree_edges c)))
      where
        go : Dec (smaller.at < length (tree_edges c)) → Before c (placed (ranked c) xs) (placed (ranked c) ys)
        go (yes h) = absurd (tree_last h same)
        go (no h) = free_last (smaller.at - length (tree_edges c)) (omega arith)

-- ---- the list
module _ (c : Complex) (q : ℕ → ℤ) (L : ℕ) (tree : Solvable c.edges c.vertices (tree_edges c)) where
  digits_are : Each (λ xs. (length xs ≡ length c.edges) × Each (λ x. nat_abs x ≤ L) xs) (counted (values L) (length c.edges))
  digits_are = counted_each (values L) (λ x. nat_abs x ≤ L) (values_within L) (length c.edges)

  listing_states : Each (State c q L) (listing c q L)
  unfolding listing placed
  listing_states =
      each_to (λ s r. record { sized = r.0.0; within = r.0.1; law = lawful_true c q s r.1 })
      (each_both
      (keep_each (lawful c q)
      (each_map {P = λ s. (length s ≡ length c.edges) × ((e : ℕ) → e < length c.edges → nat_abs (get_or s e (pos 0)) ≤ L)} (placed (ranked c))
      (each_to (λ xs r. (placed_length (ranked c) xs ∙ r.0, λ e h. within xs r.0 r.1 e h)) digits_are)))
      (keep_passes (lawful c q) (map (placed (ranked c)) (counted (values L) (length c.edges)))))
    where
      within : (xs : List ℤ) → length xs ≡ length c.edges → Each (λ x. nat_abs x ≤ L) xs → (e : ℕ) → e < length c.edges → nat_abs (get_or (placed (ranked c) xs) e (pos 0)) ≤ L
      within xs l h e k =
          let m : e < length xs = omega arith in
          rw (map_below_at (λ e. get_or xs (position eqb e (ranked c)) (pos 0)) (length xs) e (pos 0) m) (each_anywhere {P = λ x. nat_abs x ≤ L} (pos 0) (omega arith) h (position eqb e (ranked c)))

  listing_ordered : Ordered (Before c) (listing c q L)
  unfolding listing
  listing_ordered =
      ordered_to (λ s t a b r. r (lawful_true c q s a) (lawful_true c q t b))
      (keep_passes (lawful c q) (map (placed (ranked c)) (counted (values L) (length c.edges))))
      (keep_ordered (lawful c q)
      (ordered_map {R = λ s t. Lawful c q s → Lawful c q t → Before c s t} (placed (ranked c))
      (ordered_to (λ xs ys a b r f g. placed_before c tree xs ys a.0 b.0 r (λ v h. f v h ∙ sym (g v h))) digits_are
      (counted_ordered (values L) (pos 0) ◌<ℤ◌ (values_ordered L) (length c.edges)))))

  listing_member : (s : List ℤ) → State c q L s → Member s (listing c q L)
  unfolding listing
  listing_member s h =
      keep_member (lawful c q) (true_lawful c q s h.law)
      (rw (restored c tree s h.sized) at (member_map (placed (ranked c)) (rw (digits_length c tree s) at (counted_member (values L) chosen))))
    where
      chosen : Each (λ x. Member x (values L)) (digits c s)
      chosen = each_map (λ e. get_or s e (pos 0)) (each_to (λ e k. values_member L (get_or s e (pos 0)) (h.within e k)) (ranked_below c tree))

-- ---- the order
pub before_apart : (c : Complex) (s t : List ℤ) → Before c s t → s ≢ t
before_apart c s t r e = less_apart (get_or s r.edge (pos 0)) (get_or t r.edge (pos 0)) r.less (ap (λ u. get_or u r.edge (pos 0)) e)

pub before_trans : (c : Complex) (s t u : List ℤ) → Before c s t → Before c t u → Before c s u
before_trans c s t u a b = go (dec_lt a.edge b.edge) (dec_lt b.edge a.edge)
  where
    go : Dec (a.edge < b.edge) → Dec (b.edge < a.edge) → Before c s u
    go (yes h) r =
        record {
          edge = b.edge;
          free = b.free;
          less = rw (a.above b.edge h b.free) b.less;
          above = λ e k f. a.above e (omega arith) f ∙ b.above e k f;
        }
    go (no h) (yes k) =
        record {
          edge = a.edge;
          free = a.free;
          less = rw (b.above a.edge k a.free) at a.less;
          above = λ e l f. a.above e l f ∙ b.above e (omega arith) f;
        }
    go (no h) (no k) =
        let m : b.edge ≡ a.edge = omega arith in
        record {
          edge = a.edge;
          free = a.free;
          less = less_trans (get_or s a.edge (pos 0)) (get_or t a.edge (pos 0)) (get_or u a.edge (pos 0)) a.less (rw m at b.less);
          above = λ e l f. a.above e l f ∙ b.above e (omega arith) f;
        }

-- ---- complete
pub complete_from : (c : Complex) (q : ℕ → ℤ) (L : ℕ) {ss : List (List ℤ)}
    → ((s : List ℤ) → State c q L s → Member s ss) → Each (State c q L) ss → Ordered (Before c) ss → Complete c q L ss
complete_from c q L member each order =
    record {
      every = λ s h. member_place [] (member s h);
      only = λ s r. rw r.2 at (each_at [] each r.0 r.1);
      once = λ i j h k e. before_apart c _ _ (ordered_at [] order i j h k) e;
      ordered = ordered_at [] order;
    }

pub solvable_complete : (c : Complex) (q : ℕ → ℤ) (L : ℕ) → Solvable c.edges c.vertices (tree_edges c) → Complete c q L (listing c q L)
solvable_complete c q L tree = complete_from c q L (listing_member c q L tree) (listing_states c q L tree) (listing_ordered c q L tree)

-- two complete lists are the same list
pub complete_once : (c : Complex) (q : ℕ → ℤ) (L : ℕ) (ss tt : List (List ℤ)) → Complete c q L ss → Complete c q L tt → ss ≡ tt
complete_once c q L ss tt a b =
    same_members (Before c) (before_trans c) (λ s r. before_apart c s s r refl) ss tt
    (at_ordered [] ss a.ordered) (at_ordered [] tt b.ordered) (within ss tt a b) (within tt ss b a)
  where
    within : (l m : List (List ℤ)) → Complete c q L l → Complete c q L m → (s : List ℤ) → Member s l → Member s m
    within l m x y s h =
        let r = y.every s (x.only s (member_place [] h)) in
        rw r.2 at (place_member [] m r.0 r.1)
