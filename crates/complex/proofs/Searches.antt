-- The search makes a tree of just the vertices that a path leads to from vertex 0.
use Prim.Native.Nat.{ℕ, zero, suc, ◌+◌, ◌<◌, ◌≤◌}
use mathlib.Core.List.{List, [], ◌∷◌, ◌++◌}
use mathlib.Core.Path.{◌≡◌, refl, sym, subst, ◌∙◌}
use mathlib.Core.Bool.{true, false, true≢false}
use mathlib.Core.Logic.{◌↔◌, ⊎_elim, by_cases}
use native.Mathlib.Nat.{eq-or-lt_of_le, le_trans, le_refl, le_of_lt, lt_of_lt_of_le, le_of_suc-le-suc, not-suc-le-zero}
use native.Mathlib.Decide.{dec_le}
use native.Mathlib.Omega.{arith}
use borrow.Author.Tests.{lt-ltb, ltb-true, eqb-true}
use lib.ListN.{get_or, length, length-append, get_or-append}
use lib.Seq.{get_or-append_seam, get_or_at}
use lib.Dec.{eqb, ltb}
use Rattle.mathematics.specs.Lists.{listed, distinct}
use Rattle.mathematics.specs.Tests.{every_entry}
use Rattle.mathematics.proofs.Tests.{all_at}
use Rattle.mathematics.proofs.Lists.{numbers_equal, listed_at, at_listed, distinct_at}
use Rattle.mathematics.proofs.Counting.{every_at, at_every, different_few, different_all, more_below, more_different}
use Rattle.complex.specs.Complex.{Simplex, Joins, EdgePath, here, over}
use Rattle.complex.specs.Search.{Search, across, look, scan, serve, served, whole_search, connected, Ends, SpansReached}
use Rattle.complex.proofs.Looks.{found, across_joins, joins_across, joins_touches, across_below, look_cases, serve_filled, serve_past}

-- what holds of each entry at its place, and of one more, holds of each of the longer list
module _ {A : Type 0} (P : ℕ → A → Type 0) (d : A) where
  each_last : (l : List A) (x : A) → ((i : ℕ) → i < length l → P i (get_or l i d)) → P (length l) x → (i : ℕ) → i < length (l ++ (x ∷ [])) → P i (get_or (l ++ (x ∷ [])) i d)
  each_last l x each last i h =
      let k : i < suc (length l) = omega (arith, length-append l (x ∷ [])) in
      ⊎_elim
      (λ (q : i ≡ length l). rw (q, get_or-append_seam l x [] d) last)
      (λ q. rw (get_or-append l (x ∷ []) d i q) (each i q))
      (eq-or-lt_of_le (le_of_suc-le-suc k))

-- what holds of a search at every moment
record Grown (es : List Simplex) (n : ℕ) (s : Search) : Type 0 where
  root : get_or s.seen 0 0 ≡ 0
  sizes : length s.seen ≡ suc (length s.tree)
  below : every_entry (λ v. ltb v n) s.seen ≡ true
  different : distinct eqb s.seen ≡ true
  numbered : (i : ℕ) → i < length s.tree → get_or s.tree i 0 < length es
  joined : (i : ℕ) → i < length s.tree → (h : ℕ) × (h ≤ i) × Joins (get_or es (get_or s.tree i 0) []) (get_or s.seen h 0) (get_or s.seen (suc i) 0)
  paths : (i : ℕ) → i < length s.seen → EdgePath es 0 (get_or s.seen i 0)

-- a search is another with more seen
record Grows (s t : Search) : Type 0 where
  longer : length s.seen ≤ length t.seen
  kept : (i : ℕ) → i < length s.seen → get_or t.seen i 0 ≡ get_or s.seen i 0

grows_refl : (s : Search) → Grows s s
grows_refl s = record { longer = omega arith; kept = λ i l. refl }

grows_trans : {s t u : Search} → Grows s t → Grows t u → Grows s u
grows_trans a b =
    record {
      longer = le_trans a.longer b.longer;
      kept = λ i l. b.kept i (lt_of_lt_of_le l a.longer) ∙ a.kept i l;
    }

listed_more : {s t : Search} → Grows s t → (x : ℕ) → listed eqb x s.seen ≡ true → listed eqb x t.seen ≡ true
listed_more {s} {t} a x h =
    let r = listed_at eqb numbers_equal 0 x s.seen h in
    at_listed eqb numbers_equal 0 x t.seen r.0 (lt_of_lt_of_le r.1 a.longer) (a.kept r.0 r.1 ∙ r.2)

-- place h is filled, and holds v
record Holds (s : Search) (h v : ℕ) : Type 0 where
  filled : h < length s.seen
  holds : get_or s.seen h 0 ≡ v

holds_more : {s t : Search} {h v : ℕ} → Grows s t → Holds s h v → Holds t h v
holds_more {h = h} a p =
    record { filled = lt_of_lt_of_le p.filled a.longer; holds = a.kept h p.filled ∙ p.holds }

module _ (s : Search) (w e : ℕ) where
  found_grows : Grows s (found s w e)
  found_grows =
      record {
        longer = omega (arith, length-append s.seen (w ∷ []));
        kept = λ i l. get_or-append s.seen (w ∷ []) 0 i l;
      }

  found_listed : listed eqb w (s.seen ++ (w ∷ [])) ≡ true
  found_listed =
      at_listed eqb numbers_equal 0 w (s.seen ++ (w ∷ [])) (length s.seen) (omega (arith, length-append s.seen (w ∷ []))) (get_or-append_seam s.seen w [] 0)

  found_grown : (es : List Simplex) (n h v : ℕ) → Grown es n s → Holds s h v → e < length es → Joins (get_or es e []) v w → w < n → listed eqb w s.seen ≡ false → Grown es n (found s w e)
  found_grown es n h v g at l jo wl new =
      let grows = found_grows in
      record {
        root = grows.kept 0 (let z = g.sizes in omega arith) ∙ g.root;
        sizes = let z = g.sizes in omega (arith, length-append s.seen (w ∷ []), length-append s.tree (e ∷ []));
        below = more_below s.seen w n g.below wl;
        different = more_different s.seen w g.different new;
        numbered = each_last (λ i x. x < length es) 0 s.tree e g.numbered l;
        joined =
            each_last (λ i x. (h : ℕ) × (h ≤ i) × Joins (get_or es x []) (get_or (s.seen ++ (w ∷ [])) h 0) (get_or (s.seen ++ (w ∷ [])) (suc i) 0)) 0 s.tree e
            (λ i il.
            let t = g.joined i il in
            let z = g.sizes in
            let b = t.1 in
            (t.0, t.1, rw (grows.kept t.0 (omega arith), grows.kept (suc i) (omega arith)) t.2))
            (h, (let f = at.filled in let z = g.sizes in omega arith), rw (grows.kept h at.filled, at.holds, get_or_at s.seen w [] 0 (suc (length s.tree)) g.sizes) jo);
        paths = each_last (λ i x. EdgePath es 0 x) 0 s.seen w g.paths (over e (subst (EdgePath es 0) at.holds (g.paths h at.filled)) l jo);
      }

-- from s to t the first k edges were looked at from v
record Scanned (es : List Simplex) (n v : ℕ) (s t : Search) (k : ℕ) : Type 0 where
  grown : Grown es n t
  grows : Grows s t
  finds : (e : ℕ) → e < k → (x : ℕ) → Joins (get_or es e []) v x → listed eqb x t.seen ≡ true

-- the first k places, as far as filled, were served
record Closed (es : List Simplex) (n : ℕ) (t : Search) (k : ℕ) : Type 0 where
  grown : Grown es n t
  closed : (h : ℕ) → h < k → h < length t.seen → (e : ℕ) → e < length es → (x : ℕ) → Joins (get_or es e []) (get_or t.seen h 0) x → listed eqb x t.seen ≡ true

module _ (es : List Simplex) (n : ℕ) (ends : Ends n es) where
  module _ (v h : ℕ) (s : Search) (at : Holds s h v) where
    look_scanned : (t : Search) (k : ℕ) → k < length es → Scanned es n v s t k → Scanned es n v s (look es v t k) (suc k)
    look_scanned t k l r =
        look_cases es v t k (λ u. Scanned es n v s u (suc k))
        (λ touch new.
        let w = across (get_or es k []) v in
        let more : Grows t (found t w k) = found_grows t w k in
        record {
          grown = found_grown t w k es n h v r.grown (holds_more r.grows at) l (across_joins (get_or es k []) v touch) (across_below n es ends k v l) new;
          grows = grows_trans r.grows more;
          finds =
              λ e el x j.
              ⊎_elim
              (λ (q : e ≡ k).
              let a : w ≡ x = joins_across (get_or es k []) v x (rw q at j) in
              subst (λ y. listed eqb y (t.seen ++ (w ∷ [])) ≡ true) a (found_listed t w k))
              (λ q. listed_more more x (r.finds e q x j))
              (eq-or-lt_of_le (le_of_suc-le-suc el));
        })
        (λ old.
        record {
          grown = r.grown;
          grows = r.grows;
          finds =
              λ e el x j.
              ⊎_elim
              (λ (q : e ≡ k).
              let i : Joins (get_or es k []) v x = rw q at j in
              ⊎_elim
              (λ untouched. absurd (true≢false (sym (joins_touches (get_or es k []) v x i) ∙ untouched)))
              (λ seen. rw (joins_across (get_or es k []) v x i) at seen)
              old)
              (λ q. r.finds e q x j)
              (eq-or-lt_of_le (le_of_suc-le-suc el));
        })

    scan_scanned : Grown es n s → (k : ℕ) → k ≤ length es → Scanned es n v s (scan es v s k) k
    unfolding scan
    scan_scanned g zero l = record { grown = g; grows = grows_refl s; finds = λ e el. absurd (not-suc-le-zero el) }
    scan_scanned g (suc k) l = look_scanned (scan es v s k) k l (scan_scanned g k (le_of_lt l))

  serve_closed : (s : Search) (k : ℕ) → Closed es n s k → Closed es n (serve es s k) (suc k)
  serve_closed s k c =
      by_cases (dec_le (suc k) (length s.seen))
      (λ l.
      let r = scan_scanned (get_or s.seen k 0) k s (record { filled = l; holds = refl }) c.grown (length es) (le_refl (length es)) in
      rw (serve_filled es s k l)
      (record {
        grown = r.grown;
        closed =
            λ h hl hf e el x j.
            ⊎_elim
            (λ (q : h ≡ k). r.finds e el x (rw (q, r.grows.kept k l) at j))
            (λ q.
            let f : h < length s.seen = omega arith in
            listed_more r.grows x (c.closed h q f e el x (rw (r.grows.kept h f) at j)))
            (eq-or-lt_of_le (le_of_suc-le-suc hl));
      }))
      (λ l.
      rw (serve_past es s k (omega arith))
      (record { grown = c.grown; closed = λ h hl hf e el x j. c.closed h (omega arith) hf e el x j }))

  served_closed : (s : Search) → Grown es n s → (k : ℕ) → Closed es n (served es s k) k
  unfolding served
  served_closed s g zero = record { grown = g; closed = λ h hl. absurd (not-suc-le-zero hl) }
  served_closed s g (suc k) = serve_closed (served es s k) k (served_closed s g k)

  search_closed : 1 ≤ n → Closed es n (whole_search es n) n
  unfolding whole_search every_entry distinct listed
  search_closed some =
      served_closed (record { seen = 0 ∷ []; tree = [] }) (record {
        root = refl;
        sizes = refl;
        below = rw (lt-ltb 0 n some);
        different = refl;
        numbered = λ i l. absurd (not-suc-le-zero l);
        joined = λ i l. absurd (not-suc-le-zero l);
        paths = λ i l. let z : i ≡ 0 = omega arith in rw z here;
      }) n

  -- where every filled place was served, what a path leads to was seen
  path_listed : (t : Search) → Closed es n t n → (v : ℕ) → EdgePath es 0 v → listed eqb v t.seen ≡ true
  path_listed t c v here = at_listed eqb numbers_equal 0 0 t.seen 0 (let z = c.grown.sizes in omega arith) c.grown.root
  path_listed t c v (over {w = a} e r l j) =
      let i = listed_at eqb numbers_equal 0 a t.seen (path_listed t c a r) in
      let g = c.grown in
      c.closed i.0 (lt_of_lt_of_le i.1 (different_few n t.seen g.below g.different)) i.1 e l v (rw i.2 j)

module _ (es : List Simplex) (n : ℕ) (some : 1 ≤ n) (ends : Ends n es) where
  pub search_spans : SpansReached es n (whole_search es n)
  search_spans =
      let t = whole_search es n in
      let c : Closed es n t n = search_closed es n ends some in
      let g : Grown es n t = c.grown in
      record {
        root = g.root;
        sizes = g.sizes;
        below = λ i l. ltb-true _ _ (all_at (λ v. ltb v n) 0 t.seen g.below i l);
        apart = distinct_at eqb numbers_equal 0 t.seen g.different;
        numbered = g.numbered;
        joined = g.joined;
        reach =
            λ v. (
              λ h. let i = listed_at eqb numbers_equal 0 v t.seen h in subst (EdgePath es 0) i.2 (g.paths i.0 i.1),
              path_listed es n ends t c v,
            );
      }

  pub connected_reached : (connected es n ≡ true) ↔ ((v : ℕ) → v < n → EdgePath es 0 v)
  unfolding connected
  connected_reached = (
    λ h v l. (search_spans.reach v).0 (every_at (λ v. listed eqb v (whole_search es n).seen) n h v l),
    λ h. at_every (λ v. listed eqb v (whole_search es n).seen) n (λ v l. (search_spans.reach v).1 (h v l)),
  )

  pub connected_full : connected es n ≡ eqb (length (whole_search es n).seen) n
  unfolding connected
  connected_full =
      let g = (search_closed es n ends some).grown in
      different_all n (whole_search es n).seen g.below g.different

  -- the tree of a connected graph has an edge for each vertex but the root
  pub connected_tree : connected es n ≡ true → length (whole_search es n).tree + 1 ≡ n
  connected_tree h =
      let z = search_spans.sizes in
      let q : length (whole_search es n).seen ≡ n = eqb-true _ _ (sym connected_full ∙ h) in
      omega arith
