-- Half-edges: what the links between them say, and that a scan needs only those at its vertex.
use Prim.Native.Nat.{ℕ, zero, suc, ◌+◌, ◌*◌, ◌/◌, ◌%◌, ◌<◌, ◌≤◌}
use mathlib.Core.List.{List, []}
use mathlib.Core.Path.{◌≡◌, sym, ap, ◌∙◌}
use mathlib.Core.Bool.{false}
use mathlib.Core.Logic.{inl, inr, ⊎_elim, by_cases}
use native.Mathlib.Nat.{eq-or-lt_of_le, le_of_suc-le-suc}
use native.Mathlib.Decide.{ℕ_discrete}
use native.Mathlib.Omega.{arith}
use borrow.Author.Tests.{ne_eqb}
use lib.ListN.{get_or, set, take, length, length-set, replicate, length-replicate, get_or-replicate}
use lib.Seq.{get_or-take, get_or-set_same, get_or-set_other}
use Rattle.complex.specs.Complex.{Simplex, start, end, simplices, Joins}
use Rattle.complex.specs.Search.{Search, touches, look, scan}
use Rattle.complex.specs.Tree.{opposite, NextAt, Linked, Searchable}
use Rattle.complex.proofs.Simplices.{simplices_length, start_at, end_at}
use Rattle.complex.proofs.Looks.{look_apart}

module _ (edges : List ℕ) (count : ℕ) where
  -- no half-edge is linked yet
  pub none_linked : Linked edges count (replicate 64 count) (replicate 126 0) count
  none_linked =
      record {
        heads_long = length-replicate 64 count;
        next_long = length-replicate {A = ℕ} 126 0;
        first = λ v l. rw (get_or-replicate 64 v count 0 l) (none v);
        after = λ d l m. absurd (omega arith);
      }
    where
      none : (v : ℕ) → NextAt edges count v count count
      none v =
          record {
            from = omega arith;
            within = omega arith;
            there = λ l. absurd (omega arith);
            passed = λ i l m e. omega arith;
          }

  -- half-edge d is linked before the later ones at its vertex v
  module _ (heads next : List ℕ) (d v : ℕ) (inside : d < count) (few : count ≤ 126) (small : v < 64) (at : get_or edges d 0 ≡ v) (linked : Linked edges count heads next (d + 1)) where
    itself : NextAt edges count v d d
    itself =
        record {
          from = omega arith;
          within = omega arith;
          there = λ l. at;
          passed = λ i l m e. omega arith;
        }

    other : (x y : ℕ) → (x ≡ v → ⊥) → NextAt edges count x (d + 1) y → NextAt edges count x d y
    other x y differ n =
        record {
          from = let f = n.from in omega arith;
          within = n.within;
          there = n.there;
          passed =
              λ i l m e.
              by_cases (ℕ_discrete i d)
              (λ (p : i ≡ d). differ (sym e ∙ ap (λ (j : ℕ). get_or edges j 0) p ∙ at))
              (λ (p : i ≡ d → ⊥). n.passed i (omega arith) m e);
        }

    pub link_more : Linked edges count (set heads v d) (set next d (get_or heads v 0)) d
    link_more =
        record {
          heads_long = length-set heads v d ∙ linked.heads_long;
          next_long = length-set next d (get_or heads v 0) ∙ linked.next_long;
          first =
              λ x l.
              by_cases (ℕ_discrete x v)
              (λ (p : x ≡ v). rw (p, get_or-set_same heads v d 0 (rw linked.heads_long small)) itself)
              (λ (p : x ≡ v → ⊥). rw (get_or-set_other heads v x d 0 p) (other x (get_or heads x 0) p (linked.first x l)));
          after =
              λ i l m.
              by_cases (ℕ_discrete i d)
              (λ (p : i ≡ d).
              let long = linked.next_long in
              let room : d < length next = omega arith in
              rw (p, at, get_or-set_same next d (get_or heads v 0) 0 room) (linked.first v small))
              (λ (p : i ≡ d → ⊥).
              rw (get_or-set_other next d i (get_or heads v 0) 0 p) (linked.after i (omega arith) m));
        }

  module _ (heads next : List ℕ) (linked : Linked edges count heads next 0) where
    pub first_linked : (v u d : ℕ) → v < 64 → u ≡ v → d ≡ get_or heads u 0 → NextAt edges count v 0 d
    first_linked v u d small same is = rw (is, same) (linked.first v small)

    pub next_linked : (v d e : ℕ) → d < count → get_or edges d 0 ≡ v → e ≡ get_or next d 0 → NextAt edges count v (d + 1) e
    next_linked v d e inside at is = rw (is, ← at) (linked.after d (omega arith) inside)

-- what is linked in the front of a list is linked in the list
module _ (edges : List ℕ) (count : ℕ) where
  next_whole : (v k d : ℕ) → NextAt (take count edges) count v k d → NextAt edges count v k d
  next_whole v k d n =
      record {
        from = n.from;
        within = n.within;
        there = λ l. rw (get_or-take count edges d 0 l) at n.there l;
        passed =
            λ i l m e.
            let w = n.within in
            n.passed i l m (rw (get_or-take count edges i 0 (omega arith)) e);
      }

  pub linked_whole : (heads next : List ℕ) → Linked (take count edges) count heads next 0 → Linked edges count heads next 0
  linked_whole heads next linked =
      record {
        heads_long = linked.heads_long;
        next_long = linked.next_long;
        first = λ v l. next_whole v 0 (get_or heads v 0) (linked.first v l);
        after =
            λ d l m.
            let n = linked.after d l m in
            next_whole (get_or edges d 0) (d + 1) (get_or next d 0) (rw (get_or-take count edges d 0 m) at n);
      }

-- edges that do not touch v are passed over
scan_skip : (es : List Simplex) (v : ℕ) (s : Search) (k j : ℕ) → k ≤ j → ((e : ℕ) → k ≤ e → e < j → touches (get_or es e []) v ≡ false) → scan es v s j ≡ scan es v s k
unfolding scan
scan_skip es v s k zero l apart = let e : 0 ≡ k = omega arith in ap (scan es v s) e
scan_skip es v s k (suc j) l apart =
    ⊎_elim
    (λ (e : k ≡ suc j). ap (scan es v s) (sym e))
    (λ (h : k < suc j).
    look_apart es v (scan es v s j) j (apart j (le_of_suc-le-suc h) (omega arith)) ∙ scan_skip es v s k j (le_of_suc-le-suc h) (λ e a b. apart e a (omega arith)))
    (eq-or-lt_of_le l)

module _ (edges : List ℕ) (m : ℕ) where
  start_is : (e d : ℕ) → e < m → d ≡ 2 * e → start (get_or (simplices 2 edges m) e []) ≡ get_or edges d 0
  start_is e d l p = rw p (start_at edges m e l)

  end_is : (e d : ℕ) → e < m → d ≡ 2 * e + 1 → end (get_or (simplices 2 edges m) e []) ≡ get_or edges d 0
  end_is e d l p = rw p (end_at edges m e l)

  -- the edge of half-edge d joins its vertex and the opposite one
  pub half_joins : (d : ℕ) → d < 2 * m → Joins (get_or (simplices 2 edges m) (d / 2) []) (get_or edges d 0) (get_or edges (opposite d) 0)
  half_joins d l =
      let inside : d / 2 < m = omega arith in
      by_cases (ℕ_discrete (d % 2) 0)
      (λ (p : d % 2 ≡ 0). inl (start_is (d / 2) d inside (omega arith), end_is (d / 2) (opposite d) inside (omega arith)))
      (λ (p : d % 2 ≡ 0 → ⊥). inr (start_is (d / 2) (opposite d) inside (omega arith), end_is (d / 2) d inside (omega arith)))

  -- the edges between two half-edges at v that follow one another change nothing
  module _ (v : ℕ) (s : Search) (k d : ℕ) (next : NextAt edges (2 * m) v k d) where
    apart : (e : ℕ) → k ≤ 2 * e → e < d / 2 → touches (get_or (simplices 2 edges m) e []) v ≡ false
    unfolding touches
    apart e l h =
        let w = next.within in
        let inside : e < m = omega arith in
        rw (start_at edges m e inside, end_at edges m e inside, ne_eqb (get_or edges (2 * e) 0) v (next.passed (2 * e) l (omega arith)), ne_eqb (get_or edges (2 * e + 1) 0) v (next.passed (2 * e + 1) (omega arith) (omega arith)))

    scan_to : (e : ℕ) → k ≤ 2 * e → e ≤ d / 2 → scan (simplices 2 edges m) v s (d / 2) ≡ scan (simplices 2 edges m) v s e
    scan_to e l h = scan_skip (simplices 2 edges m) v s e (d / 2) h (λ i a b. apart i (omega arith) b)

  pub scan_first : (v : ℕ) (s : Search) (d : ℕ) → NextAt edges (2 * m) v 0 d → scan (simplices 2 edges m) v s (d / 2) ≡ s
  unfolding scan
  scan_first v s d next = scan_to v s 0 d next 0 (omega arith) (omega arith)

  module _ (n : ℕ) (ok : Searchable edges n m) (d : ℕ) (inside : d < 2 * m) where
    ends : (start (get_or (simplices 2 edges m) (d / 2) []) < end (get_or (simplices 2 edges m) (d / 2) [])) × (end (get_or (simplices 2 edges m) (d / 2) []) < n)
    ends = ok.ends (d / 2) (rw (simplices_length 2 edges m) (omega arith))

    pub half_below : get_or edges d 0 < n
    half_below = let r = ends in ⊎_elim (λ p. omega arith) (λ p. omega arith) (half_joins d inside)

    halves_differ : get_or edges d 0 ≡ get_or edges (opposite d) 0 → ⊥
    halves_differ same = let r = ends in ⊎_elim (λ p. omega arith) (λ p. omega arith) (half_joins d inside)

    -- from half-edge d at v up to the next one, e, the edge of d alone counts
    pub scan_after : (v : ℕ) (s : Search) (e : ℕ) → get_or edges d 0 ≡ v → NextAt edges (2 * m) v (d + 1) e → scan (simplices 2 edges m) v s (e / 2) ≡ look (simplices 2 edges m) v (scan (simplices 2 edges m) v s (d / 2)) (d / 2)
    unfolding scan
    scan_after v s e at next =
        let f = next.from in
        by_cases (ℕ_discrete (e / 2) (d / 2))
        (λ (p : e / 2 ≡ d / 2).
        let other : e ≡ opposite d = omega arith in
        absurd (halves_differ (at ∙ sym (next.there (omega arith)) ∙ ap (λ j. get_or edges j 0) other)))
        (λ (p : e / 2 ≡ d / 2 → ⊥). scan_to v s (d + 1) e next (suc (d / 2)) (omega arith) (omega arith))
