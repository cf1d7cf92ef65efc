-- The blocks of a run that stay within the bounds wherever the first cycle does not move them.
use Prim.Native.Nat.{ℕ, ◌-◌, ◌*◌, ◌≤◌, ◌<◌}
use mathlib.Core.List.{List, [], flatten}
use mathlib.Core.Bool.{Bool, true, false}
use mathlib.Core.Path.{◌≡◌, refl, sym, ◌∙◌}
use native.Mathlib.Omega.{arith}
use lib.IntN.{ℤ, pos, nat_abs, ◌+ℤ◌, ◌*ℤ◌}
use lib.ListN.{get_or, length}
use Rattle.mathematics.specs.Integers.{equal}
use Rattle.cycles.specs.Cycles.{with_cycle}
use Rattle.cycles.proofs.Adding.{added_at, added_length}
use Rattle.walker.specs.declared.blocks.Span.{Span}
use Rattle.walker.specs.Walker.{block, first_within, end_within}
use Rattle.walker.specs.Steps.{Small}
use Rattle.walker.specs.Blocks.{SpanTo}
use Rattle.walker.proofs.BlockRows.{rows_none, rows_length, rows_long}
use Rattle.walker.proofs.BlockStates.{block_few}
use Rattle.walker.proofs.Candidates.{within}
use Rattle.walker.proofs.Interval.{within_entries}
use Rattle.walker.proofs.Walk.{added_none}
use Rattle.runs.specs.Edges.{Edges, Listed, picked}
use Rattle.runs.specs.Runs.{run_states, RunFit, Staying, SideSpan, Inside}
use Rattle.runs.proofs.Between.{between_part, between_few, between_flat}
use Rattle.runs.proofs.EdgeLists.{edge_inside, edge_kind, edge_found, only_still, only_side, still_first, still_second, sign_none, listed_bound, listed_stay, stay_inside, block_is}

-- ---- the span of a run, by lists of edges
module _ {L : ℕ} {s y : List ℤ} {still side : List ℕ} {a b k : ℕ} where
  pub side_span : Small 1 y → Listed (length s) side b → ((q : ℕ) → q < a → nat_abs (get_or s (get_or still q 0) (pos 0)) ≤ L) → {r : Span} → SpanTo L k (picked side b (with_cycle s (pos 0) y)) (picked side b y) b r → SideSpan L s y still a side b k r
  side_span signs listed stays {r} h =
      let narrowed : SpanTo L k (picked side b s) (picked side b y) b r = rw (added_none s y) at h in
      record {
        bound = listed_bound L k s y signs side b listed.room r narrowed;
        inside = λ i low high. record { still_within = stays; side_within = listed_stay L k s y signs side b listed.room r narrowed i low high };
        outside = λ i low stay. stay_inside L k s y signs side b listed.room r narrowed i low stay.side_within;
      }

  pub side_none : (q : ℕ) × (q < a) × (L < nat_abs (get_or s (get_or still q 0) (pos 0))) → SideSpan L s y still a side b k (record { from = k; to = k })
  side_none (q, l, out) =
      record {
        bound = omega arith;
        inside = λ i low high. absurd (omega arith);
        outside = λ i low stay. absurd (omega (arith, stay.still_within q l));
      }

-- ---- its blocks
module _ {L n : ℕ} {s z y : List ℤ} {k : ℕ} (fit : RunFit L n s z y k) {still side : List ℕ} {a b : ℕ} (rests : Edges z y 0 (length s) still a) (goes : Edges z y 1 (length s) side b) {r : Span} (spans : SideSpan L s y still a side b k r) where
  abbrev at_block : ℕ → List ℤ
  at_block i = with_cycle s (pos i) y

  pub sides_inside : Inside L s z y r
  sides_inside i low high e l t = rw (added_at s (pos i) y e fit.second_long) (go (equal (get_or y e (pos 0)) (pos 0)) refl)
    where
      go : (u : Bool) → equal (get_or y e (pos 0)) (pos 0) ≡ u → nat_abs (get_or s e (pos 0) +ℤ pos i *ℤ get_or y e (pos 0)) ≤ L
      go true u =
          let f = edge_found rests e l (only_still z y e t u).0 in
          rw (sign_none (get_or s e (pos 0)) (pos i) (get_or y e (pos 0)) u, ← f.2) ((spans.inside i low high).still_within f.0 f.1)
      go false u =
          let f = edge_found goes e l (only_side z y e t u).1 in
          rw (← f.2) ((spans.inside i low high).side_within f.0 f.1)

  long : (i : ℕ) → length z ≡ length (at_block i)
  long i = fit.first_long ∙ sym (added_length s (pos i) y)

  -- a state of a block stays within the bounds there
  stays : (i d : ℕ) → within L (with_cycle (at_block i) (pos d) z) ≡ true → Staying L s y still a side b i
  stays i d t =
      let value : (e : ℕ) → e < length s → equal (get_or z e (pos 0)) (pos 0) ≡ true → nat_abs (get_or s e (pos 0) +ℤ pos i *ℤ get_or y e (pos 0)) ≤ L =
      λ e l u.
      rw (sign_none (get_or (at_block i) e (pos 0)) (pos d) (get_or z e (pos 0)) u, added_at s (pos i) y e fit.second_long)
      at (within_entries L n (at_block i) z fit.first_signs (long i) d t e (rw (added_length s (pos i) y) l)) in
      record {
        still_within = λ q l.
            let kind = edge_kind rests q l in
            rw (sign_none (get_or s (get_or still q 0) (pos 0)) (pos i) (get_or y (get_or still q 0) (pos 0)) (still_second z y (get_or still q 0) kind))
            at (value (get_or still q 0) (edge_inside rests q l) (still_first z y (get_or still q 0) 0 (omega arith) kind));
        side_within = λ q l. value (get_or side q 0) (edge_inside goes q l) (still_first z y (get_or side q 0) 1 (omega arith) (edge_kind goes q l));
      }

  -- the other blocks are empty
  sides_outside : (i : ℕ) → i < k → (r.from ≤ i → i < r.to → ⊥) → block L n (at_block i) z ≡ []
  sides_outside i low out =
      let none : n - n ≡ 0 = omega arith in
      sym (block_is L n (at_block i) z fit.first_signs (long i) n n (omega arith) (λ d l t. let p = spans.outside i low (stays i d t) in absurd (out p.0 p.1)) (λ d low high. absurd (omega arith)))
      ∙ rows_none (at_block i) z n n none

  pub run_whole : run_states L n s z y 0 k ≡ run_states L n s z y r.from r.to
  run_whole = between_part (λ i. block L n (at_block i) z) k r.from r.to spans.bound sides_outside

-- ---- how many states a run has, and how many entries they have
pub run_few : (L n : ℕ) (s z y : List ℤ) (from to : ℕ) → length (run_states L n s z y from to) ≤ (to - from) * n
run_few L n s z y from to = between_few (λ i. block L n (with_cycle s (pos i) y) z) n (λ i. block_few L n (with_cycle s (pos i) y) z) from to

pub run_flat : (L n : ℕ) (s z y : List ℤ) (from to : ℕ) → length (flatten (run_states L n s z y from to)) ≡ length (run_states L n s z y from to) * length s
unfolding block
run_flat L n s z y from to = between_flat (λ i. block L n (with_cycle s (pos i) y) z) (length s) each from to
  where
    each : (i : ℕ) → length (flatten (block L n (with_cycle s (pos i) y) z)) ≡ length (block L n (with_cycle s (pos i) y) z) * length s
    each i =
        let t = with_cycle s (pos i) y in
        let a = first_within L n t z (length t) in
        let b = end_within L n t z (length t) in
        rows_long t z a b ∙ rw (rows_length t z a b, added_length s (pos i) y)
