-- The states of a run, one block more.
use Prim.Native.Nat.{ℕ, ◌+◌, ◌-◌, ◌*◌, ◌^◌, ◌≤◌, ◌<◌}
use mathlib.Core.List.{List, ◌++◌, flatten}
use mathlib.Core.Path.{◌≡◌, refl, sym, ap, ◌∙◌}
use native.Mathlib.Omega.{arith}
use native.Mathlib.Nat.{mul-le-mul, mul-le-mul_right, add-mul}
use lib.IntN.{ℤ, pos, neg_ℤ, nat_abs}
use mir.Syntax.{w32}
use mir.Val.{to_z}
use Rattle.std.proofs.lemmas.Int.{to_z_pos}
use lib.ListN.{length, length-append}
use Rattle.mathematics.specs.Writing.{put}
use Rattle.cycles.specs.Cycles.{with_cycle}
use Rattle.cycles.proofs.Adding.{added_length}
use Rattle.walker.specs.declared.blocks.Span.{Span}
use Rattle.walker.specs.Walker.{block, block_rows}
use Rattle.walker.specs.Steps.{Small, Addable}
use Rattle.walker.specs.Blocks.{SpanTo, WrittenAt}
use Rattle.walker.proofs.BlockRows.{rows_length}
use Rattle.runs.specs.Edges.{Edges, picked}
use Rattle.runs.specs.Rows.{RowsBefore}
use Rattle.runs.specs.Runs.{run_states, RunFit, Inside}
use Rattle.runs.proofs.Between.{between_next, between_split}
use Rattle.runs.proofs.Sides.{run_few, run_flat}
use Rattle.runs.proofs.EdgeLists.{lists_span}
use Rattle.runs.proofs.Added.{once_more, taken_off}
use Rattle.runs.proofs.Raising.{behind}
use Rattle.runs.proofs.Written.{more_written}

pub row_next : (s y : List ℤ) (i : ℕ) {row next : List ℤ} → row ≡ with_cycle s (pos i) y → next ≡ with_cycle row (pos 1) y → next ≡ with_cycle s (pos (i + 1)) y
row_next s y i begins goes = goes ∙ rw begins (once_more s y i)

-- ---- the row at which a block begins
pub row_small : {L n : ℕ} {s z y : List ℤ} {k i : ℕ} {row : List ℤ} → RunFit L n s z y k → i < k → row ≡ with_cycle s (pos i) y → Small (2 ^ 20) row
row_small {i = i} fit high begins e = rw begins (fit.values i high e)

pub may_add : {s z : List ℤ} {t : ℤ} → length z ≡ length s → Small (2 ^ 20) s → nat_abs t ≤ 2 ^ 24 → Small 1 z → Addable s t z
may_add long small few signs = record { sized = long; values = λ e. omega (arith, small e); times = few; signs = signs }

pub row_ready : {L n : ℕ} {s z y : List ℤ} {k i : ℕ} {row : List ℤ} → RunFit L n s z y k → i < k → row ≡ with_cycle s (pos i) y → Addable row (pos 0) z × Addable row (pos 0) y
row_ready {s = s} {y = y} {i = i} fit high begins =
    let small = row_small fit high begins in
    let same : length s ≡ length _ = sym (ap length begins ∙ added_length s (pos i) y) in
    (may_add (fit.first_long ∙ same) small (omega arith) fit.first_signs, may_add (fit.second_long ∙ same) small (omega arith) fit.second_signs)

-- the machine's number
pub times_back : (s y : List ℤ) (i : ℕ) → i ≤ 2 ^ 20 → with_cycle s (to_z w32 i) y ≡ with_cycle s (pos i) y
times_back s y i few = ap (λ t. with_cycle s t y) (to_z_pos w32 i (omega arith))

-- ---- one block more: its rows are those of the span p, and join the states of the blocks before it
pub record Turn (L n : ℕ) (s z y : List ℤ) (span : Span) (i : ℕ) (p : Span) : Type 0 where
  pub bound : p.to ≤ n
  pub joins : run_states L n s z y span.from (i + 1) ≡ run_states L n s z y span.from i ++ block_rows (with_cycle s (pos i) y) z p.from p.to
  pub counts : length (run_states L n s z y span.from (i + 1)) ≡ length (run_states L n s z y span.from i) + (p.to - p.from)
  pub countable : length (run_states L n s z y span.from (i + 1)) ≤ 2 ^ 40
  pub among : length (run_states L n s z y span.from (i + 1)) ≤ length (run_states L n s z y span.from span.to)

pub turn : {L n : ℕ} {s z y : List ℤ} {span : Span} → RunFit L n s z y span.to → Inside L s z y span → {moved : List ℕ} {c : ℕ} → Edges z y 2 (length s) moved c
    → {i : ℕ} → span.from ≤ i → i < span.to → {t : List ℤ} {p : Span} → t ≡ with_cycle s (pos i) y → SpanTo L n (picked moved c t) (picked moved c z) c p → Turn L n s z y span i p
turn {L} {n} {s} {z} {y} {span} fit inside {moved} {c} moves {i} low high {t} {p} is narrowed =
    let here = with_cycle s (pos i) y in
    let same = added_length s (pos i) y in
    let spans = lists_span {s = here} {y = y} fit.first_signs (fit.first_long ∙ sym same) (rw same moves) (λ e l u. inside i low high e (rw same at l) u) (rw is at narrowed) in
    let states = λ (a b : ℕ). run_states L n s z y a b in
    let joins : states span.from (i + 1) ≡ states span.from i ++ block_rows here z p.from p.to = between_next (λ i. block L n (with_cycle s (pos i) y) z) span.from i low ∙ ap (λ l. states span.from i ++ l) (sym spans.is) in
    let fewer : i + 1 - span.from ≤ 2 ^ 20 = omega (arith, fit.few) in
    record {
      bound = spans.bound;
      joins = joins;
      counts = ap length joins ∙ length-append (states span.from i) (block_rows here z p.from p.to) ∙ ap (λ k. length (states span.from i) + k) (rows_length here z p.from p.to);
      countable = omega (arith, run_few L n s z y span.from (i + 1), mul-le-mul fewer fit.wide);
      among = omega (arith, ap length (between_split (λ i. block L n (with_cycle s (pos i) y) z) span.from (i + 1) span.to (omega arith) (omega arith)), length-append (states span.from (i + 1)) (states (i + 1) span.to));
    }

-- ---- its rows are written behind the others
module _ {L n : ℕ} {s z y : List ℤ} {span : Span} {i : ℕ} {p : Span} (more : Turn L n s z y span i p) {at count : ℕ} {old list : List ℤ} (so_far : WrittenAt (run_states L n s z y span.from i) old list at count) (enough : at + length (run_states L n s z y span.from span.to) * length s ≤ length old) where
  pub next_room : {size : ℕ} → size ≡ p.to - p.from → at + (count + size) * length s ≤ length old
  next_room {size} is =
      let all : length (run_states L n s z y span.from (i + 1)) ≡ count + size = omega (arith, so_far.count, more.counts) in
      omega (arith, enough, mul-le-mul_right (length s) more.among, ap (λ k. k * length s) all)

  pub row_room : at + count * length s + (p.to - p.from) * length s ≤ length old
  row_room = omega (arith, next_room refl, add-mul count (p.to - p.from) (length s))

  pub turn_written : {row new : List ℤ} {size : ℕ} → row ≡ with_cycle s (pos i) y → new ≡ put list (at + count * length s) (flatten (block_rows row z p.from p.to)) → size ≡ p.to - p.from → WrittenAt (run_states L n s z y span.from (i + 1)) old new at (count + size)
  turn_written {row} {new} {size} begins made is =
      let flat : length (flatten (run_states L n s z y span.from i)) ≡ count * length s = run_flat L n s z y span.from i ∙ ap (λ k. k * length s) (sym so_far.count) in
      rw more.joins
      (more_written so_far (omega (arith, flat)) (omega (arith, row_room)) (record { count = is ∙ sym (rows_length (with_cycle s (pos i) y) z p.from p.to); list = rw begins at made }))

-- the next block begins at next
pub rows_behind : (list row y : List ℤ) (at count : ℕ) {new next z : List ℤ} {size m : ℕ} {p : Span} → at + count * m ≤ length list → new ≡ put list (at + count * m) (flatten (block_rows row z p.from p.to)) → length row ≡ m → next ≡ with_cycle row (pos 1) y → size ≡ p.to - p.from
    → RowsBefore new (at + (count + size) * m) (with_cycle next (neg_ℤ (pos 1)) y) z p
rows_behind list row y at count {size = size} {m = m} room made long goes is = rw (goes, taken_off row y (pos 1)) (behind list (at + count * m) room made (rw (long, ← is) (omega (arith, add-mul count size m))))
