-- The steps of the loops in lists, one loop after the other.
use Prim.Native.Nat.{ℕ, zero, suc, ◌+◌, ◌*◌, ◌<◌, ◌≤◌}
use mathlib.Core.List.{List, [], ◌∷◌, ◌++◌, map, map-append, flatten}
use mathlib.Core.Path.{◌≡◌, refl, sym, ap, ◌∙◌}
use native.Mathlib.Omega.{arith}
use native.Mathlib.Numerals.{add-one}
use lib.ListN.{get_or, set, length, length-append, length-map, take, drop, take-append-drop}
use lib.Seq.{take-take}
use Rattle.mathematics.specs.Counting.{below}
use Rattle.mathematics.specs.Writing.{put, front}
use Rattle.mathematics.proofs.Below.{map_at, length_below}
use Rattle.mathematics.proofs.Flat.{flatten_append, flatten_last}
use Rattle.mathematics.proofs.Front.{take_next, store}
use Rattle.mathematics.proofs.Puts.{put_none, put_more, put_length, put_front}
use Rattle.complex.specs.Complex.{Complex}
use Rattle.gauss_law.specs.Listing.{free_edges}
use Rattle.loops.specs.Walks.{Step}
use Rattle.loops.specs.Loops.{loop_of, fundamental_loops, loop_steps, all_steps, loop_starts}

-- ---- one loop more
pub no_steps : (K : Complex) → loop_steps K 0 ≡ []
unfolding loop_steps flatten
no_steps K = refl

-- e is the j-th free edge
pub record NextFree (K : Complex) (j e : ℕ) : Type 0 where
  pub more : j < length (free_edges K)
  pub is : e ≡ get_or (free_edges K) j 0

module _ {K : Complex} {j e : ℕ} (n : NextFree K j e) where
  steps_next : loop_steps K (j + 1) ≡ loop_steps K j ++ loop_of K e
  unfolding loop_steps fundamental_loops
  steps_next =
      let loops = map (loop_of K) (free_edges K) in
      ap flatten (take_next loops j [] (rw (length-map (free_edges K) (loop_of K)) n.more))
      ∙ flatten_last (take j loops) (get_or loops j [])
      ∙ ap (λ l. flatten (take j loops) ++ l) (map_at (loop_of K) (free_edges K) j 0 [] n.more ∙ ap (loop_of K) (sym n.is))

  pub steps_count : length (loop_steps K (j + 1)) ≡ length (loop_steps K j) + length (loop_of K e)
  steps_count = ap length steps_next ∙ length-append (loop_steps K j) (loop_of K e)

pub steps_long : (K : Complex) (j m : ℕ) → j ≤ m → length (loop_steps K j) ≤ length (loop_steps K m)
unfolding loop_steps
steps_long K j m h =
    let loops = take m (fundamental_loops K) in
    let whole : flatten loops ≡ flatten (take j loops) ++ flatten (drop j loops) = sym (ap flatten (take-append-drop j loops)) ∙ flatten_append (take j loops) (drop j loops) in
    let a : length (flatten loops) ≡ length (flatten (take j loops)) + length (flatten (drop j loops)) = ap length whole ∙ length-append (flatten (take j loops)) (flatten (drop j loops)) in
    let b : length (flatten (take j loops)) ≡ length (flatten (take j (fundamental_loops K))) = ap (λ l. length (flatten l)) (take-take j m (fundamental_loops K) h) in
    omega arith

-- loops of 63 steps at most
pub steps_few : (K : Complex) → ((i : ℕ) → i < length (free_edges K) → length (loop_of K (get_or (free_edges K) i 0)) ≤ 63)
    → (j : ℕ) → j ≤ length (free_edges K) → length (loop_steps K j) ≤ 63 * j
steps_few K few zero h = rw (no_steps K) (omega arith)
steps_few K few (suc j) h =
    let one = few j h in
    let before = steps_few K few j (omega arith) in
    rw (← add-one j) (omega (arith, steps_count (record { more = h; is = refl })))

-- g of some steps is in a list from place at on, and g of more steps is written behind that
pub put_behind : {A : Type 0} (g : Step → A) (l m : List Step) {w : List Step} (first : List A) (at : ℕ) {out out' : List A} {k : ℕ} → w ≡ l ++ m → at + length l ≤ length first
    → out ≡ put first at (map g l) → k ≡ at + length l → out' ≡ put out k (map g m) → out' ≡ put first at (map g w)
put_behind g l m first at steps room written behind more =
    more ∙ rw (written, behind, steps, map-append g l m, ← (length-map l g)) (put_more first at (map g l) (map g m) (rw (length-map l g) room))

-- ---- g of the steps of the first j loops stands at the front of a list
pub record Laid {A : Type 0} (K : Complex) (g : Step → A) (first : List A) (j : ℕ) (out : List A) : Type 0 where
  pub long : length out ≡ length first
  pub is : out ≡ put first 0 (map g (loop_steps K j))

pub none_laid : {A : Type 0} (K : Complex) (g : Step → A) (first : List A) → Laid K g first 0 first
none_laid K g first = record { long = refl; is = rw (no_steps K) (sym (put_none first 0)) }

pub all_laid : {A : Type 0} {K : Complex} {g : Step → A} {first : List A} {j : ℕ} {out : List A} → Laid K g first j out → j ≡ length (free_edges K) → out ≡ front (map g (all_steps K)) first
all_laid {K = K} {g = g} {first = first} {j = j} h q = h.is ∙ put_front first (map g (loop_steps K j)) ∙ ap (λ k. front (map g (loop_steps K k)) first) q

-- the loop of the j-th free edge e goes behind them, to place at
pub one_laid : {A : Type 0} {K : Complex} {g : Step → A} {first out out' : List A} {j e at : ℕ} → NextFree K j e → at ≡ length (loop_steps K j) → Laid K g first j out
    → 0 + length (all_steps K) ≤ length first → out' ≡ put out at (map g (loop_of K e)) → Laid K g first (j + 1) out'
one_laid {K = K} {g = g} {first = first} {out = out} {j = j} {e = e} {at = at} n behind laid room written =
    let more = n.more in
    let below = steps_long K (j + 1) (length (free_edges K)) (omega arith) in
    let fits : at + length (loop_of K e) ≤ length out = omega (arith, steps_count n, laid.long) in
    record {
      long = ap length written ∙ put_length out at (map g (loop_of K e)) (rw (length-map (loop_of K e) g) fits) ∙ laid.long;
      is = put_behind g (loop_steps K j) (loop_of K e) first 0 (steps_next n) (omega (arith, laid.long)) laid.is (omega arith) written;
    }

-- ---- the first n starts stand at the front of a list
abbrev start_at : Complex → ℕ → ℕ
start_at K n = length (loop_steps K n)

pub record Started (K : Complex) (first : List ℕ) (n : ℕ) (starts : List ℕ) : Type 0 where
  pub is : starts ≡ map (start_at K) (below n) ++ drop n first

starts_many : (K : Complex) (n : ℕ) → length (map (start_at K) (below n)) ≡ n
starts_many K n = length-map (below n) (start_at K) ∙ length_below n

pub none_started : (K : Complex) (first : List ℕ) → Started K first 0 first
unfolding below
none_started K first = record { is = refl }

starts_next : (K : Complex) (j : ℕ) → map (start_at K) (below (j + 1)) ≡ map (start_at K) (below j) ++ (start_at K j ∷ [])
unfolding below
starts_next K j = rw (add-one j) (map-append (start_at K) (below j) (j ∷ []))

module _ {K : Complex} {first starts : List ℕ} {j : ℕ} where
  pub one_started : {at : ℕ} → Started K first j starts → at ≡ length (loop_steps K j) → j < length first → Started K first (j + 1) (set starts j at)
  one_started h own room =
      record { is = rw (h.is, own) (store (map (start_at K) (below j)) first j (start_at K j) 0 (starts_many K j) room ∙ ap (λ l. l ++ drop (j + 1) first) (sym (starts_next K j))) }

  pub all_started : Started K first (j + 1) starts → j ≡ length (free_edges K) → starts ≡ front (loop_starts K) first
  unfolding loop_starts
  all_started h q =
      let all = map (start_at K) (below (length (free_edges K) + 1)) in
      h.is ∙ ap (λ k. map (start_at K) (below (k + 1)) ++ drop (k + 1) first) q ∙ ap (λ k. all ++ drop k first) (sym (starts_many K (length (free_edges K) + 1)))
