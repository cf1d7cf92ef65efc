-- A cursor stands at the state with its number.
use Prim.Native.Nat.{ℕ, ◌+◌, ◌-◌, ◌^◌, ◌≤◌, ◌<◌}
use mathlib.Core.List.{List, [], ◌∷◌, ◌++◌}
use mathlib.Core.Path.{◌≡◌, refl, sym, ap, ◌∙◌}
use native.Mathlib.Omega.{arith}
use native.Mathlib.Nat.{add-zero}
use native.Mathlib.Decide.{dec_lt}
use lib.IntN.{ℤ, pos}
use lib.ListN.{get_or, length, take, drop, length-append, length-drop, get_or-append}
use lib.Seq.{drop_at, drop-drop, get_or-drop}
use Rattle.cycles.specs.Cycles.{row, with_cycle}
use Rattle.walker.specs.declared.blocks.Span.{Span}
use Rattle.walker.specs.Walker.{block_rows, width, walked_states}
use Rattle.walker.specs.Steps.{Walkable}
use Rattle.walker.specs.Blocks.{SpanOfBlock}
use Rattle.walker.proofs.BlockRows.{rows_length, rows_at}
use Rattle.cursor.specs.declared.Cursor.{Cursor}
use Rattle.cursor.specs.Cursor.{states_left, states_from, state_here, Standing, First, NextBlock, Next, CursorAt}
use Rattle.cursor.proofs.Cursors.{from_here, more_rows, some_rows, few_here, small_here, states_here, behind, numbers_next}

module _ (free : List ℕ) (cycles : List ℤ) (L n : ℕ) where
  -- ---- where it stands
  module _ (all : List (List ℤ)) where
    -- before all of them
    pub at_first : (s : List ℤ) (c : Cursor) → states_from free cycles L n s c ≡ all → c.number ≡ 0 → CursorAt free cycles L n all s c
    at_first s c is numbered = record { is = is ∙ ap (λ k. drop k all) (sym numbered); inside = omega (arith, numbered) }

    module _ (s : List ℤ) (c : Cursor) (at : CursorAt free cycles L n all s c) where
      length_left : length (states_from free cycles L n s c) ≡ length all - c.number
      length_left = ap length at.is ∙ length-drop c.number all

      -- behind the last one it has the number of all
      pub at_end : c.left ≡ 0 → c.number ≡ length all
      unfolding states_left
      at_end none =
          let nothing : length (states_from free cycles L n s c) ≡ 0 = ap (λ k. length (states_left free (row (length s) cycles) L n s k c.d c.to)) none in
          omega (arith, length_left, at.inside)

      -- before a number of the list it is not behind the last
      pub at_more : (place : ℕ) → c.number ≤ place → place < length all → 0 < c.left
      at_more place low high = go (dec_lt 0 c.left)
        where
          go : Dec (0 < c.left) → 0 < c.left
          go (yes h) = h
          go (no h) = absurd (omega (arith, at_end (omega arith)))

      module _ (standing : Standing free cycles L n s c) (some : 0 < c.left) where
        -- the states of its block are in the list
        pub at_block : c.number + (c.to - c.d) ≤ length all
        at_block = omega (arith, length_left, at.inside, some_rows free cycles L n s c.left standing.walkable some c.d c.to)

        -- there it is the state of the list
        pub at_state : (c.number < length all) × (state_here cycles s c ≡ get_or all c.number [])
        at_state =
            let low = standing.some some in
            let here = sym (more_rows free cycles L n s c.left standing.walkable some c.d c.to low) ∙ at.is in
            (omega (arith, at_block), ap (λ l. get_or l 0 []) here ∙ get_or-drop c.number all 0 [] ∙ ap (λ k. get_or all k []) (add-zero c.number))

        -- a state of the block
        pub found : (place : ℕ) → c.number ≤ place → place - c.number < c.to - c.d → get_or all place [] ≡ with_cycle s (pos (c.d + (place - c.number))) (row (length s) cycles 0)
        found place low high =
            let rows = block_rows s (row (length s) cycles 0) c.d c.to in
            let i = place - c.number in
            let e : c.number + i ≡ place = omega arith in
            let here = sym (from_here free cycles L n s c.left standing.walkable some c.d c.to) ∙ at.is in
            ap (λ k. get_or all k []) (sym e)
            ∙ sym (get_or-drop c.number all i [])
            ∙ ap (λ l. get_or l i []) (sym here)
            ∙ get_or-append rows _ [] i (omega (arith, rows_length s (row (length s) cycles 0) c.d c.to))
            ∙ rows_at s (row (length s) cycles 0) c.d c.to i high

      -- ---- where it goes
      -- behind some states
      pub at_passed : (rows : List (List ℤ)) (new : List ℤ) (r : Cursor) → states_from free cycles L n s c ≡ rows ++ states_from free cycles L n new r → r.number ≡ c.number + length rows → CursorAt free cycles L n all new r
      at_passed rows new r is numbered =
          let rest = states_from free cycles L n new r in
          let both : rows ++ rest ≡ drop c.number all = sym is ∙ at.is in
          record {
            is = sym (drop_at rows rest (length rows) refl) ∙ ap (drop (length rows)) both ∙ drop-drop (length rows) c.number all ∙ ap (λ k. drop k all) (sym numbered);
            inside = omega (arith, numbered, ap length both, length-append rows rest, length-drop c.number all, at.inside);
          }

  -- the next state of its block
  pub next_here : (s : List ℤ) (c : Cursor) → Standing free cycles L n s c → 0 < c.left → c.d + 1 < c.to → Next free cycles L n s c s (record { left = c.left; d = c.d + 1; to = c.to; number = c.number + 1 })
  next_here s c standing some more =
      let states = more_rows free cycles L n s c.left standing.walkable some c.d c.to (standing.some some) in
      record {
        standing =
            record {
              walkable = standing.walkable;
              some = λ h. more;
              few = standing.few;
              small = λ d h k. standing.small d (omega arith) k;
              numbers = numbers_next c.number _ states standing.numbers;
            };
        states = states;
        numbered = refl;
        at = λ all at. at_passed all s c at (_ ∷ []) _ _ states refl;
      }

  -- fewer are to come behind a block
  pub fewer : (s new : List ℤ) (c r : Cursor) → Standing free cycles L n s c → 0 < c.left → NextBlock free cycles L n s c new r → length (states_from free cycles L n new r) < length (states_from free cycles L n s c)
  fewer s new c r standing some next =
      let rows = block_rows s (row (length s) cycles 0) c.d c.to in
      omega (arith, standing.some some, ap length next.states, length-append rows (states_from free cycles L n new r), rows_length s (row (length s) cycles 0) c.d c.to)

-- ---- at the first state of some blocks
module _ (free : List ℕ) (cycles : List ℤ) (L n : ℕ) (old : List ℤ) (blocks number : ℕ) (few : number + length (walked_states free (row (length old) cycles) L n old blocks) ≤ 2 ^ 40)
    (s : List ℤ) (left : ℕ) (fit : Walkable free cycles L n s left) (is : walked_states free (row (length s) cycles) L n s left ≡ walked_states free (row (length old) cycles) L n old blocks) where
  -- a block with a state
  pub first_here : (k : ℕ) → k ≡ left → 0 < left → (w : ℕ) → w ≡ width L n → (r : Span) → SpanOfBlock L w s (take (length s) cycles) r → r.from < r.to
      → First free cycles L n old blocks number s (record { left = k; d = r.from; to = r.to; number = number })
  first_here k here more w wide r spans some =
      let states = states_here free cycles L n s left fit more w wide r spans ∙ is in
      rw here
      (record {
        standing =
            record {
              walkable = fit;
              some = λ h. some;
              few = few_here free cycles L n s left fit more w wide r spans;
              small = small_here free cycles L n s left fit more w wide r spans;
              numbers = rw states few;
            };
        states = states;
        numbered = refl;
        at = λ none. at_first free cycles L n _ s _ states none;
      })

  -- behind the last block
  pub first_none : left ≡ 0 → First free cycles L n old blocks number s (record { left = 0; d = 0; to = 0; number = number })
  first_none none =
      let states = behind free cycles L n s old left blocks none is in
      record {
        standing =
            record {
              walkable = rw none at fit;
              some = λ h. absurd (omega arith);
              few = omega arith;
              small = λ d h k. absurd (omega arith);
              numbers = rw states few;
            };
        states = states;
        numbered = refl;
        at = λ h. at_first free cycles L n _ s _ states h;
      }
