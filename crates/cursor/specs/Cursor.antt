-- The states that a cursor has still to come to.
use Rattle.std.specs.Prelude.{ℕ, zero, suc, ◌+◌, ◌-◌, ◌^◌, ◌<◌, ◌≤◌, List, [], ◌∷◌, ◌++◌, ◌≡◌, ℤ, pos, length, drop}
use Rattle.cycles.specs.Cycles.{row, with_cycle}
use Rattle.cursor.specs.declared.Cursor.{Cursor}
use Rattle.walker.specs.Walker.{stepped, block_rows, walked_states}
use Rattle.walker.specs.Steps.{Small, Walkable}

-- the rest of a block, from number d to before another, and the states of the blocks behind it; left counts the block too
unfoldable pub states_left : List ℕ → (ℕ → List ℤ) → ℕ → ℕ → List ℤ → ℕ → ℕ → ℕ → List (List ℤ)
states_left free cycle L n s zero d to = []
states_left free cycle L n s (suc left) d to = block_rows s (cycle 0) d to ++ walked_states free cycle L n (stepped free cycle L (n - 1) 1 s) left

-- the states from a cursor on, beside the assignment of its block
abbrev pub states_from : List ℕ → List ℤ → ℕ → ℕ → List ℤ → Cursor → List (List ℤ)
states_from free cycles L n s c = states_left free (row (length s) cycles) L n s c.left c.d c.to

-- the state at which it stands
abbrev pub state_here : List ℤ → List ℤ → Cursor → List ℤ
state_here cycles s c = with_cycle s (pos c.d) (row (length s) cycles 0)

-- a cursor that can go on, or stands behind the last state
pub record Standing (free : List ℕ) (cycles : List ℤ) (L n : ℕ) (s : List ℤ) (c : Cursor) : Type 0 where
  pub walkable : Walkable free cycles L n s c.left
  pub some : 0 < c.left → c.d < c.to
  pub few : c.to ≤ 2001
  pub small : (d : ℕ) → c.d ≤ d → d < c.to → Small L (with_cycle s (pos d) (row (length s) cycles 0))
  pub numbers : c.number + length (states_from free cycles L n s c) ≤ 2 ^ 40

-- A cursor that stands at the state with its number in a list: what is to come is the list from there on. So it is done just where it has the
-- number of all, and before that it is at that state (`at_end`, `at_more` and `at_state`, proofs/Numbers).
pub record CursorAt (free : List ℕ) (cycles : List ℤ) (L n : ℕ) (all : List (List ℤ)) (s : List ℤ) (c : Cursor) : Type 0 where
  pub is : states_from free cycles L n s c ≡ drop c.number all
  pub inside : c.number ≤ length all

-- a cursor that has all states of some blocks to come; with number 0 it stands at the first of them
pub record First (free : List ℕ) (cycles : List ℤ) (L n : ℕ) (old : List ℤ) (blocks number : ℕ) (new : List ℤ) (r : Cursor) : Type 0 where
  pub standing : Standing free cycles L n new r
  pub states : states_from free cycles L n new r ≡ walked_states free (row (length old) cycles) L n old blocks
  pub numbered : r.number ≡ number
  pub at : number ≡ 0 → CursorAt free cycles L n (walked_states free (row (length old) cycles) L n old blocks) new r

-- a cursor at the first state behind a block, in every list in which the old one stands
pub record NextBlock (free : List ℕ) (cycles : List ℤ) (L n : ℕ) (old : List ℤ) (c : Cursor) (new : List ℤ) (r : Cursor) : Type 0 where
  pub standing : Standing free cycles L n new r
  pub states : states_from free cycles L n old c ≡ block_rows old (row (length old) cycles 0) c.d c.to ++ states_from free cycles L n new r
  pub numbered : r.number ≡ c.number + (c.to - c.d)
  pub at : (all : List (List ℤ)) → CursorAt free cycles L n all old c → CursorAt free cycles L n all new r

-- a cursor that has one state less to come: it stands at the next one of every list in which the old one stands
pub record Next (free : List ℕ) (cycles : List ℤ) (L n : ℕ) (old : List ℤ) (c : Cursor) (new : List ℤ) (r : Cursor) : Type 0 where
  pub standing : Standing free cycles L n new r
  pub states : states_from free cycles L n old c ≡ state_here cycles old c ∷ states_from free cycles L n new r
  pub numbered : r.number ≡ c.number + 1
  pub at : (all : List (List ℤ)) → CursorAt free cycles L n all old c → CursorAt free cycles L n all new r
