-- The interval of a block, as the code keeps it.
use Rattle.std.specs.Prelude.{ℕ, ◌≤◌, min, max, ◌≡◌, ℤ, length}
use mathlib.Core.List.{List, flatten}
use Rattle.mathematics.specs.Writing.{put}
use Rattle.walker.specs.declared.blocks.Span.{Span}
use Rattle.walker.specs.Walker.{entry_start, entry_stop, first_within, end_within, block_rows, block}

-- a span narrowed by one entry x and its sign s
pub record Narrowed (L n : ℕ) (x s : ℤ) (old new : Span) : Type 0 where
  pub from : new.from ≡ max old.from (entry_start L n x s)
  pub to : new.to ≡ min old.to (entry_stop L n x s)

-- the span of a block, by its first m entries
pub record SpanTo (L n : ℕ) (s z : List ℤ) (m : ℕ) (r : Span) : Type 0 where
  pub from : r.from ≡ first_within L n s z m
  pub to : r.to ≡ end_within L n s z m

-- a span whose rows are the states of a block
pub record SpanOfBlock (L n : ℕ) (s z : List ℤ) (r : Span) : Type 0 where
  pub is : block_rows s z r.from r.to ≡ block L n s z
  pub bound : r.to ≤ n

-- states are counted, and written over a list from a place on
pub record WrittenAt (states : List (List ℤ)) (old new : List ℤ) (at r : ℕ) : Type 0 where
  pub count : r ≡ length states
  pub list : new ≡ put old at (flatten states)

-- over its beginning
abbrev pub StatesWritten : List (List ℤ) → List ℤ → List ℤ → ℕ → Type 0
StatesWritten states old new r = WrittenAt states old new 0 r
