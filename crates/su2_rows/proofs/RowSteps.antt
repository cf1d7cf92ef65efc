-- The entries of a row as the code finds them, triangle by triangle.
use Prim.Native.Nat.{ℕ, ◌+◌, ◌<◌, ◌≤◌}
use mathlib.Core.List.{List, [], ◌∷◌, ◌++◌, append_assoc}
use mathlib.Core.Bool.{true, cond}
use mathlib.Core.Path.{◌≡◌, sym, ap, ◌∙◌}
use lib.Ieee.{Float, nan}
use lib.ListN.{get_or, length, take}
use lib.Seq.{length-take-le}
use Rattle.mathematics.proofs.Front.{take_next}
use Rattle.rows.specs.Entries.{pairs}
use Rattle.rows.specs.Row.{kept, diagonal_first}
use Rattle.rows.specs.RowLists.{EntryPushed}
use Rattle.rows.proofs.Pairs.{pairs_length, pairs_at}

module _ (flips : List ℕ) (terms : List Float) (i : ℕ) (x : Float) where
  -- a triangle more, behind the diagonal
  pub triangle_pushed : (old new : List (ℕ × Float)) (m t r : ℕ) → length flips ≡ length terms → t < length flips → take m old ≡ diagonal_first i x (take t (pairs flips terms))
      → EntryPushed old m (get_or flips t 0, get_or terms t nan) true r new → take r new ≡ diagonal_first i x (take (t + 1) (pairs flips terms))
  triangle_pushed old new m t r long inside so_far pushed =
      let next : take (t + 1) (pairs flips terms) ≡ take t (pairs flips terms) ++ ((get_or flips t 0, get_or terms t nan) ∷ []) = take_next (pairs flips terms) t (0, nan) (rw (pairs_length flips terms long) inside) ∙ ap (λ e. take t (pairs flips terms) ++ (e ∷ [])) (pairs_at flips terms t long) in
      pushed.front ∙ rw (so_far, next) (append_assoc (cond (kept x) ((i, x) ∷ []) []) (take t (pairs flips terms)) ((get_or flips t 0, get_or terms t nan) ∷ []))

-- how many entries were found
pub found_count : (columns : List ℕ) (values : List Float) (m : ℕ) (l : List (ℕ × Float)) → length columns ≡ length values → m ≤ length columns → take m (pairs columns values) ≡ l → m ≡ length l
found_count columns values m l long room is = sym (length-take-le m (pairs columns values) (rw (pairs_length columns values long) room)) ∙ ap length is
