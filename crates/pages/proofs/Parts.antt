-- Parts of the text, one line more.
use Prim.Native.Nat.{ℕ, zero, suc, ◌+◌, ◌-◌, ◌≤◌, ◌<◌}
use mathlib.Core.List.{List, [], ◌∷◌, ◌++◌, append_assoc}
use mathlib.Core.Path.{◌≡◌, refl, sym, ap, ◌∙◌}
use native.Mathlib.Omega.{arith}
use native.Mathlib.Numerals.{add-one}
use lib.IntN.{ℤ, pos}
use lib.ListN.{length, take, length-append}
use Rattle.lines.specs.Put.{Put}
use Rattle.lines.specs.Lines.{ascii, decimal, values_text, state_line, state_lines}
use Rattle.lines.proofs.Puts.{ends_inside, put_take}
use Rattle.lines.proofs.Lengths.{state_line_long}
use Rattle.cycles.specs.Cycles.{row}
use Rattle.cycles.proofs.Adding.{added_length}
use Rattle.cursor.specs.declared.Cursor.{Cursor}
use Rattle.cursor.specs.Cursor.{state_here, Standing}
use Rattle.pages.specs.Pages.{Part}

-- a text at the front of a list
pub put_part : (text after_text before after : List ℕ) (next : ℕ) → 0 + length text ≤ length before → 0 < length text → Put text before 0 after next → Part (text ++ after_text) after next after_text
put_part text rest before after next room some written =
    record {
      joined = ap (λ l. l ++ rest) (sym (put_take text before after 0 next room written));
      inside = ends_inside text before after 0 next room written;
      some = omega (arith, written.place);
    }

pub line_some : (place : ℕ) (values : List ℤ) → 0 < length (state_line place values)
unfolding state_line ascii
line_some place values =
    omega (arith, length-append (decimal place) (values_text values ++ (10 ∷ [])), length-append (values_text values) (10 ∷ []))

-- the line of one state more
pub line_more : (text out new : List ℕ) (len next number after : ℕ) (s row : List ℤ) (states more : List (List ℤ)) → len + length (state_line number row) ≤ length out
    → text ≡ take len out ++ state_lines number states → states ≡ s ∷ more → row ≡ s → after ≡ number + 1 → Put (state_line number row) out len new next → text ≡ take next new ++ state_lines after more
unfolding state_lines
line_more text out new len next number after s row states more room so_far is same follows written =
    so_far
    ∙ ap (λ l. take len out ++ state_lines number l) is
    ∙ sym (append_assoc (take len out) (state_line number s) (state_lines (suc number) more))
    ∙ rw (← same, ← (add-one number), ← follows) (ap (λ l. l ++ state_lines after more) (sym (put_take (state_line number row) out new len next room written)))

-- no line has more than 400 bytes
line_short : (free : List ℕ) (cycles : List ℤ) (L n : ℕ) (s : List ℤ) (c : Cursor) → Standing free cycles L n s c → 0 < c.left → length (state_line c.number (state_here cycles s c)) ≤ 400
line_short free cycles L n s c standing more =
    let fit = standing.walkable.cycles_fit in
    let edges = fit.edges_few in
    let truncation = fit.truncation in
    let numbers = standing.numbers in
    let long = added_length s (pos c.d) (row (length s) cycles 0) in
    omega (arith, state_line_long c.number (state_here cycles s c) (omega arith) (λ k h. omega (arith, standing.small c.d (omega arith) (standing.some more) k)))

-- so where 400 are left there is room for the line of the state
pub line_room : (free : List ℕ) (cycles : List ℤ) (L n : ℕ) (s : List ℤ) (c : Cursor) → Standing free cycles L n s c → 0 < c.left → (row : List ℤ) → row ≡ state_here cycles s c
    → (len room : ℕ) → len ≤ room → 400 ≤ room - len → len + length (state_line c.number row) ≤ room
line_room free cycles L n s c standing more row is len room inside left = omega (arith, ap (λ r. length (state_line c.number r)) is, line_short free cycles L n s c standing more)

-- once a line was written, the place is not the front
pub some_written : (len left first : ℕ) → (len ≡ 0 → left ≡ first) → left ≡ 0 → 0 < first → 0 < len
some_written zero left first same none some = absurd (omega (arith, same refl))
some_written (suc len) left first same none some = omega arith
