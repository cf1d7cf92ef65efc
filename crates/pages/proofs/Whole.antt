-- Pieces by their place; the pieces, one behind the other, are the whole text.
use Prim.Native.Nat.{ℕ, suc, ◌+◌, ◌<◌, ◌≤◌}
use mathlib.Core.List.{List, ◌++◌}
use mathlib.Core.Path.{◌≡◌, refl, sym, ap, ◌∙◌}
use native.Mathlib.Omega.{arith}
use borrow.Author.Tests.{lt-ltb, le-ltb, ltb-false}
use lib.Dec.{ltb}
use lib.ListN.{length, take, drop, length-append, length-drop, take-append-drop}
use lib.Seq.{take_at, take_all, drop_at, drop-drop, length-take-le}
use Rattle.std.proofs.Common.{Option, Some, None}
use Rattle.cycles.specs.Cycles.{row}
use Rattle.cursor.specs.Cursor.{states_left, state_here}
use Rattle.cursor.proofs.Cursors.{more_rows}
use Rattle.lines.specs.Lines.{state_line, state_lines}
use Rattle.pages.specs.declared.Page.{Page}
use Rattle.pages.specs.declared.Filled.{Filled}
use Rattle.pages.specs.Pages.{lines_from, to_come, rest_of, follows, PageReady, Fills, Piece, Pieces, last, then}
use Rattle.pages.proofs.Parts.{line_some}

-- where a page can be turned, something is to come
ready_some : (p : Page) → PageReady p → 0 < length (to_come p)
unfolding to_come lines_from state_lines
ready_some p ready =
    let w = p.walker in
    let s = take w.n_edges p.config in
    let c = p.cursor in
    let standing = ready.standing in
    let rest = state_lines (suc c.number) (states_left w.free (row (length s) w.cycles) p.lambda w.n_free s c.left (c.d + 1) c.to) in
    rw (more_rows w.free w.cycles p.lambda w.n_free s c.left standing.walkable ready.some c.d c.to (standing.some ready.some))
    (omega (arith, length-append (state_line c.number (state_here w.cycles s c)) rest, line_some c.number (state_here w.cycles s c)))

-- ---- a part of what is to come, by its place
module _ (text out : List ℕ) (place : ℕ) (r : Filled) (inside : place ≤ length text) (filled : Fills (drop place text) out r) where
  abbrev part : List ℕ
  part = take r.len out

  abbrev rest : List ℕ
  rest = rest_of r.next

  part_long : length part ≡ r.len
  part_long = length-take-le r.len out filled.part.inside

  text_long : length text ≡ place + r.len + length rest
  text_long = omega (arith, length-drop place text, ap length filled.part.joined, length-append part rest, part_long)

  pub placed : Piece text place out r
  placed =
      record {
        bytes = sym (ap (take r.len) filled.part.joined ∙ take_at part rest r.len part_long);
        fits = filled.part.inside;
        some = filled.part.some;
        inside = omega (arith, text_long);
        more = go r.next refl;
        ready = filled.ready;
        rest = sym (sym (drop-drop r.len place text) ∙ ap (drop r.len) filled.part.joined ∙ drop_at part rest r.len part_long);
      }
    where
      go : (q : Option Page) → r.next ≡ q → follows r.next ≡ ltb (place + r.len) (length text)
      go (Some p) h =
          let ready : PageReady p = rw h at filled.ready in
          let long : length rest ≡ length (to_come p) = ap (λ q. length (rest_of q)) h in
          ap follows h ∙ sym (lt-ltb (place + r.len) (length text) (omega (arith, text_long, long, ready_some p ready)))
      go None h =
          let long : length rest ≡ 0 = ap (λ q. length (rest_of q)) h in
          ap follows h ∙ sym (le-ltb (place + r.len) (length text) (omega (arith, text_long, long)))

-- pieces up to the last, one behind the other, are the text from their place on
pub whole : {text l : List ℕ} {place : ℕ} → Pieces text place l → l ≡ drop place text
whole {text} {place = place} (last out r piece no_more) =
    let end = ltb-false (place + r.len) (length text) (sym piece.more ∙ no_more) in
    piece.bytes ∙ take_all r.len (drop place text) (omega (arith, end, length-drop place text))
whole {text} {place = place} (then {l = l} out r piece more rest) =
    ap (λ x. x ++ l) piece.bytes ∙ ap (λ x. take r.len (drop place text) ++ x) (whole rest ∙ sym (drop-drop r.len place text)) ∙ take-append-drop r.len (drop place text)
