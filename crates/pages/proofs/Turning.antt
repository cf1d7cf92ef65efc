-- From one page to the next.
use Prim.Native.Nat.{ℕ, ◌+◌, ◌^◌, ◌≤◌, ◌<◌}
use mathlib.Core.List.{List, [], ◌∷◌, ◌++◌, append-nil}
use mathlib.Core.Path.{◌≡◌, refl, ap, ◌∙◌}
use native.Mathlib.Omega.{arith}
use lib.IntN.{ℤ}
use lib.ListN.{length, take, drop, length-append}
use lib.Seq.{take_at, length-take-le}
use Rattle.std.proofs.Common.{Option, Some, None, MatchOption}
use Rattle.cycles.specs.Cycles.{row}
use Rattle.walker.specs.declared.tables.Walker.{Walker}
use Rattle.walker.specs.Walker.{walked_states}
use Rattle.walker.specs.Steps.{Walkable}
use Rattle.walker.specs.Tables.{begin_of, states_of, Fit}
use Rattle.cursor.specs.declared.Cursor.{Cursor}
use Rattle.cursor.specs.Cursor.{states_left, Standing, First}
use Rattle.cursor.proofs.Cursors.{few_states, anew_long}
use Rattle.lines.specs.Put.{Put}
use Rattle.lines.specs.Lines.{ascii, named, counts_text, state_lines, first_line, refused_line}
use Rattle.pages.specs.declared.Page.{Page}
use Rattle.pages.specs.declared.states.Lines.{Lines}
use Rattle.pages.specs.Pages.{lines_from, Part, to_come, PageReady, Fills, LinesFilled}
use Rattle.pages.proofs.Parts.{put_part}

-- behind the last state nothing is to come
pub nothing_left : (p : Page) → p.cursor.left ≡ 0 → to_come p ≡ []
unfolding to_come lines_from states_left state_lines
nothing_left p none =
    let w = p.walker in
    let s = take w.n_edges p.config in
    let c = p.cursor in
    ap (λ k. state_lines c.number (states_left w.free (row (length s) w.cycles) p.lambda w.n_free s k c.d c.to)) none

pub fills : (text out : List ℕ) (len : ℕ) (p : Page) (q : Option Page) → MatchOption q (p.cursor.left ≡ 0) (λ n. (n ≡ p) × (0 < p.cursor.left)) → Part text out len (to_come p)
    → (0 < p.cursor.left → PageReady p) → Fills text out (record { len = len; next = q })
fills text out len p None none part ready = record { part = rw (← (nothing_left p none)) part; ready = tt }
fills text out len p (Some n) h part ready = record { part = rw h.0 part; ready = rw h.0 (ready h.1) }

-- ---- a whole text
refused_some : (n : ℕ) → 0 < length (refused_line n)
unfolding refused_line ascii
refused_some n = omega (arith, length-append (named "refused " n) (10 ∷ []))

pub first_some : (v e t lambda dim : ℕ) → 0 < length (first_line v e t lambda dim)
unfolding first_line ascii
first_some v e t lambda dim = omega (arith, length-append (counts_text v e t lambda ++ named " dim " dim) (10 ∷ []))

pub refused_fills : (n len : ℕ) (before after : List ℕ) → 0 + length (refused_line n) ≤ length before → Put (refused_line n) before 0 after len → Fills (refused_line n) after (record { len = len; next = None })
refused_fills n len before after room written =
    let text = refused_line n in
    record { part = rw (append-nil text) at (put_part text [] before after len room (refused_some n) written); ready = tt }

-- ---- a page whose assignment stands at the front of its list
module _ (w : Walker) (L : ℕ) (c : Cursor) (s rest : List ℤ) (long : length s ≡ w.n_edges) where
  abbrev page : Page
  page = record { lambda = L; walker = w; cursor = c; config = s ++ rest }

  pub page_lines : to_come page ≡ lines_from w.free w.cycles L w.n_free s c
  unfolding to_come
  page_lines = rw (take_at s rest w.n_edges long)

  pub page_ready : w.n_edges ≤ 63 → length (s ++ rest) ≡ 63 → Standing w.free w.cycles L w.n_free s c → 0 < c.left → PageReady page
  page_ready few all standing some =
      record { edges = few; long = all; standing = rw (take_at s rest w.n_edges long) standing; some = some }

-- ---- the first page
module _ (w : Walker) (L k : ℕ) (fit : Fit w L k) where
  abbrev old : List ℤ
  old = take w.n_edges w.first

  pub first_ready : Walkable w.free w.cycles L w.n_free old k × (0 + length (walked_states w.free (row (length old) w.cycles) L w.n_free old k) ≤ 2 ^ 40)
  unfolding begin_of
  first_ready = (fit.walkable, few_states w.free w.cycles L w.n_free old k fit.walkable)

  pub first_lines : (new : List ℤ) (c : Cursor) → First w.free w.cycles L w.n_free old k 0 new c → lines_from w.free w.cycles L w.n_free new c ≡ state_lines 0 (states_of w L k)
  unfolding lines_from states_of begin_of
  first_lines new c made = rw (made.states, made.numbered, fit.sized)

  pub first_long : (new : List ℤ) → length new ≡ length old → length new ≡ w.n_edges
  unfolding begin_of
  first_long new same = same ∙ fit.sized

-- ---- the next page
module _ (p : Page) (ready : PageReady p) where
  abbrev m : ℕ
  m = p.walker.n_edges

  abbrev config : List ℤ
  config = take m p.config

  config_long : length config ≡ m
  config_long = let h = ready.edges in length-take-le m p.config (omega (arith, ready.long))

  lines_here : lines_from p.walker.free p.walker.cycles p.lambda p.walker.n_free config p.cursor ≡ to_come p
  unfolding to_come
  lines_here = refl

  pub turned : (out : List ℕ) (new rest : List ℤ) (r : Lines) → length new ≡ length config → rest ≡ drop m p.config → LinesFilled p.walker.free p.walker.cycles p.lambda p.walker.n_free config p.cursor out new r
      → (q : Option Page) → MatchOption q (r.cursor.left ≡ 0) (λ n. (n ≡ record { lambda = p.lambda; walker = p.walker; cursor = r.cursor; config = new ++ rest }) × (0 < r.cursor.left))
      → Fills (to_come p) out (record { len = r.len; next = q })
  turned out new rest r same is filled q told =
      let w = p.walker in
      let long = same ∙ config_long in
      let all : length (new ++ rest) ≡ 63 = rw is (anew_long new p.config m long ready.edges ready.long) in
      fills (to_come p) out r.len (record { lambda = p.lambda; walker = w; cursor = r.cursor; config = new ++ rest }) q told
      (rw (page_lines w p.lambda r.cursor new rest long, ← lines_here) filled.part)
      (page_ready w p.lambda r.cursor new rest long ready.edges all filled.standing)
