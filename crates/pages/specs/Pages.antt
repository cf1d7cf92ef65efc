-- The text of `basis list`, a piece at a time.
use Rattle.std.specs.Prelude.{ℕ, ◌+◌, ◌<◌, ◌≤◌, List, [], ◌++◌, Bool, true, false, Option, Some, None, IfSome, ◌≡◌, ℤ, ltb, length, take, drop}
use Rattle.cursor.specs.declared.Cursor.{Cursor}
use Rattle.cursor.specs.Cursor.{states_from, Standing}
use Rattle.answers.specs.Refusal.{number_of}
use Rattle.lines.specs.Lines.{state_lines}
use Rattle.pages.specs.declared.states.Lines.{Lines}
use Rattle.pages.specs.declared.Page.{Page}
use Rattle.pages.specs.declared.Filled.{Filled}
use Rattle.pages.specs.declared.Begun.{Begun}
use Rattle.pages.specs.Text.{basis_refusal, basis_text}

-- the lines of the states from a cursor on
unfoldable pub lines_from : List ℕ → List ℤ → ℕ → ℕ → List ℤ → Cursor → List ℕ
lines_from free cycles L n s c = state_lines c.number (states_from free cycles L n s c)

-- what is still to come after a page
unfoldable pub to_come : Page → List ℕ
to_come p =
    let w = p.walker in
    lines_from w.free w.cycles p.lambda w.n_free (take w.n_edges p.config) p.cursor

-- what is still to come where a page follows, or none
abbrev pub rest_of : Option Page → List ℕ
rest_of None = []
rest_of (Some p) = to_come p

-- whether a page follows
abbrev pub follows : Option Page → Bool
follows None = false
follows (Some p) = true

-- a page after which another comes
pub record PageReady (p : Page) : Type 0 where
  pub edges : p.walker.n_edges ≤ 63
  pub long : length p.config ≡ 63
  pub standing : Standing p.walker.free p.walker.cycles p.lambda p.walker.n_free (take p.walker.n_edges p.config) p.cursor
  pub some : 0 < p.cursor.left

-- a page at a place of a text: what it has still to come is the text from there on
pub record PageAt (text : List ℕ) (place : ℕ) (p : Page) : Type 0 where
  pub rest : to_come p ≡ drop place text
  pub inside : place ≤ length text

-- The next piece of a text, from a place on. The bytes at the front of a list are those of the text, at least one of them. A page follows exactly
-- where they are not its last, and then the next piece can be asked for. The page stands right behind them.
pub record Piece (text : List ℕ) (place : ℕ) (out : List ℕ) (r : Filled) : Type 0 where
  pub bytes : take r.len out ≡ take r.len (drop place text)
  pub fits : r.len ≤ length out
  pub some : 0 < r.len
  pub inside : place + r.len ≤ length text
  pub more : follows r.next ≡ ltb (place + r.len) (length text)
  pub ready : IfSome r.next PageReady
  pub rest : rest_of r.next ≡ drop (place + r.len) text

-- the first piece of the answer to the bytes of a sheet, and the number of its refusal, 0 where it has none
pub record Begins (bytes out : List ℕ) (r : Begun) : Type 0 where
  pub piece : Piece (basis_text bytes) 0 out r.filled
  pub refusal : number_of r.refusal ≡ basis_refusal bytes

-- the piece after a page, of every text and place that the page stands at
abbrev pub Continues : List ℕ → Page → Filled → Type 0
Continues out p r = (text : List ℕ) (place : ℕ) → PageAt text place p → Piece text place out r

-- For a theorem: pieces of a text, from a place on, each where the one before it ends, until no more is told.
pub data Pieces (text : List ℕ) : ℕ → List ℕ → Type 0 where
  last : {place : ℕ} (out : List ℕ) (r : Filled) → Piece text place out r → follows r.next ≡ false → Pieces text place (take r.len out)
  then : {place : ℕ} {l : List ℕ} (out : List ℕ) (r : Filled) → Piece text place out r → follows r.next ≡ true → Pieces text (place + r.len) l → Pieces text place (take r.len out ++ l)

-- ---- the steps of the code
-- What is to come begins with what stands in the front of a list, which is something; the rest of it is still to come.
pub record Part (before out : List ℕ) (len : ℕ) (after : List ℕ) : Type 0 where
  pub joined : before ≡ take len out ++ after
  pub inside : len ≤ length out
  pub some : 0 < len

-- the first part of a text is in the list, and where more is to come a page follows
pub record Fills (text out : List ℕ) (r : Filled) : Type 0 where
  pub part : Part text out r.len (rest_of r.next)
  pub ready : IfSome r.next PageReady

-- the same of a text that a refusal decides
pub record Told (number : ℕ) (text out : List ℕ) (r : Begun) : Type 0 where
  pub fills : Fills text out r.filled
  pub refusal : number_of r.refusal ≡ number

pub record LinesFilled (free : List ℕ) (cycles : List ℤ) (L n : ℕ) (old : List ℤ) (c : Cursor) (out : List ℕ) (new : List ℤ) (r : Lines) : Type 0 where
  pub part : Part (lines_from free cycles L n old c) out r.len (lines_from free cycles L n new r.cursor)
  pub standing : Standing free cycles L n new r.cursor
