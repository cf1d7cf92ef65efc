-- How the list of answers is laid out: a case is its kind, one byte, and 15 fields, each two bytes for its length and then that many bytes.
-- oracle/README.md says what each field holds.
use Rattle.std.specs.Prelude.{ℕ, zero, suc, ◌+◌, ◌≤◌, min, Bool, ◌&&◌, List, leb, get_or, length, take, drop}
use Rattle.sheet.specs.Sheet.{word}

-- the kind, the bytes of the fields by their numbers, and the place behind the last
pub record Case : Type 0 where
  pub kind : ℕ
  pub field : ℕ → List ℕ
  pub next : ℕ

-- the number of bytes of a field, by the two bytes at a place; a larger number counts as 8192
unfoldable pub size : List ℕ → ℕ → ℕ
size list at = min (word list at) 8192

-- where a field of the case at a place begins: the first behind the kind, every other behind the bytes of the one before
unfoldable pub place : List ℕ → (at number : ℕ) → ℕ
place list at zero = at + 1
place list at (suc k) = place list at k + 2 + size list (place list at k)

-- the bytes of a field
unfoldable pub field : List ℕ → (at number : ℕ) → List ℕ
field list at k = take (size list (place list at k)) (drop (place list at k + 2) list)

-- the case at a place
unfoldable pub case_at : List ℕ → ℕ → Case
case_at list at = record { kind = get_or list at 0; field = field list at; next = place list at 15 }

-- there is such a kind, and the case ends within a list of the given length
unfoldable pub well_formed : ℕ → Case → Bool
well_formed n c = (leb 1 c.kind && leb c.kind 26) && leb c.next n

-- the case at a place ends within the list
abbrev pub Whole : List ℕ → ℕ → Type 0
Whole list at = place list at 15 ≤ length list
