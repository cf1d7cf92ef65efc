-- What a writer was handed, piece by piece, is the beginning of the text.
use Rattle.std.proofs.Common.{ℕ, ◌+◌, List, ◌++◌, ◌≡◌, false, subst, sym, ap, ◌∙◌, length, take, take_all}
use Rattle.std.specs.Prelude.{Option, Result, Ok, Err, OnOk}
use lib.Seq.{take-add}
use borrow.Author.Tests.{ltb-false}
use Rattle.std.specs.Io.KnownBytes.{Appends}
use Rattle.std.proofs.KnownBytes.{Appends-trans}
use Rattle.pages.specs.declared.Filled.{Filled}
use Rattle.pages.specs.Pages.{Piece, follows}

-- all before a piece was written, and then the piece
pub written : (a b c : Option (List ℕ)) (text out : List ℕ) (place : ℕ) (r : Filled) → Piece text place out r → Appends a b (take place text) → Appends b c (take r.len out) → Appends a c (take (place + r.len) text)
written a b c text out place r piece before more =
    subst (Appends a c) (ap (λ l. take place text ++ l) piece.bytes ∙ sym (take-add place r.len text)) (Appends-trans a b c _ _ before more)

-- behind the last piece no more of the text is to come
pub to_the_end : (text out : List ℕ) (place : ℕ) (r : Filled) → Piece text place out r → follows r.next ≡ false → take (place + r.len) text ≡ text
to_the_end text out place r piece last =
    take_all (place + r.len) text (ltb-false (place + r.len) (length text) (sym piece.more ∙ last))

pub on_ok : {A E : Type 0} (P : Type 0) (r : Result A E) → P → OnOk r P
on_ok P (Ok x) h = h
on_ok P (Err e) h = tt
