-- The program reads 906 bytes at most: of a longer input it prints what it would print of the whole.
use Prim.Native.Nat.{ℕ, ◌≤◌}
use mathlib.Core.List.{List}
use mathlib.Core.Path.{◌≡◌, refl, sym, ◌∙◌}
use lib.ListN.{length, take}
use Rattle.sheet.specs.Sheet.{reading_refusal}
use Rattle.sheet.proofs.Cut.{long_some, cut_same}
use Rattle.pages.specs.Text.{basis_text}
use Rattle.pages.proofs.Answers.{refusal_told}

pub cut : (b : List ℕ) → 906 ≤ length b → basis_text (take 906 b) ≡ basis_text b
cut b long =
    let some = long_some b long in
    sym (refusal_told (take 906 b) (reading_refusal b) (cut_same b long) some) ∙ refusal_told b (reading_refusal b) refl some
