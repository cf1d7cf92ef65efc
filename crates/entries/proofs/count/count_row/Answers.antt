use Rattle.std.proofs.Common.{rules, tests, ◌≡◌, ◌+◌, ap, ◌∙◌, arith, eqb, of_z, w32}
use Rattle.std.proofs.lemmas.Iterator.{YieldsList-from_slice}
use Rattle.std.proofs.lemmas.Iterator.Search.{any_from_yields_List}
use mathlib.Core.Path.{ap₂}
use mathlib.Core.Bool.{not}
use mir.Val.{bool_byte}
use Rattle.matrices.specs.Squares.{squares}
use Rattle.entries.specs.Count.{row_entries}
use Rattle.entries.proofs.Zero.{some_is, number_of_not}
use Rattle.entries.proofs.count.count_row.Goals as goal

pub returns : goal.returns
unfolding row_entries
returns c =
    let none = eqb (squares c.args.state.now) 0 in
    let some : c.any.result ≡ not none = any_from_yields_List (λ x. not (eqb (of_z w32 x) 0)) _ _ c.any.result c.any.ensures.ran (YieldsList-from_slice c.args.state.now cc) (λ x b q k. search (rules, tests)) ∙ some_is c.args.state.now c.requires.small in
    let counted = c.from.ensures ∙ ap bool_byte some in (
      ap₂ (λ a b. a + b) (counted ∙ (number_of_not none).0) c.count_moves.ensures.0,
      omega (arith, counted, (number_of_not none).1, c.count_moves.ensures.1),
    )
