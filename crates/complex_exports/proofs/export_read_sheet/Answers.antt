use Rattle.std.proofs.Common.{refl, ◌∙◌, arith, ◌≡◌, length, rules}
use Rattle.mathematics.proofs.Signed.{back64}
use Rattle.complex.specs.Complex.{complex_of}
use Rattle.sheet.specs.Sheet.{reading_call}
use Rattle.sheet.proofs.Sheets.{copied_front}
use Rattle.exports.specs.Exports.{signed}
use Rattle.exports.proofs.Signs.{exports}
use Rattle.exports.proofs.Answers.{stored_refuses, stored_ends}
use Rattle.exports.proofs.OnSheets.{few_edges_read, few_triangles_read}
use Rattle.complex_exports.specs.Parts.{sheet_parts}
use Rattle.complex_exports.proofs.export_read_sheet.Goals as goal

pub returns-in-Ok : goal.returns-in-Ok
unfolding signed complex_of
returns-in-Ok c =
    let k = c.in-Ok.s.complex in
    let edges_long : length k.edges ≡ 126 = search rules in
    let triangles_long : length k.triangles ≡ 768 = search rules in
    let few = few_edges_read _ _ c.in-Ok.ensures in
    let less = few_triangles_read _ _ c.in-Ok.ensures in
    exports
    (stored_ends (reading_call c.args.sheet.now) sheet_parts _ c.in-Ok.ensures (rw (copied_front 2 k.n_edges k.edges c.args.edges.now c.copy_from_slice.ensures.after (omega arith), copied_front 3 k.n_triangles k.triangles c.args.triangles.now c.copy_from_slice-in-Ok.ensures.after (omega arith)) refl))
    refl

pub returns-in-Err : goal.returns-in-Err
unfolding signed
returns-in-Err c =
    exports (stored_refuses (reading_call c.args.sheet.now) sheet_parts _ c.in-Err.ensures) (back64 _ c.signed_refusal.type_inv ∙ c.signed_refusal.ensures)
