use Prim.{tt}
use Rattle.std.proofs.Common.{refl, arith, sym, ◌∙◌}
use borrow.Author.Tests.{le-leb, lt-leb}
use Rattle.mathematics.proofs.Calls.{none, here, past, refuses, ends}
use Rattle.complex.proofs.Refusing.{past_record}
use Rattle.triangles.specs.Indices.{indices_call}
use Rattle.triangles.proofs.SidesFound.{number_test}
use Rattle.exports.specs.Exports.{signed, stored}
use Rattle.exports.proofs.OnSheets.{unread, read_and_called, complex_accepted}
use Rattle.complex_exports.proofs.export_tri_edge_indices.Goals as goal

pub triangle_sides-found-requires : goal.triangle_sides-found-requires
triangle_sides-found-requires c = (complex_accepted _ c.in-Ok.ensures, c.if-s-t.false)

pub returns-else-s-t : goal.returns-else-s-t
unfolding stored indices_call signed
returns-else-s-t c =
    read_and_called _ _ (omega arith) c.in-Ok.ensures (ends _ (past_record _ (complex_accepted _ c.in-Ok.ensures) (past (number_test _ _ ∙ lt-leb _ _ c.if-s-t.false) none)) refl (sym c.triangle_sides-found.ensures) tt) refl

pub returns-then-s-t : goal.returns-then-s-t
unfolding stored indices_call signed
returns-then-s-t c =
    read_and_called _ _ c.signed_refusal.type_inv c.in-Ok.ensures (refuses _ (past_record _ (complex_accepted _ c.in-Ok.ensures) (here (number_test _ _ ∙ le-leb _ _ c.if-s-t.true))) refl) c.signed_refusal.ensures

pub returns-in-Err : goal.returns-in-Err
unfolding stored indices_call
returns-in-Err c = unread _ _ c.signed_refusal-in-Err.type_inv c.in-Err.ensures c.signed_refusal-in-Err.ensures refl
