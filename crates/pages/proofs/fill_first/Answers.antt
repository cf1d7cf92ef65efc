use Rattle.std.proofs.Common.{◌+◌, ◌≤◌, sym, ◌∙◌, arith, length}
use Rattle.lines.specs.Lines.{first_line}
use Rattle.pages.proofs.Parts.{put_part}
use Rattle.pages.proofs.Turning.{fills, first_some}
use Rattle.pages.proofs.Answers.{first_line_short, over_number, over, under_number, candidates_few, blocks_fit, under_told}
use Rattle.pages.proofs.fill_first.Goals as goal

pub returns-then-too_many : goal.returns-then-too_many
returns-then-too_many c =
    let many = sym c.too_many.ensures ∙ c.if-too_many.true in
    record {
      fills = rw (over c.args.s.complex c.args.s.lambda c.prepare-w.result c.prepare-w.ensures many) c.fill_refused.ensures.fills;
      refusal = c.fill_refused.ensures.refusal ∙ sym (over_number c.args.s.complex c.args.s.lambda c.prepare-w.result c.prepare-w.ensures many);
    }

pub count_of_blocks-blocks-requires : goal.count_of_blocks-blocks-requires
count_of_blocks-blocks-requires c =
    (c.requires.2, candidates_few c.args.s.complex c.args.s.lambda c.prepare-w.result c.prepare-w.ensures (sym c.too_many.ensures ∙ c.if-too_many.false))

pub count_states-dim-requires : goal.count_states-dim-requires
count_states-dim-requires c =
    blocks_fit c.args.s.complex c.args.s.lambda c.prepare-w.result c.prepare-w.ensures (sym c.too_many.ensures ∙ c.if-too_many.false) c.count_of_blocks-blocks.result c.count_of_blocks-blocks.ensures c.requires.2

pub write_first_line-len-requires : goal.write_first_line-len-requires
write_first_line-len-requires c =
    omega (arith, first_line_short c.args.s.complex c.args.s.lambda c.count_states-dim.result c.requires.1 c.requires.2 c.count_states-dim.type_inv, c.requires.0)

pub first_page-requires : goal.first_page-requires
first_page-requires c =
    blocks_fit c.args.s.complex c.args.s.lambda c.prepare-w.result c.prepare-w.ensures (sym c.too_many.ensures ∙ c.if-too_many.false) c.count_of_blocks-blocks.result c.count_of_blocks-blocks.ensures c.requires.2

pub returns : goal.returns
returns c =
    let s = c.args.s in
    let few = sym c.too_many.ensures ∙ c.if-too_many.false in
    let text = under_told s.complex s.lambda c.prepare-w.result c.prepare-w.ensures few c.count_of_blocks-blocks.result c.count_of_blocks-blocks.ensures in
    let some = first_some s.complex.n_vertices s.complex.n_edges s.complex.n_triangles s.lambda c.count_states-dim.result in
    let short : 0 + length (first_line s.complex.n_vertices s.complex.n_edges s.complex.n_triangles s.lambda c.count_states-dim.result) ≤ length c.args.out.now =
    omega (arith, first_line_short s.complex s.lambda c.count_states-dim.result c.requires.1 c.requires.2 c.count_states-dim.type_inv, c.requires.0) in
    record {
      fills =
          fills _ _ _ c.first_page.result c.while_left-next.result c.while_left-next.ensures
          (rw (text, ← c.count_states-dim.ensures, ← c.first_page.ensures.0) (put_part (first_line s.complex.n_vertices s.complex.n_edges s.complex.n_triangles s.lambda c.count_states-dim.result) _ _ _ _ short some c.write_first_line-len.ensures))
          c.first_page.ensures.1;
      refusal = sym (under_number s.complex s.lambda c.prepare-w.result c.prepare-w.ensures few);
    }
