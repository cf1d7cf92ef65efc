use Rattle.std.proofs.Common.{◌≡◌, ◌+◌, ◌/◌, ◌^◌, ◌<◌, ◌≤◌, refl, ap, ◌∙◌, get_or, length, arith}
use lib.Seq.{get_or-take, length-take-le}
use Rattle.csr.specs.Words.{upper, begins}
use Rattle.csr.proofs.FirstWords.{none_first, first_next, first_part, begins_next, begins_rise}
use Rattle.csr.proofs.words.write_starts.Goals as goal

pub loop-word-init : goal.loop-word-init
unfolding begins
loop-word-init c = record { at = refl; words = none_first _ _ }

pub overflow_add-at : goal.overflow_add-at
overflow_add-at c =
    let lengths = upper c.args.words.now in
    let i = c.loop-word.word-index in
    let inside : i < c.args.n = omega (arith, c.loop-word-test.true, length-take-le c.args.n c.args.words.now (omega (arith, c.requires.0))) in
    let count : get_or c.loop-word.word-items i 0 / 1048576 ≡ lengths i = ap (λ x. x / 1048576) (c.loop-word.invariant.words.rest i (omega arith) ∙ get_or-take c.args.n c.args.words.now i 0 inside) in
    let rise = begins_rise lengths (i + 1) c.args.n (omega (arith, inside)) in
    let fits : c.loop-word.at + get_or c.loop-word.word-items i 0 / 1048576 < 2 ^ 32 = omega (arith, rise, begins_next lengths i, count, c.loop-word.invariant.at, c.requires.1) in
    record { fits = fits }

pub loop-word-preserved : goal.loop-word-preserved
loop-word-preserved c =
    let lengths = upper c.args.words.now in
    let i = c.loop-word.word-index in
    let inside : i < c.args.n = omega (arith, c.loop-word-test.true, length-take-le c.args.n c.args.words.now (omega (arith, c.requires.0))) in
    let count : get_or c.loop-word.word-items i 0 / 1048576 ≡ lengths i = ap (λ x. x / 1048576) (c.loop-word.invariant.words.rest i (omega arith) ∙ get_or-take c.args.n c.args.words.now i 0 inside) in
    record {
      at = omega (arith, count, c.loop-word.invariant.at, begins_next lengths i);
      words = first_next _ _ _ _ _ c.loop-word.invariant.words c.loop-word-test.true c.loop-word.invariant.at;
    }

pub returns : goal.returns
returns c =
    let room : c.args.n ≤ length c.args.words.now = omega (arith, c.requires.0) in
    let past : c.loop-word.word-index ≡ c.args.n = omega (arith, length-take-le c.args.n c.args.words.now room) in
    first_next _ _ _ _ _ (first_part _ _ _ _ room (rw past at c.loop-word.invariant.words)) c.requires.0 (rw past at c.loop-word.invariant.at)
