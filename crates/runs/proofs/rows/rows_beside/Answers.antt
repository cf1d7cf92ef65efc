use Rattle.std.proofs.Common.{◌≡◌, refl, sym, ◌∙◌, replicate, pos, arith}
use Rattle.mathematics.proofs.Puts.{put_none}
use Rattle.runs.specs.Rows.{repeated}
use Rattle.runs.proofs.Raising.{zero_part, zeros_addable, one_fits, beside_more, beside_is}
use Rattle.runs.proofs.rows.rows_beside.Goals as goal

pub loop-i-init : goal.loop-i-init
unfolding repeated
loop-i-init c = record { long = refl; list = sym (put_none (replicate 256 (pos 0)) 0) }

pub write_row-requires : goal.write_row-requires
write_row-requires c =
    let zeros = zero_part c.requires.2 in
    (zeros_addable _ zeros c.requires.0, omega arith, rw c.loop-i.invariant.long (one_fits _ zeros c.loop-i-test.true c.requires.1))

pub loop-i-preserved : goal.loop-i-preserved
loop-i-preserved c =
    record {
      long = c.write_row.auto.states ∙ c.loop-i.invariant.long;
      list = beside_more _ (zero_part c.requires.2) c.loop-i-test.true c.requires.1 _ (omega arith) c.loop-i.invariant.list c.write_row.ensures;
    }

pub returns : goal.returns
returns c =
    let all : c.loop-i.i ≡ c.args.rows = omega arith in
    beside_is _ c.loop-i.invariant.long (rw all at c.loop-i.invariant.list)
