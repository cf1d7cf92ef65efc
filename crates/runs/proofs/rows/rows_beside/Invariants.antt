use Rattle.std.proofs.Common.{◌≡◌, length, replicate, pos}
use Rattle.mathematics.specs.Writing.{put}
use Rattle.runs.specs.Rows.{repeated}
use Rattle.runs.proofs.rows.rows_beside.Given as goal

abbrev pub invariant-loop-i : goal.invariant-loop-i
invariant-loop-i l = record { long : length l.beside ≡ 256; list : l.beside ≡ put (replicate 256 (pos 0)) 0 (repeated l.cycle l.i) }
