use Rattle.std.proofs.Common.{◌≡◌}
use Rattle.sheet.specs.Sheet.{padded}
use Rattle.sheet.proofs.Sheets.{sheet_held}
use Rattle.sheet.proofs.sheet_in.Goals as goal

pub returns : goal.returns
returns c =
    let pairs : c.padded.result ≡ padded 126 c.split_at-2.result.0.now = c.padded.ensures in
    let triples : c.padded-2.result ≡ padded 768 c.split_at-2.result.1.now = c.padded-2.ensures in
    rw
    (sheet_held c.requires, pairs, triples, c.split_at-2.ensures.front, c.split_at-2.ensures.back, c.split_at.ensures.back, c.from-m.ensures, c.from.ensures, c.word.ensures.0, c.word-2.ensures.0)
