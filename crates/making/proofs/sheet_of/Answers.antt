use Rattle.std.proofs.Common.{◌≡◌, refl}
use Rattle.sheet.specs.Sheet.{padded}
use Rattle.making.proofs.Makings.{flat_is}
use Rattle.making.proofs.sheet_of.Goals as goal

pub returns : goal.returns
returns c =
    let pairs : c.padded.result ≡ padded 126 c.args.edges.now = c.padded.ensures in
    let triples : c.padded-2.result ≡ padded 768 c.args.triangles.now = c.padded-2.ensures in
    (rw (pairs, triples) (flat_is _ _ _ c.args.lambda c.requires), refl)
