use Rattle.complex.proofs.Triangles.{first_falls, second_falls, third_past, sides_found}
use Rattle.acceptance.proofs.triangle_fits.Goals as goal
use Rattle.acceptance.proofs.triangle_fits.Goals.{then-y-x-via-then-y-x, then-y-x-via-else-y-x+then-z-y, then-y-x-via-else-y-x+else-z-y+then-c-z}

pub returns-then-y-x : goal.returns-then-y-x
returns-then-y-x c =
    let e = c.triangle-x.ensures in
    elim c.then-y-x.branch [
      | then-y-x-via-then-y-x w ↦ λ es i. first_falls _ _ _ _ _ e.first e.second e.third _ es w.if-y-x.true
      | then-y-x-via-else-y-x+then-z-y w ↦ λ es i. second_falls _ _ _ _ _ e.first e.second e.third _ es w.if-y-x.false w.if-z-y.true
      | then-y-x-via-else-y-x+else-z-y+then-c-z w ↦ λ es i. third_past _ _ _ _ _ e.first e.second e.third _ es w.if-y-x.false w.if-z-y.false w.if-c-z.true
    ]

pub returns : goal.returns
returns c =
    let e = c.triangle-x.ensures in
    λ es i.
    rw (c.edge_number.ensures, c.edge_number-2.ensures, c.edge_number-3.ensures)
    (sides_found _ _ _ _ _ e.first e.second e.third _ es c.if-y-x.false c.if-z-y.false c.if-c-z.false c.requires.1 _ i)
