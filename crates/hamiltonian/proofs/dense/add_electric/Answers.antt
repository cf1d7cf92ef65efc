use Rattle.std.proofs.Common.{◌≡◌, arith}
use Rattle.plaquettes.specs.Rows.{electric_term}
use Rattle.matrices.proofs.Matrices.{matrix_same, passed_none, passed_more}
use Rattle.hamiltonian.proofs.dense.add_electric.Goals as goal

pub loop-i-init : goal.loop-i-init
loop-i-init c = λ f old m. matrix_same _ _ _ old _ (λ i j a b. passed_none f (λ i. i) _ i j) m

pub row_energy-requires : goal.row_energy-requires
row_energy-requires c = (_, c.requires.0, omega arith)

pub add_entry-requires : goal.add_entry-requires
add_entry-requires c = (c.requires.0.few, rw c.loop-i.auto.h c.requires.1, omega arith, omega arith)

pub loop-i-preserved : goal.loop-i-preserved
loop-i-preserved c = λ f old m.
    rw (c.add_entry.ensures, c.row_energy.ensures)
    (passed_more f (λ i. i) (electric_term c.args.factor c.args.m c.args.list.now) c.args.n old c.loop-i.h c.loop-i.i (c.loop-i.invariant f old m) (rw (← m.long) c.requires.1) (omega arith) (omega arith))

pub returns : goal.returns
returns c =
    let past : c.loop-i.i ≡ c.args.n = omega arith in
    rw past at c.loop-i.invariant
