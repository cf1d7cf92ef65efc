use Rattle.std.proofs.Common.{◌≡◌, ◌∙◌, refl, sym, arith, length, take}
use lib.Seq.{length-take-le}
use Rattle.hilbert.specs.Search.{row}
use Rattle.matrices.specs.Squares.{squares, energy}
use Rattle.plaquettes.specs.Rows.{electric_term}
use Rattle.plaquettes.proofs.Listed.{row_room}
use Rattle.csr.specs.Views.{walk_by}
use Rattle.csr.proofs.Filling.{collected_differ, row_found}
use Rattle.csr.proofs.fill.RowTables.find_row.Goals as goal

pub row_at-requires : goal.row_at-requires
row_at-requires c = (row_room _ _ _ c.requires.1 c.args.i c.requires.2).0

pub collect_row-found-requires : goal.collect_row-found-requires
collect_row-found-requires c =
    let walking = c.requires.0 in
    let long : length (take c.args.self.now.sizes.states c.args.words.now) ≡ c.args.self.now.sizes.states = length-take-le c.args.self.now.sizes.states c.args.words.now c.requires.3 in
    (walking.moves_few, rw c.row_at.ensures (walking.each c.args.i c.requires.2), rw long c.requires.4, omega (arith, long, walking.few), omega (arith, c.requires.2, walking.few), c.lower.ensures.1, omega (arith, walking.moves_few, c.args.room.now.columns_long), c.args.room.now.columns_long ∙ sym c.args.room.now.values_long)

pub sort_row-requires : goal.sort_row-requires
unfolding electric_term
sort_row-requires c =
    let long : length (take c.args.self.now.sizes.states c.args.words.now) ≡ c.args.self.now.sizes.states = length-take-le c.args.self.now.sizes.states c.args.words.now c.requires.3 in
    let told : c.row_energy.result ≡ energy c.args.self.now.electric (squares (row c.args.self.now.sizes.edges c.args.self.now.list.now c.args.i)) = c.row_energy.ensures in
    let columns = c.collect_row-found.auto.row_columns ∙ c.args.room.now.columns_long in
    let values = c.collect_row-found.auto.row_values ∙ c.args.room.now.values_long in (
      omega (arith, c.collect_row-found.ensures.few, c.requires.0.moves_few, columns),
      columns ∙ sym values,
      collected_differ (walk_by c.args.self.now c.args.words.now) c.args.words.now refl _ long _ _ _ _ _ c.row_at.ensures c.lower.ensures.0 told _ c.collect_row-found.ensures.entries c.requires.5,
    )

pub returns : goal.returns
unfolding electric_term
returns c =
    let long : length (take c.args.self.now.sizes.states c.args.words.now) ≡ c.args.self.now.sizes.states = length-take-le c.args.self.now.sizes.states c.args.words.now c.requires.3 in
    let told : c.row_energy.result ≡ energy c.args.self.now.electric (squares (row c.args.self.now.sizes.edges c.args.self.now.list.now c.args.i)) = c.row_energy.ensures in
    record {
      found = row_found (walk_by c.args.self.now c.args.words.now) c.args.words.now refl _ long _ _ _ _ _ c.row_at.ensures c.lower.ensures.0 told _ c.collect_row-found.ensures.entries _ _ _ c.sort_row.ensures.sorted c.collect_row-found.ensures.pointers;
      few = c.collect_row-found.ensures.few;
    }
