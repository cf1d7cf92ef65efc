use Rattle.std.proofs.Common.{◌≡◌, ◌+◌, ◌<◌, ◌∙◌, refl, sym, length, arith}
use Rattle.std.proofs.lemmas.List.{length-take-le, get_or-take}
use mathlib.Core.List.{flat_map}
use lib.ListN.{length-set}
use Rattle.mathematics.specs.Counting.{below}
use Rattle.rows.specs.RowLists.{rows_to}
use Rattle.rows.proofs.SameEntries.{same_itself}
use Rattle.rows.proofs.Sorting.{sorted_differ}
use Rattle.rows.proofs.SortedRows.{fits_at, added_next, added_written}
use Rattle.rows.proofs.RowsWritten.{none_written}
use Rattle.su2_rows.specs.Rows.{table_entries}
use Rattle.su2_rows.proofs.Flipping.{others_differ, same_differ, same_fits, same_added, flips_first, flips_next}
use Rattle.su2_rows.proofs.fill.write_rows.Goals as goal

pub loop-i-init : goal.loop-i-init
unfolding table_entries rows_to below flat_map
loop-i-init c =
    let are = flips_first c.args.places.now c.args.terms.now c.requires.1 in
    record {
      columns_long = refl;
      values_long = refl;
      begins = refl;
      written = λ old h w. w;
      same = rw are (same_itself _);
      differ = λ some. rw are (others_differ 0 _ _ (c.requires.0.fit.differ 0 some));
    }

pub add_row-at-requires : goal.add_row-at-requires
unfolding table_entries
add_row-at-requires c =
    let inv = c.loop-i.invariant in
    let may = c.requires.0 in
    let inside : c.loop-i.i < c.args.n = omega (arith, length-take-le c.args.n c.args.states.now may.states_long) in
    let energy = rw (get_or-take c.args.n c.args.states.now c.loop-i.i 0 inside) at c.mask_energy-diagonal.ensures in
    let differ = rw (← energy) at (may.fit.differ c.loop-i.i inside) in
    let fits = rw (← energy, ← c.loop-i.auto.columns, ← c.loop-i.auto.values) at (fits_at may.fit c.loop-i.i c.loop-i.at inside inv.begins) in (
      omega (arith, may.few),
      omega (arith, c.loop-i.auto.places, inv.columns_long, may.few_triangles),
      rw (inv.columns_long, inv.values_long) refl,
      c.loop-i.auto.places ∙ c.requires.1 ∙ sym c.loop-i.auto.terms,
      omega (arith, length-set c.args.starts.now 0 0, may.starts_fit),
      same_differ inv.same _ _ differ (inv.differ inside),
      same_fits inv.same _ _ fits,
    )

pub flip_row-requires : goal.flip_row-requires
flip_row-requires c =
    let inside : c.loop-i.i < c.args.n = omega (arith, length-take-le c.args.n c.args.states.now c.requires.0.states_long) in
    (c.loop-i.auto.places ∙ c.requires.1 ∙ sym c.loop-i.auto.terms, c.loop-i.invariant.differ inside)

pub loop-i-preserved : goal.loop-i-preserved
unfolding table_entries
loop-i-preserved c =
    let inv = c.loop-i.invariant in
    let may = c.requires.0 in
    let inside : c.loop-i.i < c.args.n = omega (arith, length-take-le c.args.n c.args.states.now may.states_long) in
    let energy = rw (get_or-take c.args.n c.args.states.now c.loop-i.i 0 inside) at c.mask_energy-diagonal.ensures in
    let row = rw energy at (same_added inv.same _ _ c.add_row-at.ensures) in
    record {
      columns_long = c.add_row-at.auto.row_columns ∙ inv.columns_long;
      values_long = c.add_row-at.auto.row_values ∙ inv.values_long;
      begins = added_next may.fit c.loop-i.i c.loop-i.at inside inv.begins _ row.is _ _ _ _ _ _ _ row.appended;
      written = λ old long none.
          added_written may.fit c.loop-i.i c.loop-i.at inside inv.begins _ row.is _ _ _ _ _ _ _ row.appended old c.args.columns.now c.args.values.now
          (omega (arith, long, length-set c.args.starts.now 0 0, may.starts_fit)) refl refl (inv.written old long none);
      same = flips_next c.args.places.now c.args.terms.now (length c.args.places.now) c.loop-i.i (c.loop-i.i + 1) inv.same c.flip_row.ensures;
      differ = λ more. sorted_differ c.flip_row.ensures;
    }

pub returns : goal.returns
returns c =
    let inv = c.loop-i.invariant in
    let may = c.requires.0 in
    let past : c.loop-i.i ≡ c.args.n = omega (arith, length-take-le c.args.n c.args.states.now may.states_long) in
    let some : 0 < length c.args.starts.now = omega (arith, may.starts_fit) in
    let all = inv.written c.args.starts.now (length-set c.args.starts.now 0 0) (λ row sorted. none_written row _ _ _ some) in
    rw (← (rw past at inv.begins)) (rw past at all)
