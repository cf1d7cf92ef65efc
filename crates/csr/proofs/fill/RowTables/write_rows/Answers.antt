use Rattle.std.proofs.Common.{◌≡◌, refl, arith}
use Rattle.moves.proofs.Collecting.{pointers_same}
use Rattle.csr.specs.Views.{walk_by}
use Rattle.csr.proofs.Filling.{walk_start, walk_fits, walk_differ, walk_unset, walk_step, walk_pointers, walk_same, differ_same, fits_same, done_same}
use Rattle.csr.proofs.fill.RowTables.write_rows.Goals as goal

pub loop-i-init : goal.loop-i-init
loop-i-init c = walk_start _ _ _ _ c.requires.1 _ refl refl _ c.new-room.ensures

pub add_row-at-requires : goal.add_row-at-requires
add_row-at-requires c =
    let a = c.args in
    let l = c.loop-i in
    let v = walk_by a.self.now a.words.now in
    let writable = c.requires.1 in
    let walking = writable.walking in
    let inside = c.loop-i-test.true in
    let same : walk_by a.self.now l.words ≡ v = walk_same _ _ _ _ _ l.words a.words.now _ _ _ _ l.invariant.numbers_are in (
      record { few = walking.few; moves_few = walking.moves_few; each = walking.each },
      c.requires.0,
      inside,
      omega (arith, l.invariant.long, writable.room),
      pointers_same l.invariant.pointers_are (walk_pointers v l.i),
      differ_same same l.room.pointers l.i (walk_differ _ _ _ _ writable _ _ _ _ _ _ l.invariant inside),
      walk_unset _ _ _ _ writable _ _ _ _ _ _ l.invariant inside,
      rw (c.loop-i.auto.columns, c.loop-i.auto.values) (fits_same same l.room.pointers l.i l.at _ _ (walk_fits _ _ _ _ writable _ _ _ _ _ _ l.invariant inside)),
    )

pub loop-i-preserved : goal.loop-i-preserved
loop-i-preserved c =
    let a = c.args in
    let l = c.loop-i in
    let same : walk_by a.self.now l.words ≡ walk_by a.self.now a.words.now = walk_same _ _ _ _ _ l.words a.words.now _ _ _ _ l.invariant.numbers_are in
    walk_step _ _ _ _ c.requires.1 _ _ _ _ _ _ l.invariant c.loop-i-test.true _ _ _ _ _ (done_same same c.add_row-at.ensures)

pub returns : goal.returns
returns c =
    let past : c.loop-i.i ≡ c.args.self.now.sizes.states = omega arith in
    (c.loop-i.at, c.loop-i.room.pointers, rw past at c.loop-i.invariant)
