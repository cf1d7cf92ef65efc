use Rattle.std.proofs.Common.{◌≡◌, ◌-◌, refl, ◌∙◌, rules, arith}
use Rattle.runs.proofs.Raising.{nothing_raised, may_raise_more, more_room, more_place, raised_more}
use Rattle.runs.proofs.tables.RunTables.raise_rows.Goals as goal

pub loop-left-init : goal.loop-left-init
loop-left-init c =
    let s = c.args in
    let none : s.number - s.number ≡ 0 = omega arith in
    record { few = omega arith; place = rw none (omega arith); long = refl; list = rw none (nothing_raised s.self.now.second.now s.states.now s.at (s.at - s.back)) }

pub raise-requires : goal.raise-requires
raise-requires c =
    let now = c.loop-left.invariant in
    may_raise_more c.requires.0 c.requires.1 now.few c.min-more.ensures now.place now.list now.long

pub overflow_add-place : goal.overflow_add-place
overflow_add-place c =
    let now = c.loop-left.invariant in
    let long = now.long in
    let room = more_room c.requires.0 c.requires.1 now.few c.min-more.ensures now.place now.list in
    search rules

pub loop-left-preserved : goal.loop-left-preserved
loop-left-preserved c =
    let now = c.loop-left.invariant in
    record {
      few = omega (arith, now.few);
      place = more_place c.requires.0 c.requires.1 now.few c.min-more.ensures now.place now.list;
      long = c.raise.auto.states ∙ now.long;
      list = raised_more c.requires.0 c.requires.1 now.few c.min-more.ensures now.place now.list c.raise.ensures;
    }
