use Rattle.std.proofs.Common.{◌≤◌, ◌<◌, refl, arith}
use borrow.Author.Tests.{leb-false}
use Rattle.mathematics.proofs.Tests.{or_fell}
use Rattle.lanczos.proofs.Rooms.{one_missing}
use Rattle.lanczos.proofs.Running.{length_shorter}
use Rattle.lanczos.proofs.state_runs.RunTables.find_run.Goals as goal

pub returns-then-n-a : goal.returns-then-n-a
returns-then-n-a c =
    record {
      goes = λ l. absurd (omega arith);
      over = λ l.
          record {
            from_is = refl;
            to_is = refl;
            none = refl;
            a = _;
            b = _;
            next = c.next_staying-a.ensures;
            back = c.next_staying-b.ensures;
            missing = one_missing _ _ _ c.if-n-a.true;
          };
    }

pub run_length-p-requires : goal.run_length-p-requires
run_length-p-requires c =
    let below = leb-false _ _ (or_fell _ _ c.if-n-a.false).0 in
    (c.requires.0, omega arith, below, c.next_staying-a.ensures.there below)

pub run_length-q-requires : goal.run_length-q-requires
run_length-q-requires c =
    let below = leb-false _ _ (or_fell _ _ c.if-n-a.false).1 in
    (c.requires.0, omega arith, below, c.next_staying-b.ensures.there below)

pub returns : goal.returns
returns c =
    let first = c.run_length-p.ensures in
    let second = c.run_length-q.ensures in
    let fell = or_fell _ _ c.if-n-a.false in
    let here : c.next_staying-a.result < c.args.self.now.sizes.states = leb-false _ _ fell.0 in
    let some : 1 ≤ c.min.result = omega (arith, c.min.ensures, first.cycle.some, second.cycle.some) in
    record {
      goes = λ l.
          record {
            next = c.next_staying-a.ensures;
            back = c.next_staying-b.ensures;
            below = leb-false _ _ fell.1;
            some = some;
            forth_run = length_shorter _ _ _ _ _ _ _ _ _ _ some (omega (arith, c.min.ensures)) first;
            back_run = length_shorter _ _ _ _ _ _ _ _ _ _ some (omega (arith, c.min.ensures)) second;
          };
      over = λ l. absurd (omega (arith, here));
    }
