use Rattle.std.proofs.Common.{◌≡◌, ◌+◌, ◌*◌, ◌≤◌}
use Rattle.recorded_fields.specs.Layout.{place}
use Rattle.recorded_fields.proofs.case.place.Given as goal

abbrev pub invariant-loop : goal.invariant-loop
invariant-loop l =
    record {
      within : l.counter ≤ l.number;
      place : l.begin ≡ place l.list l.at l.counter;
      near : l.begin ≤ l.at + 1 + l.counter * 8194;
    }
