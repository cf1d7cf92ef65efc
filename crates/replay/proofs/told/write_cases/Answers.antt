-- Each text is put behind the one before it, and there is room for all.
use Rattle.std.proofs.Common.{ℕ, ◌+◌, ◌≤◌, List, ◌++◌, arith, length}
use Rattle.lines.specs.Lines.{ascii, named}
use Rattle.lines.specs.Put.{Put}
use Rattle.lines.proofs.Puts.{both, room_first, room_second, ends_inside}
use Rattle.replay.specs.Text.{cases_line}
use Rattle.replay.proofs.Texts.{cases_line_long}
use Rattle.replay.proofs.told.write_cases.Goals as goal

-- the two counts, and room for them and what is behind them
abbrev counted : ℕ → List ℕ
counted cases = named "replayed " cases

abbrev compared : ℕ → List ℕ
compared differ = named " cases: " differ

room_3 : (out : List ℕ) (cases differ : ℕ) → length (cases_line cases differ) ≤ 65 → 65 ≤ length out → 0 + length ((counted cases ++ compared differ) ++ ascii " differ\n") ≤ length out
unfolding cases_line
room_3 out cases differ long room = omega arith

room_2 : (out : List ℕ) (cases differ : ℕ) → length (cases_line cases differ) ≤ 65 → 65 ≤ length out → 0 + length (counted cases ++ compared differ) ≤ length out
room_2 out cases differ long room = room_first (counted cases ++ compared differ) (ascii " differ\n") _ _ (room_3 out cases differ long room)

room_1 : (out : List ℕ) (cases differ : ℕ) → length (cases_line cases differ) ≤ 65 → 65 ≤ length out → 0 + length (counted cases) ≤ length out
room_1 out cases differ long room = room_first (counted cases) (compared differ) _ _ (room_2 out cases differ long room)

-- the counts, each behind what was there
two : (out₀ out₁ out₂ : List ℕ) (cases differ n₁ n₂ : ℕ) → length (cases_line cases differ) ≤ 65 → 65 ≤ length out₀ → Put (counted cases) out₀ 0 out₁ n₁ → Put (compared differ) out₁ n₁ out₂ n₂
    → Put (counted cases ++ compared differ) out₀ 0 out₂ n₂
two out₀ out₁ out₂ cases differ n₁ n₂ long room first second =
    both (counted cases) (compared differ) _ _ _ _ _ _ (room_1 out₀ cases differ long room) first second

pub write_named-counted-requires : goal.write_named-counted-requires
unfolding named ascii
write_named-counted-requires c =
    room_1 c.args.out.now c.args.cases c.args.differ (cases_line_long _ _ c.ranges.cases.fits c.ranges.differ.fits) c.requires

pub write_named-compared-requires : goal.write_named-compared-requires
unfolding named ascii
write_named-compared-requires c =
    room_second (counted c.args.cases) (compared c.args.differ) _ _ _ _
    (room_2 c.args.out.now c.args.cases c.args.differ (cases_line_long _ _ c.ranges.cases.fits c.ranges.differ.fits) c.requires)
    c.write_named-counted.ensures

pub write_text-requires : goal.write_text-requires
unfolding named ascii
write_text-requires c =
    let long = cases_line_long c.args.cases c.args.differ c.ranges.cases.fits c.ranges.differ.fits in
    room_second (counted c.args.cases ++ compared c.args.differ) (ascii " differ\n") _ _ _ _ (room_3 c.args.out.now c.args.cases c.args.differ long c.requires)
    (two _ _ _ c.args.cases c.args.differ _ _ long c.requires c.write_named-counted.ensures c.write_named-compared.ensures)

pub returns : goal.returns
unfolding cases_line named ascii
returns c =
    let long = cases_line_long c.args.cases c.args.differ c.ranges.cases.fits c.ranges.differ.fits in
    let all : Put (cases_line c.args.cases c.args.differ) c.args.out.now 0 c.write_text.new.out c.write_text.result =
    both (counted c.args.cases ++ compared c.args.differ) (ascii " differ\n") _ _ _ _ _ _ (room_2 c.args.out.now c.args.cases c.args.differ long c.requires)
    (two _ _ _ c.args.cases c.args.differ _ _ long c.requires c.write_named-counted.ensures c.write_named-compared.ensures)
    c.write_text.ensures in
    (all, ends_inside _ _ _ _ _ (room_3 c.args.out.now c.args.cases c.args.differ long c.requires) all)
