-- One run of the walk, by the tables.
use Rattle.std.proofs.Common.{◌≡◌, ℕ, ◌+◌, ◌-◌, ◌*◌, ◌^◌, ◌≤◌, ◌<◌, min, List, [], ◌++◌, length, take, drop, ℤ, ap, refl, ◌∙◌, arith, length-append}
use Rattle.cycles.specs.Cycles.{row}
use Rattle.walker.specs.declared.blocks.Span.{Span}
use Rattle.walker.specs.declared.tables.Walker.{Walker}
use Rattle.walker.specs.Walker.{stepped, width, walked_states}
use Rattle.walker.specs.Steps.{Small, CyclesFit, FreeFit, Walkable, Runs}
use Rattle.walker.specs.Blocks.{WrittenAt}
use Rattle.walker.specs.Tables.{begin_of, states_of, Fit}
use Rattle.walker.proofs.BlockStates.{walked_none, states_none, states_counted}
use Rattle.walker.proofs.Stepping.{cycle_long, cycle_signs}
use Rattle.runs.specs.declared.edges.Kinds.{Kinds}
use Rattle.runs.specs.declared.tables.RunTables.{RunTables}
use Rattle.runs.specs.TablesOf.{TablesOf}
use Rattle.runs.specs.Edges.{Edges, Listed}
use Rattle.runs.specs.Kinds.{KindsOf}
use Rattle.runs.specs.Runs.{run_states, RunFit, SideSpan, Inside}
use Rattle.runs.proofs.EdgeLists.{edges_listed}
use Rattle.runs.proofs.Sides.{sides_inside, run_whole, run_flat}
use Rattle.runs.proofs.Walked.{width_positive, this_run_fits, run_first, new_long, walkable_run, runs_next}
use Rattle.runs.proofs.Written.{SoFar, some_more}

-- a walk that may go on from s for so many blocks
pub record Underway (w : Walker) (L : ℕ) (s : List ℤ) (left : ℕ) : Type 0 where
  pub sized : length s ≡ w.n_edges
  pub walkable : Walkable w.free w.cycles L w.n_free s left
  pub runs : Runs w.free w.cycles L w.n_free s

-- the states that it then passes
abbrev pub to_come : Walker → ℕ → List ℤ → ℕ → List (List ℤ)
to_come w L s left = walked_states w.free (row (length s) w.cycles) L w.n_free s left

-- ---- the whole walk
module _ {w : Walker} {L blocks : ℕ} (fit : Fit w L blocks) where
  pub begun : Underway w L (take w.n_edges w.first) blocks
  unfolding begin_of
  begun = record { sized = fit.sized; walkable = fit.walkable; runs = fit.runs }

  pub all_to_come : to_come w L (take w.n_edges w.first) blocks ≡ states_of w L blocks
  unfolding begin_of states_of
  all_to_come = rw fit.sized refl

  pub all_counted : length (states_of w L blocks) ≤ 2 ^ 40
  unfolding states_of
  all_counted = rw fit.sized at (states_counted w.free w.cycles L w.n_free (begin_of w) blocks fit.walkable)

  pub cycles_here : CyclesFit w.n_edges w.n_free L w.cycles
  cycles_here = rw fit.sized at fit.walkable.cycles_fit

pub none_to_come : (w : Walker) (L : ℕ) (s : List ℤ) (left : ℕ) → left ≡ 0 → to_come w L s left ≡ []
none_to_come w L s left none = rw none (states_none w.free (row (length s) w.cycles) L w.n_free s)

-- ---- what its steps ask
pub step_asks : (w : Walker) (L : ℕ) (s : List ℤ) (left : ℕ) → Underway w L s left → 0 < left → CyclesFit (length s) w.n_free L w.cycles × FreeFit (length s) w.n_free w.free × Small (2 ^ 20) s
step_asks w L s left now more = (now.walkable.cycles_fit, now.walkable.free_fit, rw (walked_none w.free (row (length s) w.cycles) L w.n_free s) at (now.walkable.values 0 more))

pub wide_enough : (L n wide : ℕ) → wide ≡ width L n → 0 < wide
wide_enough L n wide of_wide = omega (arith, width_positive L n)

-- ---- its tables
-- they have the first two cycles z and y, the edges by what they do to them, the bound, and the number of candidates in a block
pub record WalkTables (w : Walker) (L : ℕ) (z y : List ℤ) (still side moved : List ℕ) (B n : ℕ) : Type 0 where
  pub first : z ≡ row w.n_edges w.cycles 0
  pub second : y ≡ row w.n_edges w.cycles 1
  pub rests : Edges z y 0 w.n_edges still (length still)
  pub goes : Edges z y 1 w.n_edges side (length side)
  pub moves : Edges z y 2 w.n_edges moved (length moved)
  pub bound : B ≡ L
  pub wide : n ≡ width L w.n_free

abbrev pub TablesFor : Walker → ℕ → RunTables → Type 0
TablesFor w L t = WalkTables w L t.first.now t.second.now t.still.now t.side.now t.moved.now t.lambda t.width

-- the second cycle, as a part of the table
abbrev second_part : ℕ → List ℤ → List ℤ
second_part m cycles = take (63 + m - 63) (drop 63 cycles)

module _ {m n L : ℕ} {cycles : List ℤ} (fit : CyclesFit m n L cycles) where
  pub first_long : length (take m cycles) ≡ m
  first_long = cycle_long m n L cycles fit 0 (omega arith)

  second_is : second_part m cycles ≡ row m cycles 1
  second_is = let e : 63 + m - 63 ≡ m = omega arith in rw e

  pub second_long : length (second_part m cycles) ≡ m
  second_long = rw second_is (cycle_long m n L cycles fit 1 (omega arith))

  pub second_signs : Small 1 (second_part m cycles)
  second_signs = rw second_is (cycle_signs m n L cycles fit 1 (omega arith))

module _ {w : Walker} {L blocks : ℕ} (fit : Fit w L blocks) where
  abbrev z : List ℤ
  z = take w.n_edges w.cycles

  abbrev y : List ℤ
  y = second_part w.n_edges w.cycles

  pub walk_tables : {kinds : Kinds} {n : ℕ} {t : RunTables} → KindsOf z y (length z) kinds → n ≡ width L w.n_free → TablesOf z y kinds L n t → TablesFor w L t
  walk_tables sorted of_n of =
      let cycles = cycles_here fit in
      let long = first_long cycles in
      record {
        first = of.first;
        second = of.second ∙ second_is cycles;
        rests = rw (of.first, of.second, of.still) (rw long at sorted.still);
        goes = rw (of.first, of.second, of.side) (rw long at sorted.side);
        moves = rw (of.first, of.second, of.moved) (rw long at sorted.moved);
        bound = of.bound;
        wide = of.wide ∙ of_n;
      }

-- ---- a run of it
module _ {w : Walker} {L : ℕ} {z y : List ℤ} {still side moved : List ℕ} {B n : ℕ} (of : WalkTables w L z y still side moved B n) {s : List ℤ} {left : ℕ} (now : Underway w L s left) (more : 0 < left) {wide run : ℕ} (of_wide : wide ≡ width L (w.n_free - 1)) (of_run : run ≡ min left wide) where
  is : run ≡ min left (width L (w.n_free - 1))
  is = of_run ∙ ap (min left) of_wide

  first : z ≡ row (length s) w.cycles 0
  first = rw now.sized of.first

  second : y ≡ row (length s) w.cycles 1
  second = rw now.sized of.second

  rests : Edges z y 0 (length s) still (length still)
  rests = rw now.sized of.rests

  goes : Edges z y 1 (length s) side (length side)
  goes = rw now.sized of.goes

  fit : RunFit B n s z y run
  fit = rw (of.bound, of.wide, first, second) (this_run_fits now.walkable now.runs more is)

  pub span_asks : Listed (length s) still (length still) × Listed (length s) side (length side) × (length y ≡ length s) × Small (2 ^ 20) s × Small 1 y × (B ≤ 1000)
  span_asks = (edges_listed rests, edges_listed goes, fit.second_long, fit.start, fit.second_signs, fit.truncation)

  module _ {r : Span} (spans : SideSpan B s y still (length still) side (length side) run r) where
    abbrev pub these : List (List ℤ)
    these = run_states B n s z y r.from r.to

    pub run_asks : RunFit B n s z y r.to × Inside B s z y r × Edges z y 2 (length s) moved (length moved)
    run_asks = (
      record {
        edges_few = fit.edges_few;
        truncation = fit.truncation;
        wide = fit.wide;
        few = omega (arith, fit.few, spans.bound);
        first_long = fit.first_long;
        second_long = fit.second_long;
        first_signs = fit.first_signs;
        second_signs = fit.second_signs;
        start = fit.start;
        values = λ i h. fit.values i (omega (arith, spans.bound));
      },
      sides_inside fit rests goes spans,
      rw now.sized of.moves,
    )

    -- its states, and those that come after it
    run_then : {new : List ℤ} → new ≡ stepped w.free (row (length s) w.cycles) L (w.n_free - 2) 2 s → to_come w L s left ≡ these ++ to_come w L new (left - run)
    run_then {new} made =
        let all : to_come w L s left ≡ run_states B n s z y 0 run ++ to_come w L new (left - run) = rw (of.bound, of.wide, first, second) (run_first now.walkable now.runs more is made) in
        rw (run_whole fit rests goes spans) at all

    pub these_few : length these ≤ length (to_come w L s left)
    these_few = let after = stepped w.free (row (length s) w.cycles) L (w.n_free - 2) 2 s in omega (arith, ap length (run_then {new = after} refl), length-append these (to_come w L after (left - run)))

    module _ {new : List ℤ} (made : new ≡ stepped w.free (row (length s) w.cycles) L (w.n_free - 2) 2 s) {rest : ℕ} (on : rest ≡ left - run) where
      pub next_underway : Underway w L new rest
      next_underway =
          rw on
          (record {
            sized = new_long now.walkable now.runs more is made ∙ now.sized;
            walkable = walkable_run now.walkable now.runs more is made;
            runs = runs_next now.walkable now.runs more is made;
          })

      run_then_rest : to_come w L s left ≡ these ++ to_come w L new rest
      run_then_rest = rw on (run_then made)

      pub run_counts : length (to_come w L s left) ≡ length these + length (to_come w L new rest)
      run_counts = ap length run_then_rest ∙ length-append these (to_come w L new rest)

      pub run_written : {all : List (List ℤ)} {number k : ℕ} {old list next : List ℤ} → SoFar all w.n_edges number (to_come w L s left) old list → length all * w.n_edges ≤ length old → WrittenAt these list next (number * w.n_edges) k
          → SoFar all w.n_edges (number + k) (to_come w L new rest) old next
      run_written so enough written =
          some_more so these (to_come w L new rest) run_then_rest enough (run_flat B n s z y r.from r.to ∙ ap (λ m. length these * m) now.sized) written
