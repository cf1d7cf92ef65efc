use Rattle.std.proofs.Common.{◌≡◌, ◌*◌, ◌≤◌, rules, sym, ap, arith, length}
use Rattle.complex.specs.Complex.{complex_of}
use Rattle.triangles.proofs.SidesFound.{triangles_long}
use Rattle.matrices.specs.Weights.{weight, is_given, given_list}
use Rattle.plaquettes.proofs.Listed.{small_rows}
use Rattle.csr.proofs.WalkMade.{numbered, word_small, walk_sliced, entries_small}
use Rattle.csr.proofs.Built.{writable, lists_written, starts_fit}
use Rattle.csr.proofs.build.write_lists.Goals as goal

pub of-lists-requires : goal.of-lists-requires
of-lists-requires c =
    let b = c.requires.0 in (
      record { accepted = b.accepted; truncation = b.truncation; weighed = c.requires.3; free_count = b.free_count; free_fit = rw (← b.edges) b.free_fit; free_listed = b.free_listed; few = c.requires.2 },
      c.requires.1,
    )

pub write_numbers-requires : goal.write_numbers-requires
write_numbers-requires c = (small_rows _ _ _ _ c.requires.0, numbered _ _ _ _ c.requires.0 c.requires.2, omega (arith, c.requires.4))

pub overflow_mul-n_moves : goal.overflow_mul-n_moves
overflow_mul-n_moves c =
    let h = c.requires.0.accepted.few_triangles in
    let e = triangles_long c.args.c in
    search rules

pub write_rows-requires : goal.write_rows-requires
write_rows-requires c =
    let a = c.args in
    let b = c.requires.0 in
    let w = weight (is_given a.weights) (given_list a.weights) in
    let triangles : 2 * a.c.n_triangles ≡ 2 * length (complex_of a.c).triangles = ap (λ k. 2 * k) (sym (triangles_long a.c)) in
    let few = entries_small (complex_of a.c) b.accepted a.s.lambda a.p w (omega (arith, b.few, b.count)) in
    let room : 2 * a.c.n_triangles ≤ length c.of-lists.result.keys = omega (arith, triangles, b.accepted.few_triangles, c.of-lists.result.keys_long) in
    let is = walk_sliced (complex_of a.c) a.list.now a.s a.free.now b c.requires.2 a.p w a.starts.now c.write_numbers.new.words c.write_numbers.ensures _ _ _ _ triangles room c.of-lists.ensures in (
      small_rows _ _ _ _ b,
      writable is _ _ _ (omega (arith, b.count, c.write_numbers.ensures.long, c.requires.4)) (word_small _ _ _ _ b c.requires.2 a.p w _ _ c.write_numbers.ensures) c.requires.5 c.requires.6 few,
    )

pub write_starts-requires : goal.write_starts-requires
write_starts-requires c =
    let a = c.args in
    let b = c.requires.0 in
    let w = weight (is_given a.weights) (given_list a.weights) in
    let triangles : 2 * a.c.n_triangles ≡ 2 * length (complex_of a.c).triangles = ap (λ k. 2 * k) (sym (triangles_long a.c)) in
    let few = entries_small (complex_of a.c) b.accepted a.s.lambda a.p w (omega (arith, b.few, b.count)) in
    let room : 2 * a.c.n_triangles ≤ length c.of-lists.result.keys = omega (arith, triangles, b.accepted.few_triangles, c.of-lists.result.keys_long) in
    let is = walk_sliced (complex_of a.c) a.list.now a.s a.free.now b c.requires.2 a.p w a.starts.now c.write_numbers.new.words c.write_numbers.ensures _ _ _ _ triangles room c.of-lists.ensures in
    let walked = c.write_rows.ensures.2 in
    (omega (arith, walked.long, c.write_numbers.ensures.long, c.requires.4), starts_fit is a.s.states b.count _ _ _ _ _ _ _ _ walked few)

pub returns : goal.returns
returns c =
    let a = c.args in
    let b = c.requires.0 in
    let w = weight (is_given a.weights) (given_list a.weights) in
    let triangles : 2 * a.c.n_triangles ≡ 2 * length (complex_of a.c).triangles = ap (λ k. 2 * k) (sym (triangles_long a.c)) in
    let room : 2 * a.c.n_triangles ≤ length c.of-lists.result.keys = omega (arith, triangles, b.accepted.few_triangles, c.of-lists.result.keys_long) in
    let is = walk_sliced (complex_of a.c) a.list.now a.s a.free.now b c.requires.2 a.p w a.starts.now c.write_numbers.new.words c.write_numbers.ensures _ _ _ _ triangles room c.of-lists.ensures in
    lists_written is a.s.states b.count _ _ _ _ _ _ _ _ _ _ _ c.requires.4 c.write_numbers.ensures c.write_rows.ensures.2 c.write_starts.ensures

pub shared_ref_as_front-keys : goal.shared_ref_as_front-keys
shared_ref_as_front-keys c = omega (arith, triangles_long c.args.c, c.requires.0.accepted.few_triangles)
