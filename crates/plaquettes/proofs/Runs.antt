-- The two functions of demand 3 meet their contracts, each of which says the demand of its run.
use Rattle.enumeration.proofs.enumerate_gauge_invariant.Statement.{statement as listing_statement}
use Rattle.enumeration.proofs.enumerate_gauge_invariant.Met.{met as listing_met}
use Rattle.plaquettes.proofs.triangle.apply_triangle_shift.Statement.{statement as shift_statement}
use Rattle.plaquettes.proofs.triangle.apply_triangle_shift.Met.{met as shift_met}

pub listing_runs : {M : Type 1} → listing_statement M
listing_runs = listing_met

pub shift_runs : {M : Type 1} → shift_statement M
shift_runs = shift_met
