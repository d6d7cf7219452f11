-- The monomials without the unknowns before j, and those with powers of j's so far, were tried.
use Rattle.std.proofs.Common.{◌≤◌, ◌<◌, length, drop}
use Rattle.tcl_poly.specs.Polynomial as p
use Rattle.tcl_reduce.specs.Multiple.{monomials_over}
use Rattle.tcl_pivots.specs.CofactorLists.{equations_of}
use Rattle.tcl_pivots.specs.RowState.{pivot_shown}
use Rattle.tcl_member.specs.declared.search.Turn.TheVariants.{Going}
use Rattle.tcl_member.specs.Course.{keys_in, products_by, IsGone}
use Rattle.tcl_member.proofs.Listings.{up_to}
use Rattle.tcl_member.proofs.search.Search.+try_monomials.Given as goal

abbrev pub decreases-try_monomials : goal.decreases-try_monomials
decreases-try_monomials g l = l.by

abbrev pub invariant-unknowns : goal.invariant-unknowns
invariant-unknowns g l =
    let m = g.R.Ring.modulus_of l.ring in let value = g.R.Ring.amount l.ring in
    (l.from ≤ l.j) × (l.j ≤ length l.unknowns)
    × IsGone m value (equations_of value l.equations) (p.terms_of value l.claim) l.place l.budget (products_by (pivot_shown value l.pivot) l.front (monomials_over (drop l.j (keys_in l.unknowns)) l.by)) l.fn.self l.self
    (g.P.Port.polls l.fn.port) (g.P.Port.polls l.port) (g.P.Port.cancels l.fn.port) (g.P.Port.cancels l.port) Going

abbrev pub decreases-unknowns : goal.decreases-unknowns
decreases-unknowns g l = l.j

abbrev pub invariant-powers : goal.invariant-powers
invariant-powers g l =
    let m = g.R.Ring.modulus_of l.ring in let value = g.R.Ring.amount l.ring in
    (l.from ≤ l.j) × (l.j < length l.unknowns)
    × IsGone m value (equations_of value l.equations) (p.terms_of value l.claim) l.place l.budget (products_by (pivot_shown value l.pivot) l.front (up_to (keys_in l.unknowns) l.by l.j l.lower)) l.fn.self l.self
    (g.P.Port.polls l.fn.port) (g.P.Port.polls l.port) (g.P.Port.cancels l.fn.port) (g.P.Port.cancels l.port) Going
