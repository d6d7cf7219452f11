-- The products with monomials of the degrees so far were tried.
use Rattle.tcl_poly.specs.Polynomial as p
use Rattle.tcl_reduce.specs.Multiple.{multiples_to}
use Rattle.tcl_pivots.specs.CofactorLists.{equations_of}
use Rattle.tcl_pivots.specs.Held.{pivots_shown}
use Rattle.tcl_member.specs.declared.search.Turn.TheVariants.{Going}
use Rattle.tcl_member.specs.Course.{keys_in, IsGone}
use Rattle.tcl_member.proofs.search.Search.try_products.Given as goal

abbrev pub invariant-loop-lower : goal.invariant-loop-lower
invariant-loop-lower g l =
    let m = g.R.Ring.modulus_of l.ring in let value = g.R.Ring.amount l.ring in
    IsGone m value (equations_of value l.equations) (p.terms_of value l.claim) l.place l.budget (multiples_to (keys_in l.unknowns) l.limit (pivots_shown value l.pivots) l.lower) l.fn.self l.self
    (g.P.Port.polls l.fn.port) (g.P.Port.polls l.port) (g.P.Port.cancels l.fn.port) (g.P.Port.cancels l.port) Going
