-- An integer is its own value.
use Rattle.std.proofs.Common.{◌^◌, min, ◌∙◌, ap}
use Rattle.tcl_poly.specs.Polynomial as p
use Rattle.tcl_poly.proofs.TermLists.{terms_itself}
use Rattle.tcl_poly.proofs.poly.norm.Goals as goal

pub returns : goal.returns
returns c = c.norm_of_terms.ensures ∙ ap (λ x. min (p.norm_of (p.terms_of (λ n. n) x)) (2 ^ 127)) c.terms.ensures ∙ ap (λ x. min (p.norm_of x) (2 ^ 127)) (terms_itself c.args.a.now)
