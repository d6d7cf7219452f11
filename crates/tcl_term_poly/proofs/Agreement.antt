-- The law of a term's polynomial over the ring of a modulus.
use Rattle.tcl_ring.specs.Reduction.{reduced_by}
use Rattle.tcl_ring.proofs.Reductions.{is_reduction}
use Rattle.tcl_term_poly.specs.Laws.{TermsAgree}
use Rattle.tcl_term_poly.proofs.TermValues.{term_valued}

pub terms_agree : TermsAgree
terms_agree m store quotients t ok narrow = term_valued (reduced_by m) (is_reduction m ok) store quotients t narrow
