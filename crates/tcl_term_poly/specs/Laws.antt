-- What the polynomial of a term says of the term's value.
use Rattle.std.specs.Prelude.{◌≡◌, ℕ, ℤ, true, List, Option}
use Rattle.tcl_ring.specs.Reduction.{reduced_by, IsModulus}
use Rattle.tcl_poly.specs.Polynomial.{value_of}
use Rattle.tcl_lang.specs.declared.ty.Word.{Word}
use Rattle.tcl_lang.specs.declared.term.Term.{Term}
use Rattle.tcl_lang.specs.Term.{term_value}
use Rattle.tcl_term_poly.specs.Point.{point_of}
use Rattle.tcl_term_poly.specs.TermPolynomial.{polynomial_of, are_narrow}

-- in its ring, it has the term's value where each variable has its value in the store
abbrev pub TermsAgree : Type 0
TermsAgree =
    (m : Option ℕ) (store : List Word) (quotients : ℕ → ℤ) (t : Term) → IsModulus m → are_narrow t ≡ true →
    reduced_by m (value_of (point_of store quotients) (polynomial_of (reduced_by m) t)) ≡ reduced_by m (term_value store t)
