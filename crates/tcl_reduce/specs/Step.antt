-- What the step of one definition says. No public clause cites this module.
use Rattle.std.specs.Prelude.{◌≡◌, ℕ, min, ◌+◌, ◌^◌, ◌≤◌, ℤ, Option, None, Some}
use Rattle.tcl_port.specs.declared.limit.At.TheVariants.{Line}
use Rattle.tcl_ring.specs.Reduction.{reduced_by}
use Rattle.tcl_poly.specs.Polynomial.{Polynomial, IsPolynomial, terms_of, norm_of, degree_of}
use Rattle.tcl_reduce.specs.declared.step.Step.{Step}
use Rattle.tcl_reduce.specs.declared.step.Step.TheVariants.{Same, Next, Wide, Large}
use Rattle.tcl_reduce.specs.Parts.{top, coefficients}
use Rattle.tcl_reduce.specs.Substitution.{bound_of}
use Rattle.tcl_reduce.specs.Reduction.{Definition, Reduced, rest_at, cofactor_at}
use Rattle.tcl_reduce.specs.Reduction.Reduced.{TooWide, TooLarge}

-- over the integers a norm is at most what was spent, unless that is at its end
abbrev pub IsCovered : Option ℕ → ℕ → ℕ → Type 0
IsCovered None norm spent = min norm (2 ^ 127) ≤ spent
IsCovered (Some m) norm spent = Unit {0}

-- how the reduction goes on
abbrev pub continued : {R E : Type 0} → ℕ → Reduced → Reduced → Step R E → Reduced
continued place same further (Same f) = same
continued place same further (Next made spent) = further
continued place same further Wide = TooWide (Line place)
continued place same further (Large what n) = TooLarge what n

-- the polynomial and the cofactor that were made, and the bound that is spent then, which stays at 2^127
pub record IsMade (m : Option ℕ) (x : Definition) (f : Polynomial) (spent : ℕ) (g c : Polynomial) (after : ℕ) : Type 0 where
  pub rest : g ≡ rest_at m x f
  pub cofactor : c ≡ cofactor_at m x f
  pub total : after ≡ min (spent + bound_of x.2 (coefficients x.1 f) (top x.1 f)) (2 ^ 127)
  pub over : IsPolynomial (reduced_by m) g
  pub degree : degree_of g ≤ 1024
  pub covered : IsCovered m (norm_of g) after

abbrev pub IsNext : {R E : Type 0} → Option ℕ → (E → ℤ) → Definition → Polynomial → ℕ → Step R E → Type 0
IsNext m value x f spent (Same g) = terms_of value g ≡ f
IsNext m value x f spent (Next made total) = IsMade m x f spent (terms_of value made.rest) (terms_of value made.cofactor) total
IsNext m value x f spent Wide = Unit {0}
IsNext m value x f spent (Large what n) = Unit {0}
