-- What the bounds say of a product and of a power.
use Rattle.std.proofs.Common.{◌≡◌, ℕ, ◌*◌, ◌^◌, sym, ◌∙◌, ap, List}
use Rattle.tcl_lang.specs.declared.ty.Ty.{Ty}
use Rattle.tcl_lang.specs.declared.term.Term.{Term}
use Rattle.tcl_lang.specs.declared.term.Term.TheOpen as layer
use Rattle.tcl_lang.specs.declared.term.Term.TheViews as term
use Rattle.tcl_lang.specs.declared.term.Term.TheVariants as rolled
use Rattle.tcl_lang.specs.declared.term.Term.TheFolds.{fold-roll-Term}
use Rattle.tcl_lang.specs.Bound.{norm_step, norm_of, degree_step, degree_of, terms_step, terms_of, size_step, size_of, type_among}

pub norm_power : (z t : Term) (k : ℕ) → z ≡ term.Pow t k → norm_of z ≡ norm_of t ^ k
norm_power z t k e = ap norm_of (e ∙ sym (rolled.rolls-Pow t k)) ∙ fold-roll-Term ℕ norm_step (layer.Pow t k)

pub degree_power : (z t : Term) (k : ℕ) → z ≡ term.Pow t k → degree_of z ≡ degree_of t * k
degree_power z t k e = ap degree_of (e ∙ sym (rolled.rolls-Pow t k)) ∙ fold-roll-Term ℕ degree_step (layer.Pow t k)

pub terms_power : (z t : Term) (k : ℕ) → z ≡ term.Pow t k → terms_of z ≡ terms_of t ^ k
terms_power z t k e = ap terms_of (e ∙ sym (rolled.rolls-Pow t k)) ∙ fold-roll-Term ℕ terms_step (layer.Pow t k)

pub terms_product : (z t u : Term) → z ≡ term.Mul t u → terms_of z ≡ terms_of t * terms_of u
terms_product z t u e = ap terms_of (e ∙ sym (rolled.rolls-Mul t u)) ∙ fold-roll-Term ℕ terms_step (layer.Mul t u)

pub size_power : (Ts : List Ty) (z t : Term) (k : ℕ) → z ≡ term.Pow t k → size_of Ts z ≡ size_of Ts t ^ k
size_power Ts z t k e = ap (size_of Ts) (e ∙ sym (rolled.rolls-Pow t k)) ∙ fold-roll-Term ℕ (size_step (type_among Ts)) (layer.Pow t k)

pub size_product : (Ts : List Ty) (z t u : Term) → z ≡ term.Mul t u → size_of Ts z ≡ size_of Ts t * size_of Ts u
size_product Ts z t u e = ap (size_of Ts) (e ∙ sym (rolled.rolls-Mul t u)) ∙ fold-roll-Term ℕ (size_step (type_among Ts)) (layer.Mul t u)
