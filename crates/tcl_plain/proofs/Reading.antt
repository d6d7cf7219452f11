-- What a reduction ends with has names for all its unknowns and coefficients that are not too great: plain data has it.
use Rattle.std.proofs.Common.{◌≡◌, ℕ, zero, suc, ◌+◌, ◌*◌, ◌^◌, ◌<◌, ◌≤◌, refl, sym, ◌∙◌, ap, subst, arith, Bool, true, false, leb, nat_lt, List, [], ◌∷◌, length, ℤ, pos, unsigned_abs, Option, Some, None}
use Rattle.std.proofs.Math.Nat.{mul-le-mul_left}
use Rattle.std.proofs.lemmas.Bool.{and_from, lt-ltb}
use Rattle.std.proofs.lemmas.Bool.Decides.{nat_tests}
use Rattle.tcl_ring.specs.Reduction.{IsReduction, IsModulus, reduced_by, is_wide}
use Rattle.tcl_poly.specs.Monomial.{Monomial}
use Rattle.tcl_poly.specs.Polynomial.{Polynomial, IsPolynomial, norm_of}
use Rattle.tcl_poly.proofs.Norms.{narrower}
use Rattle.tcl_reduce.specs.Parts.{top, coefficients}
use Rattle.tcl_reduce.specs.Substitution.{substituted, cofactor_by, bound_of, degree_by, terms_by}
use Rattle.tcl_reduce.specs.Reduction.{Definition, definition_at, Reduced, first_fault, reduced_at, rest_at, cofactor_at, reduced_from, reduced_of}
use Rattle.tcl_reduce.specs.Reduction.Reduced.{Done, TooWide, TooLarge}
use Rattle.tcl_reduce.specs.Step.{IsCovered}
use Rattle.tcl_reduce.specs.Remainder.{AreDefinitions}
use Rattle.tcl_num.proofs.EuclideanDivision.{euclid_range}
use Rattle.tcl_reduce.proofs.Reducing.{covered_next}
use Rattle.tcl_reduce.proofs.Remainders.{definition_over}
use Rattle.tcl_reduce.proofs.Substituting.{substituted_is, cofactor_by_is}
use Rattle.tcl_reduce.proofs.NormBounds.{cofactor_norm}
use Rattle.tcl_remainder.specs.Names.{has_name}
use Rattle.tcl_remainder.specs.Terms.{has_names, is_plain_term, is_plain}
use Rattle.tcl_remainder.specs.Lines.{all_plain}
use Rattle.tcl_plain.specs.Named.{HasNames, AreNamed, DefinitionsNamed, IsReadable}
use Rattle.tcl_plain.proofs.Naming.{substituted_named, cofactor_named}

-- ---- what plain data has

-- over the ring, with names, and not too great
pub record IsNarrow (m : Option ℕ) (p : Polynomial) : Type 0 where
  pub over : IsPolynomial (reduced_by m) p
  pub named : AreNamed p
  pub narrow : is_wide m (norm_of p) ≡ false

abbrev pub AreNarrow : Option ℕ → List (ℕ × Polynomial) → Type 0
AreNarrow m [] = Unit {0}
AreNarrow m (c ∷ cs) = IsNarrow m c.1 × AreNarrow m cs

names_tested : (m : Monomial) → HasNames m → has_names m ≡ true
names_tested [] h = refl
names_tested (f ∷ m) h = and_from (has_name f.0) (has_names m) h.0 (names_tested m h.1)

-- a coefficient of a polynomial that is not too great
coefficient_small : (m : Option ℕ) → IsModulus m → (c : ℤ) (n : ℕ) → reduced_by m c ≡ c → unsigned_abs c ≤ n → is_wide m n ≡ false → unsigned_abs c < 2 ^ 127
coefficient_small None ok c n e h w = grind (arith, nat_tests)
coefficient_small (Some m) ok c n e h w =
    let range = euclid_range c m ok.0 in
    let own : c ≡ pos range.0 = sym e ∙ range.2 in
    omega (arith, ap unsigned_abs own, range.1, ok.1)

rest_norm : (m : Option ℕ) (a n : ℕ) → is_wide m (a + n) ≡ false → is_wide m n ≡ false
rest_norm None a n w = narrower None (a + n) n w (omega arith)
rest_norm (Some m) a n w = refl

pub narrow_plain : (m : Option ℕ) → IsModulus m → (p : Polynomial) → IsPolynomial (reduced_by m) p → AreNamed p → is_wide m (norm_of p) ≡ false → is_plain p ≡ true
narrow_plain m ok [] h n w = refl
narrow_plain m ok (t ∷ p) h n w =
    let small = coefficient_small m ok t.1 (unsigned_abs t.1 + norm_of p) h.2 (omega arith) w in
    and_from (is_plain_term t) (is_plain p)
    (and_from (nat_lt (unsigned_abs t.1) (2 ^ 127)) (has_names t.0) (lt-ltb (unsigned_abs t.1) (2 ^ 127) small) (names_tested t.0 n.0))
    (narrow_plain m ok p h.4 n.1 (rest_norm m (unsigned_abs t.1) (norm_of p) w))

pub all_narrow_plain : (m : Option ℕ) → IsModulus m → (cs : List (ℕ × Polynomial)) → AreNarrow m cs → all_plain cs ≡ true
all_narrow_plain m ok [] h = refl
all_narrow_plain m ok (c ∷ cs) h =
    and_from (is_plain c.1) (all_plain cs) (narrow_plain m ok c.1 h.0.over h.0.named h.0.narrow) (all_narrow_plain m ok cs h.1)

-- ---- one definition

definition_named : (defs : List Definition) (k : ℕ) → k < length defs → DefinitionsNamed defs → (has_name (definition_at defs k).1 ≡ true) × AreNamed (definition_at defs k).2
definition_named [] k l h = absurd (omega (arith, l))
definition_named (x ∷ defs) zero l h = (h.0, h.1)
definition_named (x ∷ defs) (suc k) l h = definition_named defs k (omega (arith, l)) h.2

-- what is covered by a bound that is not too great is not too great
covered_narrow : (m : Option ℕ) (n spent : ℕ) → IsCovered m n spent → is_wide m spent ≡ false → is_wide m n ≡ false
covered_narrow None n spent h w = grind (arith, nat_tests)
covered_narrow (Some m) n spent h w = refl

cofactor_narrow : (m : Option ℕ) (x : Definition) (f : Polynomial) (spent k : ℕ) → is_wide m (spent + bound_of x.2 (coefficients x.1 f) (suc k)) ≡ false → is_wide m (norm_of (cofactor_by (reduced_by m) x.1 x.2 (coefficients x.1 f) (suc (suc k)))) ≡ false
cofactor_narrow None x f spent k w =
    let bound = bound_of x.2 (coefficients x.1 f) (suc k) in
    let n = norm_of (cofactor_by (reduced_by None) x.1 x.2 (coefficients x.1 f) (suc (suc k))) in
    let more : n * 1 ≤ n * (1 + norm_of x.2) = mul-le-mul_left n (omega arith) in
    narrower None (spent + bound) n w (omega (arith, more, cofactor_norm x.1 x.2 f (suc k)))
cofactor_narrow (Some m) x f spent k w = refl

-- what holds between two definitions
pub record IsHeld (m : Option ℕ) (f : Polynomial) (spent : ℕ) (cs : List (ℕ × Polynomial)) : Type 0 where
  pub rest : IsNarrow m f
  pub covered : IsCovered m (norm_of f) spent
  pub cofactors : AreNarrow m cs

next_at : (m : Option ℕ) → IsReduction (reduced_by m) → (number : ℕ) (x : Definition) (f : Polynomial) (spent k : ℕ) (cs : List (ℕ × Polynomial)) → IsPolynomial (reduced_by m) x.2 → has_name x.1 ≡ true → AreNamed x.2 → IsHeld m f spent cs → is_wide m (spent + bound_of x.2 (coefficients x.1 f) (suc k)) ≡ false → IsHeld m (substituted (reduced_by m) x.2 (coefficients x.1 f) (suc (suc k))) (spent + bound_of x.2 (coefficients x.1 f) (suc k)) ((number, cofactor_by (reduced_by m) x.1 x.2 (coefficients x.1 f) (suc (suc k))) ∷ cs)
next_at m ring number x f spent k cs over unknown named held w =
    let r = reduced_by m in let u = x.1 in let d = x.2 in
    let covered = covered_next m x f spent k held.covered w in
    record {
      rest = record {
        over = substituted_is r ring u d f (suc (suc k)) over held.rest.over;
        named = substituted_named r u d f (suc (suc k)) named held.rest.named;
        narrow = covered_narrow m (norm_of (substituted r d (coefficients u f) (suc (suc k)))) (spent + bound_of d (coefficients u f) (suc k)) covered w;
      };
      covered = covered;
      cofactors = (
        record {
          over = cofactor_by_is r ring u d f (suc (suc k)) over held.rest.over;
          named = cofactor_named r u d f (suc (suc k)) unknown named held.rest.named;
          narrow = cofactor_narrow m x f spent k w;
        },
        held.cofactors,
      );
    }

next_held : (m : Option ℕ) → IsReduction (reduced_by m) → (number : ℕ) (x : Definition) (f : Polynomial) (spent k : ℕ) (cs : List (ℕ × Polynomial)) → IsPolynomial (reduced_by m) x.2 → has_name x.1 ≡ true → AreNamed x.2 → IsHeld m f spent cs → top x.1 f ≡ suc k → is_wide m (spent + bound_of x.2 (coefficients x.1 f) (suc k)) ≡ false → IsHeld m (rest_at m x f) (spent + bound_of x.2 (coefficients x.1 f) (top x.1 f)) ((number, cofactor_at m x f) ∷ cs)
next_held m ring number x f spent k cs over unknown named held t w =
    let P : ℕ → Type 0 = λ n. IsHeld m (substituted (reduced_by m) x.2 (coefficients x.1 f) (suc n)) (spent + bound_of x.2 (coefficients x.1 f) n) ((number, cofactor_by (reduced_by m) x.1 x.2 (coefficients x.1 f) (suc n)) ∷ cs) in
    subst P (sym t) (next_at m ring number x f spent k cs over unknown named held w)

-- ---- the whole reduction

-- what the end of a reduction says
abbrev pub EndsNarrow : Option ℕ → Reduced → Type 0
EndsNarrow m (Done g cs n) = IsNarrow m g × AreNarrow m cs
EndsNarrow m (TooWide at) = Unit {0}
EndsNarrow m (TooLarge what n) = Unit {0}

fault_ends : (m : Option ℕ) (a b c : Bool) (place degree terms : ℕ) (further : Reduced) → (a ≡ false → EndsNarrow m further) → EndsNarrow m (first_fault a b c place degree terms further)
fault_ends m true b c place degree terms further h = tt
fault_ends m false true c place degree terms further h = tt
fault_ends m false false true place degree terms further h = tt
fault_ends m false false false place degree terms further h = h refl

definition_ends : (m : Option ℕ) (x : Definition) (f : Polynomial) (spent n : ℕ) (same further : Reduced) → EndsNarrow m same → ((k : ℕ) → n ≡ suc k → is_wide m (spent + bound_of x.2 (coefficients x.1 f) (suc k)) ≡ false → EndsNarrow m further) → EndsNarrow m (reduced_at m x f spent n same further)
definition_ends m x f spent zero same further h more = h
definition_ends m x f spent (suc k) same further h more =
    let degree = degree_by x.2 (coefficients x.1 f) (suc (suc k)) in let terms = terms_by x.2 (coefficients x.1 f) (suc (suc k)) in
    fault_ends m (is_wide m (spent + bound_of x.2 (coefficients x.1 f) (suc k))) (leb 1025 degree) (leb 65537 terms) x.0 degree terms further (more k refl)

from_ends : (m : Option ℕ) → IsReduction (reduced_by m) → (defs : List Definition) (n : ℕ) (f : Polynomial) (spent : ℕ) (cs : List (ℕ × Polynomial)) → n ≤ length defs → AreDefinitions (reduced_by m) defs → DefinitionsNamed defs → IsHeld m f spent cs → EndsNarrow m (reduced_from m defs n f spent cs)
from_ends m ring defs zero f spent cs l over named held = (held.rest, held.cofactors)
from_ends m ring defs (suc k) f spent cs l over named held =
    let x = definition_at defs k in
    let names = definition_named defs k (omega (arith, l)) named in
    definition_ends m x f spent (top x.1 f)
    (reduced_from m defs k f spent cs)
    (reduced_from m defs k (rest_at m x f) (spent + bound_of x.2 (coefficients x.1 f) (top x.1 f)) ((k, cofactor_at m x f) ∷ cs))
    (from_ends m ring defs k f spent cs (omega (arith, l)) over named held)
    (λ n t w. from_ends m ring defs k (rest_at m x f) (spent + bound_of x.2 (coefficients x.1 f) (top x.1 f)) ((k, cofactor_at m x f) ∷ cs) (omega (arith, l)) over named
    (next_held m ring k x f spent n cs (definition_over (reduced_by m) defs k over) names.0 names.1 held t w))

covered_first : (m : Option ℕ) (f : Polynomial) → IsCovered m (norm_of f) (norm_of f)
covered_first None f = omega arith
covered_first (Some m) f = tt

-- plain data has what the reduction ends with
pub ends_narrow : (m : Option ℕ) → IsReduction (reduced_by m) → (defs : List Definition) (f : Polynomial) → AreDefinitions (reduced_by m) defs → IsPolynomial (reduced_by m) f → IsReadable m defs f → EndsNarrow m (reduced_of m defs f)
ends_narrow m ring defs f over form readable =
    from_ends m ring defs (length defs) f (norm_of f) [] (omega arith) over readable.definitions
    record {
      rest = record { over = form; named = readable.named; narrow = readable.narrow };
      covered = covered_first m f;
      cofactors = tt;
    }
