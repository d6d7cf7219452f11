-- A combination of rows that has none of their leading monomials is zero: the first leading monomial occurs in no other
-- row, so the first constant is 0.
use Rattle.std.proofs.Common.{◌≡◌, refl, sym, ◌∙◌, ap, List, [], ◌∷◌, ℤ, pos, ◌+ℤ◌, ◌*ℤ◌}
use Rattle.std.specs.List.{AllByRecursion}
use Rattle.tcl_num.proofs.IntegerRing.{int_mul_comm}
use Rattle.tcl_ring.specs.Reduction.{IsReduction, reduced_by}
use Rattle.tcl_ring.proofs.Reductions.{is_reduction}
use Rattle.tcl_poly.specs.Monomial.{Monomial}
use Rattle.tcl_poly.specs.Polynomial.{Polynomial, coefficient}
use Rattle.tcl_reduce.specs.Row.{leading}
use Rattle.tcl_reduce.specs.Span.{total}
use Rattle.tcl_pivots.specs.RowLaws.{Lacks, AreRows, RowsVanish}
use Rattle.tcl_pivots.proofs.Residues.{zero_multiple, less_zero, plus_zero, cancelled}

-- a monomial that occurs in none of the polynomials occurs in no combination
pub total_lacks : (r : ℤ → ℤ) → IsReduction r → (cs : List ℤ) (ps : List Polynomial) (p : Polynomial) → AllByRecursion (λ q. Lacks r (coefficient q) p) ps → Lacks r (total cs ps) p
total_lacks r ring [] ps p h = refl
total_lacks r ring (c ∷ cs) [] p h = refl
total_lacks r ring (c ∷ cs) (q ∷ ps) p h =
    plus_zero r ring (c *ℤ coefficient q (leading p)) (total cs ps (leading p)) (zero_multiple r ring c (coefficient q (leading p)) h.0)
    ∙ total_lacks r ring cs ps p h.1

pub lacks_alike : (r : ℤ → ℤ) (φ ψ : Monomial → ℤ) (ps : List Polynomial) → ((m : Monomial) → r (φ m) ≡ r (ψ m)) → AllByRecursion (Lacks r φ) ps → AllByRecursion (Lacks r ψ) ps
lacks_alike r φ ψ [] e h = tt
lacks_alike r φ ψ (p ∷ ps) e h = (sym (e (leading p)) ∙ h.0, lacks_alike r φ ψ ps e h.1)

pub vanishes : (r : ℤ → ℤ) → IsReduction r → (ps : List Polynomial) (cs : List ℤ) → AreRows r ps → AllByRecursion (Lacks r (total cs ps)) ps → (m : Monomial) → r (total cs ps m) ≡ r (pos 0)
vanishes r ring ps [] rows h m = refl
vanishes r ring [] (c ∷ cs) rows h m = refl
vanishes r ring (p ∷ ps) (c ∷ cs) rows h m =
    let lead = coefficient p (leading p) in
    let rest = total cs ps in
    let product : r (c *ℤ lead) ≡ r (pos 0) = less_zero r ring (c *ℤ lead) (rest (leading p)) h.0 (total_lacks r ring cs ps p rows.1) in
    let constant : r c ≡ r (pos 0) = cancelled r ring c lead rows.0.0 rows.0.1 product in
    let further : (n : Monomial) → r (c *ℤ coefficient p n +ℤ rest n) ≡ r (rest n) =
    λ n. plus_zero r ring (c *ℤ coefficient p n) (rest n) (ap r (int_mul_comm c (coefficient p n)) ∙ zero_multiple r ring (coefficient p n) c constant) in
    further m ∙ vanishes r ring ps cs rows.2 (lacks_alike r (total (c ∷ cs) (p ∷ ps)) rest ps further h.1) m

pub rows_vanish : RowsVanish
rows_vanish m ps cs modulus rows h n = vanishes (reduced_by m) (is_reduction m modulus) ps cs rows h n
