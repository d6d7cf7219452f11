-- Each ring's reduction keeps sums and products, since congruence does.
use Rattle.std.proofs.Common.{◌≡◌, ℕ, ◌<◌, refl, sym, ◌∙◌, ap, ℤ, pos, ◌+ℤ◌, ◌*ℤ◌, Some, None, Option}
use Rattle.std.specs.Int.{int_rem_euclid}
use Rattle.tcl_num.proofs.EuclideanDivision.{euclid_range, remainder_small}
use Rattle.tcl_num.proofs.Congruences.{congruent_same, congruent_add, congruent_mul_right, remainder_congruent}
use Rattle.tcl_num.proofs.Divisibility.{congruent_from_remainder}
use Rattle.tcl_ring.specs.Reduction.{reduced_by, IsModulus, IsElement, Represents, IsReduction}

residues : (m : ℕ) → 0 < m → IsReduction (λ n. int_rem_euclid n (pos m))
residues m p = record {
  null = remainder_small 0 m p;
  sums = λ a b c e. remainder_congruent m (a +ℤ c) (b +ℤ c) p (congruent_add (pos m) a b c c (congruent_from_remainder m a b p e) (congruent_same (pos m) c));
  products = λ a b c e. remainder_congruent m (c *ℤ a) (c *ℤ b) p (congruent_mul_right (pos m) a b c (congruent_from_remainder m a b p e));
  twice = λ a. let r = euclid_range a m p in ap (λ x. int_rem_euclid x (pos m)) r.2 ∙ remainder_small r.0 m r.1 ∙ sym r.2;
}

pub is_reduction : (m : Option ℕ) → IsModulus m → IsReduction (reduced_by m)
is_reduction None p = record { null = refl; sums = λ a b c e. ap (λ x. x +ℤ c) e; products = λ a b c e. ap (λ x. c *ℤ x) e; twice = λ a. refl }
is_reduction (Some m) p = residues m p.0

-- elements represent the same integers exactly where their values are equal
pub same_from_represents : (m : Option ℕ) (a b : ℤ) → IsElement m a → (n : ℤ) → Represents m a n → Represents m b n → a ≡ b
same_from_represents m a b h n p q = p ∙ sym q

pub represents_itself : (m : Option ℕ) (a : ℤ) → IsElement m a → Represents m a a
represents_itself m a h = sym h.0
