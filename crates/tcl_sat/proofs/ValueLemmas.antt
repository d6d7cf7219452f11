-- The values of a full trail make every clause true.
use Rattle.std.proofs.Common.{◌≡◌, ℕ, ◌*◌, ◌/◌, ◌%◌, ◌<◌, Bool, true, false, not, cond, List, length, Some, None, slice_get, refl, sym, ap, subst, ◌∙◌, arith, ◌⊎◌, inl, inr}
use Rattle.std.proofs.lemmas.Bool.{cases_Bool, eq-eqb, ne_eqb}
use Rattle.tcl_cnf.specs.Literal.{neg, literal_true, value_at}
use Rattle.tcl_cnf.specs.Clause.{has}
use Rattle.tcl_cnf.specs.Propagation.{ConflictsAtOnce}
use Rattle.tcl_cnf.proofs.Members.{neg-neg}
use Rattle.tcl_cnf.proofs.Truth.{true_from, each_true}
use Rattle.tcl_cnf.proofs.Entries.{get-take}
use Rattle.tcl_cnf.proofs.Freshness.{met_no_conflict}
use Rattle.tcl_trail.specs.Assignment.{lits_of, value_in}
use Rattle.tcl_trail.specs.Trail.{TrailState, IsTrail, variable_count}
use Rattle.tcl_trail.proofs.Looks.{IsConsistent}
use Rattle.tcl_trail.proofs.Trails.{consistent, clause_counted}
use Rattle.tcl_sat.specs.Found.{IsModel}
use Rattle.tcl_sat.specs.State.{IsFull, AreRead}
use Rattle.tcl_sat.proofs.Prefixes.{not_false}

-- a literal is its variable or the negation of it
parity : (l : ℕ) → ((l % 2 ≡ 0) × (l ≡ 2 * (l / 2))) ⊎ ((l % 2 ≡ 1) × (neg l ≡ 2 * (l / 2)))
unfolding neg
parity l = grind arith

-- a literal with a value, of which the negation is not true, is true
valued_true : (trues : List ℕ) (l : ℕ) → (value_in trues l ≡ None → ⊥) → has (neg l) trues ≡ false → has l trues ≡ true
valued_true trues l some out = elim (cases_Bool (has l trues)) [
  | inl e ↦ e
  | inr e ↦ absurd (some (rw (e, out) refl))
]

valued_other : (trues : List ℕ) (l : ℕ) → (value_in trues (neg l) ≡ None → ⊥) → has (neg l) trues ≡ false → has l trues ≡ true
valued_other trues l some out = elim (cases_Bool (has l trues)) [
  | inl e ↦ e
  | inr e ↦ absurd (some (rw (out, neg-neg l, e) refl))
]

pub lit_true : (trues : List ℕ) (variables : ℕ) (bits : List Bool) (l : ℕ) → IsConsistent trues → AreRead trues variables bits → l / 2 < variables → (value_in trues (2 * (l / 2)) ≡ None → ⊥) → has (neg l) trues ≡ false
    → literal_true (value_at bits) l ≡ true
unfolding literal_true
lit_true trues variables bits l ok are below some out = elim (parity l) [
  | inl p ↦
      let t : has l trues ≡ true = valued_true trues l (subst (λ (n : ℕ). value_in trues n ≡ None → ⊥) (sym p.1) some) out in
      ap (λ b. cond b (value_at bits (l / 2)) (not (value_at bits (l / 2)))) (eq-eqb (l % 2) 0 p.0) ∙ are.read (l / 2) below ∙ ap (λ n. has n trues) (sym p.1) ∙ t
  | inr p ↦
      ap (λ b. cond b (value_at bits (l / 2)) (not (value_at bits (l / 2)))) (ne_eqb (l % 2) 0 (λ e. omega (arith, e, p.0)))
      ∙ ap not (are.read (l / 2) below ∙ ap (λ n. has n trues) (sym p.1) ∙ out)
]

-- the values that were read are a model
pub model_of : (cnf : List (List ℕ)) (trail : TrailState) (bits : List Bool) (variables : ℕ) → IsTrail trail.clauses trail.entries → IsFull cnf trail → variables ≡ variable_count cnf → AreRead (lits_of trail.entries) variables bits → IsModel cnf bits
model_of cnf trail bits variables is full count are = record {
  each = are.each ∙ count;
  meets = each_true (value_at bits) cnf (λ k c e.
      let there : slice_get trail.clauses k ≡ Some c = get-take (length cnf) trail.clauses k c (ap (λ (cs : List (List ℕ)). slice_get cs k) full.formula ∙ e) in
      let w = not_false (lits_of trail.entries) c (full.closed k c there).0 in
      let l = w.0 in
      true_from (value_at bits) l c w.1
      (lit_true (lits_of trail.entries) variables bits l (consistent trail.clauses trail.entries is) are (omega (arith, count, clause_counted cnf k c l e w.1))
      (full.valued.each (l / 2) (clause_counted trail.clauses k c l there w.1)) w.2));
}

-- where unit propagation alone meets a false clause, there is no model
pub model_no_conflict : (cnf : List (List ℕ)) (bits : List Bool) → IsModel cnf bits → ConflictsAtOnce cnf → ⊥
model_no_conflict cnf bits model conflict = met_no_conflict cnf (value_at bits) model.meets conflict
