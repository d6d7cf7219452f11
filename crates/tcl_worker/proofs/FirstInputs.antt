-- The input that is made of the free values of an assignment is that of the assignment.
use Rattle.std.proofs.Common.{◌≡◌, ◌<◌, ℕ, suc, ℤ, pos, Bool, true, false, cond, nat_eq, List, [], ◌∷◌, length, map, set, replicate, refl, sym, ◌∙◌, ap, arith, Option, Some, None, if◌then◌else◌}
use Rattle.std.specs.Prelude.{find}
use Rattle.std.specs.List.{slice_get, cons_option}
use Rattle.std.proofs.lemmas.Bool.{eqb-true}
use Rattle.std.proofs.lemmas.List.{length-set, length-replicate, get_or-set_same, get_or-set_other, get_or-replicate}
use Rattle.tcl_lang.specs.declared.pred.Line.{Line}
use Rattle.tcl_lang.specs.declared.variable.Variable.{Variable}
use Rattle.tcl_lang.specs.Program.{VersionedProgram}
use Rattle.tcl_lang.specs.Line.{taken_name}
use Rattle.tcl_lang.specs.Values.{value_at, AreValues}
use Rattle.tcl_lang.specs.Form.{IsWellFormed}
use Rattle.tcl_lang.proofs.RunSteps.{apart}
use Rattle.tcl_lang.proofs.FormFacts.{zero_in}
use Rattle.tcl_goals.specs.declared.fact.Fact.{Fact}
use Rattle.tcl_goals.specs.Numbers.{numbers_below}
use Rattle.tcl_goals.specs.Free.{free_variables}
use Rattle.tcl_goals.specs.Order.{InOrder}
use Rattle.tcl_goals.specs.Assignments.{Assigns}
use Rattle.tcl_slice.specs.Runs.{taken_names, input_from}
use Rattle.tcl_slice.proofs.TakenVariables.{taken_not_computed, taken_within}
use Rattle.tcl_enum.specs.declared.ended.FreeValue.{FreeValue}
use Rattle.tcl_enum.specs.declared.ended.Ended.TheVariants as ended
use Rattle.tcl_enum.specs.NarrowFact.{is_narrow_fact}
use Rattle.tcl_enum.specs.Patterns.{given, free_values, assignment, assignment_count}
use Rattle.tcl_enum.specs.Enumeration.{is_denied, is_denied_at, first_denial, ended_by, ended_of}
use Rattle.tcl_enum.proofs.Walks.{given_typed, all_kept}
use Rattle.tcl_enum.proofs.Recomputing.{walk_assigns}
use Rattle.tcl_worker.specs.Inputs.{looked_up, input_of}

-- a value that was given is the one that is looked up
given_length : (free : List FreeValue) (n : ℕ) → length (given free (replicate n (pos 0))) ≡ n
given_length [] n = length-replicate n (pos 0)
given_length (f ∷ fs) n = length-set (given fs (replicate n (pos 0))) f.var f.value ∙ given_length fs n

one_given : (b : Bool) (f : FreeValue) (values : List ℤ) (v : ℕ) (rest : ℤ) → nat_eq f.var v ≡ b → v < length values → value_at values v ≡ rest → value_at (set values f.var f.value) v ≡ (if b then f.value else rest)
one_given true f values v rest e h same =
    ap (λ x. value_at (set values x f.value) v) (eqb-true f.var v e) ∙ get_or-set_same values v f.value (pos 0) h
one_given false f values v rest e h same = get_or-set_other values f.var v f.value (pos 0) (apart v f.var e) ∙ same

given_looked : (free : List FreeValue) (n v : ℕ) → v < n → value_at (given free (replicate n (pos 0))) v ≡ looked_up free v
unfolding looked_up
given_looked [] n v h = get_or-replicate n v (pos 0) (pos 0) h
given_looked (f ∷ fs) n v h =
    let count = given_length fs n in
    one_given (nat_eq f.var v) f (given fs (replicate n (pos 0))) v (looked_up fs v) refl (omega (arith, h, count)) (given_looked fs n v h)

-- inputs with the same values
same_cons : (g h : ℕ → ℤ) (o : Option ℕ) (vs : List ℕ) → ((v : ℕ) → o ≡ Some v → g v ≡ h v) → map g vs ≡ map h vs → map g (cons_option o vs) ≡ map h (cons_option o vs)
same_cons g h None vs e same = same
same_cons g h (Some v) vs e same = ap (λ n. n ∷ map g vs) (e v refl) ∙ ap (λ ns. h v ∷ ns) same

same_values : (g h : ℕ → ℤ) (lines : List Line) → ((k : ℕ) (l : Line) (v : ℕ) → slice_get lines k ≡ Some l → taken_name l ≡ Some v → g v ≡ h v) → map g (taken_names lines) ≡ map h (taken_names lines)
same_values g h [] e = refl
same_values g h (l ∷ lines) e =
    same_cons g h (taken_name l) (taken_names lines) (λ v n. e 0 l v refl n) (same_values g h lines (λ k m v at n. e (suc k) m v at n))

pub same_input : (p : VersionedProgram) (fact : Fact) (free : List FreeValue) (n : ℕ) → IsWellFormed p → free ≡ free_values p [] fact n → input_of free p.lines ≡ input_from p.lines (assignment p [] fact n)
unfolding input_of input_from assignment
same_input p fact free n w same =
    same_values (looked_up free) (λ v. value_at (assignment p [] fact n) v) p.lines
    (λ k l v at name.
    ap (λ fs. looked_up fs v) same
    ∙ sym (given_looked (free_values p [] fact n) (length p.variables) v (taken_within p k v l w at name))
    ∙ sym (all_kept p.lines fact.uses (given (free_values p [] fact n) (replicate (length p.variables) (pos 0))) v (taken_not_computed p k v l fact.uses w at name)))

-- each numbered assignment is one of the fact
zeros_typed : (vs : List Variable) → AreValues vs (replicate (length vs) (pos 0))
zeros_typed [] = tt
zeros_typed (v ∷ vs) = (zero_in v.ty.signed v.ty.width, zeros_typed vs)

pub numbered_assigns : (p : VersionedProgram) (fact : Fact) (n : ℕ) → IsWellFormed p → InOrder p [] fact → Assigns p fact (assignment p [] fact n)
unfolding assignment
numbered_assigns p fact n w order =
    walk_assigns p [] fact (given (free_values p [] fact n) (replicate (length p.variables) (pos 0))) w order
    (given_typed p.variables (free_variables p [] fact) n (replicate (length p.variables) (pos 0)) w.words (zeros_typed p.variables))

-- the first that passes a test passes it
found_passes : (test : ℕ → Bool) (ns : List ℕ) (n : ℕ) → find test ns ≡ Some n → test n ≡ true
found_passes test [] n e = absurd (cc)
found_passes test (m ∷ ns) n e = at (test m) refl e (λ f. found_passes test ns n f)
  where
    at : (b : Bool) → test m ≡ b → cond b (Some m) (find test ns) ≡ Some n → (find test ns ≡ Some n → test n ≡ true) → test n ≡ true
    at true t e later = let same : m ≡ n = cc in ap test (sym same) ∙ t
    at false t e later = later e

pub first_denies : (p : VersionedProgram) (fact : Fact) (n : ℕ) → first_denial p [] fact ≡ Some n → is_denied p [] fact (assignment p [] fact n) ≡ true
unfolding first_denial
first_denies p fact n e = found_passes (is_denied_at p [] fact) (numbers_below (assignment_count p [] fact)) n e

-- the number of the assignment at which the walk ends
pub fails_first : (p : VersionedProgram) (fact : Fact) (free : List FreeValue) → ended_of p [] fact ≡ ended.Fails free → (n : ℕ) × (first_denial p [] fact ≡ Some n) × (free ≡ free_values p [] fact n)
unfolding ended_of
fails_first p fact free e = at (is_narrow_fact p fact) (first_denial p [] fact) refl e
  where
    at : (b : Bool) (o : Option ℕ) → first_denial p [] fact ≡ o → (if b then ended_by p [] fact o else ended.Wide) ≡ ended.Fails free → (n : ℕ) × (first_denial p [] fact ≡ Some n) × (free ≡ free_values p [] fact n)
    at true None s e = absurd (cc)
    at true (Some n) s e = (n, s, same (free_values p [] fact n) free e)
      where
        same : (a b : List FreeValue) → ended.Fails a ≡ ended.Fails b → b ≡ a
        same a b e = cc
    at false o s e = absurd (cc)
