-- Small facts of the loops of the code.
use Rattle.std.proofs.Common.{◌≡◌, ℕ, zero, suc, ◌+◌, ◌*◌, List, [], ◌∷◌, ◌++◌, length, replicate, fold, take, Some, refl, sym, ◌∙◌, ap, arith, add-one}
use Rattle.std.specs.Option.{option_to_list}
use Rattle.std.specs.List.{slice_get}
use Rattle.std.proofs.lemmas.List.{append_assoc, replicate_more, length-append, length-replicate}
use Rattle.std.proofs.lemmas.List.Sums.{fold_more}
use Rattle.std.proofs.lemmas.Option.{slice_get_within, get_or_from_slice_get}
use Rattle.tcl_cnf.specs.Literal.{neg}
use Rattle.tcl_cnf.specs.Clause.{clause_of}
use Rattle.tcl_gates.specs.declared.gate.Gate.{Gate}
use Rattle.tcl_gates.specs.declared.gate.Gate.TheVariants.{Free}
use Rattle.tcl_lang.specs.Program.{VersionedProgram}
use Rattle.tcl_goals.specs.declared.fact.Fact.{Fact}
use Rattle.tcl_goals.specs.declared.lemma.Numbered.{Numbered}
use Rattle.tcl_goals.specs.Free.{free_variables}
use Rattle.tcl_blast.specs.Begin.{lits_from, free_step, begun}

-- one more literal
pub lits_more : (n w : ℕ) → lits_from n (w + 1) ≡ lits_from n w ++ 2 * (n + w) ∷ []
unfolding lits_from
lits_more n zero = ap (λ m. 2 * m ∷ []) (omega arith)
lits_more n (suc w) = ap (lits_from n) (add-one (suc w)) ∙ ap (λ t. 2 * n ∷ t) (ap (lits_from (n + 1)) (sym (add-one w)) ∙ lits_more (n + 1) w ∙ ap (λ m. lits_from (n + 1) w ++ 2 * m ∷ []) (omega arith))

pub lits_none : (n : ℕ) → lits_from n 0 ≡ []
unfolding lits_from
lits_none n = refl

pub begun_is : (p : VersionedProgram) (lemmas : List Numbered) (fact : Fact) → begun p lemmas fact ≡ fold (free_step p.variables) (record { gates = []; words = replicate (length p.variables) [] }) (free_variables p lemmas fact)
unfolding begun
begun_is p lemmas fact = refl

-- clause 0
pub first_clauses : (before after : List (List ℕ)) (l : ℕ) → before ≡ [] → l ≡ 2 * 0 → after ≡ before ++ option_to_list (clause_of (l ∷ [])) → after ≡ (0 ∷ []) ∷ []
unfolding clause_of neg
first_clauses before after l e f g = g ∙ ap (λ cs. cs ++ option_to_list (clause_of (l ∷ []))) e ∙ ap (λ m. [] ++ option_to_list (clause_of (m ∷ []))) f

-- one more free gate, and its literal
pub gates_more : (now before after : List Gate) (w : ℕ) → before ≡ now ++ replicate w Free → after ≡ before ++ Free ∷ [] → after ≡ now ++ replicate (w + 1) Free
gates_more now before after w e f = f ∙ ap (λ gs. gs ++ Free ∷ []) e ∙ append_assoc now (replicate w Free) (Free ∷ []) ∙ ap (λ gs. now ++ gs) (replicate_more w Free)

pub lit_more : (now gates : List Gate) (before after : List ℕ) (l w : ℕ) → gates ≡ now ++ replicate w Free → before ≡ lits_from (length now + 1) w → l ≡ 2 * (length gates + 1) → after ≡ before ++ l ∷ [] → after ≡ lits_from (length now + 1) (w + 1)
lit_more now gates before after l w g e f h =
    h ∙ ap (λ ls. ls ++ l ∷ []) e ∙ ap (λ m. lits_from (length now + 1) w ++ m ∷ []) (f ∙ ap (λ m. 2 * m) place) ∙ sym (lits_more (length now + 1) w)
  where
    place : length gates + 1 ≡ length now + 1 + w
    place = omega (arith, ap length g, length-append now (replicate w Free), length-replicate w Free)

-- one more turn of a loop over a list
pub fold_next : {S X : Type 0} (f : S → X → S) (s : S) (xs : List X) (n : ℕ) (x : X) → slice_get xs n ≡ Some x → fold f s (take (n + 1) xs) ≡ f (fold f s (take n xs)) x
fold_next f s xs n x e = fold_more f s xs n x (slice_get_within xs n x e) ∙ ap (f (fold f s (take n xs))) (get_or_from_slice_get xs n x x e)
