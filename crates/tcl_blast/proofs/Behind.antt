-- Each part of a fact is made behind those before it: the literals of the variables stay, and gates and clauses are appended.
use Rattle.std.proofs.Common.{ℕ, List, [], ◌∷◌, ◌++◌, length, map, take, drop, fold, Option, Some, None, refl, sym, ◌∙◌, ap, subst}
use Rattle.std.specs.List.{slice_get}
use Rattle.std.specs.Option.{option_to_list}
use Rattle.std.proofs.lemmas.List.{append_assoc, take-append-drop}
use Rattle.std.proofs.lemmas.List.Sums.{fold-append}
use Rattle.tcl_cnf.specs.Literal.{neg}
use Rattle.tcl_cnf.specs.Clause.{clause_of}
use Rattle.tcl_gates.specs.Gates.{clauses_behind}
use Rattle.tcl_gates.proofs.Shown.{within_grown}
use Rattle.tcl_circuits.specs.Wires.{Wire}
use Rattle.tcl_lang.specs.declared.range.RngPred.{RngPred}
use Rattle.tcl_lang.specs.declared.pred.Pred.{Pred}
use Rattle.tcl_lang.specs.declared.pred.Pred.TheVariants.{Alg, Rng}
use Rattle.tcl_lang.specs.declared.pred.Line.{Line}
use Rattle.tcl_lang.specs.Program.{VersionedProgram}
use Rattle.tcl_lang.specs.Values.{types_of}
use Rattle.tcl_goals.specs.declared.fact.BitLit.{BitLit}
use Rattle.tcl_goals.specs.declared.fact.Hyp.{Hyp}
use Rattle.tcl_goals.specs.declared.fact.Hyp.TheVariants as hyp
use Rattle.tcl_goals.specs.declared.fact.Claim.{Claim}
use Rattle.tcl_goals.specs.declared.fact.Claim.TheVariants as claim
use Rattle.tcl_goals.specs.declared.lemma.Lemma.{Lemma}
use Rattle.tcl_goals.specs.declared.lemma.Numbered.{Numbered}
use Rattle.tcl_goals.specs.LemmaList.{lemma_of}
use Rattle.tcl_goals.specs.Places.{goal_place}
use Rattle.tcl_words.specs.Ranges.{AllWithin}
use Rattle.tcl_blast.specs.declared.blasted.Blasted.{Blasted}
use Rattle.tcl_blast.specs.Blasted.{grown, with_clause, with_unit, bit_lit, without_bit, without_bits}
use Rattle.tcl_blast.specs.Clauses.{Handler, range_wire, exactness_wire, stated_line, predicate_in, with_lemma, with_hyp, denied_line, denied_claim}
use Rattle.tcl_blast.specs.Handlers.{IsBehind, OnlyAppends, same_behind, then_behind, bits_behind}
use Rattle.tcl_blast.proofs.GateOrder.{LitMade, grows_length}
use Rattle.tcl_blast.proofs.LineOrder.{pred_made, condition_made}

pub clause_behind : (s : Blasted) (ls : List ℕ) → IsBehind s (with_clause s ls)
clause_behind s ls = record { words = refl; within = λ w. w; more = (option_to_list (clause_of ls), refl) }

-- many of them
pub fold_behind : {X : Type 0} (f : Blasted → X → Blasted) (s : Blasted) (xs : List X) → ((t : Blasted) (x : X) → IsBehind t (f t x)) → IsBehind s (fold f s xs)
fold_behind f s [] h = same_behind s
fold_behind f s (x ∷ xs) h = then_behind (h s x) (fold_behind f (f s x) xs h)

pub taken_behind : {X : Type 0} (f : Blasted → X → Blasted) (s : Blasted) (xs : List X) (n : ℕ) → ((t : Blasted) (x : X) → IsBehind t (f t x)) → IsBehind (fold f s (take n xs)) (fold f s xs)
taken_behind f s xs n h =
    subst (λ (t : Blasted). IsBehind (fold f s (take n xs)) t) (sym (fold-append f s (take n xs) (drop n xs)) ∙ ap (fold f s) (take-append-drop n xs))
    (fold_behind f (fold f s (take n xs)) (drop n xs) h)

no_bit_behind : (s : Blasted) (b : BitLit) → IsBehind s (without_bit s b)
no_bit_behind s b = clause_behind s (neg (bit_lit s.words b) ∷ [])

no_bits_behind : (s : Blasted) (bits : List BitLit) → IsBehind s (without_bits s bits)
no_bits_behind s bits = fold_behind without_bit s bits no_bit_behind

-- circuits
pub made_behind : (s : Blasted) (w : Wire) (l : ℕ) → (AllWithin (length s.gates) s.words → LitMade s.gates w) → IsBehind s (with_unit (grown s w.gates s.words) l)
made_behind s w l made = record {
  words = refl;
  within = λ h. record { each = λ v. within_grown _ _ _ (grows_length (made h).grows) (h.each v) };
  more =
      (clauses_behind (length s.gates) w.gates ++ option_to_list (clause_of (l ∷ [])), append_assoc s.clauses (clauses_behind (length s.gates) w.gates) (option_to_list (clause_of (l ∷ []))));
}

range_behind : (p : VersionedProgram) (s : Blasted) (pred : RngPred) (l : ℕ) → IsBehind s (with_unit (grown s (range_wire p s pred).gates s.words) l)
range_behind p s pred l = made_behind s (range_wire p s pred) l (pred_made s.words (types_of p.variables) pred s.gates)

condition_behind : (p : VersionedProgram) (s : Blasted) (o : Option Line) (l : ℕ) → IsBehind s (with_unit (grown s (exactness_wire p s o).gates s.words) l)
condition_behind p s o l = made_behind s (exactness_wire p s o) l (condition_made s.gates s.words p.variables o)

-- hypotheses
line_behind : (p : VersionedProgram) (f : Handler) (s : Blasted) (l : Option Line) (o : Option Pred) → OnlyAppends f → IsBehind s (stated_line p f s l o)
line_behind p f s l (Some (Rng pred)) a = range_behind p s pred (range_wire p s pred).lit
line_behind p f s l (Some (Alg pred)) a = a.stating s pred
line_behind p f s l None a = condition_behind p s l (exactness_wire p s l).lit

lemma_behind : (s : Blasted) (o : Option Lemma) → IsBehind s (with_lemma s o)
lemma_behind s None = same_behind s
lemma_behind s (Some m) = clause_behind s (map (bit_lit s.words) m.clause)

pub hyp_behind : (p : VersionedProgram) (f : Handler) (lemmas : List Numbered) → OnlyAppends f → (s : Blasted) (h : Hyp) → IsBehind s (with_hyp p f lemmas s h)
hyp_behind p f lemmas a s (hyp.Line k) = line_behind p f s (slice_get p.lines k) (predicate_in (slice_get p.lines k)) a
hyp_behind p f lemmas a s (hyp.Lemma n) = lemma_behind s (lemma_of lemmas n)

-- the denied claim
no_line_behind : (p : VersionedProgram) (f : Handler) (s : Blasted) (l : Option Line) (o : Option Pred) → OnlyAppends f → IsBehind s (denied_line p f s l o)
no_line_behind p f s l (Some (Rng pred)) a = range_behind p s pred (neg (range_wire p s pred).lit)
no_line_behind p f s l (Some (Alg pred)) a = a.denying s pred
no_line_behind p f s l None a = condition_behind p s l (neg (exactness_wire p s l).lit)

pub claim_behind : (p : VersionedProgram) (f : Handler) (s : Blasted) (c : Claim) → OnlyAppends f → IsBehind s (denied_claim p f s c)
claim_behind p f s (claim.Goal i) a = no_line_behind p f s (slice_get p.lines (goal_place p.lines i)) (predicate_in (slice_get p.lines (goal_place p.lines i))) a
claim_behind p f s (claim.Lemma m) a = no_bits_behind s m.clause
