-- Each part adds clauses behind those that there are, so a list that is too long stays so.
use Rattle.std.proofs.Common.{◌≡◌, ℕ, ◌+◌, ◌*◌, ◌≤◌, ◌<◌, min, List, [], ◌∷◌, length, take, drop, fold, Some, refl, sym, ◌∙◌, ap, subst, arith}
use Rattle.std.specs.List.{slice_get}
use Rattle.std.proofs.lemmas.List.{length-append, take-append-drop}
use Rattle.std.proofs.lemmas.List.Sums.{fold-append}
use Rattle.tcl_cnf.specs.Literal.{neg}
use Rattle.tcl_gates.specs.declared.gate.Gate.{Gate}
use Rattle.tcl_gates.specs.Gates.{AreGates, clauses_behind}
use Rattle.tcl_circuits.specs.Wires.{Wire}
use Rattle.tcl_lang.specs.declared.range.RngPred.{RngPred}
use Rattle.tcl_lang.specs.declared.pred.Pred.{Pred}
use Rattle.tcl_lang.specs.declared.pred.Pred.TheVariants.{Rng}
use Rattle.tcl_lang.specs.Program.{VersionedProgram}
use Rattle.tcl_lang.specs.Values.{types_of}
use Rattle.tcl_words.specs.Ranges.{AllWithin}
use Rattle.tcl_words.specs.Steps.{step_gates, step_words}
use Rattle.tcl_goals.specs.declared.fact.Hyp.{Hyp}
use Rattle.tcl_goals.specs.declared.fact.Fact.{Fact}
use Rattle.tcl_goals.specs.declared.lemma.Numbered.{Numbered}
use Rattle.tcl_blast.specs.declared.blasted.Blasted.{Blasted}
use Rattle.tcl_blast.specs.declared.ended.BlastEnd.{BlastEnd}
use Rattle.tcl_blast.specs.declared.ended.BlastEnd.TheVariants.{TooMany, Memory}
use Rattle.tcl_blast.specs.Sizes.{pred_size}
use Rattle.tcl_blast.proofs.GateCounts.{pred_sized, many_clauses}
use Rattle.tcl_blast.proofs.LineOrder.{pred_made}
use Rattle.tcl_blast.proofs.Loops.{fold_next}
use Rattle.tcl_blast.specs.Ends.{IsMade, IsBlastEnd, IsEnd}
use Rattle.tcl_blast.specs.Blasted.{stated, denied, grown}
use Rattle.tcl_blast.specs.Clauses.{Handler, by_fixed_bits, with_use, range_wire, with_hyp, used_of, assumed_of, blasted_by, clauses_of, clause_limit}
use Rattle.tcl_blast.specs.Handlers.{IsBehind, OnlyAppends, bits_behind}
use Rattle.tcl_blast.proofs.Behind.{clause_behind, fold_behind, taken_behind, hyp_behind, claim_behind}

grown_more : (s : Blasted) (gates : List Gate) (words : List (List ℕ)) → length s.clauses ≤ length (grown s gates words).clauses
grown_more s gates words = omega (arith, length-append s.clauses (clauses_behind (length s.gates) gates))

-- an end stays one of a longer list
end_more : (cs ds : List (List ℕ)) (e : BlastEnd) → length cs ≤ length ds → IsEnd cs e → IsEnd ds e
end_more cs ds (TooMany n) more e = let less = e.1 in (e.0, omega (arith, more, less))
end_more cs ds Memory more e = tt

behind_end : {s t : Blasted} (e : BlastEnd) → IsBehind s t → IsEnd s.clauses e → IsEnd t.clauses e
behind_end {s} {t} e b h = end_more s.clauses t.clauses e (omega (arith, ap length b.more.1, length-append s.clauses b.more.0)) h

-- used instructions
use_more : (p : VersionedProgram) (s : Blasted) (k : ℕ) → length s.clauses ≤ length (with_use p s k).clauses
use_more p s k = grown_more s (step_gates s.gates s.words p.variables (slice_get p.lines k)) (step_words s.gates s.words p.variables (slice_get p.lines k))

uses_more : (p : VersionedProgram) (s : Blasted) (uses : List ℕ) → length s.clauses ≤ length (fold (with_use p) s uses).clauses
uses_more p s [] = omega arith
uses_more p s (k ∷ uses) = let x = use_more p s k in let y = uses_more p (with_use p s k) uses in omega (arith, x, y)

use_end : (p : VersionedProgram) (s : Blasted) (uses : List ℕ) (n : ℕ) (e : BlastEnd) → IsEnd (fold (with_use p) s (take n uses)).clauses e → IsEnd (fold (with_use p) s uses).clauses e
use_end p s uses n e h =
    let t = fold (with_use p) s (take n uses) in
    let whole : fold (with_use p) t (drop n uses) ≡ fold (with_use p) s uses = sym (fold-append (with_use p) s (take n uses) (drop n uses)) ∙ ap (fold (with_use p) s) (take-append-drop n uses) in
    subst (λ (u : Blasted). IsEnd u.clauses e) whole (end_more t.clauses (fold (with_use p) t (drop n uses)).clauses e (uses_more p t (drop n uses)) h)

pub use_many : (p : VersionedProgram) (first s : Blasted) (uses : List ℕ) (n k : ℕ) (e : BlastEnd) → slice_get uses n ≡ Some k → s ≡ fold (with_use p) first (take n uses) → IsEnd (with_use p s k).clauses e → IsEnd (fold (with_use p) first uses).clauses e
use_many p first s uses n k e at is h =
    use_end p first uses (n + 1) e (subst (λ (t : Blasted). IsEnd t.clauses e) (ap (λ (t : Blasted). with_use p t k) is ∙ sym (fold_next (with_use p) first uses n k at)) h)

-- hypotheses
pub hyp_many : (p : VersionedProgram) (f : Handler) (lemmas : List Numbered) (first s : Blasted) (hyps : List Hyp) (n : ℕ) (x : Hyp) (e : BlastEnd) → OnlyAppends f → slice_get hyps n ≡ Some x → s ≡ fold (with_hyp p f lemmas) first (take n hyps)
    → IsEnd (with_hyp p f lemmas s x).clauses e → IsEnd (fold (with_hyp p f lemmas) first hyps).clauses e
hyp_many p f lemmas first s hyps n x e a at is h =
    let g = with_hyp p f lemmas in
    behind_end e (taken_behind g first hyps (n + 1) (hyp_behind p f lemmas a)) (subst (λ (t : Blasted). IsEnd t.clauses e) (ap (λ (t : Blasted). g t x) is ∙ sym (fold_next g first hyps n x at)) h)

-- a range line of too many gates
pub range_many : (p : VersionedProgram) (s : Blasted) (pred : RngPred) (n : ℕ) → AllWithin (length s.gates) s.words → AreGates s.gates → n ≤ length s.clauses → clause_limit < n + 2 * pred_size s.words pred
    → clause_limit < length (grown s (range_wire p s pred).gates s.words).clauses
range_many p s pred n within ordered few many =
    let wire = range_wire p s pred in
    let made = pred_made s.words (types_of p.variables) pred s.gates within in
    omega (arith, few, many, many_clauses s.gates wire.gates made.grows ordered, pred_sized s.words (types_of p.variables) pred s.gates, length-append s.clauses (clauses_behind (length s.gates) wire.gates))

pub stated_end : (s : Blasted) (w : Wire) (e : BlastEnd) → IsEnd (grown s w.gates s.words).clauses e → IsEnd (stated s w).clauses e
stated_end s w e h = behind_end e (clause_behind (grown s w.gates s.words) (w.lit ∷ [])) h

pub refuted_end : (s : Blasted) (w : Wire) (e : BlastEnd) → IsEnd (grown s w.gates s.words).clauses e → IsEnd (denied s w).clauses e
refuted_end s w e h = behind_end e (clause_behind (grown s w.gates s.words) (neg w.lit ∷ [])) h

-- the end of the whole list
assumed_end : (p : VersionedProgram) (f : Handler) (lemmas : List Numbered) (fact : Fact) (e : BlastEnd) → OnlyAppends f → IsEnd (assumed_of p f lemmas fact).clauses e → IsEnd (blasted_by p f lemmas fact).clauses e
assumed_end p f lemmas fact e a h = behind_end e (claim_behind p f (assumed_of p f lemmas fact) fact.claim a) h

pub hyps_end : (p : VersionedProgram) (f : Handler) (lemmas : List Numbered) (fact : Fact) (e : BlastEnd) → OnlyAppends f → IsEnd (fold (with_hyp p f lemmas) (used_of p lemmas fact) fact.hyps).clauses e
    → IsEnd (blasted_by p f lemmas fact).clauses e
hyps_end p f lemmas fact e a h = assumed_end p f lemmas fact e a (behind_end e (bits_behind (fold (with_hyp p f lemmas) (used_of p lemmas fact) fact.hyps) fact.cube) h)

pub used_end : (p : VersionedProgram) (f : Handler) (lemmas : List Numbered) (fact : Fact) (e : BlastEnd) → OnlyAppends f → IsEnd (used_of p lemmas fact).clauses e → IsEnd (blasted_by p f lemmas fact).clauses e
used_end p f lemmas fact e a h = hyps_end p f lemmas fact e a (behind_end e (fold_behind (with_hyp p f lemmas) (used_of p lemmas fact) fact.hyps (hyp_behind p f lemmas a)) h)

least_count : (n m : ℕ) → n < m → n + 1 ≡ min m (n + 1)
least_count n m h = omega (arith, h)

clauses_are : (p : VersionedProgram) (lemmas : List Numbered) (fact : Fact) → (blasted_by p (by_fixed_bits p.variables) lemmas fact).clauses ≡ clauses_of p lemmas fact
unfolding clauses_of
clauses_are p lemmas fact = refl

pub whole_end : (p : VersionedProgram) (lemmas : List Numbered) (fact : Fact) (e : BlastEnd) → IsEnd (blasted_by p (by_fixed_bits p.variables) lemmas fact).clauses e → IsBlastEnd p lemmas fact e
whole_end p lemmas fact (TooMany n) e =
    let less = e.1 in
    let many : clause_limit < length (clauses_of p lemmas fact) = omega (arith, ap length (clauses_are p lemmas fact), less) in
    record { many = many; number = e.0 ∙ least_count clause_limit (length (clauses_of p lemmas fact)) many }
whole_end p lemmas fact Memory e = tt

pub made_is : (p : VersionedProgram) (lemmas : List Numbered) (fact : Fact) (cs : List (List ℕ)) → cs ≡ (blasted_by p (by_fixed_bits p.variables) lemmas fact).clauses → length cs ≤ clause_limit → IsMade p lemmas fact cs
made_is p lemmas fact cs is few = record { clauses_are = is ∙ clauses_are p lemmas fact; few = few }
