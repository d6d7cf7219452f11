-- Each part of a fact in order can be made into gates behind those before it.
use Rattle.std.proofs.Common.{◌≡◌, ℕ, suc, true, List, [], ◌∷◌, ◌++◌, length, take, drop, fold, Option, Some, None, refl, sym, ◌∙◌, ap, subst}
use Rattle.std.specs.List.{slice_get, list_all}
use Rattle.std.proofs.lemmas.Bool.{and_parts}
use Rattle.std.proofs.lemmas.List.{append-nil, append_assoc, take-append-drop}
use Rattle.std.proofs.lemmas.Option.{slice_get_within, get_or_from_slice_get}
use Rattle.std.proofs.Math.Seq.{drop-cons}
use Rattle.tcl_lang.specs.declared.instr.Atom.TheVariants.{Var}
use Rattle.tcl_lang.specs.declared.instr.Instr.{Instr}
use Rattle.tcl_lang.specs.declared.pred.Pred.{Pred}
use Rattle.tcl_lang.specs.declared.pred.Pred.TheVariants.{Alg, Rng}
use Rattle.tcl_lang.specs.declared.pred.Line.{Line}
use Rattle.tcl_lang.specs.Program.{VersionedProgram}
use Rattle.tcl_lang.specs.Names.{range_atoms, stated_atoms, stated_names}
use Rattle.tcl_lang.specs.Line.{predicate_of, instruction_of}
use Rattle.tcl_lang.specs.Defined.{is_among}
use Rattle.tcl_lang.specs.Form.{IsWellFormed}
use Rattle.tcl_goals.specs.declared.fact.Hyp.{Hyp}
use Rattle.tcl_goals.specs.declared.fact.Hyp.TheVariants as hyp
use Rattle.tcl_goals.specs.declared.fact.Claim.{Claim}
use Rattle.tcl_goals.specs.declared.fact.Claim.TheVariants as claim
use Rattle.tcl_goals.specs.declared.fact.Fact.{Fact}
use Rattle.tcl_goals.specs.declared.lemma.Numbered.{Numbered}
use Rattle.tcl_goals.specs.Numbers.{numbers_rise}
use Rattle.tcl_goals.specs.Places.{goal_place}
use Rattle.tcl_goals.specs.Slices.{read_in}
use Rattle.tcl_goals.specs.Free.{claim_variables}
use Rattle.tcl_goals.specs.Order.{InOrder, is_step_before}
use Rattle.tcl_goals.specs.Keys.{claim_place}
use Rattle.tcl_words.specs.Ranges.{AllWithin}
use Rattle.tcl_words.specs.Steps.{atoms_of}
use Rattle.tcl_words.specs.Stores.{HaveWidths}
use Rattle.tcl_blast.specs.declared.blasted.Blasted.{Blasted}
use Rattle.tcl_blast.specs.Begin.{begun}
use Rattle.tcl_blast.specs.Blasted.{blank}
use Rattle.tcl_blast.specs.Clauses.{Handler, with_use, with_hyp, used_of, assumed_of, hyp_atoms, claim_atoms}
use Rattle.tcl_blast.specs.Handlers.{OnlyAppends, then_behind, bits_behind}
use Rattle.tcl_blast.specs.Ready.{CanUse, CanState}
use Rattle.tcl_blast.proofs.Members.{named_atom}
use Rattle.tcl_blast.proofs.Facts.{known_by, known_after, hyp_named, claim_named, read_less}
use Rattle.tcl_blast.proofs.Stages.{Stage, first_stage, next_stage, reads_known, stages_go}
use Rattle.tcl_blast.proofs.Behind.{fold_behind, hyp_behind}

-- the variables among the operands of a line are read by it
stated_named : (o : Option Pred) (i : Option Instr) (j v : ℕ) → slice_get (stated_atoms o i) j ≡ Some (Var v) → is_among (stated_names o i) v ≡ true
stated_named (Some (Alg p)) i j v e = absurd (cc)
stated_named (Some (Rng p)) i j v e = named_atom (range_atoms p) j v e
stated_named None (Some i) j v e = named_atom i.args j v e
stated_named None None j v e = absurd (cc)

atom_read : (o : Option Line) (j v : ℕ) → slice_get (atoms_of o) j ≡ Some (Var v) → is_among (read_in o) v ≡ true
atom_read None j v e = absurd (cc)
atom_read (Some l) j v e = stated_named (predicate_of l) (instruction_of l) j v e

widths_in : (p : VersionedProgram) (lemmas : List Numbered) (fact : Fact) (done : List ℕ) (s : Blasted) (o : Option Line) → Stage p lemmas fact done s → ((v : ℕ) → is_among (read_in o) v ≡ true → known_by p lemmas fact done v ≡ true)
    → HaveWidths s.words p.variables (atoms_of o)
widths_in p lemmas fact done s o x known = record { each = λ k v e. (x.state.shown v (known v (atom_read o k v e))).word.count }

-- the stage before each used instruction
stage_go : (p : VersionedProgram) (lemmas : List Numbered) (fact : Fact) (done rest tail : List ℕ) (s : Blasted) → IsWellFormed p → numbers_rise fact.uses ≡ true → fact.uses ≡ done ++ (rest ++ tail) → Stage p lemmas fact done s
    → Stage p lemmas fact (done ++ rest) (fold (with_use p) s rest)
stage_go p lemmas fact done [] tail s w rise is x = subst (λ (us : List ℕ). Stage p lemmas fact us s) (sym (append-nil done)) x
stage_go p lemmas fact done (k ∷ rest) tail s w rise is x =
    subst (λ (us : List ℕ). Stage p lemmas fact us (fold (with_use p) (with_use p s k) rest)) (append_assoc done (k ∷ []) rest)
    (stage_go p lemmas fact (done ++ k ∷ []) rest tail (with_use p s k) w rise (is ∙ sym (append_assoc done (k ∷ []) (rest ++ tail))) (next_stage p lemmas fact done (rest ++ tail) k s w rise is x))

uses_rise : (p : VersionedProgram) (lemmas : List Numbered) (fact : Fact) → InOrder p lemmas fact → numbers_rise fact.uses ≡ true
uses_rise p lemmas fact order = (and_parts (numbers_rise fact.uses) (list_all (is_step_before p.lines (claim_place p.lines fact.claim)) fact.uses) order.uses).0

pub use_ready : (p : VersionedProgram) (lemmas : List Numbered) (fact : Fact) (n k : ℕ) → IsWellFormed p → InOrder p lemmas fact → slice_get fact.uses n ≡ Some k → CanUse p (fold (with_use p) (blank (begun p lemmas fact)) (take n fact.uses)) k
use_ready p lemmas fact n k w order e =
    let rise = uses_rise p lemmas fact order in
    let first = blank (begun p lemmas fact) in
    let done = take n fact.uses in
    let tail = drop (suc n) fact.uses in
    let split : fact.uses ≡ done ++ k ∷ tail =
    sym (take-append-drop n fact.uses) ∙ ap (λ xs. done ++ xs) (drop-cons fact.uses n k (slice_get_within fact.uses n k e) ∙ ap (λ j. j ∷ tail) (get_or_from_slice_get fact.uses n k k e)) in
    let st = stage_go p lemmas fact [] done (drop n fact.uses) first w rise (sym (take-append-drop n fact.uses)) (first_stage p lemmas fact w) in
    record {
      words = st.state.count;
      within = st.state.within;
      widths = widths_in p lemmas fact done (fold (with_use p) first done) (slice_get p.lines k) st (reads_known p lemmas fact done tail k (slice_get p.lines k) w rise split refl);
    }

-- the stage after all of them
used_stage : (p : VersionedProgram) (lemmas : List Numbered) (fact : Fact) → IsWellFormed p → InOrder p lemmas fact → Stage p lemmas fact fact.uses (used_of p lemmas fact)
used_stage p lemmas fact w order = stages_go p lemmas fact [] fact.uses (blank (begun p lemmas fact)) w (uses_rise p lemmas fact order) refl (first_stage p lemmas fact w)

hyp_widths : (p : VersionedProgram) (lemmas : List Numbered) (fact : Fact) (n : ℕ) (h : Hyp) → IsWellFormed p → InOrder p lemmas fact → slice_get fact.hyps n ≡ Some h → HaveWidths (used_of p lemmas fact).words p.variables (hyp_atoms p.lines h)
hyp_widths p lemmas fact n (hyp.Line k) w order e =
    widths_in p lemmas fact fact.uses (used_of p lemmas fact) (slice_get p.lines k) (used_stage p lemmas fact w order)
    (λ v m. known_after p lemmas fact v (read_less p k v (slice_get p.lines k) w refl m) (hyp_named p lemmas fact n v (hyp.Line k) e m))
hyp_widths p lemmas fact n (hyp.Lemma m) w order e = record { each = λ k v f. absurd (cc) }

claim_widths : (p : VersionedProgram) (lemmas : List Numbered) (fact : Fact) (c : Claim) → fact.claim ≡ c → IsWellFormed p → InOrder p lemmas fact → HaveWidths (used_of p lemmas fact).words p.variables (claim_atoms p.lines c)
claim_widths p lemmas fact (claim.Goal i) is w order =
    let k = goal_place p.lines i in
    widths_in p lemmas fact fact.uses (used_of p lemmas fact) (slice_get p.lines k) (used_stage p lemmas fact w order)
    (λ v m. known_after p lemmas fact v (read_less p k v (slice_get p.lines k) w refl m) (claim_named p lemmas fact v (ap (λ c. is_among (claim_variables p.lines c) v) is ∙ m)))
claim_widths p lemmas fact (claim.Lemma m) is w order = record { each = λ k v f. absurd (cc) }

-- the state behind the used instructions
used_within : (p : VersionedProgram) (lemmas : List Numbered) (fact : Fact) → IsWellFormed p → InOrder p lemmas fact → AllWithin (length (used_of p lemmas fact).gates) (used_of p lemmas fact).words
used_within p lemmas fact w order = (used_stage p lemmas fact w order).state.within

pub hyp_ready : (p : VersionedProgram) (f : Handler) (lemmas : List Numbered) (fact : Fact) (n : ℕ) (h : Hyp) → OnlyAppends f → IsWellFormed p → InOrder p lemmas fact → slice_get fact.hyps n ≡ Some h
    → CanState p (fold (with_hyp p f lemmas) (used_of p lemmas fact) (take n fact.hyps)) (hyp_atoms p.lines h)
hyp_ready p f lemmas fact n h a w order e =
    let behind = fold_behind (with_hyp p f lemmas) (used_of p lemmas fact) (take n fact.hyps) (hyp_behind p f lemmas a) in
    record {
      within = behind.within (used_within p lemmas fact w order);
      widths = subst (λ (ws : List (List ℕ)). HaveWidths ws p.variables (hyp_atoms p.lines h)) (sym behind.words) (hyp_widths p lemmas fact n h w order e);
    }

pub claim_ready : (p : VersionedProgram) (f : Handler) (lemmas : List Numbered) (fact : Fact) → OnlyAppends f → IsWellFormed p → InOrder p lemmas fact → CanState p (assumed_of p f lemmas fact) (claim_atoms p.lines fact.claim)
claim_ready p f lemmas fact a w order =
    let hyps = fold (with_hyp p f lemmas) (used_of p lemmas fact) fact.hyps in
    let behind = then_behind (fold_behind (with_hyp p f lemmas) (used_of p lemmas fact) fact.hyps (hyp_behind p f lemmas a)) (bits_behind hyps fact.cube) in
    record {
      within = behind.within (used_within p lemmas fact w order);
      widths = subst (λ (ws : List (List ℕ)). HaveWidths ws p.variables (claim_atoms p.lines fact.claim)) (sym behind.words) (claim_widths p lemmas fact fact.claim refl w order);
    }
