-- What is given for a piece fits it.
use Rattle.std.proofs.Common.{◌≡◌, ◌<◌, ℕ, ℤ, Bool, true, false, ◌&&◌, List, [], ◌∷◌, refl, sym, ◌∙◌, ap, subst, arith, nat_eq, eq-eqb, map, inl, inr, Some, None}
use Rattle.std.proofs.lemmas.Bool.{and_from}
use Rattle.tcl_lang.specs.Program.{VersionedProgram}
use Rattle.tcl_lang.specs.Form.{IsWellFormed}
use Rattle.tcl_lang.specs.declared.outcome.Truth.{Truth}
use Rattle.tcl_lang.specs.declared.outcome.Truth.TheVariants.{No}
use Rattle.tcl_goals.specs.declared.cause.Cause.{Cause}
use Rattle.tcl_goals.specs.declared.cause.Cause.TheVariants as cause
use Rattle.tcl_lang.specs.declared.pred.Line.{Line}
use Rattle.tcl_goals.specs.declared.fact.BitLit.{BitLit}
use Rattle.tcl_goals.specs.declared.fact.Claim.TheVariants as claim
use Rattle.tcl_goals.specs.declared.fact.Fact.{Fact}
use Rattle.tcl_goals.specs.declared.fact.Hyp.{Hyp}
use Rattle.tcl_goals.specs.declared.fact.Hyp.TheVariants as hyp
use Rattle.tcl_goals.specs.declared.lemma.Lemma.{Lemma}
use Rattle.tcl_goals.specs.declared.lemma.Numbered.{Numbered}
use Rattle.tcl_goals.specs.declared.piece.Piece.{Piece}
use Rattle.tcl_goals.specs.declared.piece.Route.{Route}
use Rattle.tcl_goals.specs.declared.piece.Route.TheVariants as route
use Rattle.tcl_goals.specs.declared.piece.Shown.TheVariants as shown
use Rattle.tcl_goals.specs.LemmaList.{LemmaList, lemma_of}
use Rattle.tcl_goals.specs.Places.{goal_place}
use Rattle.tcl_goals.specs.Slices.{cut_fact, whole_fact, route_fact}
use Rattle.tcl_goals.specs.Order.{InOrder}
use Rattle.tcl_goals.specs.Plans.{is_algebraic_goal, piece_fact, IsPiece}
use Rattle.tcl_board.specs.declared.evidence.Outcome.TheVariants as outcome
use Rattle.tcl_board.specs.declared.evidence.Seen.TheVariants as seen
use Rattle.tcl_board.specs.Own.{same_value, same_lit, same_bits}
use Rattle.tcl_board.specs.Judging.{proves_piece, is_goal_claim}
use Rattle.tcl_board.specs.Steps.{is_broken_goal}
use Rattle.tcl_gate.specs.Fits.{FitsBreak, FitsPiece}
use Rattle.tcl_kernel.specs.declared.stray.Stray.{Stray}
use Rattle.tcl_kernel.specs.Causes.{is_walked_by, IsTrueCause}
use Rattle.tcl_kernel.specs.CauseLaws.{IsModelEnd, ModelsAreCuts}
use Rattle.tcl_kernel.specs.Counterexample.{BreakChecks, break_proof}
use Rattle.tcl_kernel.specs.Shown.{ProofContent}
use Rattle.tcl_kernel.specs.Strays.{first_stray}
use Rattle.tcl_kernel.proofs.CutModels.{denials_cut}
use Rattle.tcl_cnf.specs.Literal.{value_at}
use Rattle.tcl_kernel.proofs.ModelStrays.{strays_break, piece_is}
use Rattle.tcl_kernel.proofs.Strays.{some_found}
use Rattle.tcl_worker.specs.Settled.{IsSettledBy}
use Rattle.tcl_worker.specs.Inputs.{IsFirstInput}
use Rattle.tcl_worker.specs.Proofs.{ProvesFact}
use Rattle.tcl_worker.specs.Strays.{IsFalseGoal}
use Rattle.tcl_worker.specs.Worked.{IsFailing, IsModelled, IsModelInput, IsWorked}
use Rattle.tcl_worker.specs.Outcomes.{IsComplete, IsPieceFact, IsOutcome, IsOwnOutcome}
use Rattle.tcl_worker.specs.Citing.{entry_of, with_entries, with_lemmas, CitesAllOrNone}
use Rattle.tcl_worker.specs.declared.search_end.LemmaEnd.{LemmaEnd}
use Rattle.tcl_worker.specs.declared.search_end.LemmaEnd.TheVariants as lemma_end
use Rattle.tcl_worker.specs.declared.worked.Worked.{Worked}
use Rattle.tcl_worker.specs.declared.worked.Worked.TheVariants as worked
use Rattle.tcl_worker.specs.SearchEnds.{IsCitingEnd, IsLemmaEnd}
use Rattle.tcl_worker.proofs.Checks.{proves_one_of}
use Rattle.tcl_goals.proofs.PieceOrder.{piece_in_order}
use Rattle.tcl_worker.proofs.Breaking.{found_checks}
use Rattle.tcl_worker.proofs.Ends.{piece_claim, piece_open}
use Rattle.tcl_worker.proofs.GoalNumbers.{earlier_goal}
use Rattle.tcl_worker.proofs.Walks.{clash}

-- a cube is the same as itself
same_bit : (a : BitLit) → same_lit a a ≡ true
same_bit a = and_from (nat_eq a.var a.var) (nat_eq a.bit a.bit && same_value a.value a.value) (eq-eqb a.var a.var refl)
    (and_from (nat_eq a.bit a.bit) (same_value a.value a.value) (eq-eqb a.bit a.bit refl) (value a.value))
  where
    value : (b : Bool) → same_value b b ≡ true
    value true = refl
    value false = refl

same_cube : (bits : List BitLit) → same_bits bits bits ≡ true
same_cube [] = refl
same_cube (b ∷ bits) = and_from (same_lit b b) (same_bits bits bits) (same_bit b) (same_cube bits)

-- the claim and the cube of a piece's fact
route_claimed : (p : VersionedProgram) (i : ℕ) (r : Route) → (route_fact p i r).claim ≡ claim.Goal i
unfolding cut_fact whole_fact
route_claimed p i route.Cut = refl
route_claimed p i route.Whole = refl

goal_claimed : (p : VersionedProgram) (q : Piece) → (piece_fact p q).claim ≡ claim.Goal q.goal
unfolding piece_fact
goal_claimed p q = route_claimed p q.goal q.route

cube_given : (p : VersionedProgram) (q : Piece) → (piece_fact p q).cube ≡ q.cube
unfolding piece_fact
cube_given p q = refl

-- the fact that is made of that of the route
pub piece_fact_is : (p : VersionedProgram) (q : Piece) (fact : Fact) (cube : List BitLit) → fact ≡ route_fact p q.goal q.route → cube ≡ q.cube → record { claim = fact.claim; hyps = fact.hyps; cube = cube; uses = fact.uses } ≡ piece_fact p q
unfolding piece_fact
piece_fact_is p q fact cube same e =
    ap (λ (f : Fact). record { claim = f.claim; hyps = f.hyps; cube = cube; uses = f.uses }) same
    ∙ ap (λ (bits : List BitLit). record (route_fact p q.goal q.route) { cube = bits }) e

-- a proof of the piece's fact
proves_it : (q : Piece) (fact : Fact) → fact.claim ≡ claim.Goal q.goal → fact.cube ≡ q.cube → proves_piece q fact ≡ true
proves_it q fact claimed cube =
    and_from (is_goal_claim fact.claim q.goal) (same_bits fact.cube q.cube)
    (ap (λ c. is_goal_claim c q.goal) claimed ∙ eq-eqb q.goal q.goal refl)
    (ap (λ c. same_bits c q.cube) cube ∙ same_cube q.cube)

claim_cube : (p : VersionedProgram) (q : Piece) (lemmas : List Numbered) (proved : Fact) → CitesAllOrNone p.lines lemmas (piece_fact p q) proved → proves_piece q proved ≡ true
claim_cube p q lemmas proved (inl e) =
    proves_it q proved (ap (λ (f : Fact). f.claim) e ∙ goal_claimed p q) (ap (λ (f : Fact). f.cube) e ∙ cube_given p q)
claim_cube p q lemmas proved (inr e) =
    proves_it q proved (ap (λ (f : Fact). f.claim) e ∙ goal_claimed p q) (ap (λ (f : Fact). f.cube) e ∙ cube_given p q)

pub proof_outcome : (p : VersionedProgram) (budget : ℕ) (q : Piece) (lemmas : LemmaList) (proof : ProofContent) → ProvesFact p lemmas.items (piece_fact p q) proof → IsOutcome p budget q lemmas (outcome.Shown proof)
proof_outcome p budget q lemmas proof proves = record {
  speaks = record { program = proves.program; alone = proves.alone };
  fits = subst (λ sh. FitsPiece IsTrueCause p budget q lemmas (seen.Shown sh proof.cited)) (sym proves.shown_is) (record {
    proves = claim_cube p q lemmas.items proves.proved proves.which;
    cites = proves.cites;
  });
  complete = subst (λ sh. IsComplete p budget q (seen.Shown sh proof.cited)) (sym proves.shown_is) (record {
    settled = λ s. refl;
    walked = λ r w. refl;
    first = λ r w. tt;
    tried = λ r a w. tt;
  });
  fact = subst (λ sh. IsPieceFact p q lemmas (seen.Shown sh proof.cited)) (sym proves.shown_is) proves.which;
}

-- one that cites no lemma cites none but these
same_hyps : (hyps : List Hyp) → map (λ e. e.hyp) (map entry_of hyps) ≡ hyps
same_hyps [] = refl
same_hyps (hyp.Line k ∷ hyps) = ap (λ hs. hyp.Line k ∷ hs) (same_hyps hyps)
same_hyps (hyp.Lemma n ∷ hyps) = ap (λ hs. hyp.Lemma n ∷ hs) (same_hyps hyps)

with_none : (lines : List Line) (fact : Fact) → with_lemmas lines [] fact ≡ fact
unfolding with_entries
with_none lines fact = ap (λ hs. record fact { hyps = hs }) (same_hyps fact.hyps)

itself : (p : VersionedProgram) (lemmas : List Numbered) (fact proved : Fact) → CitesAllOrNone p.lines [] fact proved → CitesAllOrNone p.lines lemmas fact proved
itself p lemmas fact proved (inl e) = inl e
itself p lemmas fact proved (inr e) = inl (e ∙ with_none p.lines fact)

pub proves_by_none : (p : VersionedProgram) (lemmas : List Numbered) (fact : Fact) (proof : ProofContent) → ProvesFact p [] fact proof → ProvesFact p lemmas fact proof
unfolding lemma_of
proves_by_none p lemmas fact proof proves = record {
  program = proves.program;
  alone = proves.alone;
  proved = proves.proved;
  shown_is = proves.shown_is;
  which = itself p lemmas fact proves.proved proves.which;
  cites = λ n one. absurd (none (proves.cites n one).lemma (proves.cites n one).in_given);
}
  where
    none : (m : Lemma) → None ≡ Some m → ⊥
    none m e = cc

pub worked_by_none : (p : VersionedProgram) (budget : ℕ) (lemmas : List Numbered) (fact : Fact) (w : Worked) → IsWorked p budget [] fact w → IsWorked p budget lemmas fact w
worked_by_none p budget lemmas fact (worked.Proved proof) h = proves_by_none p lemmas fact proof h
worked_by_none p budget lemmas fact (worked.Lemma proof) h = h
worked_by_none p budget lemmas fact (worked.Fails input) h = h
worked_by_none p budget lemmas fact (worked.Model bits) h = h
worked_by_none p budget lemmas fact (worked.Open c) h = h
worked_by_none p budget lemmas fact worked.Stopped h = h

-- the end of a search of the fact with all lemmas
pub citing_end : (p : VersionedProgram) (lemmas : List Numbered) (fact cited : Fact) (e : LemmaEnd) → cited ≡ with_lemmas p.lines lemmas fact → InOrder p lemmas cited → IsCitingEnd p lemmas cited e → IsLemmaEnd p lemmas fact e
citing_end p lemmas fact cited (lemma_end.Proved proof) with_all order e = proves_one_of p lemmas fact cited proof order (inr with_all) e
citing_end p lemmas fact cited lemma_end.Vain with_all order e = tt
citing_end p lemmas fact cited lemma_end.Stopped with_all order e = tt

-- an input that breaks a goal up to that of the piece, and what is asked of it
record IsGoodBreak (p : VersionedProgram) (budget : ℕ) (q : Piece) (g : ℕ) (input : List ℤ) : Type 0 where
  fits : FitsBreak IsTrueCause p budget q g input
  complete : IsComplete p budget q (seen.Shown (shown.Breaks g input) [])

break_outcome : (p : VersionedProgram) (budget : ℕ) (q : Piece) (g : ℕ) (input : List ℤ) (proof : ProofContent) → proof ≡ break_proof p g input → IsGoodBreak p budget q g input → IsOwnOutcome p budget q (outcome.Shown proof)
break_outcome p budget q g input proof e good lemmas =
    subst (λ (x : ProofContent). IsOutcome p budget q lemmas (outcome.Shown x)) (sym e)
    (record { speaks = record { program = refl; alone = refl }; fits = good.fits; complete = good.complete; fact = tt })

-- a break of the piece's own goal fits it
own_goal : (p : VersionedProgram) (budget : ℕ) (q : Piece) (input : List ℤ) → FitsBreak IsTrueCause p budget q q.goal input
own_goal p budget q input = record { goal = omega arith; stray = λ less. absurd (omega (arith, less)) }

-- the input of a walk
pub walk_found : (p : VersionedProgram) (budget : ℕ) (q : Piece) (input : List ℤ) → IsWellFormed p → IsPiece p q → q.route ≡ route.Whole → IsFailing p budget (piece_fact p q) input → BreakChecks p q.goal input × IsFirstInput p (piece_fact p q) input
walk_found p budget q input w piece whole f =
    subst (λ x. BreakChecks p q.goal x × IsFirstInput p (piece_fact p q) x) (sym f.input_is)
    (found_checks p (piece_fact p q) q.goal f.free w (piece_in_order p [] q w piece) (piece_is p q whole) piece.goal f.fails)

pub walk_outcome : (p : VersionedProgram) (budget : ℕ) (q : Piece) (input : List ℤ) (proof : ProofContent) → IsFailing p budget (piece_fact p q) input → IsFirstInput p (piece_fact p q) input → proof ≡ break_proof p q.goal input → IsOwnOutcome p budget q (outcome.Shown proof)
walk_outcome p budget q input proof f first e = break_outcome p budget q q.goal input proof e (record {
  fits = own_goal p budget q input;
  complete = record {
    settled = λ s. absurd (f.unsettled s);
    walked = λ r w. refl;
    first = λ r w. (refl, first);
    tried = λ r a w. absurd (clash (is_walked_by p budget (piece_fact p q)) f.walked w);
  };
})

-- a cause that is true of a piece which is left open, and is not settled
cause_outcome : (p : VersionedProgram) (budget : ℕ) (q : Piece) (c : Cause) → IsTrueCause p budget q c → is_broken_goal p c ≡ false → IsComplete p budget q (seen.Ended c) → IsOwnOutcome p budget q (outcome.Ended c)
cause_outcome p budget q c true_of not_broken complete lemmas = record {
  speaks = tt;
  fits = record { true_of = true_of; not_broken = not_broken };
  complete = complete;
  fact = tt;
}

-- a model of a cut piece: an assignment at which its walk ends, and bits that meet its clauses
cut_complete : (p : VersionedProgram) (budget : ℕ) (q : Piece) → q.route ≡ route.Cut → (IsSettledBy p (piece_fact p q) → ⊥) → IsComplete p budget q (seen.Ended cause.Model)
cut_complete p budget q cut unsettled = record {
  settled = λ s. absurd (unsettled s);
  walked = λ r w. absurd (other r);
  first = λ r w. tt;
  tried = λ r a w. absurd (other r);
}
  where
    other : q.route ≡ route.Whole → ⊥
    other r = cc

pub cut_walk_outcome : (p : VersionedProgram) (budget : ℕ) (q : Piece) (input : List ℤ) → IsWellFormed p → IsPiece p q → q.route ≡ route.Cut → IsFailing p budget (piece_fact p q) input → IsOwnOutcome p budget q (outcome.Ended cause.Model)
cut_walk_outcome p budget q input w piece cut f =
    cause_outcome p budget q cause.Model (denials_cut p budget q f.free w piece cut f.unbounded f.walked f.fails) refl (cut_complete p budget q cut f.unsettled)

pub cut_model_outcome : ModelsAreCuts → (p : VersionedProgram) (budget : ℕ) (q : Piece) (bits : List Bool) → IsWellFormed p → IsPiece p q → q.route ≡ route.Cut → IsModelled p budget (piece_fact p q) bits → IsOwnOutcome p budget q (outcome.Ended cause.Model)
cut_model_outcome cuts p budget q bits w piece cut m =
    cause_outcome p budget q cause.Model
    (cuts p budget q (value_at bits) w piece cut m.unbounded m.unwalked (sym (piece_claim p q) ∙ m.range) m.meets) refl (cut_complete p budget q cut m.unsettled)

-- the input of a model of a whole piece: of the break of the goal, of that of a smaller one, and of a stray
model_complete : (p : VersionedProgram) (budget : ℕ) (q : Piece) (g : ℕ) (input : List ℤ) → IsModelInput p budget q input → IsComplete p budget q (seen.Shown (shown.Breaks g input) [])
model_complete p budget q g input m = record {
  settled = λ s. absurd (m.unsettled s);
  walked = λ r w. refl;
  first = λ r w. absurd (clash (is_walked_by p budget (piece_fact p q)) w m.unwalked);
  tried = λ r a w. absurd (clash (is_algebraic_goal p.lines q.goal) a m.range);
}

-- the stray is a true cause
stray_true : (p : VersionedProgram) (budget : ℕ) (q : Piece) (input : List ℤ) (s : Stray) → IsModelInput p budget q input → first_stray p q.goal input ≡ Some s → IsTrueCause p budget q (cause.Stray s.place s.truth input)
stray_true p budget q input s m first = record {
  left = piece_open p budget q (piece_fact p q) refl m.unbounded m.unwalked (λ r a. absurd (clash (is_algebraic_goal p.lines q.goal) a m.range));
  route_is = m.route_is;
  range = m.range;
  stray = subst (IsModelEnd p q.goal input) first m.ends;
}

-- a smaller goal that it breaks
pub smaller_checks : (p : VersionedProgram) (budget : ℕ) (q : Piece) (input : List ℤ) (s : Stray) (g : ℕ) → IsWellFormed p → IsModelInput p budget q input → first_stray p q.goal input ≡ Some s → IsFalseGoal p.lines s g → BreakChecks p g input
smaller_checks p budget q input s g w m first is = strays_break p q.goal g input s w m.fits first is.truth is.has (sym is.place)

pub smaller_outcome : (p : VersionedProgram) (budget : ℕ) (q : Piece) (input : List ℤ) (s : Stray) (g : ℕ) (proof : ProofContent) → IsPiece p q → IsModelInput p budget q input → first_stray p q.goal input ≡ Some s → IsFalseGoal p.lines s g → proof ≡ break_proof p g input → IsOwnOutcome p budget q (outcome.Shown proof)
smaller_outcome p budget q input s g proof piece m first is e =
    let found = some_found p input (goal_place p.lines q.goal) s first in
    let less : goal_place p.lines g < goal_place p.lines q.goal = omega (arith, is.place, found.before) in
    let below = earlier_goal p.lines g q.goal is.has piece.goal less in
    break_outcome p budget q g input proof e (record {
      fits = record {
        goal = omega (arith, below);
        stray = λ l. at_place (goal_place p.lines g) No (sym is.place) is.truth (stray_true p budget q input s m first);
      };
      complete = model_complete p budget q g input m;
    })
  where
    at_place : (k : ℕ) (t : Truth) → s.place ≡ k → s.truth ≡ t → IsTrueCause p budget q (cause.Stray s.place s.truth input) → IsTrueCause p budget q (cause.Stray k t input)
    at_place k t same truth h =
        subst (λ n. IsTrueCause p budget q (cause.Stray n t input)) same
        (subst (λ u. IsTrueCause p budget q (cause.Stray s.place u input)) truth h)
