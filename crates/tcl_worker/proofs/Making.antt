-- The lemma that is made, where one is, and what it is for a piece.
use Rattle.std.proofs.Common.{◌≡◌, ◌<◌, ◌≤◌, ◌+◌, ℕ, nat_lt, ltb-true, Bool, true, false, List, [], length, refl, sym, ◌∙◌, ap, subst, arith, Some, None}
use Rattle.std.specs.List.{slice_get}
use Rattle.std.proofs.lemmas.Bool.Decides.{nat_tests}
use Rattle.tcl_lang.specs.Program.{VersionedProgram}
use Rattle.tcl_lang.specs.Form.{IsWellFormed}
use Rattle.tcl_goals.specs.declared.fact.BitLit.{BitLit}
use Rattle.tcl_goals.specs.declared.fact.Fact.{Fact}
use Rattle.tcl_goals.specs.declared.lemma.Lemma.{Lemma}
use Rattle.tcl_goals.specs.declared.lemma.Numbered.{Numbered}
use Rattle.tcl_goals.specs.declared.piece.Piece.{Piece}
use Rattle.tcl_goals.specs.declared.piece.Shown.{Shown}
use Rattle.tcl_goals.specs.declared.piece.Shown.TheVariants as shown
use Rattle.tcl_goals.specs.LemmaList.{LemmaList, lemma_of}
use Rattle.tcl_goals.specs.Order.{InOrder}
use Rattle.tcl_goals.specs.Plans.{IsPiece, piece_fact}
use Rattle.tcl_goals.proofs.PieceOrder.{piece_in_order}
use Rattle.tcl_board.specs.declared.evidence.Outcome.{Outcome}
use Rattle.tcl_board.specs.declared.evidence.Outcome.TheVariants as outcome
use Rattle.tcl_board.specs.declared.evidence.Seen.TheVariants as seen
use Rattle.tcl_board.specs.Judging.{shows_lemma}
use Rattle.tcl_gate.specs.Fits.{FitsPiece, CitesGiven}
use Rattle.tcl_blast.specs.Clauses.{clauses_of, clause_limit}
use Rattle.tcl_kernel.specs.Causes.{IsTrueCause, is_walked_by}
use Rattle.tcl_kernel.specs.BoundsCertificate.{is_algebraic_claim, is_bounded}
use Rattle.tcl_kernel.specs.Cited.{cited_lemmas}
use Rattle.tcl_kernel.specs.Shown.{ProofContent}
use Rattle.tcl_worker.specs.Candidates.{candidate_bits, candidate_fact}
use Rattle.tcl_worker.specs.Lemmas.{IsToBeSearched, IsPassedOver, ArePassedOver, IsMade, MakesNone}
use Rattle.tcl_worker.specs.SearchEnds.{ProvesNew, ProvesMade}
use Rattle.tcl_worker.specs.declared.worked.Worked.{Worked}
use Rattle.tcl_worker.specs.declared.worked.Worked.TheVariants as worked
use Rattle.tcl_worker.specs.Worked.{KeepsRules, is_lemma}
use Rattle.tcl_worker.specs.Outcomes.{IsOutcome, IsOwnOutcome, ObeysRules, seen_in}
use Rattle.tcl_worker.proofs.CandidateFacts.{candidate_in_order, candidate_shows}
use Rattle.tcl_worker.proofs.Checks.{cites_given}
use Rattle.tcl_worker.proofs.Walks.{clash}

-- one candidate more that is passed over
same_bit : (o : List BitLit) (k : ℕ) (b c : BitLit) → slice_get o k ≡ Some b → slice_get o k ≡ Some c → b ≡ c
same_bit o k b c at_b at_c = some (sym at_b ∙ at_c)
  where
    some : Some b ≡ Some c → b ≡ c
    some e = cc

pub none_yet : (p : VersionedProgram) (budget : ℕ) (lemmas : List Numbered) (fact : Fact) → ArePassedOver p budget lemmas fact 0
none_yet p budget lemmas fact = record { each = λ k b less at. absurd (omega (arith, less)) }

pub one_more : (p : VersionedProgram) (budget : ℕ) (lemmas : List Numbered) (fact : Fact) (k : ℕ) (b : BitLit) → ArePassedOver p budget lemmas fact k → slice_get (candidate_bits p fact.claim) k ≡ Some b → IsPassedOver p budget lemmas fact b → ArePassedOver p budget lemmas fact (k + 1)
one_more p budget lemmas fact k b over at here = record { each = λ j c less there. at_number j c less there (nat_lt j k) refl }
  where
    at_number : (j : ℕ) (c : BitLit) → j < k + 1 → slice_get (candidate_bits p fact.claim) j ≡ Some c → (t : Bool) → nat_lt j k ≡ t → IsPassedOver p budget lemmas fact c
    at_number j c less there true e = over.each j c (ltb-true j k e) there
    at_number j c less there false e =
        let same : j ≡ k = last j less e in
        subst (IsPassedOver p budget lemmas fact)
        (same_bit (candidate_bits p fact.claim) k b c at (ap (slice_get (candidate_bits p fact.claim)) (sym same) ∙ there)) here
      where
        last : (j : ℕ) → j < k + 1 → nat_lt j k ≡ false → j ≡ k
        last j less e = grind (arith, nat_tests)

-- all candidates are passed over
pub all_over : (p : VersionedProgram) (budget : ℕ) (lemmas : LemmaList) (fact : Fact) (k n : ℕ) (bits : List BitLit) → bits ≡ candidate_bits p fact.claim → n ≡ length bits → n ≤ k → ArePassedOver p budget lemmas.items fact k → MakesNone p budget lemmas fact
all_over p budget lemmas fact k n bits is count h over wanted searched = record {
  each = λ j b less at. over.each j b (omega (arith, less, h, count, ap (λ (bs : List BitLit). length bs) is)) at;
}

pub not_wanted : (p : VersionedProgram) (budget : ℕ) (lemmas : LemmaList) (fact : Fact) → lemmas.more ≡ false → MakesNone p budget lemmas fact
not_wanted p budget lemmas fact e wanted searched = absurd (clash lemmas.more wanted e)

-- the first that is shown
pub made_first : (p : VersionedProgram) (budget : ℕ) (lemmas : LemmaList) (fact : Fact) (k : ℕ) (b : BitLit) (proof : ProofContent) → lemmas.more ≡ true → IsToBeSearched p budget fact → slice_get (candidate_bits p fact.claim) k ≡ Some b → ArePassedOver p budget lemmas.items fact k → ProvesNew p budget lemmas.items fact b proof → ProvesMade p budget lemmas fact proof
made_first p budget lemmas fact k b proof wanted searched at over new = record {
  lemma = candidate_fact fact b;
  made = record {
    wanted = wanted;
    searched = searched;
    number = k;
    bit = b;
    candidate = at;
    new = new.new;
    made_is = refl;
    refuted = new.proves.refuted;
    earlier = over;
  };
  proof_is = new.proves.proof_is;
}

-- where none is made
pub algebraic_none : (p : VersionedProgram) (budget : ℕ) (lemmas : LemmaList) (fact : Fact) → is_algebraic_claim p.lines fact.claim ≡ true → MakesNone p budget lemmas fact
algebraic_none p budget lemmas fact e wanted searched = absurd (clash (is_algebraic_claim p.lines fact.claim) e searched.range)

pub bounded_none : (p : VersionedProgram) (budget : ℕ) (lemmas : LemmaList) (fact : Fact) → is_bounded p fact ≡ true → MakesNone p budget lemmas fact
bounded_none p budget lemmas fact e wanted searched = absurd (clash (is_bounded p fact) e searched.unbounded)

pub walked_none : (p : VersionedProgram) (budget : ℕ) (lemmas : LemmaList) (fact : Fact) → is_walked_by p budget fact ≡ true → MakesNone p budget lemmas fact
walked_none p budget lemmas fact e wanted searched = absurd (clash (is_walked_by p budget fact) e searched.unwalked)

pub many_none : (p : VersionedProgram) (budget : ℕ) (lemmas : LemmaList) (fact : Fact) → clause_limit < length (clauses_of p [] fact) → MakesNone p budget lemmas fact
many_none p budget lemmas fact h wanted searched = absurd (omega (arith, h, searched.few))

pub keeps_none : (p : VersionedProgram) (budget : ℕ) (lemmas : LemmaList) (fact : Fact) (w : Worked) → MakesNone p budget lemmas fact → is_lemma w ≡ false → KeepsRules p budget lemmas fact w
keeps_none p budget lemmas fact (worked.Proved proof) none own = none
keeps_none p budget lemmas fact (worked.Lemma proof) none own = absurd (cc)
keeps_none p budget lemmas fact (worked.Fails input) none own = none
keeps_none p budget lemmas fact (worked.Model bits) none own = none
keeps_none p budget lemmas fact (worked.Open c) none own = none
keeps_none p budget lemmas fact worked.Stopped none own = tt

-- the proof of the lemma fits the piece
made_order : (p : VersionedProgram) (budget : ℕ) (lemmas : LemmaList) (fact made : Fact) → IsWellFormed p → InOrder p [] fact → IsMade p budget lemmas fact made → InOrder p [] made
made_order p budget lemmas fact made w order m =
    subst (InOrder p []) (sym m.made_is) (candidate_in_order p fact m.number m.bit w order m.candidate)

cites_none : (p : VersionedProgram) (given : List Numbered) (fact : Fact) → InOrder p [] fact → CitesGiven given (cited_lemmas fact.hyps []) fact
unfolding lemma_of
cites_none p given fact order n one = absurd (none (cites_given p [] fact order n one).lemma (cites_given p [] fact order n one).in_given)
  where
    none : (m : Lemma) → None ≡ Some m → ⊥
    none m e = cc

pub lemma_outcome : (p : VersionedProgram) (budget : ℕ) (q : Piece) (lemmas : LemmaList) (proof : ProofContent) → IsWellFormed p → IsPiece p q → ProvesMade p budget lemmas (piece_fact p q) proof → IsOutcome p budget q lemmas (outcome.Lemma proof)
lemma_outcome p budget q lemmas proof w piece proves =
    let fact = piece_fact p q in
    let made = proves.made in
    let own = piece_in_order p [] q w piece in
    let order = made_order p budget lemmas fact proves.lemma w own made in
    subst (λ (x : ProofContent). IsOutcome p budget q lemmas (outcome.Lemma x)) (sym proves.proof_is) (record {
      speaks = record { program = refl; alone = refl };
      fits = record {
        wanted = made.wanted;
        shows = ap (shows_lemma p.lines) made.made_is ∙ candidate_shows p fact made.bit own;
        cites = cites_none p lemmas.items proves.lemma order;
      };
      complete = record {
        settled = λ s. refl;
        walked = λ r walked. refl;
        first = λ r walked. tt;
        tried = λ r a walked. tt;
      };
      fact = tt;
    })

-- it obeys the rules, and so does an outcome that is no lemma
pub lemma_obeys : (p : VersionedProgram) (budget : ℕ) (q : Piece) (lemmas : LemmaList) (proof : ProofContent) → ProvesMade p budget lemmas (piece_fact p q) proof → ObeysRules p budget q lemmas (seen_in (outcome.Lemma proof))
unfolding cited_lemmas
lemma_obeys p budget q lemmas proof proves =
    subst (λ (x : ProofContent). ObeysRules p budget q lemmas (seen_in (outcome.Lemma x))) (sym proves.proof_is) (proves.made, refl)

own_fits : (p : VersionedProgram) (budget : ℕ) (q : Piece) (sh : Shown) (cited : List Numbered) → FitsPiece IsTrueCause p budget q (record { items = []; more = false }) (seen.Lemma sh cited) → ⊥
own_fits p budget q (shown.Fact fact) cited fits = no fits.wanted
  where
    no : false ≡ true → ⊥
    no e = cc
own_fits p budget q (shown.Breaks g input) cited fits = fits

pub own_obeys : (p : VersionedProgram) (budget : ℕ) (q : Piece) (lemmas : LemmaList) (o : Outcome ProofContent) → MakesNone p budget lemmas (piece_fact p q) → IsOwnOutcome p budget q o → ObeysRules p budget q lemmas (seen_in o)
own_obeys p budget q lemmas (outcome.Shown e) none own = none
own_obeys p budget q lemmas (outcome.Ended c) none own = none
own_obeys p budget q lemmas (outcome.Lemma e) none own = absurd (own_fits p budget q e.shown e.cited (own (record { items = []; more = false })).fits)
