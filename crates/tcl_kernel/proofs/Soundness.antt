-- Certificates are sound, and reasons are exact.
use Rattle.std.proofs.Common.{if◌then◌else◌, ℕ, ◌≡◌, ◌↔◌, nat_le, refl, sym, ◌∙◌, ap, Bool, true, false, not, List, length, Option, Some, None, Result, Ok, Err, IfOk}
use Rattle.std.proofs.lemmas.Bool.{and_parts, and_from, le-leb, leb-true}
use Rattle.tcl_lang.specs.Program.{VersionedProgram}
use Rattle.tcl_lang.specs.Form.{IsWellFormed}
use Rattle.tcl_goals.specs.declared.fact.Fact.{Fact}
use Rattle.tcl_goals.specs.declared.lemma.Numbered.{Numbered}
use Rattle.tcl_goals.specs.Keys.{claim_place}
use Rattle.tcl_goals.specs.Order.{InOrder, has_claim, has_hyps, are_ordered, are_uses}
use Rattle.tcl_goals.specs.Free.{free_bits}
use Rattle.tcl_goals.specs.Holds.{FactHolds}
use Rattle.tcl_goals.proofs.RunsAssign.{assignments_decide}
use Rattle.tcl_bounds.specs.Bounds.{bounds_of}
use Rattle.tcl_bounds.specs.declared.interval.Interval.{Interval}
use Rattle.tcl_bounds.specs.Follows.{follows_of}
use Rattle.tcl_enum.specs.declared.ended.Ended.{Ended}
use Rattle.tcl_enum.specs.declared.ended.Ended.TheVariants as ended
use Rattle.tcl_enum.specs.Enumeration.{ended_of, IsEnd}
use Rattle.tcl_enum.proofs.Decisions.{all_decides}
use Rattle.tcl_bounds.proofs.Enclosing.{bounds_decide}
use Rattle.tcl_cnf.specs.declared.answer.LogAnswer.{LogAnswer}
use Rattle.tcl_cnf.specs.declared.answer.LogAnswer.TheVariants.{BadLine, NoEnd, Refutes}
use Rattle.tcl_cnf.specs.Clause.{HaveNoSolution}
use Rattle.tcl_cnf.specs.Log.{log_answer}
use Rattle.tcl_cnf.proofs.LogLemmas.{answer_refutes, answer_sound}
use Rattle.tcl_blast.specs.Clauses.{clauses_of, clause_limit}
use Rattle.tcl_blast.proofs.Countermodels.{refuted_prove}
use Rattle.tcl_kernel.specs.declared.reason.Reason.{Reason}
use Rattle.tcl_kernel.specs.declared.reason.Reason.TheVariants as reason
use Rattle.tcl_kernel.specs.declared.certificate.Cert.{Cert}
use Rattle.tcl_kernel.specs.declared.certificate.Cert.TheVariants as cert
use Rattle.tcl_kernel.specs.Shown.{Stands}
use Rattle.tcl_kernel.specs.Earlier.{Earlier}
use Rattle.tcl_kernel.specs.Reasons.{unless, first_of}
use Rattle.tcl_kernel.specs.Entry.{entry_reason}
use Rattle.tcl_kernel.specs.BoundsCertificate.{is_algebraic_claim, BoundsCheck, is_bounded, bounds_reason}
use Rattle.tcl_kernel.specs.EnumerationCertificate.{EnumerationChecks, is_all, is_enumerated, enumeration_reason}
use Rattle.tcl_kernel.proofs.Cofactors.{cofactors_exact, cofactors_sound}
use Rattle.tcl_kernel.specs.LogCertificate.{LogCheck, has_clauses, reason_of, log_reason}
use Rattle.tcl_kernel.specs.Laws.{AreStanding}
use Rattle.tcl_kernel.proofs.CaseLists.{cases_exact, cases_sound}
use Rattle.tcl_kernel.specs.Certificates.{CertificateChecks, Checks, certificate_reason, first_reason}

-- there is no reason exactly where each test is met
unless_none : (b : Bool) (r : Reason) → unless b r ≡ None → b ≡ true
unless_none true r e = refl
unless_none false r e = absurd (cc)

unless_met : (b : Bool) (r : Reason) → b ≡ true → unless b r ≡ None
unless_met true r e = refl
unless_met false r e = absurd (cc)

first_none : (a b : Option Reason) → first_of a b ≡ None → (a ≡ None) × (b ≡ None)
first_none None b e = (refl, e)
first_none (Some r) b e = absurd (cc)

none_first : (a b : Option Reason) → a ≡ None → b ≡ None → first_of a b ≡ None
none_first None b e f = f
none_first (Some r) b e f = absurd (cc)

-- a fact against which there is no reason is in order
pub entry_order : (p : VersionedProgram) (lemmas : List Numbered) (fact : Fact) → entry_reason p lemmas fact ≡ None → InOrder p lemmas fact
unfolding entry_reason
entry_order p lemmas fact e =
    let place = claim_place p.lines fact.claim in
    let a = first_none (unless (has_claim p fact.claim) reason.Claim) _ e in
    let b = first_none (unless (has_hyps p.lines lemmas fact.hyps) reason.Hyp) _ a.1 in
    let c = first_none (unless (are_ordered p.lines lemmas fact.claim fact.hyps) reason.Order) _ b.1 in
    let d = first_none (unless (are_uses p.lines place fact.uses) reason.Uses) _ c.1 in
    record {
      claim = unless_none _ _ a.0;
      hyps = unless_none _ _ b.0;
      order = unless_none _ _ c.0;
      uses = unless_none _ _ d.0;
      cube = unless_none _ _ d.1;
    }

pub order_entry : (p : VersionedProgram) (lemmas : List Numbered) (fact : Fact) → InOrder p lemmas fact → entry_reason p lemmas fact ≡ None
unfolding entry_reason
order_entry p lemmas fact o =
    none_first _ _ (unless_met _ reason.Claim o.claim)
    (none_first _ _ (unless_met _ reason.Hyp o.hyps)
    (none_first _ _ (unless_met _ reason.Order o.order)
    (none_first _ _ (unless_met _ reason.Uses o.uses) (unless_met _ reason.Cube o.cube))))

-- intervals
not_true : (b : Bool) → not b ≡ true → b ≡ false
not_true true e = absurd (cc)
not_true false e = refl

not_false : (b : Bool) → b ≡ false → not b ≡ true
not_false true e = absurd (cc)
not_false false e = refl

pub bounds_exact : (p : VersionedProgram) (fact : Fact) → (bounds_reason p fact ≡ None) ↔ BoundsCheck p fact
unfolding bounds_reason
bounds_exact p fact = (checks, none)
  where
    checks : unless (is_bounded p fact) reason.Bounds ≡ None → BoundsCheck p fact
    checks e =
        let parts = and_parts (not (is_algebraic_claim p.lines fact.claim)) (follows_of (bounds_of p fact) p fact.claim) (unless_none _ _ e) in
        record { range = not_true _ parts.0; follows = parts.1 }

    none : BoundsCheck p fact → unless (is_bounded p fact) reason.Bounds ≡ None
    none c = unless_met _ reason.Bounds (and_from _ _ (not_false _ c.range) c.follows)

pub bounds_sound : (p : VersionedProgram) (lemmas : List Numbered) (fact : Fact) → IsWellFormed p → BoundsCheck p fact → FactHolds p lemmas fact
bounds_sound p lemmas fact w c = assignments_decide p lemmas fact w (bounds_decide p lemmas fact w c.follows)

-- enumeration
all_is : (e : Ended) → is_all e ≡ true → e ≡ ended.All
all_is ended.All h = refl
all_is (ended.Fails values) h = absurd (cc)
all_is ended.Wide h = absurd (cc)
all_is ended.Memory h = absurd (cc)

pub enumeration_exact : (p : VersionedProgram) (lemmas : List Numbered) (fact : Fact) → IsWellFormed p → InOrder p lemmas fact → (enumeration_reason p lemmas fact ≡ None) ↔ EnumerationChecks p lemmas fact
unfolding enumeration_reason
enumeration_exact p lemmas fact w o = (checks, none)
  where
    checks : unless (is_enumerated p lemmas fact) reason.Enum ≡ None → EnumerationChecks p lemmas fact
    checks e =
        let parts = and_parts (nat_le (length (free_bits p lemmas fact)) 20) (is_all (ended_of p lemmas fact)) (unless_none _ _ e) in
        let all = (all_decides p lemmas fact w o).0 (all_is (ended_of p lemmas fact) parts.1) in
        record { few = leb-true _ _ parts.0; narrow = all.0; all = all.1 }

    none : EnumerationChecks p lemmas fact → unless (is_enumerated p lemmas fact) reason.Enum ≡ None
    none c =
        unless_met _ reason.Enum
        (and_from _ _ (le-leb (length (free_bits p lemmas fact)) 20 c.few) (ap is_all ((all_decides p lemmas fact w o).1 (c.narrow, c.all))))

pub enumeration_sound : (p : VersionedProgram) (lemmas : List Numbered) (fact : Fact) → IsWellFormed p → EnumerationChecks p lemmas fact → FactHolds p lemmas fact
enumeration_sound p lemmas fact w c = assignments_decide p lemmas fact w c.all

-- logs
pub refuting : (a : LogAnswer) → reason_of a ≡ None → a ≡ Refutes
refuting (BadLine k) e = absurd (cc)
refuting NoEnd e = absurd (cc)
refuting Refutes e = refl

no_reason : (b : Bool) (o : Option Reason) (r : Reason) → (if b then o else Some r) ≡ None → (b ≡ true) × (o ≡ None)
no_reason true o r e = (refl, e)
no_reason false o r e = absurd (cc)

reason_free : (b : Bool) (o : Option Reason) (r : Reason) → b ≡ true → o ≡ None → (if b then o else Some r) ≡ None
reason_free true o r e f = f
reason_free false o r e f = absurd (cc)

pub log_exact : (p : VersionedProgram) (lemmas : List Numbered) (fact : Fact) (lines : List (List ℕ)) → (log_reason p lemmas fact lines ≡ None) ↔ LogCheck p lemmas fact lines
unfolding log_reason
log_exact p lemmas fact lines = (checks, none)
  where
    clauses : List (List ℕ)
    clauses = clauses_of p lemmas fact

    checks : (if has_clauses p lemmas fact then reason_of (log_answer clauses lines) else Some reason.LogSize) ≡ None → LogCheck p lemmas fact lines
    checks e =
        let both = no_reason (has_clauses p lemmas fact) (reason_of (log_answer clauses lines)) reason.LogSize e in
        let parts = and_parts (not (is_algebraic_claim p.lines fact.claim)) (nat_le (length clauses) clause_limit) both.0 in
        let refutes = (answer_refutes clauses lines (log_answer clauses lines) refl).0 (refuting (log_answer clauses lines) both.1) in
        record { range = not_true _ parts.0; few = leb-true _ _ parts.1; refutes = refutes }

    none : LogCheck p lemmas fact lines → (if has_clauses p lemmas fact then reason_of (log_answer clauses lines) else Some reason.LogSize) ≡ None
    none c =
        reason_free (has_clauses p lemmas fact) (reason_of (log_answer clauses lines)) reason.LogSize
        (and_from _ _ (not_false _ c.range) (le-leb (length clauses) clause_limit c.few))
        (ap reason_of ((answer_refutes clauses lines (log_answer clauses lines) refl).1 c.refutes))

pub refutation_shown : (p : VersionedProgram) (lemmas : List Numbered) (fact : Fact) → IsWellFormed p → InOrder p lemmas fact → HaveNoSolution (clauses_of p lemmas fact) → FactHolds p lemmas fact
refutation_shown p lemmas fact w o none = assignments_decide p lemmas fact w (refuted_prove p lemmas fact w o none)

pub log_sound : (p : VersionedProgram) (lemmas : List Numbered) (fact : Fact) (lines : List (List ℕ)) → IsWellFormed p → InOrder p lemmas fact → LogCheck p lemmas fact lines → FactHolds p lemmas fact
log_sound p lemmas fact lines w o c =
    let clauses = clauses_of p lemmas fact in
    let refutes = (answer_refutes clauses lines (log_answer clauses lines) refl).1 c.refutes in
    refutation_shown p lemmas fact w o (answer_sound clauses lines (log_answer clauses lines) refl refutes)

-- all kinds
certificate_exact : (p : VersionedProgram) (earlier : Earlier) (fact : Fact) (c : Cert) → IsWellFormed p → InOrder p earlier.lemmas fact → (certificate_reason p earlier fact c ≡ None) ↔ CertificateChecks p earlier fact c
certificate_exact p earlier fact cert.Bounds w o = bounds_exact p fact
certificate_exact p earlier fact cert.Enumerated w o = enumeration_exact p earlier.lemmas fact w o
certificate_exact p earlier fact (cert.Log lines) w o = log_exact p earlier.lemmas fact lines
certificate_exact p earlier fact (cert.Cofactors lines) w o = cofactors_exact p earlier.lemmas fact lines
certificate_exact p earlier fact (cert.Cases items) w o = cases_exact p earlier.lemmas earlier.facts fact items o

pub reasons_exact : (p : VersionedProgram) (earlier : Earlier) (fact : Fact) (c : Cert) → IsWellFormed p → (first_reason p earlier fact c ≡ None) ↔ Checks p earlier fact c
unfolding first_reason
reasons_exact p earlier fact c w = (checks, none)
  where
    checks : first_of (entry_reason p earlier.lemmas fact) (certificate_reason p earlier fact c) ≡ None → Checks p earlier fact c
    checks e =
        let parts = first_none (entry_reason p earlier.lemmas fact) (certificate_reason p earlier fact c) e in
        let o = entry_order p earlier.lemmas fact parts.0 in
        record { order = o; certificate = (certificate_exact p earlier fact c w o).0 parts.1 }

    none : Checks p earlier fact c → first_of (entry_reason p earlier.lemmas fact) (certificate_reason p earlier fact c) ≡ None
    none k = none_first _ _ (order_entry p earlier.lemmas fact k.order) ((certificate_exact p earlier fact c w k.order).1 k.certificate)

pub certificate_sound : (p : VersionedProgram) (earlier : Earlier) (fact : Fact) (c : Cert) → IsWellFormed p → AreStanding p earlier → InOrder p earlier.lemmas fact → CertificateChecks p earlier fact c → FactHolds p earlier.lemmas fact
certificate_sound p earlier fact cert.Bounds w all o k = bounds_sound p earlier.lemmas fact w k
certificate_sound p earlier fact cert.Enumerated w all o k = enumeration_sound p earlier.lemmas fact w k
certificate_sound p earlier fact (cert.Log lines) w all o k = log_sound p earlier.lemmas fact lines w o k
certificate_sound p earlier fact (cert.Cofactors lines) w all o k = cofactors_sound p earlier.lemmas fact lines w k
certificate_sound p earlier fact (cert.Cases items) w all o k = cases_sound p earlier.lemmas earlier.facts fact items all k

pub checks_sound : (p : VersionedProgram) (earlier : Earlier) (fact : Fact) (c : Cert) → IsWellFormed p → AreStanding p earlier → Checks p earlier fact c → Stands p earlier.lemmas fact
checks_sound p earlier fact c w all k =
    record { order = k.order; holds = certificate_sound p earlier fact c w all k.order k.certificate }

-- what the code has to show, in its own terms
pub bounds_shown : (p : VersionedProgram) (fact : Fact) (bounds : List Interval) → IsWellFormed p → bounds ≡ bounds_of p fact → follows_of bounds p fact.claim ≡ true → (lemmas : List Numbered) → FactHolds p lemmas fact
bounds_shown p fact bounds w same e lemmas =
    assignments_decide p lemmas fact w (bounds_decide p lemmas fact w (ap (λ b. follows_of b p fact.claim) (sym same) ∙ e))

pub stands_if : {E : Type 0} (p : VersionedProgram) (lemmas : List Numbered) (fact : Fact) (r : Result (Option Reason) E) → InOrder p lemmas fact → IfOk r (λ o. o ≡ None → FactHolds p lemmas fact) → IfOk r (λ o. o ≡ None → Stands p lemmas fact)
stands_if p lemmas fact (Ok o) order h = λ e. record { order = order; holds = h e }
stands_if p lemmas fact (Err x) order h = h

pub enumeration_shown : (p : VersionedProgram) (lemmas : List Numbered) (fact : Fact) → IsWellFormed p → InOrder p lemmas fact → ended_of p lemmas fact ≡ ended.All → FactHolds p lemmas fact
enumeration_shown p lemmas fact w o e = assignments_decide p lemmas fact w ((all_decides p lemmas fact w o).0 e).1

pub all_told : (told end : Ended) → IsEnd told end → end ≡ ended.All → told ≡ ended.All
all_told told ended.All h e = sym h
all_told told (ended.Fails values) h e = absurd (cc)
all_told told ended.Wide h e = absurd (cc)
all_told told ended.Memory h e = absurd (cc)
