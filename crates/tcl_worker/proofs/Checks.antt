-- What the answers of the kernel say of a fact in order, and of an input.
use Rattle.std.proofs.Common.{◌≡◌, ◌≤◌, ℕ, nat_eq, eqb-true, Bool, true, false, ◌||◌, if◌then◌else◌, inl, List, [], ◌∷◌, length, refl, sym, ◌∙◌, ap, subst, Option, Some, None, Result, Ok, Err}
use Rattle.std.specs.Prelude.{is_none, is_some, IfOk}
use Rattle.tcl_list.proofs.Booleans.{if_no}
use Rattle.std.proofs.lemmas.Bool.{and_parts}
use Rattle.tcl_lang.specs.Program.{VersionedProgram}
use Rattle.tcl_lang.specs.declared.pred.Line.{Line}
use Rattle.tcl_lang.specs.Form.{IsWellFormed}
use Rattle.tcl_goals.specs.declared.fact.Fact.{Fact}
use Rattle.tcl_goals.specs.declared.fact.Hyp.{Hyp}
use Rattle.tcl_goals.specs.declared.fact.Hyp.TheVariants as hyp
use Rattle.tcl_goals.specs.declared.lemma.Lemma.{Lemma}
use Rattle.tcl_goals.specs.declared.lemma.Numbered.{Numbered}
use Rattle.tcl_goals.specs.LemmaList.{lemma_of}
use Rattle.tcl_goals.specs.Order.{has_hyp, has_hyps, InOrder}
use Rattle.tcl_gate.specs.Fits.{CitesGiven}
use Rattle.tcl_remainder.specs.declared.lines.CofactorLine.{CofactorLine}
use Rattle.tcl_kernel.specs.declared.reason.Reason.{Reason}
use Rattle.tcl_kernel.specs.declared.reason.Reason.TheVariants as reason
use Rattle.tcl_kernel.specs.declared.certificate.Cert.{Cert}
use Rattle.tcl_kernel.specs.declared.certificate.Cert.TheVariants as cert
use Rattle.tcl_kernel.specs.Earlier.{Earlier}
use Rattle.tcl_kernel.specs.Reasons.{unless, first_of}
use Rattle.tcl_kernel.specs.Entry.{entry_reason}
use Rattle.tcl_kernel.specs.BoundsCertificate.{is_algebraic_claim, is_bounded, bounds_reason}
use Rattle.tcl_kernel.specs.EnumerationCertificate.{is_enumerated, enumeration_reason}
use Rattle.tcl_kernel.specs.CofactorCertificate.{CofactorCheck}
use Rattle.tcl_kernel.specs.Certificates.{first_reason, stands_alone}
use Rattle.tcl_kernel.specs.Cited.{cites, cited_lemmas, proof_of}
use Rattle.tcl_kernel.specs.Shown.{ProofContent}
use Rattle.tcl_kernel.proofs.Soundness.{order_entry, reasons_exact}
use Rattle.tcl_cnf.specs.declared.answer.LogAnswer.TheVariants.{Refutes}
use Rattle.tcl_cnf.specs.Log.{log_answer}
use Rattle.tcl_cnf.proofs.LogLemmas.{answer_refutes}
use Rattle.tcl_blast.specs.Clauses.{clauses_of, clause_limit}
use Rattle.tcl_worker.specs.Citing.{CitesAllOrNone}
use Rattle.tcl_worker.specs.Proofs.{ProvesFact, IsTaken}

-- where nothing was shown before
abbrev pub beginning : VersionedProgram → Earlier
beginning p = record { program = p; lemmas = []; facts = [] }

-- the answer on a copy of the fact is that on the fact
pub taken_here : (p : VersionedProgram) (earlier : Earlier) (fact copy : Fact) (c : Cert) (proof : ProofContent) → copy ≡ fact → first_reason p earlier copy c ≡ None → proof ≡ proof_of p earlier.lemmas copy (stands_alone c) → (is_none (first_reason p earlier fact c) ≡ true) × (proof ≡ proof_of p earlier.lemmas fact (stands_alone c))
taken_here p earlier fact copy c proof same none e = (
  ap (λ (f : Fact). is_none (first_reason p earlier f c)) (sym same) ∙ ap is_none none,
  e ∙ ap (λ (f : Fact). proof_of p earlier.lemmas f (stands_alone c)) same,
)

pub refused_here : (p : VersionedProgram) (earlier : Earlier) (fact copy : Fact) (c : Cert) (r : Reason) → copy ≡ fact → first_reason p earlier copy c ≡ Some r → is_none (first_reason p earlier fact c) ≡ false
refused_here p earlier fact copy c r same e = ap (λ (f : Fact). is_none (first_reason p earlier f c)) (sym same) ∙ ap is_none e

pub none_where : (o : Option Reason) → is_none o ≡ true → o ≡ None
none_where None e = refl
none_where (Some r) e = absurd (cc)

-- the lemmas that a fact in order cites are of the list, and among those that a proof keeps
same_number : (cites_it : (n : ℕ) → Bool) (a n : ℕ) (b : Bool) → nat_eq a n ≡ b → cites_it a ≡ false → cites_it n ≡ true → b ≡ false
same_number cites_it a n true q none one = absurd (clash (cites_it n) (sym (ap cites_it (eqb-true a n q)) ∙ none) one)
  where
    clash : (c : Bool) → c ≡ false → c ≡ true → ⊥
    clash c e f = cc
same_number cites_it a n false q none one = refl

kept_step : (hyps : List Hyp) (a : Numbered) (rest : List Numbered) (n : ℕ) → cites hyps n ≡ true → lemma_of (cited_lemmas hyps rest) n ≡ lemma_of rest n → (b : Bool) → cites hyps a.number ≡ b → lemma_of (if b then a ∷ cited_lemmas hyps rest else cited_lemmas hyps rest) n ≡ lemma_of (a ∷ rest) n
unfolding lemma_of
kept_step hyps a rest n one same true q = ap (λ o. if nat_eq a.number n then Some a.lemma else o) same
kept_step hyps a rest n one same false q =
    same ∙ sym (if_no (nat_eq a.number n) (Some a.lemma) (lemma_of rest n) (same_number (cites hyps) a.number n (nat_eq a.number n) refl q one))

kept : (hyps : List Hyp) (lemmas : List Numbered) (n : ℕ) → cites hyps n ≡ true → lemma_of (cited_lemmas hyps lemmas) n ≡ lemma_of lemmas n
unfolding cited_lemmas
kept hyps [] n one = refl
kept hyps (a ∷ lemmas) n one = kept_step hyps a lemmas n one (kept hyps lemmas n one) (cites hyps a.number) refl

found_here : (lines : List Line) (lemmas : List Numbered) (h : Hyp) (hyps : List Hyp) (n : ℕ) → has_hyps lines lemmas (h ∷ hyps) ≡ true → cites (h ∷ hyps) n ≡ true → (has_hyps lines lemmas hyps ≡ true → cites hyps n ≡ true → is_some (lemma_of lemmas n) ≡ true) → is_some (lemma_of lemmas n) ≡ true
found_here lines lemmas (hyp.Line k) hyps n has one later = later (and_parts (has_hyp lines lemmas (hyp.Line k)) (has_hyps lines lemmas hyps) has).1 one
found_here lines lemmas (hyp.Lemma m) hyps n has one later = at (nat_eq m n) refl one
  where
    at : (b : Bool) → nat_eq m n ≡ b → (b || cites hyps n) ≡ true → is_some (lemma_of lemmas n) ≡ true
    at true q e = ap (λ k. is_some (lemma_of lemmas k)) (sym (eqb-true m n q)) ∙ (and_parts (has_hyp lines lemmas (hyp.Lemma m)) (has_hyps lines lemmas hyps) has).0
    at false q e = later (and_parts (has_hyp lines lemmas (hyp.Lemma m)) (has_hyps lines lemmas hyps) has).1 e

found : (lines : List Line) (lemmas : List Numbered) (hyps : List Hyp) (n : ℕ) → has_hyps lines lemmas hyps ≡ true → cites hyps n ≡ true → is_some (lemma_of lemmas n) ≡ true
found lines lemmas [] n has one = absurd (cc)
found lines lemmas (h ∷ hyps) n has one = found_here lines lemmas h hyps n has one (found lines lemmas hyps n)

there : (o : Option Lemma) → is_some o ≡ true → (m : Lemma) × (o ≡ Some m)
there None e = absurd (cc)
there (Some m) e = (m, refl)

pub cites_given : (p : VersionedProgram) (lemmas : List Numbered) (fact : Fact) → InOrder p lemmas fact → CitesGiven lemmas (cited_lemmas fact.hyps lemmas) fact
cites_given p lemmas fact order n one =
    let m = there (lemma_of lemmas n) (found p.lines lemmas fact.hyps n order.hyps one) in
    record { lemma = m.0; in_given = m.1; in_cited = kept fact.hyps lemmas n one ∙ m.1 }

-- a proof of a fact that is in order for these lemmas
pub proves_one_of : (p : VersionedProgram) (lemmas : List Numbered) (fact proved : Fact) (proof : ProofContent) → InOrder p lemmas proved → CitesAllOrNone p.lines lemmas fact proved → proof ≡ proof_of p lemmas proved true → ProvesFact p lemmas fact proof
proves_one_of p lemmas fact proved proof order which e = record {
  program = ap (λ (x : ProofContent). x.program) e;
  alone = ap (λ (x : ProofContent). x.alone) e;
  proved = proved;
  shown_is = ap (λ (x : ProofContent). x.shown) e;
  which = which;
  cites = subst (λ cited. CitesGiven lemmas cited proved) (sym (ap (λ (x : ProofContent). x.cited) e)) (cites_given p lemmas proved order);
}

pub proves_own : (p : VersionedProgram) (fact : Fact) (proof : ProofContent) → InOrder p [] fact → proof ≡ proof_of p [] fact true → ProvesFact p [] fact proof
proves_own p fact proof order e = proves_one_of p [] fact fact proof order (inl refl) e

-- the same where the facts shown before are these
pub proves_begun : (p : VersionedProgram) (earlier : Earlier) (fact : Fact) (proof : ProofContent) → earlier ≡ beginning p → InOrder p [] fact → proof ≡ proof_of p earlier.lemmas fact true → ProvesFact p [] fact proof
proves_begun p earlier fact proof begins order e =
    proves_own p fact proof order (e ∙ ap (λ (x : Earlier). proof_of p x.lemmas fact true) begins)

-- the same of the kernel's answer
pub begun_proves : {E : Type 0} (p : VersionedProgram) (earlier : Earlier) (fact : Fact) (r : Result ProofContent E) → earlier ≡ beginning p → InOrder p [] fact → IfOk r (λ proof. proof ≡ proof_of p earlier.lemmas fact true) → IfOk r (λ proof. ProvesFact p [] fact proof)
begun_proves p earlier fact (Ok proof) begins order e = proves_begun p earlier fact proof begins order e
begun_proves p earlier fact (Err x) begins order e = tt

-- the tests of the certificates: a fact in order has the reasons of its certificate alone
only_certificate : (own rest : Option Reason) → own ≡ None → first_of own rest ≡ rest
only_certificate None rest e = refl
only_certificate (Some r) rest e = absurd (cc)

none_unless : (b : Bool) (r : Reason) → is_none (unless b r) ≡ b
none_unless true r = refl
none_unless false r = refl

pub bounds_tell : (p : VersionedProgram) (fact : Fact) → InOrder p [] fact → is_none (first_reason p (beginning p) fact cert.Bounds) ≡ is_bounded p fact
unfolding first_reason bounds_reason
bounds_tell p fact order =
    ap is_none (only_certificate (entry_reason p [] fact) (bounds_reason p fact) (order_entry p [] fact order))
    ∙ none_unless (is_bounded p fact) reason.Bounds

pub walk_tells : (p : VersionedProgram) (fact : Fact) → InOrder p [] fact → is_enumerated p [] fact ≡ true → first_reason p (beginning p) fact cert.Enumerated ≡ None
unfolding first_reason enumeration_reason
walk_tells p fact order taken =
    none_where (first_reason p (beginning p) fact cert.Enumerated)
    (ap is_none (only_certificate (entry_reason p [] fact) (enumeration_reason p [] fact) (order_entry p [] fact order))
    ∙ none_unless (is_enumerated p [] fact) reason.Enum ∙ taken)

-- the same of the facts shown before
pub begun_tells : (p : VersionedProgram) (earlier : Earlier) (fact : Fact) (c : Cert) → earlier ≡ beginning p → first_reason p (beginning p) fact c ≡ None → first_reason p earlier fact c ≡ None
begun_tells p earlier fact c begins none = ap (λ (x : Earlier). first_reason p x fact c) begins ∙ none

pub log_tells : (p : VersionedProgram) (earlier : Earlier) (fact : Fact) (lines : List (List ℕ)) → IsWellFormed p → InOrder p earlier.lemmas fact → is_algebraic_claim p.lines fact.claim ≡ false → length (clauses_of p earlier.lemmas fact) ≤ clause_limit → log_answer (clauses_of p earlier.lemmas fact) lines ≡ Refutes → first_reason p earlier fact (cert.Log lines) ≡ None
log_tells p earlier fact lines w order range few refutes =
    (reasons_exact p earlier fact (cert.Log lines) w).1
    (record { order = order; certificate = record { range = range; few = few; refutes = (answer_refutes (clauses_of p earlier.lemmas fact) lines (log_answer (clauses_of p earlier.lemmas fact) lines) refl).0 refutes } })

pub cofactors_tell : (p : VersionedProgram) (fact : Fact) (lines : List CofactorLine) → IsWellFormed p → InOrder p [] fact → CofactorCheck p [] fact lines → first_reason p (beginning p) fact (cert.Cofactors lines) ≡ None
cofactors_tell p fact lines w order checks =
    (reasons_exact p (beginning p) fact (cert.Cofactors lines) w).1 (record { order = order; certificate = checks })

-- the answer on the certificate by intervals, before which nothing was shown
pub none_bounded : (p : VersionedProgram) (earlier : Earlier) (fact : Fact) (content : ProofContent) (o : Option ProofContent) → earlier ≡ beginning p → InOrder p [] fact → IsTaken (first_reason p earlier fact cert.Bounds) content o → o ≡ None → is_bounded p fact ≡ false
none_bounded p earlier fact content None begins order taken is =
    sym (bounds_tell p fact order) ∙ sym (ap (λ (x : Earlier). is_none (first_reason p x fact cert.Bounds)) begins) ∙ taken
none_bounded p earlier fact content (Some proof) begins order taken is = absurd (cc)

pub some_bounded : (p : VersionedProgram) (earlier : Earlier) (fact : Fact) (content : ProofContent) (o : Option ProofContent) (proof : ProofContent) → earlier ≡ beginning p → InOrder p [] fact → IsTaken (first_reason p earlier fact cert.Bounds) content o → o ≡ Some proof → is_bounded p fact ≡ true
some_bounded p earlier fact content None proof begins order taken is = absurd (cc)
some_bounded p earlier fact content (Some own) proof begins order taken is =
    sym (bounds_tell p fact order) ∙ sym (ap (λ (x : Earlier). is_none (first_reason p x fact cert.Bounds)) begins) ∙ taken.0

pub some_proves : (p : VersionedProgram) (earlier : Earlier) (fact : Fact) (reason : Option Reason) (o : Option ProofContent) (proof : ProofContent) → earlier ≡ beginning p → InOrder p [] fact → IsTaken reason (proof_of p earlier.lemmas fact true) o → o ≡ Some proof → ProvesFact p [] fact proof
some_proves p earlier fact reason None proof begins order taken is = absurd (cc)
some_proves p earlier fact reason (Some own) proof begins order taken is =
    let same : proof ≡ own = cc in proves_begun p earlier fact proof begins order (same ∙ taken.1)
