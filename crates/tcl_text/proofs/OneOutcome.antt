-- A line has one verdict, and a text one outcome.
use Rattle.std.proofs.Common.{◌≡◌, ℕ, Bool, true, false, List, [], ◌∷◌, refl, sym, ◌∙◌, ap, subst, arith}
use Rattle.std.proofs.lemmas.Bool.Decides.{nat_tests}
use Rattle.std.specs.Prelude.{Option, Some, None, Result, Ok, Err, nat_lt}
use Rattle.tcl_lang.specs.Program.{ReadProgram}
use Rattle.tcl_text.specs.declared.fault.LineFault.{LineFault}
use Rattle.tcl_text.specs.declared.fault.TextFault.{TextFault}
use Rattle.tcl_text.specs.declared.fault.TextFault.TheVariants as text_fault
use Rattle.tcl_text.specs.declared.token.Raw.{Raw}
use Rattle.tcl_text.specs.declared.token.Token.{Token}
use Rattle.tcl_text.specs.declared.token.Statement.{Statement}
use Rattle.tcl_text.specs.Numbering.{tokens_of, names_after}
use Rattle.tcl_text.specs.Scan.{is_low_statement}
use Rattle.tcl_text.specs.Verdict as verdict
use Rattle.tcl_text.specs.Reading as reading
use Rattle.tcl_text.proofs.Uniqueness.{some_is}
use Rattle.tcl_text.proofs.OneStatement.{one_statement}

clash : {P : Type 0} {b : Bool} → b ≡ true → b ≡ false → P
clash p q = absurd cc

same_low : {s t : Statement} → s ≡ t → is_low_statement t ≡ true → is_low_statement s ≡ true
same_low e h = ap is_low_statement e ∙ h

pub one_verdict : {ts : List Token} {a b : Result Statement LineFault} → verdict.Judged ts a → verdict.Judged ts b → a ≡ b
one_verdict (verdict.too_deep d) (verdict.too_deep d') = refl
one_verdict (verdict.too_deep d) (verdict.too_many d' m') = clash d d'
one_verdict (verdict.too_deep d) (verdict.no_line d' m' n') = clash d d'
one_verdict (verdict.too_deep d) (verdict.too_high d' m' s' h') = clash d d'
one_verdict (verdict.too_deep d) (verdict.good d' m' s' h') = clash d d'
one_verdict (verdict.too_many d m) (verdict.too_deep d') = clash d' d
one_verdict (verdict.too_many d m) (verdict.too_many d' m') = refl
one_verdict (verdict.too_many d m) (verdict.no_line d' m' n') = clash m m'
one_verdict (verdict.too_many d m) (verdict.too_high d' m' s' h') = clash m m'
one_verdict (verdict.too_many d m) (verdict.good d' m' s' h') = clash m m'
one_verdict (verdict.no_line d m n) (verdict.too_deep d') = clash d' d
one_verdict (verdict.no_line d m n) (verdict.too_many d' m') = clash m' m
one_verdict (verdict.no_line d m n) (verdict.no_line d' m' n') = refl
one_verdict (verdict.no_line d m n) (verdict.too_high d' m' s' h') = absurd (n _ s')
one_verdict (verdict.no_line d m n) (verdict.good d' m' s' h') = absurd (n _ s')
one_verdict (verdict.too_high d m s h) (verdict.too_deep d') = clash d' d
one_verdict (verdict.too_high d m s h) (verdict.too_many d' m') = clash m' m
one_verdict (verdict.too_high d m s h) (verdict.no_line d' m' n') = absurd (n' _ s)
one_verdict (verdict.too_high d m s h) (verdict.too_high d' m' s' h') = refl
one_verdict (verdict.too_high d m s h) (verdict.good d' m' s' h') = clash (same_low (one_statement s s') h') h
one_verdict (verdict.good d m s h) (verdict.too_deep d') = clash d' d
one_verdict (verdict.good d m s h) (verdict.too_many d' m') = clash m' m
one_verdict (verdict.good d m s h) (verdict.no_line d' m' n') = absurd (n' _ s)
one_verdict (verdict.good d m s h) (verdict.too_high d' m' s' h') = clash (same_low (sym (one_statement s s')) h) h'
one_verdict (verdict.good d m s h) (verdict.good d' m' s' h') = ap (λ x. Ok x) (one_statement s s')

-- two verdicts on one line
both : (names : List (List ℕ)) {cut : Option (List Raw)} {raws raws' : List Raw} {a b : Result Statement LineFault} →
    cut ≡ Some raws → cut ≡ Some raws' →
    verdict.Judged (tokens_of names raws) a → verdict.Judged (tokens_of names raws') b → a ≡ b
both names {b = b} e d p q =
    one_verdict p (subst (λ rs. verdict.Judged (tokens_of names rs) b) (some_is d e) q)

none_some : {cut : Option (List Raw)} {raws : List Raw} {P : Type 0} → cut ≡ None → cut ≡ Some raws → P
none_some e d = absurd cc

empty_some : {cut : Option (List Raw)} {raw : Raw} {raws : List Raw} {P : Type 0} →
    cut ≡ Some [] → cut ≡ Some (raw ∷ raws) → P
empty_some e d = absurd cc

abbrev Answer : Type 0
Answer = Result Statement LineFault

ok_err : {l : Statement} {f : LineFault} {P : Type 0} → (let x : Answer = Ok l in let y : Answer = Err f in x ≡ y) → P
ok_err e = absurd cc

ok_is : {l l' : Statement} → (let x : Answer = Ok l in let y : Answer = Ok l' in x ≡ y) → l ≡ l'
ok_is e = cc

err_is : {f f' : LineFault} → (let x : Answer = Err f in let y : Answer = Err f' in x ≡ y) → f ≡ f'
err_is e = cc

not_four : {n : ℕ} {P : Type 0} → n ≡ 4 → nat_lt n 4 ≡ true → P
not_four e h = absurd (grind (arith, nat_tests))

pub one_outcome : {s : reading.Progress} {lines : List (List ℕ)} {a b : Result ReadProgram TextFault} →
    reading.ReadsOn s lines a → reading.ReadsOn s lines b → a ≡ b
one_outcome (reading.ended e) (reading.ended e') = refl
one_outcome (reading.ended e) (reading.not_ended e') = not_four e e'
one_outcome (reading.not_ended e) (reading.ended e') = not_four e' e
one_outcome (reading.not_ended e) (reading.not_ended e') = refl
one_outcome (reading.blank e r) (reading.blank e' r') = one_outcome r r'
one_outcome (reading.blank e r) (reading.not_allowed e') = none_some e' e
one_outcome (reading.blank e r) (reading.faulty e' j') = empty_some e e'
one_outcome (reading.blank e r) (reading.misplaced e' j' m') = empty_some e e'
one_outcome (reading.blank e r) (reading.placed e' j' m' r') = empty_some e e'
one_outcome (reading.not_allowed e) (reading.blank e' r') = none_some e e'
one_outcome (reading.not_allowed e) (reading.not_allowed e') = refl
one_outcome (reading.not_allowed e) (reading.faulty e' j') = none_some e e'
one_outcome (reading.not_allowed e) (reading.misplaced e' j' m') = none_some e e'
one_outcome (reading.not_allowed e) (reading.placed e' j' m' r') = none_some e e'
one_outcome {s = s} (reading.faulty e j) (reading.blank e' r') = empty_some e' e
one_outcome {s = s} (reading.faulty e j) (reading.not_allowed e') = none_some e' e
one_outcome {s = s} (reading.faulty e j) (reading.faulty e' j') =
    ap (λ x. Err (text_fault.Line s.number x)) (err_is (both s.names e e' j j'))
one_outcome {s = s} (reading.faulty e j) (reading.misplaced e' j' m') = ok_err (sym (both s.names e e' j j'))
one_outcome {s = s} (reading.faulty e j) (reading.placed e' j' m' r') = ok_err (sym (both s.names e e' j j'))
one_outcome {s = s} (reading.misplaced e j m) (reading.blank e' r') = empty_some e' e
one_outcome {s = s} (reading.misplaced e j m) (reading.not_allowed e') = none_some e' e
one_outcome {s = s} (reading.misplaced e j m) (reading.faulty e' j') = ok_err (both s.names e e' j j')
one_outcome {s = s} (reading.misplaced e j m) (reading.misplaced e' j' m') = refl
one_outcome {s = s} (reading.misplaced e j m) (reading.placed e' j' m' r') =
    clash m' (ap (λ l. reading.may_follow s.stage l) (sym (ok_is (both s.names e e' j j'))) ∙ m)
one_outcome {s = s} (reading.placed e j m r) (reading.blank e' r') = empty_some e' e
one_outcome {s = s} (reading.placed e j m r) (reading.not_allowed e') = none_some e' e
one_outcome {s = s} (reading.placed e j m r) (reading.faulty e' j') = ok_err (both s.names e e' j j')
one_outcome {s = s} (reading.placed e j m r) (reading.misplaced e' j' m') =
    clash m (ap (λ l. reading.may_follow s.stage l) (ok_is (both s.names e e' j j')) ∙ m')
one_outcome {s = s} {b = b} (reading.placed {lines = lines} {raw = raw} {raws = raws} {l = l} e j m r) (reading.placed {raw = raw'} {raws = raws'} {l = l'} e' j' m' r') =
    let d = ok_is (both s.names e e' j j') in
    let f : raw ∷ raws ≡ raw' ∷ raws' = some_is e e' in
    one_outcome r
    (subst (λ x. reading.ReadsOn (reading.continued s (names_after s.names (raw ∷ raws)) x) lines b) (sym d)
    (subst (λ rs. reading.ReadsOn (reading.continued s (names_after s.names rs) l') lines b) (sym f) r'))

abbrev Text : Type 0
Text = Result ReadProgram TextFault

pub ok_program : {p q : ReadProgram} → (let x : Text = Ok p in let y : Text = Ok q in x ≡ y) → p ≡ q
ok_program e = cc

pub err_fault : {f g : TextFault} → (let x : Text = Err f in let y : Text = Err g in x ≡ y) → f ≡ g
err_fault e = cc

pub apart : {p : ReadProgram} {f : TextFault} → (let x : Text = Ok p in let y : Text = Err f in x ≡ y) → ⊥
apart e = cc
