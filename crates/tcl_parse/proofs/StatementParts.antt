-- The names, operands and amount of an instruction, one after the other.
use Rattle.std.proofs.Common.{◌≡◌, ℕ, zero, suc, true, false, List, [], ◌∷◌, ◌++◌, sym, ◌∙◌, ap, subst, append_assoc, append-nil}
use Rattle.std.specs.Prelude.{ℤ}
use Rattle.tcl_lang.specs.declared.ty.Ty.{Ty}
use Rattle.tcl_lang.specs.declared.instr.Atom.{Atom}
use Rattle.tcl_lang.specs.declared.instr.Op.{Op}
use Rattle.tcl_lang.specs.Instruction.{result_count, operand_count}
use Rattle.tcl_lang.specs.Shape.{has_amount}
use Rattle.tcl_text.specs.declared.token.Token.{Token}
use Rattle.tcl_text.specs.declared.token.Token.TheVariants.{Name, Number}
use Rattle.tcl_text.specs.Grammar.{Operand, capped}
use Rattle.tcl_text.specs.Statements as grammar
use Rattle.tcl_text.proofs.Uniqueness.{one_operand}
use Rattle.tcl_text.proofs.OneStatement.{one_names, one_operands}
use Rattle.tcl_parse.specs.StatementReaders.{NoNames, NoOperands, NoAmount, NoForm}

-- some names have been read, and these tokens, where so many are left to read, decide the rest
pub record NamesGo (k : ℕ) (ts : List Token) (done : List ℕ) (left : ℕ) (rest : List Token) : Type 0 where
  pub forth : (xs : List ℕ) (us : List Token) → grammar.Names left rest xs us → grammar.Names k ts (done ++ xs) us
  pub none : NoNames left rest → NoNames k ts

pub names_go_on : {k : ℕ} {ts : List Token} {done : List ℕ} {left : ℕ} {rest : List Token} (x less : ℕ) (us : List Token) →
    NamesGo k ts done left rest → left ≡ suc less → rest ≡ Name x ∷ us → NamesGo k ts (done ++ x ∷ []) less us
names_go_on {k = k} {ts = ts} {done = done} {left = left} x less us g l e =
    let all : NamesGo k ts done (suc less) (Name x ∷ us) =
    subst (λ n. NamesGo k ts done n (Name x ∷ us)) l (subst (λ r. NamesGo k ts done left r) e g) in
    let forth : (xs : List ℕ) (vs : List Token) → grammar.Names less us xs vs → grammar.Names k ts ((done ++ x ∷ []) ++ xs) vs =
    λ xs vs p. subst (λ ys. grammar.Names k ts ys vs) (sym (append_assoc done (x ∷ []) xs)) (all.forth (x ∷ xs) vs (grammar.one_name p)) in
    let none : NoNames less us → NoNames k ts = λ h. all.none (λ xs vs p. no_more h p) in
    record { forth = forth; none = none }
  where
    no_more : {n x : ℕ} {us vs : List Token} {xs : List ℕ} → NoNames n us → grammar.Names (suc n) (Name x ∷ us) xs vs → ⊥
    no_more h (grammar.one_name p) = h _ _ p

pub names_end : {k : ℕ} {ts : List Token} {done : List ℕ} {left : ℕ} {rest : List Token} →
    NamesGo k ts done left rest → left ≡ 0 → grammar.Names k ts done rest
names_end {k = k} {ts = ts} {done = done} {left = zero} {rest = rest} g e =
    subst (λ ys. grammar.Names k ts ys rest) (append-nil done) (g.forth [] rest grammar.no_name)
names_end {left = suc n} g e = absurd cc

-- the same of operands
pub record OperandsGo (k : ℕ) (ts : List Token) (done : List Atom) (left : ℕ) (rest : List Token) : Type 0 where
  pub forth : (xs : List Atom) (us : List Token) → grammar.Operands left rest xs us → grammar.Operands k ts (done ++ xs) us
  pub none : NoOperands left rest → NoOperands k ts

pub operands_go_on : {k : ℕ} {ts : List Token} {done : List Atom} {left : ℕ} {rest : List Token} (a : Atom) (less : ℕ) (us : List Token) →
    OperandsGo k ts done left rest → left ≡ suc less → Operand rest a us → OperandsGo k ts (done ++ a ∷ []) less us
operands_go_on {k = k} {ts = ts} {done = done} {rest = rest} a less us g l o =
    let all : OperandsGo k ts done (suc less) rest = subst (λ n. OperandsGo k ts done n rest) l g in
    let forth : (xs : List Atom) (vs : List Token) → grammar.Operands less us xs vs → grammar.Operands k ts ((done ++ a ∷ []) ++ xs) vs =
    λ xs vs p. subst (λ ys. grammar.Operands k ts ys vs) (sym (append_assoc done (a ∷ []) xs))
    (all.forth (a ∷ xs) vs (grammar.one_operand o p)) in
    let none : NoOperands less us → NoOperands k ts = λ h. all.none (λ xs vs p. no_more h o p) in
    record { forth = forth; none = none }
  where
    no_more : {n : ℕ} {ts us vs : List Token} {a : Atom} {xs : List Atom} →
        NoOperands n us → Operand ts a us → grammar.Operands (suc n) ts xs vs → ⊥
    no_more {n = n} {vs = vs} h o (grammar.one_operand {atoms = others} q p) =
        h others vs (subst (λ r. grammar.Operands n r others vs) (sym (one_operand o q).1) p)

pub operands_end : {k : ℕ} {ts : List Token} {done : List Atom} {left : ℕ} {rest : List Token} →
    OperandsGo k ts done left rest → left ≡ 0 → grammar.Operands k ts done rest
operands_end {k = k} {ts = ts} {done = done} {left = zero} {rest = rest} g e =
    subst (λ ys. grammar.Operands k ts ys rest) (append-nil done) (g.forth [] rest grammar.no_operand)
operands_end {left = suc n} g e = absurd cc

-- an amount
pub an_amount : {ts us : List Token} {n : ℤ} → ts ≡ Number n ∷ us → us ≡ [] → grammar.Amount true ts (capped n)
an_amount {n = n} e d = subst (λ x. grammar.Amount true x (capped n)) (sym (e ∙ ap (λ x. Number n ∷ x) d)) grammar.some_amount

pub nothing_more : {ts : List Token} → ts ≡ [] → grammar.Amount false ts 0
nothing_more e = subst (λ x. grammar.Amount false x 0) (sym e) grammar.no_amount

-- an instruction without one of its parts
pub no_args : {op : Op} {T : Ty} {ts us : List Token} {xs : List ℕ} →
    grammar.Names (result_count op) ts xs us → NoOperands (operand_count op) us → NoForm op T ts
no_args {op = op} p h i (grammar.form {vs = vs} {args = args} p' q r) =
    h args vs (subst (λ x. grammar.Operands (operand_count op) x args vs) (sym (one_names p p').1) q)

pub wrong_amount : {op : Op} {T : Ty} {ts us vs : List Token} {xs : List ℕ} {atoms : List Atom} →
    grammar.Names (result_count op) ts xs us → grammar.Operands (operand_count op) us atoms vs →
    NoAmount (has_amount op) vs → NoForm op T ts
wrong_amount {op = op} p q h i (grammar.form {vs = vs} {args = args} {n = n} p' q' r) =
    let d = one_operands q (subst (λ x. grammar.Operands (operand_count op) x args vs) (sym (one_names p p').1) q') in
    h n (subst (λ x. grammar.Amount (has_amount op) x n) (sym d.1) r)
