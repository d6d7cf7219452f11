-- A line of the grammar that keeps the limit on exponents has the shape of a line of a program.
use Rattle.std.proofs.Common.{◌≡◌, ℕ, suc, Bool, true, false, ◌&&◌, List, [], ◌∷◌, length, refl, ap, arith}
use Rattle.std.proofs.lemmas.Bool.Decides.{nat_tests}
use Rattle.std.specs.Prelude.{◌==◌, not, Some}
use Rattle.std.specs.List.{list_all}
use Rattle.tcl_lang.specs.declared.ty.Ty.{Ty}
use Rattle.tcl_lang.specs.declared.instr.Atom.{Atom}
use Rattle.tcl_lang.specs.declared.instr.Op.{Op}
use Rattle.tcl_lang.specs.declared.instr.Op.TheVariants as op
use Rattle.tcl_lang.specs.declared.instr.Instr.{Instr}
use Rattle.tcl_lang.specs.declared.term.Part.{Part}
use Rattle.tcl_lang.specs.declared.pred.Pred.{Pred}
use Rattle.tcl_lang.specs.declared.pred.Line.{Line}
use Rattle.tcl_lang.specs.Types.{is_ty}
use Rattle.tcl_lang.specs.Shape.{is_number, is_exponent, is_part, is_parts, is_predicate, is_atom, is_amount, has_amount, is_instruction, is_line}
use Rattle.tcl_text.specs.declared.symbol.Symbol.TheVariants.{StarStar, Plus, Minus, Equal}
use Rattle.tcl_text.specs.declared.token.Keyword.TheVariants as keyword
use Rattle.tcl_text.specs.declared.token.Token.{Token}
use Rattle.tcl_text.specs.declared.token.Token.TheVariants.{Name, Number, Kind, Instruction, Reserved, Sign}
use Rattle.tcl_text.specs.declared.token.Statement.TheVariants.{Program}
use Rattle.tcl_text.specs.Scan.{is_low, is_low_modulus, is_low_predicate, is_low_statement}
use Rattle.tcl_text.specs.Statements as grammar
use Rattle.tcl_text.proofs.Shapes.{Fit, fit_rest, fit_first, both, both_left, both_right, chain_shape, operand_shape}

part_shape : {sign : Bool} {ts us : List Token} {p : Part} →
    grammar.OnePart sign ts p us → Fit ts → (is_number p.base ≡ true) × Fit us
part_shape (grammar.base {n = n} {us = us}) f = (fit_first (Number n) us f, fit_rest (Number n) us f)
part_shape (grammar.powered {n = n} {k = k} {us = us}) f = (
  fit_first (Number n) (Sign StarStar ∷ Number k ∷ us) f,
  fit_rest (Number k) us (fit_rest (Sign StarStar) (Number k ∷ us) (fit_rest (Number n) (Sign StarStar ∷ Number k ∷ us) f)),
)

one_shape : (p : Part) (ps : List Part) → is_number p.base ≡ true →
    (list_all (λ q. is_exponent q.power) ps ≡ true → list_all is_part ps ≡ true) →
    list_all (λ q. is_exponent q.power) (p ∷ ps) ≡ true → list_all is_part (p ∷ ps) ≡ true
one_shape p ps n rest low =
    both (both n (both_left (is_exponent p.power) (list_all (λ q. is_exponent q.power) ps) low))
    (rest (both_right (is_exponent p.power) (list_all (λ q. is_exponent q.power) ps) low))

more_parts_shape : {ts : List Token} {ps : List Part} → grammar.MoreParts ts ps → Fit ts →
    list_all (λ q. is_exponent q.power) ps ≡ true → list_all is_part ps ≡ true
more_parts_shape grammar.none f = λ low. refl
more_parts_shape (grammar.plus {ts = ts} {p = p} {ps = ps} q m) f =
    let r = part_shape q (fit_rest (Sign Plus) ts f) in one_shape p ps r.0 (more_parts_shape m r.1)
more_parts_shape (grammar.minus {ts = ts} {p = p} {ps = ps} q m) f =
    let r = part_shape q (fit_rest (Sign Minus) ts f) in one_shape p ps r.0 (more_parts_shape m r.1)

no_sign : {ts us : List Token} {p : Part} → grammar.OnePart false ts p us → not p.minus ≡ true
no_sign grammar.base = refl
no_sign grammar.powered = refl

modulus_shape : {ts : List Token} {ps : List Part} → grammar.Modulus ts ps → Fit ts →
    list_all (λ q. is_exponent q.power) ps ≡ true → is_parts (Some ps) ≡ true
modulus_shape (grammar.parts {p = p} {ps = ps} q m) f =
    λ low. let r = part_shape q f in both (no_sign q) (one_shape p ps r.0 (more_parts_shape m r.1) low)

three : (a b c : Bool) → (a && b && c) ≡ true → (a ≡ true) × (b ≡ true) × (c ≡ true)
three a b c e = (both_left a b (both_left (a && b) c e), both_right a b (both_left (a && b) c e), both_right (a && b) c e)

pub predicate_shape : {ts : List Token} {p : Pred} → grammar.Predicate ts p → Fit ts → is_low_predicate p ≡ true → is_predicate p ≡ true
predicate_shape (grammar.range {ts = ts} c) f low = (chain_shape c (fit_rest (Reserved keyword.Rng) ts f)).0
predicate_shape (grammar.equation {ts = ts} {us = us} {f = t} {g = u} c d) f low =
    let l = three (is_low t) (is_low u) true low in
    let r = chain_shape c (fit_rest (Reserved keyword.Alg) ts f) in
    let q = chain_shape d (fit_rest (Sign Equal) us r.1) in
    both (both (r.0 l.0) (q.0 l.1)) refl
predicate_shape (grammar.congruence {ts = ts} {us = us} {vs = vs} {f = t} {g = u} {m = m} c d w) f low =
    let l = three (is_low t) (is_low u) (is_low_modulus (Some m)) low in
    let r = chain_shape c (fit_rest (Reserved keyword.Alg) ts f) in
    let q = chain_shape d (fit_rest (Sign Equal) us r.1) in
    both (both (r.0 l.0) (q.0 l.1)) (modulus_shape w (fit_rest (Reserved keyword.Mod) vs q.1) l.2)

same_count : (n k : ℕ) → n ≡ k → (n == k) ≡ true
same_count n k e = grind (arith, nat_tests)

names_shape : {k : ℕ} {ts us : List Token} {xs : List ℕ} → grammar.Names k ts xs us → Fit ts → (length xs ≡ k) × Fit us
names_shape grammar.no_name f = (refl, f)
names_shape (grammar.one_name {x = x} {ts = ts} p) f = let r = names_shape p (fit_rest (Name x) ts f) in (ap (λ n. suc n) r.0, r.1)

operands_shape : {k : ℕ} {ts us : List Token} {xs : List Atom} → grammar.Operands k ts xs us → Fit ts →
    (length xs ≡ k) × (list_all is_atom xs ≡ true) × Fit us
operands_shape grammar.no_operand f = (refl, refl, f)
operands_shape (grammar.one_operand o p) f =
    let q = operand_shape o f in
    let r = operands_shape p q.1 in
    (ap (λ n. suc n) r.0, both q.0 r.1, r.2)

amount_shape : (o : Op) {ts : List Token} {n : ℕ} → grammar.Amount (has_amount o) ts n → is_amount o n ≡ true
amount_shape op.Shl r = refl
amount_shape op.Split r = refl
amount_shape op.Mov grammar.no_amount = refl
amount_shape op.Add grammar.no_amount = refl
amount_shape op.Adds grammar.no_amount = refl
amount_shape op.Adc grammar.no_amount = refl
amount_shape op.Adcs grammar.no_amount = refl
amount_shape op.Sub grammar.no_amount = refl
amount_shape op.Subb grammar.no_amount = refl
amount_shape op.Sbb grammar.no_amount = refl
amount_shape op.Sbbs grammar.no_amount = refl
amount_shape op.Mul grammar.no_amount = refl
amount_shape op.Mull grammar.no_amount = refl
amount_shape op.Mulj grammar.no_amount = refl
amount_shape op.Join grammar.no_amount = refl
amount_shape op.Cast grammar.no_amount = refl
amount_shape op.Vpc grammar.no_amount = refl
amount_shape op.Cmov grammar.no_amount = refl
amount_shape op.And grammar.no_amount = refl
amount_shape op.Or grammar.no_amount = refl
amount_shape op.Xor grammar.no_amount = refl
amount_shape op.Not grammar.no_amount = refl
amount_shape op.Nondet grammar.no_amount = refl

form_shape : {op : Op} {T : Ty} {ts : List Token} {i : Instr} → grammar.Form op T ts i → is_ty T ≡ true → Fit ts → is_instruction i ≡ true
form_shape {op = o} (grammar.form {outs = outs} {args = args} p q r) t f =
    let a = names_shape p f in
    let b = operands_shape q a.1 in
    both (both (both (both t (same_count _ _ a.0)) (same_count _ _ b.0)) b.1) (amount_shape o r)

pub statement_shape : {ts : List Token} {l : Line} → grammar.IsStatement ts (Program l) → Fit ts → is_low_statement (Program l) ≡ true → is_line l ≡ true
statement_shape (grammar.input {T = T} {x = x}) f low = fit_first (Kind T) (Name x ∷ []) (fit_rest (Reserved keyword.In) (Kind T ∷ Name x ∷ []) f)
statement_shape (grammar.pre {ts = ts} p) f low = predicate_shape p (fit_rest (Reserved keyword.Pre) ts f) low
statement_shape (grammar.step {op = op} {T = T} {ts = ts} p) f low =
    let g = fit_rest (Instruction op) (Kind T ∷ ts) f in form_shape p (fit_first (Kind T) ts g) (fit_rest (Kind T) ts g)
statement_shape (grammar.assert {ts = ts} p) f low = predicate_shape p (fit_rest (Reserved keyword.Assert) ts f) low
statement_shape (grammar.assume {ts = ts} p) f low = predicate_shape p (fit_rest (Reserved keyword.Assume) ts f) low
statement_shape (grammar.cut {ts = ts} p) f low = predicate_shape p (fit_rest (Reserved keyword.Cut) ts f) low
statement_shape (grammar.post {ts = ts} p) f low = predicate_shape p (fit_rest (Reserved keyword.Post) ts f) low
