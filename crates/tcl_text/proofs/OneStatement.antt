-- A line of tokens is at most one statement.
use Rattle.std.proofs.Common.{◌≡◌, ℕ, ◌<◌, Bool, List, [], ◌∷◌, refl, sym, ◌∙◌, ap, subst, arith}
use Rattle.std.specs.Prelude.{Option, Some}
use Rattle.tcl_lang.specs.declared.ty.Ty.{Ty}
use Rattle.tcl_lang.specs.declared.instr.Atom.{Atom}
use Rattle.tcl_lang.specs.declared.instr.Op.{Op}
use Rattle.tcl_lang.specs.declared.instr.Instr.{Instr}
use Rattle.tcl_lang.specs.declared.term.Term.{Term}
use Rattle.tcl_lang.specs.declared.term.Part.{Part}
use Rattle.tcl_lang.specs.declared.pred.Pred.{Pred}
use Rattle.tcl_lang.specs.declared.pred.Pred.TheVariants.{Alg, Rng}
use Rattle.tcl_lang.specs.declared.pred.Line.TheVariants as line
use Rattle.tcl_text.specs.declared.token.Token.{Token}
use Rattle.tcl_text.specs.declared.token.Statement.{Statement}
use Rattle.tcl_text.specs.declared.token.Statement.TheVariants.{Program}
use Rattle.tcl_text.specs.Trees.{alg, next_height}
use Rattle.tcl_text.specs.Grammar.{Chain}
use Rattle.tcl_text.specs.Statements as grammar
use Rattle.tcl_text.proofs.Uniqueness.{one_chain, one_operand, tail_is}

-- no part of a modulus begins with `**`
pub parts_end : {ts : List Token} {ps : List Part} → grammar.MoreParts ts ps → 0 < next_height alg ts
parts_end grammar.none = omega arith
parts_end (grammar.plus p m) = omega arith
parts_end (grammar.minus p m) = omega arith

pub one_part : {sign : Bool} {ts us vs : List Token} {p q : Part} →
    grammar.OnePart sign ts p us → 0 < next_height alg us → grammar.OnePart sign ts q vs → 0 < next_height alg vs →
    (p ≡ q) × (us ≡ vs)
one_part grammar.base h grammar.base k = (refl, refl)
one_part grammar.base h grammar.powered k = absurd (omega arith)
one_part grammar.powered h grammar.base k = absurd (omega arith)
one_part grammar.powered h grammar.powered k = (refl, refl)

moved_parts : {ts us : List Token} {ps : List Part} → ts ≡ us → grammar.MoreParts us ps → grammar.MoreParts ts ps
moved_parts {ps = ps} e m = subst (λ x. grammar.MoreParts x ps) (sym e) m

pub one_more_parts : {ts : List Token} {ps qs : List Part} → grammar.MoreParts ts ps → grammar.MoreParts ts qs → ps ≡ qs
one_more_parts grammar.none grammar.none = refl
one_more_parts (grammar.plus {p = p} f m) (grammar.plus {ps = qs} g w) =
    let e = one_part f (parts_end m) g (parts_end w) in
    ap (λ x. p ∷ x) (one_more_parts m (moved_parts e.1 w)) ∙ ap (λ x. x ∷ qs) e.0
one_more_parts (grammar.minus {p = p} f m) (grammar.minus {ps = qs} g w) =
    let e = one_part f (parts_end m) g (parts_end w) in
    ap (λ x. p ∷ x) (one_more_parts m (moved_parts e.1 w)) ∙ ap (λ x. x ∷ qs) e.0

pub one_modulus : {ts : List Token} {m m' : List Part} → grammar.Modulus ts m → grammar.Modulus ts m' → m ≡ m'
one_modulus (grammar.parts {p = p} f m) (grammar.parts {ps = qs} g w) =
    let e = one_part f (parts_end m) g (parts_end w) in
    ap (λ x. p ∷ x) (one_more_parts m (moved_parts e.1 w)) ∙ ap (λ x. x ∷ qs) e.0

moved : {ts us vs : List Token} {t : Term} → ts ≡ us → Chain alg 2 us t vs → Chain alg 2 ts t vs
moved {vs = vs} {t = t} e p = subst (λ x. Chain alg 2 x t vs) (sym e) p

moved_modulus : {ts us : List Token} {m : List Part} → ts ≡ us → grammar.Modulus us m → grammar.Modulus ts m
moved_modulus {m = m} e p = subst (λ x. grammar.Modulus x m) (sym e) p

same_alg : {f f' g g' : Term} {m m' : Option (List Part)} → f ≡ f' → g ≡ g' → m ≡ m' →
    Alg (record { left = f; right = g; modulus = m }) ≡ Alg (record { left = f'; right = g'; modulus = m' })
same_alg {f' = f'} {g = g} {g' = g'} {m = m} p q r =
    ap (λ x. Alg (record { left = x; right = g; modulus = m })) p
    ∙ (ap (λ x. Alg (record { left = f'; right = x; modulus = m })) q
    ∙ ap (λ x. Alg (record { left = f'; right = g'; modulus = x })) r)

no_end : {token : Token} {ts : List Token} → [] ≡ token ∷ ts → ⊥
no_end e = cc

pub one_predicate : {ts : List Token} {p q : Pred} → grammar.Predicate ts p → grammar.Predicate ts q → p ≡ q
one_predicate (grammar.range p) (grammar.range q) =
    let e = one_chain p (omega arith) q (omega arith) in ap Rng e.tree
one_predicate (grammar.equation f g) (grammar.equation f' g') =
    let e = one_chain f (omega arith) f' (omega arith) in
    let d = one_chain g (omega arith) (moved (tail_is e.rest) g') (omega arith) in
    same_alg e.tree d.tree refl
one_predicate (grammar.equation f g) (grammar.congruence f' g' m) =
    let e = one_chain f (omega arith) f' (omega arith) in
    let d = one_chain g (omega arith) (moved (tail_is e.rest) g') (omega arith) in
    absurd (no_end d.rest)
one_predicate (grammar.congruence f g m) (grammar.equation f' g') =
    let e = one_chain f (omega arith) f' (omega arith) in
    let d = one_chain g (omega arith) (moved (tail_is e.rest) g') (omega arith) in
    absurd (no_end (sym d.rest))
one_predicate (grammar.congruence f g m) (grammar.congruence f' g' m') =
    let e = one_chain f (omega arith) f' (omega arith) in
    let d = one_chain g (omega arith) (moved (tail_is e.rest) g') (omega arith) in
    same_alg e.tree d.tree (ap (λ x. Some x) (one_modulus m (moved_modulus (tail_is d.rest) m')))

pub one_names : {k : ℕ} {ts us us' : List Token} {xs ys : List ℕ} →
    grammar.Names k ts xs us → grammar.Names k ts ys us' → (xs ≡ ys) × (us ≡ us')
one_names grammar.no_name grammar.no_name = (refl, refl)
one_names (grammar.one_name {x = x} p) (grammar.one_name q) = let e = one_names p q in (ap (λ xs. x ∷ xs) e.0, e.1)

moved_operands : {k : ℕ} {ts us vs : List Token} {atoms : List Atom} →
    ts ≡ us → grammar.Operands k us atoms vs → grammar.Operands k ts atoms vs
moved_operands {k = k} {vs = vs} {atoms = atoms} e p = subst (λ x. grammar.Operands k x atoms vs) (sym e) p

pub one_operands : {k : ℕ} {ts us us' : List Token} {xs ys : List Atom} →
    grammar.Operands k ts xs us → grammar.Operands k ts ys us' → (xs ≡ ys) × (us ≡ us')
one_operands grammar.no_operand grammar.no_operand = (refl, refl)
one_operands (grammar.one_operand {a = a} o p) (grammar.one_operand {atoms = others} o' q) =
    let d = one_operand o o' in
    let e = one_operands p (moved_operands d.1 q) in
    (ap (λ xs. a ∷ xs) e.0 ∙ ap (λ x. x ∷ others) d.0, e.1)

pub one_amount : {b : Bool} {ts : List Token} {n m : ℕ} → grammar.Amount b ts n → grammar.Amount b ts m → n ≡ m
one_amount grammar.some_amount grammar.some_amount = refl
one_amount grammar.no_amount grammar.no_amount = refl

moved_amount : {b : Bool} {ts us : List Token} {n : ℕ} → ts ≡ us → grammar.Amount b us n → grammar.Amount b ts n
moved_amount {b = b} {n = n} e p = subst (λ x. grammar.Amount b x n) (sym e) p

abbrev made : Op → Ty → List ℕ → List Atom → ℕ → Instr
made op T outs args n = record { op = op; ty = T; outs = outs; args = args; amount = n }

same_instr : {op : Op} {T : Ty} {outs outs' : List ℕ} {args args' : List Atom} {n n' : ℕ} →
    outs ≡ outs' → args ≡ args' → n ≡ n' → made op T outs args n ≡ made op T outs' args' n'
same_instr p q r = cc

pub one_form : {op : Op} {T : Ty} {ts : List Token} {i j : Instr} → grammar.Form op T ts i → grammar.Form op T ts j → i ≡ j
one_form (grammar.form p q r) (grammar.form p' q' r') =
    let e = one_names p p' in
    let d = one_operands q (moved_operands e.1 q') in
    same_instr e.0 d.0 (one_amount r (moved_amount d.1 r'))

pub one_statement : {ts : List Token} {s t : Statement} → grammar.IsStatement ts s → grammar.IsStatement ts t → s ≡ t
one_statement grammar.input grammar.input = refl
one_statement (grammar.pre p) (grammar.pre q) = ap (λ x. Program (line.Pre x)) (one_predicate p q)
one_statement (grammar.step p) (grammar.step q) = ap (λ x. Program (line.Step x)) (one_form p q)
one_statement (grammar.assert p) (grammar.assert q) = ap (λ x. Program (line.Assert x)) (one_predicate p q)
one_statement (grammar.assume p) (grammar.assume q) = ap (λ x. Program (line.Assume x)) (one_predicate p q)
one_statement (grammar.cut p) (grammar.cut q) = ap (λ x. Program (line.Cut x)) (one_predicate p q)
one_statement (grammar.post p) (grammar.post q) = ap (λ x. Program (line.Post x)) (one_predicate p q)
one_statement grammar.end_line grammar.end_line = refl
