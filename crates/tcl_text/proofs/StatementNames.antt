-- The names of a line, as they occur, are those of its tokens.
use Rattle.std.proofs.Common.{◌≡◌, ℕ, Bool, List, [], ◌∷◌, ◌++◌, refl, sym, ap, ◌∙◌, append_assoc, append-nil}
use Rattle.tcl_lang.specs.declared.instr.Atom.{Atom}
use Rattle.tcl_lang.specs.declared.instr.Op.{Op}
use Rattle.tcl_lang.specs.declared.ty.Ty.{Ty}
use Rattle.tcl_lang.specs.declared.instr.Instr.{Instr}
use Rattle.tcl_lang.specs.declared.term.Part.{Part}
use Rattle.tcl_lang.specs.declared.pred.Pred.{Pred}
use Rattle.tcl_lang.specs.declared.pred.Line.{Line}
use Rattle.tcl_lang.specs.Names.{term_names, predicate_names, occurrences}
use Rattle.tcl_text.specs.declared.token.Token.{Token}
use Rattle.tcl_text.specs.declared.token.Statement.TheVariants.{Program}
use Rattle.tcl_text.specs.Statements as grammar
use Rattle.tcl_text.proofs.TreeNames.{token_names, atom_names, atom_names-append, chain_names, operand_names}

part_names : {sign : Bool} {ts us : List Token} {p : Part} → grammar.OnePart sign ts p us → token_names ts ≡ token_names us
part_names grammar.base = refl
part_names grammar.powered = refl

more_parts_names : {ts : List Token} {ps : List Part} → grammar.MoreParts ts ps → token_names ts ≡ []
more_parts_names grammar.none = refl
more_parts_names (grammar.plus p m) = part_names p ∙ more_parts_names m
more_parts_names (grammar.minus p m) = part_names p ∙ more_parts_names m

modulus_names : {ts : List Token} {ps : List Part} → grammar.Modulus ts ps → token_names ts ≡ []
modulus_names (grammar.parts p m) = part_names p ∙ more_parts_names m

pub predicate_names_of : {ts : List Token} {p : Pred} → grammar.Predicate ts p → token_names ts ≡ predicate_names p
predicate_names_of (grammar.range c) = chain_names c ∙ append-nil _
predicate_names_of (grammar.equation {f = f} {g = g} c d) =
    chain_names c ∙ ap (λ ns. term_names f ++ ns) (chain_names d ∙ append-nil (term_names g))
predicate_names_of (grammar.congruence {f = f} {g = g} c d m) =
    chain_names c
    ∙ ap (λ ns. term_names f ++ ns)
    (chain_names d ∙ (ap (λ ns. term_names g ++ ns) (modulus_names m) ∙ append-nil (term_names g)))

outs_names : {k : ℕ} {ts us : List Token} {xs : List ℕ} → grammar.Names k ts xs us → token_names ts ≡ xs ++ token_names us
outs_names grammar.no_name = refl
outs_names (grammar.one_name {x = x} p) = ap (λ ns. x ∷ ns) (outs_names p)

args_names : {k : ℕ} {ts us : List Token} {xs : List Atom} →
    grammar.Operands k ts xs us → token_names ts ≡ atom_names xs ++ token_names us
args_names grammar.no_operand = refl
args_names {us = us} (grammar.one_operand {a = a} {atoms = others} o p) =
    operand_names o
    ∙ (ap (λ ns. atom_names (a ∷ []) ++ ns) (args_names p)
    ∙ (sym (append_assoc (atom_names (a ∷ [])) (atom_names others) (token_names us))
    ∙ ap (λ ns. ns ++ token_names us) (sym (atom_names-append (a ∷ []) others))))

amount_names : {b : Bool} {ts : List Token} {n : ℕ} → grammar.Amount b ts n → token_names ts ≡ []
amount_names grammar.some_amount = refl
amount_names grammar.no_amount = refl

form_names : {op : Op} {T : Ty} {ts : List Token} {i : Instr} → grammar.Form op T ts i → token_names ts ≡ i.outs ++ atom_names i.args
form_names (grammar.form {outs = outs} {args = args} p q r) =
    outs_names p
    ∙ ap (λ ns. outs ++ ns) (args_names q ∙ (ap (λ ns. atom_names args ++ ns) (amount_names r) ∙ append-nil (atom_names args)))

-- the names of a line of the program
pub statement_names : {ts : List Token} {l : Line} → grammar.IsStatement ts (Program l) → token_names ts ≡ occurrences l
statement_names grammar.input = refl
statement_names (grammar.pre p) = predicate_names_of p
statement_names (grammar.step f) = form_names f
statement_names (grammar.assert p) = predicate_names_of p
statement_names (grammar.assume p) = predicate_names_of p
statement_names (grammar.cut p) = predicate_names_of p
statement_names (grammar.post p) = predicate_names_of p
