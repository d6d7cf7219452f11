-- Whole lines by their first token.
use Rattle.std.proofs.Common.{◌≡◌, List, [], ◌∷◌, refl, sym, ◌∙◌, ap, subst}
use Rattle.std.specs.Prelude.{◌≢◌, ℕ, Option, Some, None, Result, Ok, Err, IfOk}
use Rattle.tcl_lang.specs.declared.ty.Ty.{Ty}
use Rattle.tcl_lang.specs.declared.instr.Op.{Op}
use Rattle.tcl_lang.specs.declared.instr.Instr.{Instr}
use Rattle.tcl_lang.specs.declared.pred.Pred.{Pred}
use Rattle.tcl_lang.specs.declared.pred.Line.TheVariants as line
use Rattle.tcl_text.specs.declared.token.Keyword.{Keyword}
use Rattle.tcl_text.specs.declared.token.Keyword.TheVariants as keyword
use Rattle.tcl_text.specs.declared.token.Token.{Token}
use Rattle.tcl_text.specs.declared.token.Token.TheVariants.{Name, Kind, Instruction, Reserved}
use Rattle.tcl_text.specs.declared.token.Statement.{Statement}
use Rattle.tcl_text.specs.declared.token.Statement.TheVariants.{Program, End}
use Rattle.tcl_text.specs.Statements as grammar
use Rattle.tcl_parse.specs.Readers.{Found}
use Rattle.tcl_parse.specs.StatementReaders.{NoStatement, stated}

-- the last line, and an input
pub is_end : {ts : List Token} → ts ≡ [] → grammar.IsStatement (Reserved keyword.End ∷ ts) End
is_end e = subst (λ x. grammar.IsStatement (Reserved keyword.End ∷ x) End) (sym e) grammar.end_line

pub is_input : {ts us vs : List Token} {T : Ty} {x : ℕ} → ts ≡ Kind T ∷ us → us ≡ Name x ∷ vs → vs ≡ [] →
    grammar.IsStatement (Reserved keyword.In ∷ ts) (Program (line.Input T x))
is_input {T = T} {x = x} e d f =
    subst (λ y. grammar.IsStatement (Reserved keyword.In ∷ y) (Program (line.Input T x)))
    (sym (e ∙ ap (λ y. Kind T ∷ y) (d ∙ ap (λ y. Name x ∷ y) f))) grammar.input

-- an instruction
pub is_step : {op : Op} {T : Ty} {ts us : List Token} {i : Instr} → ts ≡ Kind T ∷ us → grammar.Form op T us i →
    grammar.IsStatement (Instruction op ∷ ts) (Program (line.Step i))
is_step {op = op} {i = i} e p = subst (λ x. grammar.IsStatement (Instruction op ∷ x) (Program (line.Step i))) (sym e) (grammar.step p)

-- a predicate behind the word of its line
none_some : {l : Statement} → (let x : Option Statement = Some l in x ≡ None) → ⊥
none_some e = cc

no_word : (k : Keyword) (p : Pred) {ts : List Token} → k ≢ keyword.In → k ≢ keyword.End → None ≡ stated k p → NoStatement (Reserved k ∷ ts)
no_word k p n m e s grammar.input = n refl
no_word k p n m e s (grammar.pre q) = none_some (sym e)
no_word k p n m e s (grammar.assert q) = none_some (sym e)
no_word k p n m e s (grammar.assume q) = none_some (sym e)
no_word k p n m e s (grammar.cut q) = none_some (sym e)
no_word k p n m e s (grammar.post q) = none_some (sym e)
no_word k p n m e s grammar.end_line = m refl

some_is : {l l' : Statement} → (let x : Option Statement = Some l in x ≡ Some l') → l' ≡ l
some_is e = cc

some_none : {l : Statement} {P : Type 0} → (let x : Option Statement = Some l in x ≡ None) → P
some_none e = absurd cc

moved : {k : Keyword} {ts : List Token} {l l' : Statement} → l ≡ l' → grammar.IsStatement (Reserved k ∷ ts) l → grammar.IsStatement (Reserved k ∷ ts) l'
moved {k = k} {ts = ts} e p = subst (λ x. grammar.IsStatement (Reserved k ∷ ts) x) e p

is_stated : (k : Keyword) (p : Pred) {l : Statement} {ts : List Token} → Some l ≡ stated k p → grammar.Predicate ts p →
    grammar.IsStatement (Reserved k ∷ ts) l
is_stated keyword.Pre p e q = moved (some_is e) (grammar.pre q)
is_stated keyword.Assert p e q = moved (some_is e) (grammar.assert q)
is_stated keyword.Assume p e q = moved (some_is e) (grammar.assume q)
is_stated keyword.Cut p e q = moved (some_is e) (grammar.cut q)
is_stated keyword.Post p e q = moved (some_is e) (grammar.post q)
is_stated keyword.In p e q = some_none e
is_stated keyword.End p e q = some_none e
is_stated keyword.Rng p e q = some_none e
is_stated keyword.Alg p e q = some_none e
is_stated keyword.Mod p e q = some_none e
is_stated keyword.True p e q = some_none e
is_stated keyword.False p e q = some_none e
is_stated keyword.Ecut p e q = some_none e
is_stated keyword.Rcut p e q = some_none e
is_stated keyword.Proc p e q = some_none e
is_stated keyword.Call p e q = some_none e

pub stated_is : {E : Type 0} (k : Keyword) (p : Pred) {ts : List Token} (answer : Result (Option Statement) E) → k ≢ keyword.In →
    k ≢ keyword.End → IfOk answer (λ s. s ≡ stated k p) → grammar.Predicate ts p →
    Found answer (NoStatement (Reserved k ∷ ts)) (λ s. grammar.IsStatement (Reserved k ∷ ts) s)
stated_is k p (Ok (Some s)) n m e q = is_stated k p e q
stated_is k p (Ok None) n m e q = no_word k p n m e
stated_is k p (Err f) n m e q = e
