-- Operands: what the first tokens are gives the reading, and nothing else does.
use Rattle.std.proofs.Common.{◌≡◌, ℕ, List, ◌∷◌, sym, ap, ◌∙◌, subst, ℤ, pos, ◌<ℤ◌}
use Rattle.std.specs.Prelude.{neg_ℤ}
use Rattle.tcl_lang.specs.declared.ty.Ty.{Ty}
use Rattle.tcl_lang.specs.declared.instr.Atom.{Atom}
use Rattle.tcl_lang.specs.declared.instr.Atom.TheVariants.{Var, Lit}
use Rattle.tcl_text.specs.declared.symbol.Symbol.TheVariants.{At, Minus}
use Rattle.tcl_text.specs.declared.token.Token.{Token}
use Rattle.tcl_text.specs.declared.token.Token.TheVariants.{Name, Number, Kind, Sign}
use Rattle.tcl_text.specs.Grammar.{Operand, name, literal, negative}

-- the first token is known
pub begins : {ts us : List Token} {token known : Token} → ts ≡ token ∷ us → token ≡ known → ts ≡ known ∷ us
begins {us = us} e f = e ∙ ap (λ k. k ∷ us) f

pub name_at : {ts us : List Token} {x : ℕ} → ts ≡ Name x ∷ us → Operand ts (Var x) us
name_at {us = us} {x = x} e = subst (λ l. Operand l (Var x) us) (sym e) name

pub literal_at : {ts us : List Token} {n : ℤ} {T : Ty} {a : Atom} →
    ts ≡ Sign At ∷ Kind T ∷ us → a ≡ Lit T n → Operand (Number n ∷ ts) a us
literal_at {ts = ts} {us = us} {n = n} {T = T} e f =
    subst (λ a. Operand (Number n ∷ ts) a us) (sym f) (subst (λ l. Operand (Number n ∷ l) (Lit T n) us) (sym e) literal)

pub negative_at : {ts vs us : List Token} {n : ℤ} {T : Ty} {a : Atom} →
    ts ≡ Number n ∷ vs → vs ≡ Sign At ∷ Kind T ∷ us → pos 0 <ℤ n → a ≡ Lit T (neg_ℤ n) → Operand (Sign Minus ∷ ts) a us
negative_at {ts = ts} {us = us} {n = n} {T = T} e d h f =
    subst (λ a. Operand (Sign Minus ∷ ts) a us) (sym f)
    (subst (λ l. Operand (Sign Minus ∷ l) (Lit T (neg_ℤ n)) us) (sym (e ∙ ap (λ l. Number n ∷ l) d)) (negative h))
