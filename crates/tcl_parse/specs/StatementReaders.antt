-- What the readers of the rest of a line answer where there is no reading.
use Rattle.std.specs.Prelude.{ℕ, ◌<◌, Bool, true, false, List, [], ◌∷◌, Option, Some, None, Result, Ok, Err, if◌then◌else◌}
use Rattle.tcl_lang.specs.declared.ty.Ty.{Ty}
use Rattle.tcl_lang.specs.declared.instr.Atom.{Atom}
use Rattle.tcl_lang.specs.declared.instr.Op.{Op}
use Rattle.tcl_lang.specs.declared.instr.Instr.{Instr}
use Rattle.tcl_lang.specs.declared.term.Part.{Part}
use Rattle.tcl_lang.specs.declared.term.AlgPred.{AlgPred}
use Rattle.tcl_lang.specs.declared.pred.Pred.{Pred}
use Rattle.tcl_lang.specs.declared.pred.Pred.TheVariants.{Alg}
use Rattle.tcl_lang.specs.declared.pred.Line.TheVariants as line
use Rattle.tcl_text.specs.declared.symbol.Symbol.{Symbol}
use Rattle.tcl_text.specs.declared.symbol.Symbol.TheVariants.{Plus, Minus}
use Rattle.tcl_text.specs.declared.token.Keyword.{Keyword}
use Rattle.tcl_text.specs.declared.token.Keyword.TheVariants as keyword
use Rattle.tcl_text.specs.declared.token.Token.{Token}
use Rattle.tcl_text.specs.declared.token.Token.TheVariants.{Reserved}
use Rattle.tcl_text.specs.declared.token.Statement.{Statement}
use Rattle.tcl_text.specs.declared.token.Statement.TheVariants.{Program}
use Rattle.tcl_text.specs.declared.fault.Limit.TheVariants.{Exponent}
use Rattle.tcl_text.specs.declared.fault.LineFault.{LineFault}
use Rattle.tcl_text.specs.declared.fault.LineFault.TheVariants as fault
use Rattle.tcl_text.specs.Scan.{is_low_statement}
use Rattle.tcl_text.specs.Trees.{alg, next_height}
use Rattle.tcl_text.specs.Statements.{Names, Operands, Amount, Form, OnePart, Modulus, Predicate, IsStatement}

-- the tokens do not begin with so many names
abbrev pub NoNames : ℕ → List Token → Type 0
NoNames k ts = (names : List ℕ) (us : List Token) → Names k ts names us → ⊥

-- nor with so many operands
abbrev pub NoOperands : ℕ → List Token → Type 0
NoOperands k ts = (atoms : List Atom) (us : List Token) → Operands k ts atoms us → ⊥

abbrev pub NoAmount : Bool → List Token → Type 0
NoAmount b ts = (n : ℕ) → Amount b ts n → ⊥

abbrev pub NoForm : Op → Ty → List Token → Type 0
NoForm op T ts = (i : Instr) → Form op T ts i → ⊥

-- the sign before a further part of a modulus
abbrev pub sign_of : Bool → Symbol
sign_of true = Minus
sign_of false = Plus

-- a part of a modulus behind which no `**` follows
pub record IsPart (minus : Bool) (ts : List Token) (p : Part) (us : List Token) : Type 0 where
  pub reads : OnePart minus ts p us
  pub stops : 0 < next_height alg us

abbrev pub NoPart : Bool → List Token → Type 0
NoPart minus ts = (p : Part) (us : List Token) → IsPart minus ts p us → ⊥

abbrev pub NoModulus : List Token → Type 0
NoModulus ts = (parts : List Part) → Modulus ts parts → ⊥

-- what may stand behind the right side of an equation: nothing, or `mod` and a modulus
pub data Ending : List Token → Option (List Part) → Type 0 where
  nothing : Ending [] None
  modulus : {ts : List Token} {parts : List Part} → Modulus ts parts → Ending (Reserved keyword.Mod ∷ ts) (Some parts)

abbrev pub NoEnding : List Token → Type 0
NoEnding ts = (m : Option (List Part)) → Ending ts m → ⊥

-- an equation or a congruence, behind its word
abbrev pub Equation : List Token → AlgPred → Type 0
Equation ts p = Predicate (Reserved keyword.Alg ∷ ts) (Alg p)

abbrev pub NoEquation : List Token → Type 0
NoEquation ts = (p : AlgPred) → Equation ts p → ⊥

abbrev pub NoPredicate : List Token → Type 0
NoPredicate ts = (p : Pred) → Predicate ts p → ⊥

-- the statement that a word makes of a predicate
abbrev pub stated : Keyword → Pred → Option Statement
stated keyword.Pre p = Some (Program (line.Pre p))
stated keyword.Assert p = Some (Program (line.Assert p))
stated keyword.Assume p = Some (Program (line.Assume p))
stated keyword.Cut p = Some (Program (line.Cut p))
stated keyword.Post p = Some (Program (line.Post p))
stated _ p = None

-- the tokens are no line
abbrev pub NoStatement : List Token → Type 0
NoStatement ts = (s : Statement) → IsStatement ts s → ⊥

-- the verdict on a statement by its exponents
abbrev pub kept_statement : Statement → Result Statement LineFault
kept_statement s = if is_low_statement s then Ok s else Err (fault.Limit Exponent)
