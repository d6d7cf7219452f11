-- Static single assignment (Cytron, Ferrante, Rosen, Wegman, Zadeck, TOPLAS 1991): each definition of a name becomes a
-- variable of its own. Variables are numbered by their definitions: `in` names in order, then results in the order of
-- the instructions and from left to right. The k-th definition of a name, from 0, has the version k.
use Rattle.std.specs.Prelude.{◌≡◌, ℕ, zero, suc, ◌+◌, ◌^◌, ◌<◌, Option, Some, None, slice_get, List, [], ◌∷◌, ◌++◌, map, length, replicate, slice_index, slice_index_or, slice_set}
use Rattle.tcl_lang.specs.declared.ty.Ty.{Ty}
use Rattle.tcl_lang.specs.declared.instr.Atom.{Atom}
use Rattle.tcl_lang.specs.declared.instr.Atom.TheVariants.{Var, Lit}
use Rattle.tcl_lang.specs.declared.instr.Instr.{Instr}
use Rattle.tcl_lang.specs.declared.term.Term.{Term, Term-F, fold-Term}
use Rattle.tcl_lang.specs.declared.term.Term.TheOpen as term_layer
use Rattle.tcl_lang.specs.declared.term.Term as plain_term
use Rattle.tcl_lang.specs.declared.term.Term.TheViews as term
use Rattle.tcl_lang.specs.declared.range.RngTerm.{RngTerm, RngTerm-F, fold-RngTerm}
use Rattle.tcl_lang.specs.declared.range.RngTerm.TheOpen as range_layer
use Rattle.tcl_lang.specs.declared.range.RngTerm as plain_range_term
use Rattle.tcl_lang.specs.declared.range.RngTerm.TheViews as range_term
use Rattle.tcl_lang.specs.declared.range.RngPred.{RngPred, RngPred-F, fold-RngPred}
use Rattle.tcl_lang.specs.declared.range.RngPred.TheOpen as pred_layer
use Rattle.tcl_lang.specs.declared.range.RngPred as plain_range_pred
use Rattle.tcl_lang.specs.declared.range.RngPred.TheViews as range_pred
use Rattle.tcl_lang.specs.declared.pred.Pred.{Pred}
use Rattle.tcl_lang.specs.declared.pred.Pred.TheVariants.{Alg, Rng}
use Rattle.tcl_lang.specs.declared.pred.Line.{Line}
use Rattle.tcl_lang.specs.declared.pred.Line.TheVariants.{Input, Step}
use Rattle.tcl_lang.specs.declared.variable.Variable.{Variable}
use Rattle.tcl_lang.specs.Line.{predicate_of, with_predicate}
use Rattle.tcl_lang.specs.Results.{result_types}
use Rattle.tcl_lang.specs.Typing.{IsWellTyped}
use Rattle.tcl_lang.specs.Shape.{HasShape}
use Rattle.tcl_lang.specs.Program.{NamedProgram, VersionedProgram}

-- the variable that each name means now, the version that its next definition has, and the variables so far
pub record Versions : Type 0 where
  pub current : List ℕ
  pub next : List ℕ
  pub variables : List Variable

-- an operand, with variables for names
abbrev pub version_atom : List ℕ → Atom → Atom
version_atom current (Var name) = Var (slice_index current name)
version_atom current (Lit T n) = Lit T n

-- an algebraic term
abbrev pub version_term_step : List ℕ → Term-F Term → Term
version_term_step current (term_layer.Var name) = plain_term.Var (slice_index current name)
version_term_step current (term_layer.Num n) = plain_term.Num n
version_term_step current (term_layer.Neg t) = term.Neg t
version_term_step current (term_layer.Add t u) = term.Add t u
version_term_step current (term_layer.Sub t u) = term.Sub t u
version_term_step current (term_layer.Mul t u) = term.Mul t u
version_term_step current (term_layer.Pow t k) = term.Pow t k

abbrev pub version_term : List ℕ → Term → Term
version_term current t = fold-Term Term (version_term_step current) t

-- a range term
abbrev pub version_range_term_step : List ℕ → RngTerm-F RngTerm → RngTerm
version_range_term_step current (range_layer.Leaf atom) = plain_range_term.Leaf (version_atom current atom)
version_range_term_step current (range_layer.Neg t) = range_term.Neg t
version_range_term_step current (range_layer.Flip t) = range_term.Flip t
version_range_term_step current (range_layer.Bin op t u) = range_term.Bin op t u
version_range_term_step current (range_layer.Cast T t) = range_term.Cast T t

abbrev pub version_range_term : List ℕ → RngTerm → RngTerm
version_range_term current t = fold-RngTerm RngTerm (version_range_term_step current) t

-- a range predicate
abbrev pub version_range_step : List ℕ → RngPred-F RngPred → RngPred
version_range_step current pred_layer.True = plain_range_pred.True
version_range_step current pred_layer.False = plain_range_pred.False
version_range_step current (pred_layer.Cmp op t u) =
    plain_range_pred.Cmp op (version_range_term current t) (version_range_term current u)
version_range_step current (pred_layer.Not p) = range_pred.Not p
version_range_step current (pred_layer.Both p q) = range_pred.Both p q
version_range_step current (pred_layer.Either p q) = range_pred.Either p q

abbrev pub version_range : List ℕ → RngPred → RngPred
version_range current p = fold-RngPred RngPred (version_range_step current) p

-- a predicate
abbrev pub version_predicate : List ℕ → Pred → Pred
version_predicate current (Alg p) =
    Alg (record { left = version_term current p.left; right = version_term current p.right; modulus = p.modulus })
version_predicate current (Rng p) = Rng (version_range current p)

-- the next definition of a name
abbrev pub define : List (List ℕ) → Versions → ℕ → Ty → Versions
define names v name T =
    record {
      current = slice_set v.current name (length v.variables);
      next = slice_set v.next name (slice_index v.next name + 1);
      variables = v.variables ++ record { name = slice_index_or names name []; version = slice_index v.next name; ty = T } ∷ [];
    }

-- the definitions of results, from left to right
abbrev pub define_results : List (List ℕ) → Versions → List ℕ → List Ty → Versions
define_results names v (name ∷ others) (T ∷ Ts) = define_results names (define names v name T) others Ts
define_results names v _ _ = v

-- the versions after a line
abbrev pub versions_after : List (List ℕ) → Versions → Line → Versions
versions_after names v (Input T name) = define names v name T
versions_after names v (Step i) = define_results names v i.outs (result_types i.op i.ty)
versions_after names v _ = v

-- numbers from n on, one for each item
abbrev pub numbers_from : ℕ → List ℕ → List ℕ
numbers_from n [] = []
numbers_from n (name ∷ names) = n ∷ numbers_from (n + 1) names

-- an instruction: it reads the versions before it, and defines the next variables
abbrev pub version_instruction : Versions → Instr → Instr
version_instruction v i =
    record {
      op = i.op;
      ty = i.ty;
      outs = numbers_from (length v.variables) i.outs;
      args = map (version_atom v.current) i.args;
      amount = i.amount;
    }

-- a line that states this predicate, or none
abbrev pub version_stated : List ℕ → Line → Option Pred → Line
version_stated current l (Some p) = with_predicate l (version_predicate current p)
version_stated current l None = l

-- a line: it reads the versions before it, and defines the next variables
abbrev pub version_line : Versions → Line → Line
version_line v (Input T name) = Input T (length v.variables)
version_line v (Step i) = Step (version_instruction v i)
version_line v l = version_stated v.current l (predicate_of l)

abbrev pub versions_step : List (List ℕ) → Versions → Option Line → Versions
versions_step names v None = v
versions_step names v (Some l) = versions_after names v l

-- before the first line no name means a variable
abbrev pub no_versions : ℕ → Versions
no_versions names = record { current = replicate names 0; next = replicate names 0; variables = [] }

-- the versions before line k
unfoldable pub versions_at : NamedProgram → ℕ → Versions
versions_at p zero = no_versions (length p.names)
versions_at p (suc k) = versions_step p.names (versions_at p k) (slice_get p.lines k)

-- the lines of the form, from these versions on
abbrev pub version_lines : List (List ℕ) → Versions → List Line → List Line
version_lines names v [] = []
version_lines names v (l ∷ lines) = version_line v l ∷ version_lines names (versions_after names v l) lines

-- the form of a program
unfoldable pub form_of : NamedProgram → VersionedProgram
form_of p =
    record {
      variables = (versions_at p (length p.lines)).variables;
      lines = version_lines p.names (no_versions (length p.names)) p.lines;
    }

-- the form of a program that has its shape and is well typed, of fewer than 2 ^ 32 variables
pub record IsForm (f : VersionedProgram) : Type 0 where
  pub source : NamedProgram
  pub shape : HasShape source.names source.lines
  pub typed : IsWellTyped (length source.names) source.lines
  pub form : f ≡ form_of source
  pub few : length f.variables < 2 ^ 32
