-- Lines whose truth can be computed at these values. So it is with the lines of a versioned form.
use Rattle.std.specs.Prelude.{◌≡◌, true, ℤ, pos, List, Option, Some, None}
use Rattle.tcl_lang.specs.declared.variable.Variable.{Variable}
use Rattle.tcl_lang.specs.declared.instr.Instr.{Instr}
use Rattle.tcl_lang.specs.declared.pred.Pred.{Pred}
use Rattle.tcl_lang.specs.declared.pred.Pred.TheVariants.{Alg, Rng}
use Rattle.tcl_lang.specs.declared.pred.Line.{Line}
use Rattle.tcl_lang.specs.Line.{predicate_of, instruction_of}
use Rattle.tcl_lang.specs.Values.{types_of}
use Rattle.tcl_measure.specs.SoundModulus.{IsSound}
use Rattle.tcl_exec.specs.Passing.{CanBeExecuted}
use Rattle.tcl_exec.specs.Sound.{is_sound_pred}

-- a predicate: its modulus is sound, its words can be computed
abbrev pub IsToldPredicate : List Variable → Pred → Type 0
IsToldPredicate variables (Alg p) = IsSound p.modulus
IsToldPredicate variables (Rng p) = is_sound_pred (types_of variables) p ≡ true

-- what is stated: the predicate, else an instruction, which can be executed
abbrev pub IsTold : List Variable → List ℤ → Option Pred → Option Instr → Type 0
IsTold variables values (Some p) i = IsToldPredicate variables p
IsTold variables values None (Some i) = CanBeExecuted values i (pos 0)
IsTold variables values None None = Unit {0}

-- the line
abbrev pub IsTellable : List Variable → List ℤ → Line → Type 0
IsTellable variables values l = IsTold variables values (predicate_of l) (instruction_of l)
