-- A variable that has a type holds a value of it.
use Rattle.std.proofs.Common.{sym, ◌∙◌, ap, subst, Some}
use Rattle.std.specs.Option.{is_some}
use Rattle.tcl_lang.specs.declared.ty.Word.{Word}
use Rattle.tcl_lang.specs.declared.instr.Atom.{Atom}
use Rattle.tcl_lang.specs.Values.{types_of}
use Rattle.tcl_exec.specs.Sound.{atom_type, IsSoundWord}
use Rattle.tcl_exec.proofs.WordsOfValues.{variable_typed, variable_word}
use Rattle.tcl_exec.proofs.words.word_of.Goals as goal

pub returns-in-Var-clause-ty : goal.returns-in-Var-clause-ty
returns-in-Var-clause-ty c =
    let Ts = types_of c.args.variables.now in
    let typed = sym (ap (λ (a : Atom). is_some (atom_type Ts a)) c.in-Var.is) ∙ c.requires.sound in
    ap (λ (a : Atom). atom_type Ts a) c.in-Var.is
    ∙ variable_typed c.args.variables.now c.args.values.now c.in-Var.variable c.requires.values c.requires.words typed
    ∙ ap (λ (w : Word). Some w.ty) (sym c.word_at.ensures)

pub returns-in-Var-clause-sound : goal.returns-in-Var-clause-sound
returns-in-Var-clause-sound c =
    let Ts = types_of c.args.variables.now in
    let typed = sym (ap (λ (a : Atom). is_some (atom_type Ts a)) c.in-Var.is) ∙ c.requires.sound in
    subst (λ (w : Word). IsSoundWord w) (sym c.word_at.ensures) (variable_word c.args.variables.now c.args.values.now c.in-Var.variable c.requires.values c.requires.words typed)
