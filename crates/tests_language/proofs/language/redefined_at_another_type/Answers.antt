-- The two lines can be run.
use Rattle.std.proofs.Common.{rules, ◌≡◌, ℕ, List, [], ◌∷◌}
use Rattle.tcl_lang.specs.declared.instr.Atom.{Atom}
use Rattle.tcl_lang.specs.declared.instr.Atom.TheVariants.{Var}
use Rattle.tests_language.proofs.Redefinition.{redefinition_runs}
use Rattle.tests_language.proofs.language.redefined_at_another_type.Goals as goal

pub run_before-requires-clause-runnable : goal.run_before-requires-clause-runnable
run_before-requires-clause-runnable g c =
    let outs : ◌≡◌ {A = List ℕ} c.from_vec-outs.result (0 ∷ []) = search rules in
    let args : ◌≡◌ {A = List Atom} c.from_vec-args.result (Var 0 ∷ []) = search rules in
    redefinition_runs c.from_vec-outs.result c.from_vec-args.result outs args

pub run-requires-clause-runnable : goal.run-requires-clause-runnable
run-requires-clause-runnable g c =
    let outs : ◌≡◌ {A = List ℕ} c.from_vec-outs.result (0 ∷ []) = search rules in
    let args : ◌≡◌ {A = List Atom} c.from_vec-args.result (Var 0 ∷ []) = search rules in
    redefinition_runs c.from_vec-outs.result c.from_vec-args.result outs args
