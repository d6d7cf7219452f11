-- The truth of each line of a versioned form can be computed at values in their types.
use Rattle.std.proofs.Common.{◌≡◌, ℕ, refl, sym, ◌∙◌, arith, ℤ, pos, true, List, length, Option, Some}
use Rattle.std.specs.List.{slice_get, list_all}
use Rattle.std.proofs.lemmas.Bool.{not-false}
use Rattle.std.proofs.lemmas.Option.{slice_get_within}
use Rattle.tcl_lang.specs.declared.ty.Ty.{Ty}
use Rattle.tcl_lang.specs.declared.pred.Pred.{Pred}
use Rattle.tcl_lang.specs.declared.pred.Pred.TheVariants.{Alg, Rng}
use Rattle.tcl_lang.specs.declared.pred.Line.{Line}
use Rattle.tcl_lang.specs.declared.pred.Line.TheVariants.{Input, Pre, Step, Assert, Assume, Cut, Post}
use Rattle.tcl_lang.specs.Program.{VersionedProgram}
use Rattle.tcl_lang.specs.Names.{predicate_atoms}
use Rattle.tcl_lang.specs.Shape.{is_predicate}
use Rattle.tcl_lang.specs.Typing.{types_at, predicate_agrees, is_sound_literal}
use Rattle.tcl_lang.specs.Limit.{definitions_before}
use Rattle.tcl_lang.specs.Checked.{computed_in}
use Rattle.tcl_lang.specs.Values.{AreValues, types_of, words_of, computed_of}
use Rattle.tcl_lang.specs.Form.{IsWellFormed}
use Rattle.tcl_lang.proofs.TypedRuns.{line_shape, line_typed}
use Rattle.tcl_lang.proofs.ValueSteps.{first_types}
use Rattle.tcl_measure.specs.SoundModulus.{StatesSound}
use Rattle.tcl_measure.proofs.Moduli.{modulus_at}
use Rattle.tcl_exec.specs.Tellable.{IsToldPredicate, IsTellable}
use Rattle.tcl_exec.proofs.SoundTerms.{AreTold, pred_sound}
use Rattle.tcl_exec.proofs.Stepping.{executes, zero_typed}

types_told : (f : VersionedProgram) (k : ℕ) (l : Line) → IsWellFormed f → slice_get f.lines k ≡ Some l → AreTold (types_at (length f.variables) f.lines k) (types_of f.variables)
types_told f k l w at v T e =
    first_types (definitions_before f.lines k) f.variables v T (sym (w.types k v (omega (arith, slice_get_within f.lines k l at))) ∙ e)

told : (types : List (Option Ty)) (f : VersionedProgram) → AreTold types (types_of f.variables) → (p : Pred) → is_predicate p ≡ true → list_all is_sound_literal (predicate_atoms p) ≡ true → predicate_agrees types p ≡ true → StatesSound (Some p) → IsToldPredicate f.variables p
told types f t (Alg p) s a e m = m
told types f t (Rng p) s a e m = pred_sound types (types_of f.variables) t p s a e

pub tellable : (f : VersionedProgram) (values : List ℤ) (k : ℕ) (l : Line) → IsWellFormed f → AreValues f.variables values → slice_get f.lines k ≡ Some l → IsTellable f.variables values l
tellable f values k (Input T v) w a at = tt
tellable f values k (Step i) w a at = executes f values k i (pos 0) w a at (λ T e. zero_typed T)
tellable f values k (Pre p) w a at =
    let n = line_typed (length f.variables) f.lines k (Pre p) w.runnable.typed at in
    told (types_at (length f.variables) f.lines k) f (types_told f k (Pre p) w at) p (line_shape (length f.variables) f.lines k (Pre p) w.runnable at)
    (not-false (list_all is_sound_literal (predicate_atoms p)) n.literals) n.agrees (modulus_at f k (Pre p) w at)
tellable f values k (Assert p) w a at =
    let n = line_typed (length f.variables) f.lines k (Assert p) w.runnable.typed at in
    told (types_at (length f.variables) f.lines k) f (types_told f k (Assert p) w at) p (line_shape (length f.variables) f.lines k (Assert p) w.runnable at)
    (not-false (list_all is_sound_literal (predicate_atoms p)) n.literals) n.agrees (modulus_at f k (Assert p) w at)
tellable f values k (Assume p) w a at =
    let n = line_typed (length f.variables) f.lines k (Assume p) w.runnable.typed at in
    told (types_at (length f.variables) f.lines k) f (types_told f k (Assume p) w at) p (line_shape (length f.variables) f.lines k (Assume p) w.runnable at)
    (not-false (list_all is_sound_literal (predicate_atoms p)) n.literals) n.agrees (modulus_at f k (Assume p) w at)
tellable f values k (Cut p) w a at =
    let n = line_typed (length f.variables) f.lines k (Cut p) w.runnable.typed at in
    told (types_at (length f.variables) f.lines k) f (types_told f k (Cut p) w at) p (line_shape (length f.variables) f.lines k (Cut p) w.runnable at)
    (not-false (list_all is_sound_literal (predicate_atoms p)) n.literals) n.agrees (modulus_at f k (Cut p) w at)
tellable f values k (Post p) w a at =
    let n = line_typed (length f.variables) f.lines k (Post p) w.runnable.typed at in
    told (types_at (length f.variables) f.lines k) f (types_told f k (Post p) w at) p (line_shape (length f.variables) f.lines k (Post p) w.runnable at)
    (not-false (list_all is_sound_literal (predicate_atoms p)) n.literals) n.agrees (modulus_at f k (Post p) w at)

pub computed_is : (f : VersionedProgram) (values : List ℤ) (k : ℕ) → computed_of f values k ≡ computed_in (words_of f.variables values) (slice_get f.lines k)
unfolding computed_of
computed_is f values k = refl
