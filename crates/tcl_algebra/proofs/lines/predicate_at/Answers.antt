-- Typing makes the line's predicate sound.
use Rattle.std.proofs.Common.{◌≡◌, refl, sym, ap, ◌∙◌, length, List, Some}
use Rattle.std.specs.List.{slice_get}
use Rattle.std.proofs.lemmas.Option.{slice_get_read}
use Rattle.tcl_lang.specs.declared.pred.Line.{Line}
use Rattle.tcl_lang.specs.Line.{predicate_of}
use Rattle.tcl_algebra.specs.Sound.{IsSoundPredicate}
use Rattle.tcl_algebra.proofs.SoundLines.{predicate_sound}
use Rattle.tcl_algebra.proofs.Copied.{copied_fact}
use Rattle.tcl_algebra.proofs.lines.predicate_at.Goals as goal

pub returns-in-Some-clause-sound : goal.returns-in-Some-clause-sound
returns-in-Some-clause-sound c =
    let line = c.in-Some.line.now in
    let lines = c.as_slice.result.now in
    let at : slice_get c.args.ssa.now.lines c.args.place ≡ Some line =
    ap (λ (ls : List Line). slice_get ls c.args.place) (sym (c.as_slice.ensures ∙ c.lines.ensures.lines))
    ∙ slice_get_read lines (length lines) c.args.place line refl c.in-Some.ensures.lookup.3.0 c.in-Some.ensures.lookup.1 in
    copied_fact c.predicate.result (predicate_of line) IsSoundPredicate c.predicate.ensures (predicate_sound c.args.ssa.now c.args.place (Some line) c.lines.ensures.well_formed at)
