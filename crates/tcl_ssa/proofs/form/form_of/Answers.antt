-- One line more, and the whole form at the end.
use Rattle.std.proofs.Common.{rules, ◌≡◌, ℕ, ◌+◌, ◌^◌, ◌<◌, ◌≤◌, sym, ◌∙◌, ap, arith, length, List, [], ◌∷◌, ◌++◌, drop, Some}
use Rattle.std.specs.List.{slice_get}
use Rattle.tcl_lang.specs.declared.pred.Line.{Line}
use Rattle.tcl_lang.specs.Versions.{Versions, version_line, version_lines, versions_after, versions_at, no_versions}
use Rattle.tcl_lang.proofs.Versioning.{versions_begin}
use Rattle.tcl_ssa.specs.Table.{versions_of}
use Rattle.tcl_ssa.proofs.Forms.{versions_turn, lines_turn, lines_done, form_is}
use Rattle.tcl_ssa.proofs.form.form_of.Goals as goal

pub loop-k-init : goal.loop-k-init
loop-k-init c =
    let p = c.args.program.now in
    let start : versions_of c.in_ok-table.table ≡ no_versions (length p.names) = search rules in
    record {
      versions = start ∙ sym (versions_begin p);
      lines = ap (λ (xs : List Line). xs ++ version_lines p.names (versions_of c.in_ok-table.table) p.lines) c.new-form.ensures
          ∙ ap (λ (v : Versions). version_lines p.names v p.lines) start;
    }

pub loop-k-preserved : goal.loop-k-preserved
loop-k-preserved c =
    let p = c.args.program.now in
    let k = c.loop-k.k in
    let v = versions_of c.loop-k.table in
    let w = versions_of c.define_line.new.self in
    let l = c.line_at-line.result.now in
    let m = c.in_ok-version_line.field-0 in
    let at : slice_get p.lines k ≡ Some l = search rules in
    let line : m ≡ version_line v l = search rules in
    let after : w ≡ versions_after p.names v l = search rules in
    record {
      versions = versions_turn p k l v w at c.loop-k.invariant.versions after;
      lines = ap (λ (xs : List Line). xs ++ version_lines p.names w (drop (k + 1) p.lines)) c.in_ok-push.ensures.pushed
          ∙ lines_turn p.names v w p.lines k l m c.loop-k.form (version_lines p.names (no_versions (length p.names)) p.lines) at line after c.loop-k.invariant.lines;
    }

pub of-requires : goal.of-requires
of-requires c =
    let p = c.args.program.now in
    let v = versions_of c.loop-k.table in
    let end : c.loop-k.k ≡ length p.lines = search rules in
    record {
      source = p;
      shape = c.lines-lines.ensures.shape;
      typed = c.requires;
      form = form_is p v c.loop-k.form (c.loop-k.invariant.versions ∙ ap (versions_at p) end)
          (lines_done p.names v p.lines c.loop-k.k c.loop-k.form (version_lines p.names (no_versions (length p.names)) p.lines) (omega (arith, end)) c.loop-k.invariant.lines);
      few = search rules;
    }

pub returns-in-Ok-clause-form : goal.returns-in-Ok-clause-form
returns-in-Ok-clause-form c =
    let p = c.args.program.now in
    let v = versions_of c.loop-k.table in
    let end : c.loop-k.k ≡ length p.lines = search rules in
    c.of.ensures
    ∙ form_is p v c.loop-k.form (c.loop-k.invariant.versions ∙ ap (versions_at p) end)
    (lines_done p.names v p.lines c.loop-k.k c.loop-k.form (version_lines p.names (no_versions (length p.names)) p.lines) (omega (arith, end)) c.loop-k.invariant.lines)
