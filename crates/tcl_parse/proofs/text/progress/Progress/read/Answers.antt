use Rattle.std.proofs.Common.{◌≡◌, sym, ◌∙◌}
use Rattle.std.proofs.lemmas.Bool.{eqb-true, eqb-false}
use Rattle.tcl_text.specs.Numbering.{tokens_of, names_after}
use Rattle.tcl_parse.specs.TextProgress.{progress_of}
use Rattle.tcl_parse.proofs.TextStepping.{mapped, no_tokens, faulty_line, misplaced_line, placed_line}
use Rattle.tcl_parse.proofs.text.progress.Progress.read.Goals as goal

pub returns-then-is_empty-clause-verdict : goal.returns-then-is_empty-clause-verdict
returns-then-is_empty-clause-verdict c line raws =
    no_tokens _ _ c.args.raws.now (sym raws) (eqb-true _ _ (sym c.if-is_empty.ensures))

pub returns-in-Ok-clause-verdict : goal.returns-in-Ok-clause-verdict
returns-in-Ok-clause-verdict c line raws =
    let names = c.args.self.now.names in
    let tokens : c.as_slice.result.now ≡ tokens_of names c.args.raws.now =
    c.as_slice.ensures ∙ c.in_ok-tokens.ensures.tokens in
    let after : c.tokens_of.new.self ≡ names_after names c.args.raws.now =
    c.in_ok-tokens.ensures.names in
    let judged = rw c.in-Ok.is at c.in_ok-statement.ensures in
    mapped c.place.result c.place.ensures.verdict
    (λ h. placed_line (progress_of c.args.self.now) _ _ c.args.raws.now _ c.tokens_of.new.self c.in-Ok.statement (sym raws) (eqb-false _ _ (sym c.if-is_empty.ensures)) tokens after judged h.0 h.1)
    (λ f h. misplaced_line (progress_of c.args.self.now) _ c.args.raws.now _ c.in-Ok.statement f (sym raws) (eqb-false _ _ (sym c.if-is_empty.ensures)) tokens judged h.0 h.1)

pub returns-clause-verdict : goal.returns-clause-verdict
returns-clause-verdict c line raws =
    let names = c.args.self.now.names in
    let tokens : c.as_slice.result.now ≡ tokens_of names c.args.raws.now =
    c.as_slice.ensures ∙ c.in_ok-tokens.ensures.tokens in
    let judged = rw c.in-Err.is at c.in_ok-statement.ensures in
    faulty_line (progress_of c.args.self.now) _ c.args.raws.now _ c.in-Err.fault (sym raws) (eqb-false _ _ (sym c.if-is_empty.ensures)) tokens judged
