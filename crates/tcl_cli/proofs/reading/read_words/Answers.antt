use Rattle.std.proofs.Common.{rules, ◌≡◌, ◌∙◌, sym, false, map, Some, None, string_bytes}
use Rattle.std.specs.List.{list_any}
use Rattle.clap.specs.Matches.{found_of}
use Rattle.clap.proofs.WalkLemmas.{list_any-map}
use Rattle.tcl_cli.specs.Words.{is_dashes}
use Rattle.tcl_cli.proofs.Choices.{dashes_none, fault_none, options_are}
use Rattle.tcl_cli.proofs.reading.read_words.Goals as goal

pub returns-then-has_dashes-clause-usage : goal.returns-then-has_dashes-clause-usage
returns-then-has_dashes-clause-usage c = λ _. dashes_none c.args.tool _ (sym (c.has_dashes.ensures ∙ list_any-map is_dashes string_bytes c.args.words.now) ∙ c.if-has_dashes.true)

pub returns-in-Err-clause-usage : goal.returns-in-Err-clause-usage
returns-in-Err-clause-usage c = λ e. fault_none c.args.tool _ (c.in-Err.ensures.err e)

pub returns-in-Some-clause-options : goal.returns-in-Some-clause-options
returns-in-Some-clause-options c =
    let ws = map string_bytes c.args.words.now in
    let other : list_any is_dashes ws ≡ false = sym (c.has_dashes.ensures ∙ list_any-map is_dashes string_bytes c.args.words.now) ∙ c.if-has_dashes.false in
    let last : c.options_in.result ≡ Some c.in-Some.options = search rules in
    sym (options_are c.args.tool ws other c.in-Ok.ensures.ok.0 (found_of c.in-Ok.matches) c.in-Ok.ensures.ok.1) ∙ sym c.options_in.ensures ∙ last

pub returns-clause-usage : goal.returns-clause-usage
returns-clause-usage c =
    let ws = map string_bytes c.args.words.now in
    let other : list_any is_dashes ws ≡ false = sym (c.has_dashes.ensures ∙ list_any-map is_dashes string_bytes c.args.words.now) ∙ c.if-has_dashes.false in
    let last : c.options_in.result ≡ None = search rules in
    λ _. sym (options_are c.args.tool ws other c.in-Ok.ensures.ok.0 (found_of c.in-Ok.matches) c.in-Ok.ensures.ok.1) ∙ sym c.options_in.ensures ∙ last
