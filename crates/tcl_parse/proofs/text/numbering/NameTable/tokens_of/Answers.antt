use Rattle.std.proofs.Common.{◌+◌, ◌++◌, drop, ap, ◌∙◌}
use Rattle.tcl_text.specs.Numbering.{tokens_of}
use Rattle.tcl_parse.proofs.TextTokenNames.{tokens_on, names_on, tokens_end, names_end}
use Rattle.tcl_parse.proofs.text.numbering.NameTable.tokens_of.Goals as goal

pub loop-raw-preserved : goal.loop-raw-preserved
loop-raw-preserved c = record {
  tokens =
      ap (λ done. done ++ tokens_of c.token_of.new.self (drop (c.loop-raw.raw-index + 1) c.args.raws.now)) c.in_ok-push.ensures.pushed
      ∙ tokens_on c.loop-raw.tokens c.loop-raw.self c.token_of.new.self c.args.raws.now c.loop-raw.raw-index c.raw-item.result _ _
      c.loop-raw-test.true c.raw-item.is c.in_ok-token_of.ensures.token c.in_ok-token_of.ensures.names c.loop-raw.invariant.tokens;
  names = names_on c.loop-raw.self c.token_of.new.self c.args.raws.now c.loop-raw.raw-index c.raw-item.result _ c.loop-raw-test.true
      c.raw-item.is c.in_ok-token_of.ensures.names c.loop-raw.invariant.names;
}

pub returns-clause-tokens : goal.returns-clause-tokens
returns-clause-tokens c =
    tokens_end c.loop-raw.tokens c.loop-raw.self c.args.raws.now c.loop-raw.raw-index _ c.loop-raw-test.false c.loop-raw.invariant.tokens

pub returns-clause-names : goal.returns-clause-names
returns-clause-names c =
    names_end c.loop-raw.self c.args.raws.now c.loop-raw.raw-index _ c.loop-raw-test.false c.loop-raw.invariant.names
