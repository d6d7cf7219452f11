use Rattle.std.proofs.Common.{map, ap, ◌∙◌}
use Rattle.tcl_text.specs.Numbering.{number_of, with_name}
use Rattle.tcl_parse.proofs.TextNames.{number_in, with_key}
use Rattle.tcl_parse.proofs.text.numbering.NameTable.enter.Goals as goal

pub returns-clause-number : goal.returns-clause-number
returns-clause-number c =
    c.in-Ok.ensures.index
    ∙ (number_in c.self.inside.names.keys c.args.name.items ∙ ap (λ names. number_of names c.args.name.items) c.self.view_is)

pub returns-clause-names : goal.returns-clause-names
returns-clause-names c =
    ap (map (λ k. k.items)) c.in-Ok.ensures.keys
    ∙ (with_key c.self.inside.names.keys c.args.name ∙ ap (λ names. with_name names c.args.name.items) c.self.view_is)
