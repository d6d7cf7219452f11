-- An unknown without a name decides.
use Rattle.tcl_poly.specs.Unknown.{factor_of}
use Rattle.std.proofs.Common.{sym, ◌∙◌}
use Rattle.tcl_remainder.specs.Terms as t
use Rattle.tcl_remainder.proofs.Turns.{names_more, names_end}
use Rattle.tcl_remainder.proofs.plain.has_names.Goals as goal

pub returns-then-not-has_name : goal.returns-then-not-has_name
returns-then-not-has_name c =
    names_end c.args.mono.now c.loop-k.k (factor_of c.at.result) (t.has_names c.args.mono.now) c.at.ensures
    (sym c.has_name.ensures ∙ c.if-not-has_name.true) c.loop-k.invariant

pub loop-k-preserved : goal.loop-k-preserved
loop-k-preserved c =
    names_more c.args.mono.now c.loop-k.k (factor_of c.at.result) (t.has_names c.args.mono.now) c.at.ensures
    (sym c.has_name.ensures ∙ c.if-not-has_name.false) c.loop-k.invariant
