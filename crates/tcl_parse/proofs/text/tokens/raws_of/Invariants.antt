-- The tokens found and those of the rest are those of the line.
use Rattle.std.proofs.Common.{◌≡◌, length}
use Rattle.tcl_text.specs.Tokens.{raws_of}
use Rattle.tcl_parse.proofs.TextTokens.{then_raws}
use Rattle.tcl_parse.proofs.text.tokens.raws_of.Given as goal

abbrev pub invariant-loop-first : goal.invariant-loop-first
invariant-loop-first l = then_raws l.raws (raws_of l.rest) ≡ raws_of l.fn.line

abbrev pub decreases-loop-first : goal.decreases-loop-first
decreases-loop-first l = length l.rest
