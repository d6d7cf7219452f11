-- The first part.
use Rattle.std.proofs.Common.{rules, ◌≡◌, ◌∙◌, ap, get_or, unsigned_abs, pos}
use Rattle.tcl_blast.specs.Lifted.{exponent_of}
use Rattle.tcl_blast.proofs.Exponents.{no_part, first_number_is, first_power_is}
use Rattle.tcl_blast.proofs.exponent.exponent_of.Goals as goal

pub returns-in-None : goal.returns-in-None
returns-in-None c =
    let own : c.unsigned_abs.result ≡ unsigned_abs (get_or c.args.parts.now 0 no_part).base = search rules in
    c.exponent_of_number.ensures ∙ ap exponent_of (ap pos own ∙ (first_number_is c.args.parts.now c.requires c.in-None.is).value)

pub returns-in-Some : goal.returns-in-Some
returns-in-Some c = c.exponent_from.ensures ∙ ap exponent_of (first_power_is c.args.parts.now c.in-Some.power c.requires c.in-Some.is).value
