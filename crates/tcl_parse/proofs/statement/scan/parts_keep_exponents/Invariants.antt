use Rattle.std.proofs.Common.{◌≡◌, drop}
use Rattle.std.specs.List.{list_all}
use Rattle.tcl_lang.specs.Shape.{is_exponent}
use Rattle.tcl_parse.proofs.statement.scan.parts_keep_exponents.Given as goal

abbrev pub invariant-loop-part : goal.invariant-loop-part
invariant-loop-part l =
    list_all (λ part. is_exponent part.power) (drop l.part-index l.parts) ≡ list_all (λ part. is_exponent part.power) l.parts
