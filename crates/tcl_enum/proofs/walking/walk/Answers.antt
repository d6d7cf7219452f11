-- The free variables have as many bits as there are free bits.
use Rattle.std.proofs.Common.{rules, ◌≡◌}
use Rattle.tcl_goals.specs.Free.{free_variables}
use Rattle.tcl_enum.proofs.FreeBits.{few_bits}
use Rattle.tcl_enum.proofs.walking.walk.Goals as goal

pub listed-requires : goal.listed-requires
listed-requires c =
    let p = c.args.ssa.now in
    let lemmas = c.args.lemmas.now.items in
    let fact = c.args.fact.now in
    let free : c.as_slice-in-Some.result.now ≡ free_variables p lemmas fact = search rules in
    few_bits p lemmas fact c.as_slice-in-Some.result.now free c.requires.few
