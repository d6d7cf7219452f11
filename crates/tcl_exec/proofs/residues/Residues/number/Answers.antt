-- The residue of a negative number is that of its magnitude, negated.
use Rattle.std.proofs.Common.{rules, ◌≡◌, ◌%◌, pos, ◌<ℤ◌, unsigned_abs}
use Rattle.tcl_exec.specs.Residue.{residue_count}
use Rattle.tcl_exec.proofs.ResidueSums.{negative_residue}
use Rattle.tcl_exec.proofs.residues.Residues.number.Goals as goal

pub returns-then-n-lt0-clause-value : goal.returns-then-n-lt0-clause-value
returns-then-n-lt0-clause-value c =
    let m = residue_count c.args.self.modulus in
    let less : c.args.n <ℤ pos 0 = search rules in
    let magnitude : c.natural-residue.result ≡ unsigned_abs c.args.n % m = search rules in
    negative_residue c.args.n m c.natural-residue.result c.negation.result c.args.self.positive less magnitude c.natural-residue.ensures.below c.negation.ensures.value
