-- What stands under the lemmas stands under those that are kept.
use Rattle.std.proofs.Common.{rules, ◌≡◌}
use Rattle.tcl_kernel.specs.Cited.{cited_lemmas}
use Rattle.tcl_kernel.proofs.CitedLists.{cited_shown, cited_kept}
use Rattle.tcl_kernel.proofs.proof.Proof.of_fact.Goals as goal

pub invariant_of-result : goal.invariant_of-result
invariant_of-result c =
    let kept : c.in_ok-cited_lemmas.field-0 ≡ cited_lemmas c.args.fact.hyps c.args.lemmas.now.items = search rules in (
      cited_shown c.args.ssa.now c.of.result.value c.args.lemmas.now.items c.in_ok-cited_lemmas.field-0 c.args.fact c.of.ensures kept c.requires,
      cited_kept c.args.lemmas.now.items c.in_ok-cited_lemmas.field-0 c.args.fact kept,
    )
