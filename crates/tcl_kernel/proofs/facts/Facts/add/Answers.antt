-- What stands under the lemmas that it cites stands under these.
use Rattle.std.proofs.Common.{◌≡◌, sym, ◌∙◌}
use Rattle.tcl_goals.specs.declared.piece.Shown.TheVariants as shown
use Rattle.tcl_kernel.proofs.CitedLists.{shown_more}
use Rattle.tcl_kernel.proofs.facts.Facts.add.Goals as goal

pub add_fact-requires : goal.add_fact-requires
add_fact-requires c =
    let proof = c.args.proof.now in
    let is : proof.shown ≡ shown.Fact c.in-Fact.fact = sym c.shown.ensures.shown ∙ c.in-Fact.is in
    record {
      lemmas_below = c.requires.lemmas_below;
      facts_below = c.requires.facts_below;
      stands = shown_more c.args.self.now.program proof.program proof.cited c.args.self.now.lemmas proof.shown c.in-Fact.fact c.in_ok-copy-in-Fact.field-0
          c.requires.program c.requires.cited c.shown.ensures.holds is c.in_ok-copy-in-Fact.ensures.copy;
    }
