use Rattle.std.proofs.Common.{get_or, false, rules}
use Rattle.std.proofs.lemmas.Fn.{filter_same}
use Rattle.std.proofs.lemmas.List.Filters.{dedup_is}
use Rattle.tcl_cnf.proofs.MarkLemmas.{settled}
use Rattle.tcl_cnf.proofs.marks.settle.Goals as goal

pub returns : goal.returns
returns c =
    settled c.args.table.now c.args.touched.now.items c.retain.new.self.items c.sort_unstable.new.self.items c.dedup.new.self.items
    (record { each = c.requires.each }) (filter_same _ (λ l. get_or c.args.table.now l false) _ (λ x b f' k. search rules) _ _ c.retain.ensures.filtered)
    c.sort_unstable.ensures.permutation c.sort_unstable.ensures.sorted (dedup_is _ _ _ c.dedup.ensures.filtered)
