-- The last place is the greatest.
use Rattle.std.proofs.Common.{◌≡◌, ◌-◌, suc, length, arith}
use Rattle.tcl_reduce.proofs.DefinitionLists.{first_rises, later_rises}
use Rattle.tests_member.proofs.making.is_later.Goals as goal

pub returns-then-count-eq0 : goal.returns-then-count-eq0
returns-then-count-eq0 g c =
    λ _ variable poly. first_rises c.args.defs.now (c.args.place, variable, poly) c.len-count.ensures.rising (omega (arith, c.len-count.ensures.len, c.if-count-eq0.true))

pub returns-then-last-place : goal.returns-then-last-place
returns-then-last-place g c =
    let x = c.at.result.now in let xs = c.args.defs.now in let n = c.len-count.result - 1 in
    let count : length xs ≡ suc n = omega (arith, c.len-count.ensures.len, c.if-count-eq0.false) in
    λ _ variable poly. later_rises xs (c.args.place, variable, poly) (x.place, x.variable, x.poly) n c.len-count.ensures.rising count c.at.ensures.definition c.if-last-place.true
