-- As many names are written as there are results.
use Rattle.std.proofs.Common.{rules, ◌≡◌, sym, ap, ◌∙◌, arith, length, [], ◌∷◌, get_or, to_z, of_z}
use Rattle.std.specs.Int.{w128}
use Rattle.tcl_lang.specs.Store.{set_word}
use Rattle.tcl_lang.specs.Results.{result_types}
use Rattle.tcl_lang.specs.ResultList.{listed}
use Rattle.tcl_lang.specs.Run.{write_all}
use Rattle.tcl_lang.proofs.MachineRuns.{types_length, write_one, write_two}
use Rattle.tcl_lang.proofs.running.write.Goals as goal

pub returns-in-One : goal.returns-in-One
returns-in-One c =
    let i = c.args.instr.now in
    let lists : listed c.args.results ≡ c.in-One.value ∷ [] = ap listed c.in-One.is in
    let counted = ap length lists in
    let passed : to_z w128 (of_z w128 c.in-One.value) ≡ c.in-One.value = search rules in
    write_one c.args.store.now c.set_result.new.store i.outs (result_types i.op i.ty) c.in-One.value
    (omega (arith, c.requires.shape, c.requires.count, counted))
    (omega (arith, types_length i.op i.ty, c.requires.count, counted))
    (λ T e. c.set_result.ensures.set T e ∙ ap (λ v. set_word c.args.store.now (get_or i.outs 0 0) T v) passed)
    ∙ ap (λ values. write_all c.args.store.now i.outs (result_types i.op i.ty) values) (sym lists)

pub returns-in-Two : goal.returns-in-Two
returns-in-Two c =
    let i = c.args.instr.now in
    let lists : listed c.args.results ≡ c.in-Two.first ∷ c.in-Two.second ∷ [] = ap listed c.in-Two.is in
    let counted = ap length lists in
    let first : to_z w128 (of_z w128 c.in-Two.first) ≡ c.in-Two.first = search rules in
    let second : to_z w128 (of_z w128 c.in-Two.second) ≡ c.in-Two.second = search rules in
    write_two c.args.store.now c.set_result-in-Two.new.store c.set_result-in-Two-2.new.store i.outs (result_types i.op i.ty) c.in-Two.first c.in-Two.second
    (omega (arith, c.requires.shape, c.requires.count, counted))
    (omega (arith, types_length i.op i.ty, c.requires.count, counted))
    (λ T e. c.set_result-in-Two.ensures.set T e ∙ ap (λ v. set_word c.args.store.now (get_or i.outs 0 0) T v) first)
    (λ T e. c.set_result-in-Two-2.ensures.set T e ∙ ap (λ v. set_word c.set_result-in-Two.new.store (get_or i.outs 1 0) T v) second)
    ∙ ap (λ values. write_all c.args.store.now i.outs (result_types i.op i.ty) values) (sym lists)
