use Rattle.std.proofs.Common.{◌≡◌, drop}
use Rattle.std.specs.Prelude.{bytes_eq}
use Rattle.std.specs.List.{find}
use Rattle.tcl_text.specs.Words.{word_of_op}
use Rattle.tcl_parse.proofs.text.words.first_op.Given as goal

abbrev pub invariant-loop-op : goal.invariant-loop-op
invariant-loop-op l =
    find (λ op. bytes_eq l.word (word_of_op op)) (drop l.op-index l.ops) ≡ find (λ op. bytes_eq l.word (word_of_op op)) l.ops
