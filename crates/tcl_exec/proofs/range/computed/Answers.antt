-- What an instruction wraps is a value of its type.
use Rattle.std.proofs.Common.{rules, ◌≡◌, sym, subst, to_z, of_z}
use Rattle.std.specs.Int.{w128}
use Rattle.tcl_lang.specs.declared.ty.Word.{Word}
use Rattle.tcl_lang.specs.Range.{wrapped_word}
use Rattle.tcl_exec.specs.Plain.{plain_value}
use Rattle.tcl_exec.specs.Sound.{IsSoundWord}
use Rattle.tcl_exec.proofs.PlainWords.{wrapped_sound}
use Rattle.tcl_exec.proofs.range.computed.Goals as goal

pub returns-clause-sound : goal.returns-clause-sound
returns-clause-sound c =
    let T = c.args.left.ty in
    let n = plain_value c.args.op T c.args.left.value c.args.right.value in
    let word : record { ty = T; value = to_z w128 (of_z w128 c.only_result.result) } ≡ wrapped_word T n = search rules in
    subst (λ (w : Word). IsSoundWord w) (sym word) (wrapped_sound T n c.requires.left.ty)
