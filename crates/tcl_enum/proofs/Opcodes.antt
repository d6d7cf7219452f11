-- What distinguishes a `nondet`, whose result is free, from the other instructions.
use Rattle.std.proofs.Common.{◌≡◌, ℕ, refl, ℤ, true, false, List}
use Rattle.tcl_lang.specs.declared.instr.Op.{Op}
use Rattle.tcl_lang.specs.declared.instr.Op.TheVariants.{Mov, Add, Adds, Adc, Adcs, Sub, Subb, Sbb, Sbbs, Mul, Mull, Mulj, Shl, Split, Join, Cast, Vpc, Cmov, And, Or, Xor, Not, Nondet}
use Rattle.tcl_lang.specs.Run.{operands_of}
use Rattle.tcl_lang.specs.Values.{value_at, keeps_choice}
use Rattle.tcl_lang.specs.Defined.{is_among}
use Rattle.tcl_goals.specs.Free.{computed_results}

-- computing an instruction anew changes the values of its computed results alone
pub kept : (op : Op) (outs : List ℕ) (v : ℕ) (old new : List ℤ) → is_among (computed_results op outs) v ≡ false → (is_among outs v ≡ false → value_at new v ≡ value_at old v) → value_at (keeps_choice op old new) v ≡ value_at old v
kept Nondet outs v old new e h = refl
kept Mov outs v old new e h = h e
kept Add outs v old new e h = h e
kept Adds outs v old new e h = h e
kept Adc outs v old new e h = h e
kept Adcs outs v old new e h = h e
kept Sub outs v old new e h = h e
kept Subb outs v old new e h = h e
kept Sbb outs v old new e h = h e
kept Sbbs outs v old new e h = h e
kept Mul outs v old new e h = h e
kept Mull outs v old new e h = h e
kept Mulj outs v old new e h = h e
kept Shl outs v old new e h = h e
kept Split outs v old new e h = h e
kept Join outs v old new e h = h e
kept Cast outs v old new e h = h e
kept Vpc outs v old new e h = h e
kept Cmov outs v old new e h = h e
kept And outs v old new e h = h e
kept Or outs v old new e h = h e
kept Xor outs v old new e h = h e
kept Not outs v old new e h = h e

-- a computed result is a result
pub results_only : (op : Op) (outs : List ℕ) (v : ℕ) → is_among outs v ≡ false → is_among (computed_results op outs) v ≡ false
results_only Nondet outs v e = refl
results_only Mov outs v e = e
results_only Add outs v e = e
results_only Adds outs v e = e
results_only Adc outs v e = e
results_only Adcs outs v e = e
results_only Sub outs v e = e
results_only Subb outs v e = e
results_only Sbb outs v e = e
results_only Sbbs outs v e = e
results_only Mul outs v e = e
results_only Mull outs v e = e
results_only Mulj outs v e = e
results_only Shl outs v e = e
results_only Split outs v e = e
results_only Join outs v e = e
results_only Cast outs v e = e
results_only Vpc outs v e = e
results_only Cmov outs v e = e
results_only And outs v e = e
results_only Or outs v e = e
results_only Xor outs v e = e
results_only Not outs v e = e

pub is_result : (op : Op) (outs : List ℕ) (v : ℕ) → is_among (computed_results op outs) v ≡ true → is_among outs v ≡ true
is_result Nondet outs v e = absurd (cc)
is_result Mov outs v e = e
is_result Add outs v e = e
is_result Adds outs v e = e
is_result Adc outs v e = e
is_result Adcs outs v e = e
is_result Sub outs v e = e
is_result Subb outs v e = e
is_result Sbb outs v e = e
is_result Sbbs outs v e = e
is_result Mul outs v e = e
is_result Mull outs v e = e
is_result Mulj outs v e = e
is_result Shl outs v e = e
is_result Split outs v e = e
is_result Join outs v e = e
is_result Cast outs v e = e
is_result Vpc outs v e = e
is_result Cmov outs v e = e
is_result And outs v e = e
is_result Or outs v e = e
is_result Xor outs v e = e
is_result Not outs v e = e

-- an instruction that computes a result has the same operands whatever the choice
pub no_choice : (op : Op) (outs : List ℕ) (v : ℕ) (ns : List ℤ) (c d : ℤ) → is_among (computed_results op outs) v ≡ true → operands_of op ns c ≡ operands_of op ns d
no_choice Nondet outs v ns c d e = absurd (cc)
no_choice Mov outs v ns c d e = refl
no_choice Add outs v ns c d e = refl
no_choice Adds outs v ns c d e = refl
no_choice Adc outs v ns c d e = refl
no_choice Adcs outs v ns c d e = refl
no_choice Sub outs v ns c d e = refl
no_choice Subb outs v ns c d e = refl
no_choice Sbb outs v ns c d e = refl
no_choice Sbbs outs v ns c d e = refl
no_choice Mul outs v ns c d e = refl
no_choice Mull outs v ns c d e = refl
no_choice Mulj outs v ns c d e = refl
no_choice Shl outs v ns c d e = refl
no_choice Split outs v ns c d e = refl
no_choice Join outs v ns c d e = refl
no_choice Cast outs v ns c d e = refl
no_choice Vpc outs v ns c d e = refl
no_choice Cmov outs v ns c d e = refl
no_choice And outs v ns c d e = refl
no_choice Or outs v ns c d e = refl
no_choice Xor outs v ns c d e = refl
no_choice Not outs v ns c d e = refl
