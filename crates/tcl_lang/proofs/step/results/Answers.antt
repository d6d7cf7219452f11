-- Patterns of at most 64 bits, joined bit by bit, have at most 64 bits.
use Rattle.std.proofs.Common.{◌^◌, ◌<◌, ◌≤◌, ℕ, arith}
use Rattle.std.proofs.lemmas.Nat.{or_lt, xor_lt}
use Rattle.std.proofs.Math.Nat.{pow-le-pow_right}
use Rattle.tcl_lang.proofs.step.results.Goals as goal

within : (n w : ℕ) → n < 2 ^ w → w ≤ 64 → n < 2 ^ 64
within n w p h =
    let power : 2 ^ w ≤ 2 ^ 64 = pow-le-pow_right {n = 2} (omega arith) {i = w} {j = 64} h in omega arith

pub word_of_pattern-requires-in-Or-clause-narrow : goal.word_of_pattern-requires-in-Or-clause-narrow
word_of_pattern-requires-in-Or-clause-narrow c =
    or_lt 64 _ _ (within _ c.args.ty.width c.pattern-in-Or.ensures.below c.requires.type_of_words.1)
    (within _ c.args.ty.width c.pattern-in-Or-2.ensures.below c.requires.type_of_words.1)

pub word_of_pattern-requires-in-Xor-clause-narrow : goal.word_of_pattern-requires-in-Xor-clause-narrow
word_of_pattern-requires-in-Xor-clause-narrow c =
    xor_lt 64 _ _ (within _ c.args.ty.width c.pattern-in-Xor.ensures.below c.requires.type_of_words.1)
    (within _ c.args.ty.width c.pattern-in-Xor-2.ensures.below c.requires.type_of_words.1)
