-- The words are within the gates, each as wide as its variable.
use Rattle.std.proofs.Common.{◌≡◌, length, map, take}
use Rattle.tcl_words.specs.Ranges.{AllWithin}
use Rattle.tests_words.proofs.ranges.free_words.Given as goal

abbrev pub invariant-loop-variable : goal.invariant-loop-variable
invariant-loop-variable l = record {
  within : AllWithin (length l.gates) l.words;
  widths : map length l.words ≡ map (λ v. v.ty.width) (take l.variable-index l.variables);
  count : length l.words ≡ l.variable-index;
}
