-- The number of definitions, one line further.
use Rattle.std.proofs.Common.{◌≡◌, ℕ, ◌+◌, ◌<◌, ◌≤◌, ap, arith, List, length, get_or, take}
use Rattle.std.proofs.lemmas.List.Sums.{sum_by_more, sum_by_more_le}
use Rattle.tcl_lang.specs.declared.pred.Line.{Line}
use Rattle.tcl_lang.specs.Names.{defined_names}
use Rattle.tcl_lang.specs.Limit.{definition_count}

pub definitions_more : (lines : List Line) (k n m : ℕ) (l d : Line) → k < length lines → n ≡ definition_count (take k lines) → l ≡ get_or lines k d → m ≡ length (defined_names l) → n + m ≡ definition_count (take (k + 1) lines)
definitions_more lines k n m l d h e f g =
    let same : length (defined_names l) ≡ length (defined_names (get_or lines k d)) = ap (λ x. length (defined_names x)) f in
    omega (arith, e, g, same, sum_by_more (λ x. length (defined_names x)) lines k d h)

pub definitions_within : (lines : List Line) (k n m : ℕ) (l d : Line) → k < length lines → n ≡ definition_count (take k lines) → l ≡ get_or lines k d → m ≡ length (defined_names l) → n + m ≤ definition_count lines
definitions_within lines k n m l d h e f g =
    let same : length (defined_names l) ≡ length (defined_names (get_or lines k d)) = ap (λ x. length (defined_names x)) f in
    omega (arith, e, g, same, sum_by_more_le (λ x. length (defined_names x)) lines k d h)
