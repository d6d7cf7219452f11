use Rattle.std.proofs.Common.{◌≡◌, drop}
use Rattle.std.specs.Prelude.{bytes_eq}
use Rattle.std.specs.List.{find}
use Rattle.tcl_text.specs.Words.{word_of_keyword}
use Rattle.tcl_parse.proofs.text.words.first_keyword.Given as goal

abbrev pub invariant-loop-keyword : goal.invariant-loop-keyword
invariant-loop-keyword l =
    find (λ word. bytes_eq l.word (word_of_keyword word)) (drop l.keyword-index l.keywords)
    ≡ find (λ word. bytes_eq l.word (word_of_keyword word)) l.keywords
