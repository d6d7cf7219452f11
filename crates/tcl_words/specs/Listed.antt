-- The words of results as a list.
use Rattle.std.specs.Prelude.{ℕ, List, [], ◌∷◌}
use Rattle.tcl_words.specs.declared.results.ResultWords.{ResultWords}
use Rattle.tcl_words.specs.declared.results.ResultWords.TheVariants.{One, Two}

abbrev pub listed : ResultWords → List (List ℕ)
listed (One a) = a ∷ []
listed (Two a b) = a ∷ b ∷ []
