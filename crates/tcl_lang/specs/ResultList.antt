-- The results of an instruction, one or two, as the list that the rows speak of.
use Rattle.std.specs.Prelude.{ℤ, List, [], ◌∷◌}
use Rattle.tcl_lang.specs.declared.result_values.Results.{Results}
use Rattle.tcl_lang.specs.declared.result_values.Results.TheVariants.{One, Two}

abbrev pub listed : Results → List ℤ
listed (One x) = x ∷ []
listed (Two x y) = x ∷ y ∷ []
