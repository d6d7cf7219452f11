-- Which names the lines before a place define.
use Rattle.std.specs.Prelude.{ℕ, ◌==◌, Bool, List, take}
use Rattle.std.specs.List.{list_any}
use Rattle.tcl_lang.specs.declared.pred.Line.{Line}
use Rattle.tcl_lang.specs.Names.{defined_names}

-- the name is one of these
abbrev pub is_among : List ℕ → ℕ → Bool
is_among names name = list_any (λ other. other == name) names

-- a line before the place defines the name
abbrev pub is_defined_before : List Line → ℕ → ℕ → Bool
is_defined_before lines place name = list_any (λ l. is_among (defined_names l) name) (take place lines)
