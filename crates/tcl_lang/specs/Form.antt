-- What holds of every versioned form, in its own words: whoever has a form reads it here, and need not know of what
-- program it is the form.
use Rattle.std.specs.Prelude.{◌≡◌, ℕ, ◌-◌, ◌^◌, ◌<◌, ◌≤◌, ℤ, true, List, map, length, take, All, slice_get, Some}
use Rattle.tcl_lang.specs.declared.ty.Word.{Word}
use Rattle.tcl_lang.specs.declared.pred.Line.{Line}
use Rattle.tcl_lang.specs.declared.variable.Variable.{Variable}
use Rattle.tcl_lang.specs.Program.{VersionedProgram}
use Rattle.tcl_lang.specs.Types.{IsTy, InType}
use Rattle.tcl_lang.specs.Store.{word_at}
use Rattle.tcl_lang.specs.Run.{store_at}
use Rattle.tcl_lang.specs.Names.{defined_names, used_names}
use Rattle.tcl_lang.specs.Shape.{stage_of, in_stages}
use Rattle.tcl_lang.specs.Typing.{type_at, types_at}
use Rattle.tcl_lang.specs.Versions.{numbers_from}
use Rattle.tcl_lang.specs.Values.{types_of}
use Rattle.tcl_lang.specs.Limit.{definition_count, definitions_before}
use Rattle.tcl_lang.specs.Execution.{IsRunnable}

-- the store at the end of the run from an input
unfoldable pub end_store : VersionedProgram → List ℤ → List Word
end_store f input = store_at (length f.variables) f.lines input (length f.lines)

-- the words of the variables are values of their types
abbrev pub AreTyped : List Variable → List Word → Type 0
AreTyped variables store =
    (v : ℕ) (x : Variable) → slice_get variables v ≡ Some x →
    ((word_at store v).ty ≡ x.ty) × InType x.ty (word_at store v).value

-- The lines can be run over the variables and stand in their parts; there are few lines and few variables. The names that
-- the lines define are 0, 1, 2 .. in order, up to the number of variables. A line reads only what lines before it define,
-- and before each line exactly the variables defined so far have a type, which is their own: a type of words.
pub record IsWellFormed (f : VersionedProgram) : Type 0 where
  pub runnable : IsRunnable (length f.variables) f.lines
  pub stages : in_stages 0 (map stage_of f.lines) ≡ true
  pub few_lines : length f.lines < 2 ^ 32 - 1
  pub few_variables : length f.variables < 2 ^ 32
  pub count : definition_count f.lines ≡ length f.variables
  pub defines : (k : ℕ) (l : Line) → slice_get f.lines k ≡ Some l →
      defined_names l ≡ numbers_from (definitions_before f.lines k) (defined_names l)
  pub reads : (k : ℕ) (l : Line) → slice_get f.lines k ≡ Some l →
      All (λ v. v < definitions_before f.lines k) (used_names l)
  pub words : All (λ x. IsTy x.ty) f.variables
  pub types : (k v : ℕ) → k ≤ length f.lines →
      type_at (types_at (length f.variables) f.lines k) v
      ≡ slice_get (types_of (take (definitions_before f.lines k) f.variables)) v
