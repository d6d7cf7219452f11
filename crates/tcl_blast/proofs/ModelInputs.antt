-- The input of bits fits the program.
use Rattle.std.proofs.Common.{inl, inr, ℕ, Bool, List, [], ◌∙◌, ap}
use Rattle.std.proofs.lemmas.Bool.{cases_Bool}
use Rattle.tcl_cnf.specs.Literal.{value_at}
use Rattle.tcl_lang.specs.declared.ty.Ty.{Ty}
use Rattle.tcl_lang.specs.Program.{VersionedProgram}
use Rattle.tcl_lang.specs.Run.{Fits, taken_types}
use Rattle.tcl_lang.specs.Values.{AreValues}
use Rattle.tcl_lang.specs.Form.{IsWellFormed}
use Rattle.tcl_goals.specs.declared.fact.Fact.{Fact}
use Rattle.tcl_goals.specs.declared.lemma.Numbered.{Numbered}
use Rattle.tcl_words.proofs.Parts.{type_found}
use Rattle.tcl_slice.proofs.WholeRuns.{values_fit}
use Rattle.tcl_blast.specs.Begin.{begun}
use Rattle.tcl_blast.specs.declared.blasted.Blasted.{Blasted}
use Rattle.tcl_blast.specs.Blasted.{blank}
use Rattle.tcl_blast.specs.Inputs.{free_values, input_of}
use Rattle.tcl_blast.proofs.Beginnings.{typed_variable}
use Rattle.tcl_blast.proofs.Facts.{known_by}
use Rattle.tcl_blast.proofs.Stages.{Stage, first_stage}
use Rattle.tcl_blast.proofs.Models.{AreSized, literals_typed}

-- at each stage the variables have no literals, or as many as their types have bits
sized : (p : VersionedProgram) (lemmas : List Numbered) (fact : Fact) (done : List ℕ) (s : Blasted) → Stage p lemmas fact done s → AreSized p.variables s.words
sized p lemmas fact done s st u x at = elim (cases_Bool (known_by p lemmas fact done u)) [
  | inl kn ↦ inr ((st.state.shown u kn).word.count ∙ ap (λ (T : Ty). T.width) (type_found p.variables u x _ at))
  | inr away ↦ inl (st.unset u away)
]

-- the values by the free bits are values of their types
pub free_typed : (p : VersionedProgram) (lemmas : List Numbered) (fact : Fact) (bits : List Bool) → IsWellFormed p → AreValues p.variables (free_values p lemmas fact bits)
unfolding free_values
free_typed p lemmas fact bits w =
    let first = blank (begun p lemmas fact) in
    let st : Stage p lemmas fact [] first = first_stage p lemmas fact w in
    literals_typed (value_at bits) p.variables (begun p lemmas fact).words st.state.count (λ u x e. typed_variable p.variables u x w.words e) (sized p lemmas fact [] first st)

pub input_fits : (p : VersionedProgram) (lemmas : List Numbered) (fact : Fact) (bits : List Bool) → IsWellFormed p → Fits (taken_types p.lines) (input_of p lemmas fact bits)
unfolding input_of
input_fits p lemmas fact bits w = values_fit p (free_values p lemmas fact bits) w (free_typed p lemmas fact bits w)
