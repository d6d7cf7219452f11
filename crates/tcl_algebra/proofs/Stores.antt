-- What lines, hypotheses and claims say of the words of an assignment.
use Rattle.std.proofs.Common.{◌≡◌, ℕ, refl, ◌&&◌, ℤ, Bool, List, [], ◌∷◌}
use Rattle.std.specs.List.{list_all, slice_get}
use Rattle.tcl_lang.specs.declared.ty.Word.{Word}
use Rattle.tcl_lang.specs.Program.{VersionedProgram}
use Rattle.tcl_lang.specs.Goal.{truth_in}
use Rattle.tcl_lang.specs.Values.{words_of, truth_of}
use Rattle.tcl_goals.specs.declared.fact.Hyp.{Hyp}
use Rattle.tcl_goals.specs.declared.fact.Hyp.TheVariants as hyp
use Rattle.tcl_goals.specs.declared.lemma.Numbered.{Numbered}
use Rattle.tcl_goals.specs.LemmaList.{lemma_of}
use Rattle.tcl_goals.specs.Holds.{lemma_holds}
use Rattle.tcl_goals.specs.Assignments.{hyp_of}

abbrev pub line_in : VersionedProgram → List Word → ℕ → Bool
line_in p store k = truth_in store (slice_get p.lines k)

abbrev pub hyp_in : VersionedProgram → List Numbered → List Word → Hyp → Bool
hyp_in p lemmas store (hyp.Line k) = line_in p store k
hyp_in p lemmas store (hyp.Lemma n) = lemma_holds store (lemma_of lemmas n)

pub truth_same : (p : VersionedProgram) (values : List ℤ) (k : ℕ) → truth_of p values k ≡ line_in p (words_of p.variables values) k
unfolding truth_of
truth_same p values k = refl

hyp_same : (p : VersionedProgram) (lemmas : List Numbered) (values : List ℤ) (h : Hyp) → hyp_of p lemmas values h ≡ hyp_in p lemmas (words_of p.variables values) h
hyp_same p lemmas values (hyp.Line k) = truth_same p values k
hyp_same p lemmas values (hyp.Lemma n) = refl

pub hyps_same : (p : VersionedProgram) (lemmas : List Numbered) (values : List ℤ) (hyps : List Hyp) → list_all (hyp_of p lemmas values) hyps ≡ list_all (hyp_in p lemmas (words_of p.variables values)) hyps
hyps_same p lemmas values [] = refl
hyps_same p lemmas values (h ∷ hyps) = λ i. hyp_same p lemmas values h i && hyps_same p lemmas values hyps i
