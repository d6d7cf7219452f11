-- The lemmas that hypotheses cite.
use Rattle.std.specs.Prelude.{ℕ, Bool, if◌then◌else◌, List, [], ◌∷◌}
use Rattle.std.specs.List.{list_any}
use Rattle.tcl_lang.specs.Program.{VersionedProgram}
use Rattle.tcl_goals.specs.declared.fact.Fact.{Fact}
use Rattle.tcl_goals.specs.declared.piece.Shown.TheVariants as shown
use Rattle.tcl_goals.specs.declared.fact.Hyp.{Hyp}
use Rattle.tcl_goals.specs.declared.lemma.Numbered.{Numbered}
use Rattle.tcl_board.specs.Shows.{is_lemma}
use Rattle.tcl_kernel.specs.Shown.{ProofContent}

-- one of the hypotheses is the lemma of this number
abbrev pub cites : List Hyp → ℕ → Bool
cites hyps n = list_any (is_lemma n) hyps

-- those of a list of lemmas that hypotheses cite, in their order
unfoldable pub cited_lemmas : List Hyp → List Numbered → List Numbered
cited_lemmas hyps [] = []
cited_lemmas hyps (m ∷ lemmas) =
    if cites hyps m.number then m ∷ cited_lemmas hyps lemmas else cited_lemmas hyps lemmas

-- the proof of a fact under these lemmas: it keeps those that the fact cites, and whether it stands alone
abbrev pub proof_of : VersionedProgram → List Numbered → Fact → Bool → ProofContent
proof_of p lemmas fact alone =
    record { program = p; cited = cited_lemmas fact.hyps lemmas; shown = shown.Fact fact; alone = alone }
