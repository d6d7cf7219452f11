-- The input of a model of the clauses of a whole piece.
use Rattle.std.proofs.Common.{◌≡◌, ℕ, ℤ, Bool, false, List, [], sym, ◌∙◌, ap, subst, Result, Ok, Err}
use Rattle.std.specs.Prelude.{IfOk}
use Rattle.tcl_lang.specs.Program.{VersionedProgram}
use Rattle.tcl_lang.specs.Form.{IsWellFormed}
use Rattle.tcl_lang.specs.Run.{Fits, taken_types}
use Rattle.tcl_goals.specs.declared.fact.Fact.{Fact}
use Rattle.tcl_goals.specs.declared.lemma.Numbered.{Numbered}
use Rattle.tcl_goals.specs.declared.piece.Piece.{Piece}
use Rattle.tcl_goals.specs.declared.piece.Route.TheVariants as route
use Rattle.tcl_goals.specs.Plans.{is_algebraic_goal, piece_fact, IsPiece}
use Rattle.tcl_goals.proofs.PieceOrder.{piece_in_order}
use Rattle.tcl_blast.specs.Inputs.{input_of}
use Rattle.tcl_kernel.specs.CauseLaws.{IsModelEnd}
use Rattle.tcl_kernel.specs.Strays.{first_stray}
use Rattle.tcl_kernel.proofs.ModelStrays.{piece_is, models_stray}
use Rattle.tcl_worker.specs.Worked.{IsModelled, IsModelInput}
use Rattle.tcl_worker.proofs.Ends.{piece_claim}

same_input : (p : VersionedProgram) (lemmas : List Numbered) (fact copy : Fact) (bits : List Bool) → lemmas ≡ [] → copy ≡ fact → input_of p lemmas copy bits ≡ input_of p [] fact bits
same_input p lemmas fact copy bits none same = ap (λ ls. input_of p ls copy bits) none ∙ ap (λ (f : Fact). input_of p [] f bits) same

pub model_input : (p : VersionedProgram) (budget : ℕ) (q : Piece) (lemmas : List Numbered) (copy : Fact) (bits : List Bool) (input : List ℤ) → IsWellFormed p → IsPiece p q → q.route ≡ route.Whole → lemmas ≡ [] → copy ≡ piece_fact p q → IsModelled p budget (piece_fact p q) bits → input ≡ input_of p lemmas copy bits → Fits (taken_types p.lines) input → IsModelInput p budget q input
model_input p budget q lemmas copy bits input w piece whole none same m is fits =
    let range : is_algebraic_goal p.lines q.goal ≡ false = sym (piece_claim p q) ∙ m.range in
    let end = models_stray p (piece_fact p q) q.goal bits w (piece_in_order p [] q w piece) (piece_is p q whole) range m.meets in
    record {
      route_is = whole;
      range = range;
      unbounded = m.unbounded;
      unwalked = m.unwalked;
      fits = fits;
      ends = subst (λ x. IsModelEnd p q.goal x (first_stray p q.goal x)) (sym (is ∙ same_input p lemmas (piece_fact p q) copy bits none same)) end;
      unsettled = m.unsettled;
    }

-- the same of the code's answer
pub told_input : {E : Type 0} (p : VersionedProgram) (budget : ℕ) (q : Piece) (lemmas : List Numbered) (copy : Fact) (bits : List Bool) (r : Result (List ℤ) E) → IsWellFormed p → IsPiece p q → q.route ≡ route.Whole → lemmas ≡ [] → copy ≡ piece_fact p q → IsModelled p budget (piece_fact p q) bits → IfOk r (λ input. input ≡ input_of p lemmas copy bits) → IfOk r (λ input. Fits (taken_types p.lines) input) → IfOk r (λ input. IsModelInput p budget q input)
told_input p budget q lemmas copy bits (Ok input) w piece whole none same m is fits = model_input p budget q lemmas copy bits input w piece whole none same m is fits
told_input p budget q lemmas copy bits (Err x) w piece whole none same m is fits = tt
