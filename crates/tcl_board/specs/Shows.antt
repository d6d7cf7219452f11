-- What evidence shows holds, and what is asked of causes.
use Rattle.std.specs.Prelude.{◌≡◌, ℕ, ℤ, nat_lt, ◌==◌, Bool, true, false, ◌&&◌, List, length, Some}
use Rattle.std.specs.List.{list_all, list_any}
use Rattle.tcl_port.specs.declared.limit.At.{At}
use Rattle.tcl_port.specs.declared.limit.At.TheVariants as at
use Rattle.tcl_lang.specs.Program.{VersionedProgram}
use Rattle.tcl_lang.specs.Run.{Fits, taken_types}
use Rattle.tcl_lang.specs.Correct.{IsCounterexample}
use Rattle.tcl_lang.specs.declared.outcome.Truth.{Truth}
use Rattle.tcl_goals.specs.declared.fact.Hyp.{Hyp}
use Rattle.tcl_goals.specs.declared.fact.Hyp.TheVariants as hyp
use Rattle.tcl_goals.specs.declared.lemma.Lemma.{Lemma}
use Rattle.tcl_goals.specs.declared.lemma.Numbered.{Numbered}
use Rattle.tcl_goals.specs.declared.piece.Shown.{Shown}
use Rattle.tcl_goals.specs.declared.piece.Shown.TheVariants as shown
use Rattle.tcl_goals.specs.declared.piece.Piece.{Piece}
use Rattle.tcl_goals.specs.declared.piece.Route.TheVariants as route
use Rattle.tcl_goals.specs.declared.cause.Cause.{Cause}
use Rattle.tcl_goals.specs.declared.cause.Cause.TheVariants as cause
use Rattle.tcl_goals.specs.declared.cause.Note.{Note}
use Rattle.tcl_goals.specs.declared.cause.Note.TheVariants as note
use Rattle.tcl_goals.specs.declared.remainder.Name.{Name}
use Rattle.tcl_goals.specs.declared.remainder.Name.TheVariants as name
use Rattle.tcl_goals.specs.declared.remainder.Summand.{Summand}
use Rattle.tcl_goals.specs.LemmaList.{lemma_of}
use Rattle.tcl_goals.specs.Places.{has_goal}
use Rattle.tcl_goals.specs.Order.{InOrder}
use Rattle.tcl_goals.specs.Holds.{FactHolds}

-- the fact is in order and holds, or the input refutes the goal
abbrev pub ShownHolds : VersionedProgram → List Numbered → Shown → Type 0
ShownHolds p lemmas (shown.Fact fact) = InOrder p lemmas fact × FactHolds p lemmas fact
ShownHolds p lemmas (shown.Breaks g input) = IsCounterexample (length p.variables) p.lines input g

-- the shown fact cites the lemma of this number; a break cites none
abbrev pub is_lemma : ℕ → Hyp → Bool
is_lemma n (hyp.Line k) = false
is_lemma n (hyp.Lemma m) = m == n

abbrev pub cites : Shown → ℕ → Bool
cites (shown.Fact fact) n = list_any (is_lemma n) fact.hyps
cites (shown.Breaks g input) n = false

-- each of the lemmas is one that is cited
abbrev pub AreCited : List Numbered → Shown → Type 0
AreCited cited sh = (n : ℕ) (m : Lemma) → lemma_of cited n ≡ Some m → cites sh n ≡ true

-- causes of pieces of a program, by a budget
abbrev pub Causes : Type 1
Causes = VersionedProgram → ℕ → Piece → Cause → Type 0

-- a whole piece does not end with a model
abbrev pub NoModel : Causes → Type 0
NoModel causes =
    (p : VersionedProgram) (budget : ℕ) (q : Piece) → has_goal p.lines q.goal ≡ true → q.route ≡ route.Whole →
    causes p budget q cause.Model → ⊥

-- the lines and variables that a cause names are of the program
abbrev pub has_line : VersionedProgram → ℕ → Bool
has_line p k = nat_lt k (length p.lines)

abbrev pub is_place : VersionedProgram → At → Bool
is_place p at.Claim = true
is_place p (at.Line k) = has_line p k

abbrev pub is_note : VersionedProgram → Note → Bool
is_note p note.None = true
is_note p (note.Pivot c) = true
is_note p (note.Wide where_) = is_place p where_

abbrev pub is_unknown : VersionedProgram → Name → Bool
is_unknown p (name.Var v) = nat_lt v (length p.variables)
is_unknown p (name.Quot k) = has_line p k

abbrev pub has_unknowns : VersionedProgram → Summand → Bool
has_unknowns p s = list_all (λ a. is_unknown p a.name) s.powers

abbrev pub is_named : VersionedProgram → Cause → Bool
is_named p (cause.Width where_) = is_place p where_
is_named p (cause.Rest f note) = list_all (has_unknowns p) f && is_note p note
is_named p (cause.Stray k truth input) = has_line p k
is_named p _ = true

abbrev pub NamesOwn : Causes → Type 0
NamesOwn causes =
    (p : VersionedProgram) (budget : ℕ) (q : Piece) (c : Cause) → has_goal p.lines q.goal ≡ true → causes p budget q c →
    is_named p c ≡ true

-- the input of a stray fits
abbrev pub StraysFit : Causes → Type 0
StraysFit causes =
    (p : VersionedProgram) (budget : ℕ) (q : Piece) (k : ℕ) (truth : Truth) (input : List ℤ) → has_goal p.lines q.goal ≡ true →
    causes p budget q (cause.Stray k truth input) → Fits (taken_types p.lines) input
