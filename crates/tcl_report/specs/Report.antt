-- The text of a report: one line for each goal in order, after a refuted one and after a stray the input, and the verdict as
-- the last line.
use Rattle.std.specs.Prelude.{ℕ, ◌+◌, ℤ, pos, true, false, Bool, cond, codes, List, [], ◌∷◌, ◌++◌, slice_index, slice_index_or, Option, Some, None, is_some}
use Rattle.std.specs.Fmt.{decimal, signed_decimal}
use Rattle.tcl_port.specs.declared.limit.At.{At}
use Rattle.tcl_port.specs.declared.limit.At.TheVariants as at
use Rattle.tcl_port.specs.declared.limit.What.{What}
use Rattle.tcl_port.specs.declared.limit.What.TheVariants as what
use Rattle.tcl_lang.specs.declared.pred.Line.{Line}
use Rattle.tcl_lang.specs.Line.{is_input, taken_name}
use Rattle.tcl_lang.specs.Program.{ReadProgram}
use Rattle.tcl_goals.specs.declared.goal.Kind.{Kind}
use Rattle.tcl_goals.specs.declared.goal.Kind.TheVariants as kind
use Rattle.tcl_goals.specs.declared.goal.Goal.{Goal}
use Rattle.tcl_goals.specs.declared.piece.Verdict.{Verdict}
use Rattle.tcl_goals.specs.declared.piece.Verdict.TheVariants as verdict
use Rattle.tcl_goals.specs.declared.cause.Cause.{Cause}
use Rattle.tcl_goals.specs.declared.cause.Cause.TheVariants as cause
use Rattle.tcl_goals.specs.Places.{goals_of}
use Rattle.tcl_board.specs.State.{BoardState}
use Rattle.tcl_board.specs.Told.{Answer, Proved, Refuted, Unproved, Strayed, Open, answer_of, verdict_of}

-- the word of a goal's kind
abbrev pub word_of_kind : Kind → List ℕ
word_of_kind kind.Exact = codes "exact"
word_of_kind kind.Assert = codes "assert"
word_of_kind kind.Cut = codes "cut"
word_of_kind kind.Post = codes "post"

-- the beginning of the line of a value: `in` for an `in` name, and else `nondet` with the line of the text
abbrev pub value_head : Bool → ℕ → List ℕ
value_head true number = codes "in "
value_head false number = codes "nondet " ++ (decimal number ++ codes " ")

-- the line of the value that a line of the program takes, which has this number in the text; none where it takes none
abbrev pub named_text : Bool → List (List ℕ) → ℕ → ℤ → Option ℕ → List ℕ
named_text is_in names number n None = []
named_text is_in names number n (Some name) =
    value_head is_in number ++ (slice_index_or names name [] ++ (codes " " ++ (signed_decimal n ++ 10 ∷ [])))

abbrev pub taken_text : List (List ℕ) → ℕ → ℤ → Line → List ℕ
taken_text names number n l = named_text (is_input l) names number n (taken_name l)

-- the lines of an input: one for each value in the order of the lines that take them, `in` lines before all others. These
-- are the lines from place k on, before which j values are taken.
unfoldable pub values_text : List (List ℕ) → List ℕ → List ℤ → ℕ → ℕ → List Line → List ℕ
values_text names places input k j [] = []
values_text names places input k j (l ∷ lines) =
    taken_text names (slice_index places k) (slice_index_or input j (pos 0)) l
    ++ values_text names places input (k + 1) (j + cond (is_some (taken_name l)) 1 0) lines

abbrev pub input_text : ReadProgram → List ℤ → List ℕ
input_text p input = values_text p.program.names p.places input 0 0 p.program.lines

-- where numbers became too great: the claim, or a line by its number in the text
abbrev pub at_text : ReadProgram → At → List ℕ
at_text p at.Claim = codes "claim"
at_text p (at.Line k) = codes "line " ++ decimal (slice_index p.places k)

-- the word of what passed its stated size, and the space behind it
abbrev pub word_of_what : What → List ℕ
word_of_what what.Clauses = codes "clauses "
word_of_what what.Degree = codes "degree "
word_of_what what.Terms = codes "terms "

-- a stray: the line of the text at its place, and the lines of its input
abbrev pub stray_text : ReadProgram → ℕ → List ℤ → List ℕ
stray_text p place input = codes "stray " ++ ((decimal (slice_index p.places place) ++ 10 ∷ []) ++ input_text p input)

-- the text of a cause, and the lines of an input that belongs to it
abbrev pub cause_text : ReadProgram → Cause → List ℕ
cause_text p cause.Model = codes "model" ++ 10 ∷ []
cause_text p (cause.Steps n) = codes "steps " ++ (decimal n ++ 10 ∷ [])
cause_text p (cause.Width at) = codes "width " ++ (at_text p at ++ 10 ∷ [])
cause_text p (cause.Size w n) = codes "size " ++ (word_of_what w ++ (decimal n ++ 10 ∷ []))
cause_text p (cause.Rest rest _) = codes "open" ++ 10 ∷ []
cause_text p (cause.Stray place truth input) = stray_text p place input
cause_text p cause.Later = codes "later" ++ 10 ∷ []

-- What follows the kind on a goal's line, and the lines of the input. A break of a smaller goal, which is told by the place of
-- that goal, is a stray there. A finished board tells something of each goal, so no line of its report lacks this.
abbrev pub answer_text : ReadProgram → Answer → List ℕ
answer_text p Proved = codes "proved" ++ 10 ∷ []
answer_text p (Refuted input) = codes "refuted" ++ (10 ∷ [] ++ input_text p input)
answer_text p (Unproved c) = codes "unproved " ++ cause_text p c
answer_text p (Strayed place input) = codes "unproved " ++ stray_text p place input
answer_text p Open = []

-- the beginning of the line of a goal
abbrev pub goal_head : ReadProgram → Goal → List ℕ
goal_head p g =
    codes "goal " ++ (decimal g.number ++ (codes " line " ++ (decimal (slice_index p.places g.place) ++ codes " ")))

-- the line of a goal
abbrev pub goal_text : ReadProgram → Goal → Answer → List ℕ
goal_text p g answer = goal_head p g ++ (word_of_kind g.kind ++ (codes " " ++ answer_text p answer))

-- the lines of these goals, by what the board tells of each
unfoldable pub goals_text : ReadProgram → BoardState → List Goal → List ℕ
goals_text p s [] = []
goals_text p s (g ∷ goals) = goal_text p g (answer_of s g.number) ++ goals_text p s goals

-- the last line
abbrev pub word_of_verdict : Verdict → List ℕ
word_of_verdict verdict.Verified = codes "verified"
word_of_verdict verdict.Refuted = codes "refuted"
word_of_verdict verdict.Unproved = codes "unproved"

-- the report on a program by what a board tells
unfoldable pub report_of : ReadProgram → BoardState → List ℕ
report_of p s = goals_text p s (goals_of p.program.lines) ++ (word_of_verdict (verdict_of s) ++ 10 ∷ [])
