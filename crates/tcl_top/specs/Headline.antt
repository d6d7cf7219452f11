-- What the top call answers for the bytes that it reads: a status, a text, and the events of a board.
use Rattle.std.specs.Prelude.{◌≡◌, ◌⊎◌, ◌<◌, ◌≤◌, ◌+◌, ℕ, Bool, true, false, ◌==◌, ◌||◌, codes, List, [], ◌∷◌, ◌++◌, length, take, Option}
use Rattle.std.specs.Fmt.{decimal}
use Rattle.tcl_io.specs.Source.{then_left, IsEmptied}
use Rattle.tcl_io.specs.Sink.{and_then}
use Rattle.tcl_lang.specs.Program.{ReadProgram}
use Rattle.tcl_lang.specs.Correct.{IsCorrect}
use Rattle.tcl_lang.specs.Limit.{KeepsLimits}
use Rattle.tcl_lang.specs.declared.reason.Reason.{Reason}
use Rattle.tcl_text.specs.declared.fault.Limit.{Limit}
use Rattle.tcl_text.specs.declared.fault.LineFault.TheVariants as line_fault
use Rattle.tcl_text.specs.declared.fault.TextFault.TheVariants as text_fault
use Rattle.tcl_text.specs.Reading.{Reads, FirstFault}
use Rattle.tcl_parse.specs.TextRefusals.{Exceeds}
use Rattle.tcl_types.specs.Fault.{IsTyped, IsIll}
use Rattle.tcl_top.specs.Words.{word_of_limit, word_of_reason}
use Rattle.tcl_goals.specs.declared.piece.Verdict.{Verdict}
use Rattle.tcl_goals.specs.declared.piece.Verdict.TheVariants as verdict
use Rattle.tcl_board.specs.declared.event.Event.{Event}
use Rattle.tcl_board.specs.State.{BoardState}
use Rattle.tcl_board.specs.Told.{verdict_of}
use Rattle.tcl_kernel.specs.Causes.{IsTrueCause}
use Rattle.tcl_report.specs.ReportSays.{IsReport}
use Rattle.tcl_top.specs.Answers.{IsBoardOf}

-- the greatest number of bytes of a text
abbrev pub byte_limit : ℕ
byte_limit = 1048576

-- the texts of refusals
abbrev pub usage_text : List ℕ
usage_text = codes "refused usage" ++ 10 ∷ []

abbrev pub text_text : ℕ → List ℕ
text_text number = codes "refused text line " ++ (decimal number ++ 10 ∷ [])

abbrev pub shape_text : ℕ → List ℕ
shape_text number = codes "refused shape line " ++ (decimal number ++ 10 ∷ [])

abbrev pub limit_text : List ℕ → List ℕ
limit_text word = codes "refused limit " ++ (word ++ 10 ∷ [])

abbrev pub type_text : ℕ → Reason → List ℕ
type_text number reason = codes "refused type line " ++ (decimal number ++ (codes " " ++ (word_of_reason reason ++ 10 ∷ [])))

-- the status of a verdict
abbrev pub verdict_status : Verdict → ℕ
verdict_status verdict.Verified = 0
verdict_status verdict.Refuted = 1
verdict_status verdict.Unproved = 2

-- the text reads as the program, which keeps the limits
pub record IsAccepted (bytes : List ℕ) (program : ReadProgram) : Type 0 where
  pub reads : Reads bytes program
  pub keeps : KeepsLimits program.program.lines

-- the first faulty line is outside the grammar
pub record IsOutsideGrammar (bytes : List ℕ) (status : ℕ) (text : List ℕ) : Type 0 where
  pub number : ℕ
  pub first : FirstFault bytes (text_fault.Line number line_fault.Text)
  pub status_is : status ≡ 3
  pub text_is : text ≡ text_text number

-- the first faulty line is out of its place
pub record IsOutOfPlace (bytes : List ℕ) (status : ℕ) (text : List ℕ) : Type 0 where
  pub number : ℕ
  pub first : FirstFault bytes (text_fault.Shape number)
  pub status_is : status ≡ 3
  pub text_is : text ≡ shape_text number

-- a limit other than that of bytes is exceeded
pub record IsBeyondLimit (bytes : List ℕ) (status : ℕ) (text : List ℕ) : Type 0 where
  pub which : Limit
  pub beyond : Exceeds bytes which
  pub status_is : status ≡ 9
  pub text_is : text ≡ limit_text (word_of_limit which)

-- the text is accepted, and this is the first line that is ill-typed
pub record IsIllTyped (bytes : List ℕ) (status : ℕ) (text : List ℕ) : Type 0 where
  pub program : ReadProgram
  pub accepted : IsAccepted bytes program
  pub number : ℕ
  pub reason : Reason
  pub ill : IsIll program number reason
  pub status_is : status ≡ 4
  pub text_is : text ≡ type_text number reason

-- the status and the text of a refusal
abbrev pub IsRefusal : List ℕ → ℕ → List ℕ → Type 0
IsRefusal bytes status text =
    IsOutsideGrammar bytes status text ⊎ IsOutOfPlace bytes status text ⊎ IsBeyondLimit bytes status text
    ⊎ IsIllTyped bytes status text

-- The text is that of a well typed program. The events are those of a finished board of this program; the text is the report
-- on the program by what this board tells, of which every line is true; and the status is that of its verdict.
pub record IsReported (bytes : List ℕ) (status : ℕ) (text : List ℕ) (events : List Event) : Type 0 where
  pub program : ReadProgram
  pub accepted : IsAccepted bytes program
  pub typed : IsTyped program
  pub board : BoardState
  pub worked : IsBoardOf program events board
  pub report : IsReport IsTrueCause program board text
  pub status_is : status ≡ verdict_status (verdict_of board)

-- a refusal, which comes without events
pub record IsRefused (bytes : List ℕ) (status : ℕ) (text : List ℕ) (events : List Event) : Type 0 where
  pub refusal : IsRefusal bytes status text
  pub none : events ≡ []

-- the status, the text and the events for a text that was read to its end
abbrev pub IsAnswered : List ℕ → ℕ → List ℕ → List Event → Type 0
IsAnswered bytes status text events = IsRefused bytes status text events ⊎ IsReported bytes status text events

-- the source was read to its end, and these are the bytes that it gave
pub record IsReadWhole (left left_new : Option (List ℕ)) (given given_new : ℕ) (bytes : List ℕ) : Type 0 where
  pub told : left ≡ then_left bytes left_new
  pub emptied : IsEmptied left_new
  pub counted : given_new ≡ given + length bytes
  pub within : length bytes ≤ byte_limit

-- there is a word: the refusal of usage
pub record IsUsageRow (words status : ℕ) (text : List ℕ) (events : List Event) : Type 0 where
  pub some_word : 0 < words
  pub none : events ≡ []
  pub status_is : status ≡ 8
  pub text_is : text ≡ usage_text

-- more bytes were read than a text may have: the refusal by the limit
pub record IsLimitRow (words given given_new status : ℕ) (text : List ℕ) (events : List Event) : Type 0 where
  pub no_word : words ≡ 0
  pub none : events ≡ []
  pub beyond : given + byte_limit < given_new
  pub status_is : status ≡ 9
  pub text_is : text ≡ limit_text (codes "bytes")

-- a whole text was read: its report, or its refusal
pub record IsAnswerRow (words : ℕ) (left left_new : Option (List ℕ)) (given given_new status : ℕ) (text : List ℕ) (events : List Event) : Type 0 where
  pub no_word : words ≡ 0
  pub bytes : List ℕ
  pub read : IsReadWhole left left_new given given_new bytes
  pub answered : IsAnswered bytes status text events

-- the status, the text and the events that belong to the words and to what was read
abbrev pub IsRow : ℕ → Option (List ℕ) → Option (List ℕ) → ℕ → ℕ → ℕ → List ℕ → List Event → Type 0
IsRow words left left_new given given_new status text events =
    IsUsageRow words status text events ⊎ IsLimitRow words given given_new status text events
    ⊎ IsAnswerRow words left left_new given given_new status text events

-- the whole text was written, and its events are handed over
pub record IsWritten (taken taken_new : Option (List ℕ)) (status : ℕ) (text : List ℕ) (events : List Event) (answer written : ℕ) (steps : List Event) : Type 0 where
  pub status_is : answer ≡ status
  pub written_is : written ≡ length text
  pub events_are : steps ≡ events
  pub sink : taken_new ≡ and_then taken text

-- the sink failed after the first `written` bytes of the text
pub record IsCutOff (taken taken_new : Option (List ℕ)) (text : List ℕ) (answer written : ℕ) (steps : List Event) : Type 0 where
  pub status_is : answer ≡ 6
  pub short : written < length text
  pub none : steps ≡ []
  pub sink : taken_new ≡ and_then taken (take written text)

-- a status and a text were handed to the sink: the text was written whole, or the answer is 6
abbrev pub IsDelivered : Option (List ℕ) → Option (List ℕ) → ℕ → List ℕ → List Event → ℕ → ℕ → List Event → Type 0
IsDelivered taken taken_new status text events answer written steps =
    IsWritten taken taken_new status text events answer written steps ⊎ IsCutOff taken taken_new text answer written steps

-- the text of some row was delivered
pub record DeliversRow (words : ℕ) (left left_new : Option (List ℕ)) (given given_new : ℕ) (taken taken_new : Option (List ℕ)) (answer written : ℕ) (steps : List Event) : Type 0 where
  pub status : ℕ
  pub text : List ℕ
  pub events : List Event
  pub row_is : IsRow words left left_new given given_new status text events
  pub delivered : IsDelivered taken taken_new status text events answer written steps

-- the program that was read is correct
pub record ReadsCorrect (bytes : List ℕ) : Type 0 where
  pub program : ReadProgram
  pub accepted : IsAccepted bytes program
  pub typed : IsTyped program
  pub correct : IsCorrect (length program.program.names) program.program.lines

-- the statuses that the top call answers
abbrev pub is_status : ℕ → Bool
is_status n = n == 0 || n == 1 || n == 2 || n == 3 || n == 4 || n == 5 || n == 6 || n == 7 || n == 8 || n == 9

-- the statuses that write nothing, and those that come with a text or a part of one
abbrev pub is_silent : ℕ → Bool
is_silent n = n == 5 || n == 7

abbrev pub IsSilent : ℕ → Type 0
IsSilent n = is_silent n ≡ true

abbrev pub HasText : ℕ → Type 0
HasText n = is_silent n ≡ false

-- a whole text was read, and it is a correct program
pub record IsVerified (left left_new : Option (List ℕ)) (given given_new : ℕ) : Type 0 where
  pub bytes : List ℕ
  pub read : IsReadWhole left left_new given given_new bytes
  pub correct : ReadsCorrect bytes
