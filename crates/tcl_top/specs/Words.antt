-- The words of limits and of reasons in refusals.
use Rattle.std.specs.Prelude.{ℕ, List, codes}
use Rattle.tcl_lang.specs.declared.reason.Reason.{Reason}
use Rattle.tcl_lang.specs.declared.reason.Reason.TheVariants.{Kind, Amount, Undefined, Literal, Mismatch, Repeated, Modulus}
use Rattle.tcl_text.specs.declared.fault.Limit.{Limit}
use Rattle.tcl_text.specs.declared.fault.Limit.TheVariants.{Nesting, Operators, Exponent, Instructions, Variables, Goals}

abbrev pub word_of_limit : Limit → List ℕ
word_of_limit Nesting = codes "nesting"
word_of_limit Operators = codes "operators"
word_of_limit Exponent = codes "exponent"
word_of_limit Instructions = codes "instructions"
word_of_limit Variables = codes "variables"
word_of_limit Goals = codes "goals"

abbrev pub word_of_reason : Reason → List ℕ
word_of_reason Kind = codes "kind"
word_of_reason Amount = codes "amount"
word_of_reason Undefined = codes "undefined"
word_of_reason Literal = codes "literal"
word_of_reason Mismatch = codes "mismatch"
word_of_reason Repeated = codes "repeated"
word_of_reason Modulus = codes "modulus"
