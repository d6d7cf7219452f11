-- What a way to make clauses of algebraic lines keeps: the literals of the variables stay, and gates and clauses are appended.
use Rattle.std.proofs.Common.{◌≡◌, ℕ, List, [], ◌∷◌, ◌++◌, length, refl, sym, ◌∙◌, ap}
use Rattle.std.specs.Option.{option_to_list}
use Rattle.std.proofs.lemmas.List.{append-nil, append_assoc}
use Rattle.tcl_cnf.specs.Clause.{clause_of}
use Rattle.tcl_lang.specs.declared.term.AlgPred.{AlgPred}
use Rattle.tcl_lang.specs.declared.variable.Variable.{Variable}
use Rattle.tcl_words.specs.Ranges.{AllWithin}
use Rattle.tcl_goals.specs.declared.fact.BitLit.{BitLit}
use Rattle.tcl_blast.specs.declared.blasted.Blasted.{Blasted}
use Rattle.tcl_blast.specs.Lifted.{fixed_bits_of}
use Rattle.tcl_blast.specs.Blasted.{bit_lit, with_bit, with_bits}
use Rattle.tcl_blast.specs.Clauses.{Handler, by_fixed_bits}

-- what is there behind a part
pub record IsBehind (s t : Blasted) : Type 0 where
  pub words : t.words ≡ s.words
  pub within : AllWithin (length s.gates) s.words → AllWithin (length t.gates) t.words
  pub more : (clauses : List (List ℕ)) × (t.clauses ≡ s.clauses ++ clauses)

-- so it is with each algebraic line
pub record OnlyAppends (handler : Handler) : Type 0 where
  pub stating : (s : Blasted) (pred : AlgPred) → IsBehind s (handler.stating s pred)
  pub denying : (s : Blasted) (pred : AlgPred) → IsBehind s (handler.denying s pred)

-- and with the bits that it fixes
pub same_behind : (s : Blasted) → IsBehind s s
same_behind s = record { words = refl; within = λ w. w; more = ([], sym (append-nil s.clauses)) }

pub then_behind : {s t u : Blasted} → IsBehind s t → IsBehind t u → IsBehind s u
then_behind {s} {t} {u} a b = record {
  words = b.words ∙ a.words;
  within = λ w. b.within (a.within w);
  more = (a.more.0 ++ b.more.0, b.more.1 ∙ ap (λ cs. cs ++ b.more.0) a.more.1 ∙ append_assoc s.clauses a.more.0 b.more.0);
}

pub bits_behind : (s : Blasted) (bits : List BitLit) → IsBehind s (with_bits s bits)
bits_behind s [] = same_behind s
bits_behind s (b ∷ bits) =
    then_behind (record { words = refl; within = λ w. w; more = (option_to_list (clause_of (bit_lit s.words b ∷ [])), refl) })
    (bits_behind (with_bit s b) bits)

pub fixed_bits_append : (variables : List Variable) → OnlyAppends (by_fixed_bits variables)
fixed_bits_append variables = record { stating = λ s pred. bits_behind s (fixed_bits_of variables pred); denying = λ s pred. same_behind s }
