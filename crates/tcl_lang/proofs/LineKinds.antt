-- A line that states another predicate is of the same kind.
use Rattle.std.proofs.Common.{◌≡◌, refl, Some, None}
use Rattle.tcl_lang.specs.declared.pred.Pred.{Pred}
use Rattle.tcl_lang.specs.declared.pred.Line.{Line}
use Rattle.tcl_lang.specs.declared.pred.Line.TheVariants.{Input, Pre, Step, Assert, Assume, Cut, Post}
use Rattle.tcl_lang.specs.Line.{predicate_of, with_predicate, is_precondition, is_assumption, is_goal, cuts_algebraic, cuts_range, is_input, instruction_of, taken_type, taken_name}
use Rattle.tcl_lang.specs.Names.{defined_names}
use Rattle.tcl_lang.specs.Shape.{stage_of}

-- all words of m but its predicate are those of l
pub record HasKindOf (l m : Line) : Type 0 where
  pub precondition : is_precondition m ≡ is_precondition l
  pub assumption : is_assumption m ≡ is_assumption l
  pub goal : is_goal m ≡ is_goal l
  pub algebraic_cut : cuts_algebraic m ≡ cuts_algebraic l
  pub range_cut : cuts_range m ≡ cuts_range l
  pub input : is_input m ≡ is_input l
  pub instruction : instruction_of m ≡ instruction_of l
  pub taken : taken_type m ≡ taken_type l
  pub taken_into : taken_name m ≡ taken_name l
  pub stage : stage_of m ≡ stage_of l
  pub defines : defined_names m ≡ defined_names l

pub with_predicate_kind : (l : Line) (q : Pred) → HasKindOf l (with_predicate l q)
with_predicate_kind (Input T name) q = record { precondition = refl; assumption = refl; goal = refl; algebraic_cut = refl; range_cut = refl; input = refl; instruction = refl; taken = refl; taken_into = refl; stage = refl; defines = refl }
with_predicate_kind (Pre p) q = record { precondition = refl; assumption = refl; goal = refl; algebraic_cut = refl; range_cut = refl; input = refl; instruction = refl; taken = refl; taken_into = refl; stage = refl; defines = refl }
with_predicate_kind (Step i) q = record { precondition = refl; assumption = refl; goal = refl; algebraic_cut = refl; range_cut = refl; input = refl; instruction = refl; taken = refl; taken_into = refl; stage = refl; defines = refl }
with_predicate_kind (Assert p) q = record { precondition = refl; assumption = refl; goal = refl; algebraic_cut = refl; range_cut = refl; input = refl; instruction = refl; taken = refl; taken_into = refl; stage = refl; defines = refl }
with_predicate_kind (Assume p) q = record { precondition = refl; assumption = refl; goal = refl; algebraic_cut = refl; range_cut = refl; input = refl; instruction = refl; taken = refl; taken_into = refl; stage = refl; defines = refl }
with_predicate_kind (Cut p) q = record { precondition = refl; assumption = refl; goal = refl; algebraic_cut = refl; range_cut = refl; input = refl; instruction = refl; taken = refl; taken_into = refl; stage = refl; defines = refl }
with_predicate_kind (Post p) q = record { precondition = refl; assumption = refl; goal = refl; algebraic_cut = refl; range_cut = refl; input = refl; instruction = refl; taken = refl; taken_into = refl; stage = refl; defines = refl }

-- it states that predicate
pub with_predicate_states : (l : Line) (p q : Pred) → predicate_of l ≡ Some p → predicate_of (with_predicate l q) ≡ Some q
with_predicate_states (Input T name) p q e = absurd (cc)
with_predicate_states (Pre r) p q e = refl
with_predicate_states (Step i) p q e = absurd (cc)
with_predicate_states (Assert r) p q e = refl
with_predicate_states (Assume r) p q e = refl
with_predicate_states (Cut r) p q e = refl
with_predicate_states (Post r) p q e = refl

-- with its own predicate it is the line
pub with_predicate_same : (l : Line) (p : Pred) → predicate_of l ≡ Some p → with_predicate l p ≡ l
with_predicate_same (Input T name) p e = refl
with_predicate_same (Pre r) p e = cc
with_predicate_same (Step i) p e = refl
with_predicate_same (Assert r) p e = cc
with_predicate_same (Assume r) p e = cc
with_predicate_same (Cut r) p e = cc
with_predicate_same (Post r) p e = cc

-- a line that states a predicate has no instruction
pub stated_alone : (l : Line) (p : Pred) → predicate_of l ≡ Some p → instruction_of l ≡ None
stated_alone (Input T name) p e = refl
stated_alone (Pre r) p e = refl
stated_alone (Step i) p e = absurd (cc)
stated_alone (Assert r) p e = refl
stated_alone (Assume r) p e = refl
stated_alone (Cut r) p e = refl
stated_alone (Post r) p e = refl
