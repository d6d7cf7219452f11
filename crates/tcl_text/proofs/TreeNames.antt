-- The names of a statement, as they occur from left to right, are those of its tokens.
use Rattle.std.proofs.Common.{◌≡◌, ℕ, List, [], ◌∷◌, ◌++◌, refl, sym, ap, ◌∙◌, append_assoc}
use Rattle.std.specs.Prelude.{filter_map, Some, ℤ}
use Rattle.tcl_lang.specs.declared.ty.Ty.{Ty}
use Rattle.tcl_lang.specs.declared.instr.Atom.{Atom}
use Rattle.tcl_lang.specs.declared.instr.Atom.TheVariants as atom
use Rattle.tcl_lang.specs.declared.range.RngOp.{RngOp}
use Rattle.tcl_lang.specs.declared.range.CmpOp.{CmpOp}
use Rattle.tcl_lang.specs.declared.term.Term.{Term, Var, Num}
use Rattle.tcl_lang.specs.declared.term.Term.TheOpen as term_layer
use Rattle.tcl_lang.specs.declared.term.Term.TheViews as term
use Rattle.tcl_lang.specs.declared.term.Term.TheFolds.{fold-roll-Term}
use Rattle.tcl_lang.specs.declared.term.Term.TheVariants as term_roll
use Rattle.tcl_lang.specs.declared.range.RngTerm.{RngTerm, Leaf}
use Rattle.tcl_lang.specs.declared.range.RngTerm.TheOpen as range_layer
use Rattle.tcl_lang.specs.declared.range.RngTerm.TheViews as range_term
use Rattle.tcl_lang.specs.declared.range.RngTerm.TheFolds.{fold-roll-RngTerm}
use Rattle.tcl_lang.specs.declared.range.RngTerm.TheVariants as range_roll
use Rattle.tcl_lang.specs.declared.range.RngPred.{RngPred, True, False, Cmp}
use Rattle.tcl_lang.specs.declared.range.RngPred.TheOpen as pred_layer
use Rattle.tcl_lang.specs.declared.range.RngPred.TheViews as range_pred
use Rattle.tcl_lang.specs.declared.range.RngPred.TheFolds.{fold-roll-RngPred}
use Rattle.tcl_lang.specs.declared.range.RngPred.TheVariants as pred_roll
use Rattle.tcl_lang.specs.Names.{name_of, term_names, term_names_step, term_atoms, term_atoms_step, range_atoms, range_atoms_step}
use Rattle.tcl_text.specs.declared.operator.TermOp.{TermOp}
use Rattle.tcl_text.specs.declared.operator.TermOp.TheVariants as term_op
use Rattle.tcl_text.specs.declared.operator.PredOp.{PredOp}
use Rattle.tcl_text.specs.declared.operator.PredOp.TheVariants as pred_op
use Rattle.tcl_text.specs.declared.token.Token.{Token}
use Rattle.tcl_text.specs.declared.token.Token.TheVariants.{Name, Sign}
use Rattle.tcl_text.specs.Trees.{Sort, alg, wrd, prd, Tree, Joint, joint_of, joined, comparison_of}
use Rattle.tcl_text.specs.Grammar as grammar

-- the names among tokens
abbrev pub token_names : List Token → List ℕ
token_names [] = []
token_names (Name x ∷ ts) = x ∷ token_names ts
token_names (_ ∷ ts) = token_names ts

-- the names among operands
abbrev pub atom_names : List Atom → List ℕ
atom_names atoms = filter_map name_of atoms

pub atom_names-append : (xs ys : List Atom) → atom_names (xs ++ ys) ≡ atom_names xs ++ atom_names ys
atom_names-append [] ys = refl
atom_names-append (atom.Var x ∷ xs) ys = ap (λ ns. x ∷ ns) (atom_names-append xs ys)
atom_names-append (atom.Lit T n ∷ xs) ys = atom_names-append xs ys

-- the names of a tree
abbrev pub tree_names : (s : Sort) → Tree s → List ℕ
tree_names alg t = term_names t
tree_names wrd t = atom_names (term_atoms t)
tree_names prd p = atom_names (range_atoms p)

-- of a term
var_names : (x : ℕ) → term_names (Var x) ≡ x ∷ []
var_names x = ap term_names (sym (term_roll.rolls-Var x)) ∙ fold-roll-Term (List ℕ) term_names_step (term_layer.Var x)

num_names : (n : ℤ) → term_names (Num n) ≡ []
num_names n = ap term_names (sym (term_roll.rolls-Num n)) ∙ fold-roll-Term (List ℕ) term_names_step (term_layer.Num n)

neg_names : (t : Term) → term_names (term.Neg t) ≡ term_names t
neg_names t = ap term_names (sym (term_roll.rolls-Neg t)) ∙ fold-roll-Term (List ℕ) term_names_step (term_layer.Neg t)

pow_names : (t : Term) (k : ℕ) → term_names (term.Pow t k) ≡ term_names t
pow_names t k = ap term_names (sym (term_roll.rolls-Pow t k)) ∙ fold-roll-Term (List ℕ) term_names_step (term_layer.Pow t k)

joined_term_names : (o : TermOp) (t u : Term) → term_names (joined alg o t u) ≡ term_names t ++ term_names u
joined_term_names term_op.Plus t u = ap term_names (sym (term_roll.rolls-Add t u)) ∙ fold-roll-Term (List ℕ) term_names_step (term_layer.Add t u)
joined_term_names term_op.Minus t u = ap term_names (sym (term_roll.rolls-Sub t u)) ∙ fold-roll-Term (List ℕ) term_names_step (term_layer.Sub t u)
joined_term_names term_op.Times t u = ap term_names (sym (term_roll.rolls-Mul t u)) ∙ fold-roll-Term (List ℕ) term_names_step (term_layer.Mul t u)

-- of a range term
leaf_atoms : (a : Atom) → term_atoms (Leaf a) ≡ a ∷ []
leaf_atoms a = ap term_atoms (sym (range_roll.rolls-Leaf a)) ∙ fold-roll-RngTerm (List Atom) term_atoms_step (range_layer.Leaf a)

minus_atoms : (t : RngTerm) → term_atoms (range_term.Neg t) ≡ term_atoms t
minus_atoms t = ap term_atoms (sym (range_roll.rolls-Neg t)) ∙ fold-roll-RngTerm (List Atom) term_atoms_step (range_layer.Neg t)

flip_atoms : (t : RngTerm) → term_atoms (range_term.Flip t) ≡ term_atoms t
flip_atoms t = ap term_atoms (sym (range_roll.rolls-Flip t)) ∙ fold-roll-RngTerm (List Atom) term_atoms_step (range_layer.Flip t)

cast_atoms : (T : Ty) (t : RngTerm) → term_atoms (range_term.Cast T t) ≡ term_atoms t
cast_atoms T t = ap term_atoms (sym (range_roll.rolls-Cast T t)) ∙ fold-roll-RngTerm (List Atom) term_atoms_step (range_layer.Cast T t)

bin_atoms : (o : RngOp) (t u : RngTerm) → term_atoms (range_term.Bin o t u) ≡ term_atoms t ++ term_atoms u
bin_atoms o t u = ap term_atoms (sym (range_roll.rolls-Bin o t u)) ∙ fold-roll-RngTerm (List Atom) term_atoms_step (range_layer.Bin o t u)

-- of a range predicate
true_atoms : range_atoms True ≡ []
true_atoms = ap range_atoms (sym pred_roll.rolls-True) ∙ fold-roll-RngPred (List Atom) range_atoms_step pred_layer.True

false_atoms : range_atoms False ≡ []
false_atoms = ap range_atoms (sym pred_roll.rolls-False) ∙ fold-roll-RngPred (List Atom) range_atoms_step pred_layer.False

compare_atoms : (op : CmpOp) (t u : RngTerm) → range_atoms (Cmp op t u) ≡ term_atoms t ++ term_atoms u
compare_atoms op t u = ap range_atoms (sym (pred_roll.rolls-Cmp op t u)) ∙ fold-roll-RngPred (List Atom) range_atoms_step (pred_layer.Cmp op t u)

not_atoms : (p : RngPred) → range_atoms (range_pred.Not p) ≡ range_atoms p
not_atoms p = ap range_atoms (sym (pred_roll.rolls-Not p)) ∙ fold-roll-RngPred (List Atom) range_atoms_step (pred_layer.Not p)

joined_atoms : (o : PredOp) (p q : RngPred) → range_atoms (joined prd o p q) ≡ range_atoms p ++ range_atoms q
joined_atoms pred_op.And p q = ap range_atoms (sym (pred_roll.rolls-Both p q)) ∙ fold-roll-RngPred (List Atom) range_atoms_step (pred_layer.Both p q)
joined_atoms pred_op.Or p q = ap range_atoms (sym (pred_roll.rolls-Either p q)) ∙ fold-roll-RngPred (List Atom) range_atoms_step (pred_layer.Either p q)

joined_names : (s : Sort) (o : Joint s) (t u : Tree s) → tree_names s (joined s o t u) ≡ tree_names s t ++ tree_names s u
joined_names alg o t u = joined_term_names o t u
joined_names wrd o t u = ap atom_names (bin_atoms o t u) ∙ atom_names-append (term_atoms t) (term_atoms u)
joined_names prd o p q = ap atom_names (joined_atoms o p q) ∙ atom_names-append (range_atoms p) (range_atoms q)

-- a token that is no name
sign_names : (s : Sort) (token : Token) (o : Joint s) (ts : List Token) → joint_of s token ≡ Some o → token_names (token ∷ ts) ≡ token_names ts
sign_names s (Sign symbol) o ts e = refl
sign_names alg token o ts e = absurd cc
sign_names wrd token o ts e = absurd cc
sign_names prd token o ts e = absurd cc

comparison_names : (token : Token) (op : CmpOp) (ts : List Token) → comparison_of token ≡ Some op → token_names (token ∷ ts) ≡ token_names ts
comparison_names (Sign symbol) op ts e = refl
comparison_names token op ts e = absurd cc

pub operand_names : {ts us : List Token} {a : Atom} → grammar.Operand ts a us → token_names ts ≡ atom_names (a ∷ []) ++ token_names us
operand_names grammar.name = refl
operand_names grammar.literal = refl
operand_names (grammar.negative h) = refl

mutual
  pub chain_names : {s : Sort} {n : ℕ} {ts us : List Token} {t : Tree s} →
      grammar.Chain s n ts t us → token_names ts ≡ tree_names s t ++ token_names us
  chain_names (grammar.factor p) = factor_names p
  chain_names {s = s} (grammar.chain {t = t} p m) = chain_names p ∙ more_names m

  pub more_names : {s : Sort} {n : ℕ} {ts us : List Token} {t u : Tree s} →
      grammar.More s n t ts u us → tree_names s t ++ token_names ts ≡ tree_names s u ++ token_names us
  more_names grammar.stop = refl
  more_names {s = s} {t = t} (grammar.more {token = token} {o = o} {ts = ts} {us = us} {u = u} e j c m) =
      ap (λ ns. tree_names s t ++ ns) (sign_names s token o ts j ∙ chain_names c)
      ∙ (sym (append_assoc (tree_names s t) (tree_names s u) (token_names us))
      ∙ (ap (λ ns. ns ++ token_names us) (sym (joined_names s o t u)) ∙ more_names m))

  pub factor_names : {s : Sort} {ts us : List Token} {t : Tree s} →
      grammar.Factor s ts t us → token_names ts ≡ tree_names s t ++ token_names us
  factor_names (grammar.power p) = powered_names p
  factor_names {us = us} (grammar.minus_power {t = t} p) = powered_names p ∙ ap (λ ns. ns ++ token_names us) (sym (neg_names t))
  factor_names (grammar.word p) = prim_names p
  factor_names {us = us} (grammar.minus_word {t = t} n p) =
      prim_names p ∙ ap (λ atoms. atom_names atoms ++ token_names us) (sym (minus_atoms t))
  factor_names {us = us} (grammar.flip_word {t = t} p) =
      prim_names p ∙ ap (λ atoms. atom_names atoms ++ token_names us) (sym (flip_atoms t))
  factor_names (grammar.pred p) = prim_names p
  factor_names {us = us} (grammar.not_pred {p = q} p) =
      prim_names p ∙ ap (λ atoms. atom_names atoms ++ token_names us) (sym (not_atoms q))

  pub powered_names : {ts us : List Token} {t : Term} → grammar.Powered ts t us → token_names ts ≡ term_names t ++ token_names us
  powered_names (grammar.plain p) = prim_names p
  powered_names {us = us} (grammar.raised {t = t} {n = n} p) =
      prim_names p ∙ ap (λ ns. ns ++ token_names us) (sym (pow_names t (grammar.capped n)))

  pub prim_names : {s : Sort} {ts us : List Token} {t : Tree s} →
      grammar.Prim s ts t us → token_names ts ≡ tree_names s t ++ token_names us
  prim_names {us = us} (grammar.variable {x = x}) = ap (λ ns. ns ++ token_names us) (sym (var_names x))
  prim_names {us = us} (grammar.number {n = n}) = ap (λ ns. ns ++ token_names us) (sym (num_names n))
  prim_names (grammar.bracket p) = chain_names p
  prim_names {us = us} (grammar.operand {a = a} o) =
      operand_names o ∙ ap (λ atoms. atom_names atoms ++ token_names us) (sym (leaf_atoms a))
  prim_names (grammar.word_bracket p) = chain_names p
  prim_names {us = us} (grammar.cast {T = T} {t = t} p) =
      chain_names p ∙ ap (λ atoms. atom_names atoms ++ token_names us) (sym (cast_atoms T t))
  prim_names {us = us} grammar.truth = ap (λ atoms. atom_names atoms ++ token_names us) (sym true_atoms)
  prim_names {us = us} grammar.falsity = ap (λ atoms. atom_names atoms ++ token_names us) (sym false_atoms)
  prim_names (grammar.square p) = chain_names p
  prim_names (grammar.compare {token = token} {op = op} {us = us} {vs = vs} {t = t} {u = u} p e q) =
      chain_names p
      ∙ (ap (λ ns. atom_names (term_atoms t) ++ ns) (comparison_names token op us e ∙ chain_names q)
      ∙ (sym (append_assoc (atom_names (term_atoms t)) (atom_names (term_atoms u)) (token_names vs))
      ∙ ap (λ ns. ns ++ token_names vs)
      (sym (ap atom_names (compare_atoms op t u) ∙ atom_names-append (term_atoms t) (term_atoms u)))))
