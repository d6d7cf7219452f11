-- The canonical text of a line is the rendering of its tokens.
use Rattle.std.proofs.Common.{◌≡◌, ℕ, List, [], ◌∷◌, ◌++◌, refl, sym, ap, ◌∙◌, arith, append_assoc, append-nil}
use Rattle.std.specs.Prelude.{pos, negsuc, Bool, true, false, if◌then◌else◌, map, flat_map, codes, Option, Some, None}
use Rattle.std.specs.Fmt.{decimal, signed_decimal}
use Rattle.std.proofs.lemmas.Bool.{le-ltb}
use Rattle.std.proofs.lemmas.List.Concat.{flat_map-cons}
use Rattle.tcl_lang.specs.declared.instr.Atom.{Atom}
use Rattle.tcl_lang.specs.declared.instr.Atom.TheVariants.{Var, Lit}
use Rattle.tcl_lang.specs.declared.instr.Instr.{Instr}
use Rattle.tcl_lang.specs.declared.term.Part.{Part}
use Rattle.tcl_lang.specs.declared.range.CmpOp.TheVariants.{Eq}
use Rattle.tcl_lang.specs.declared.pred.Pred.{Pred}
use Rattle.tcl_lang.specs.declared.pred.Pred.TheVariants.{Alg, Rng}
use Rattle.tcl_lang.specs.declared.pred.Line.{Line}
use Rattle.tcl_lang.specs.declared.pred.Line.TheVariants.{Input, Pre, Step, Assert, Assume, Cut, Post}
use Rattle.tcl_lang.specs.Shape.{has_amount}
use Rattle.tcl_text.specs.declared.symbol.Symbol.TheVariants.{Plus, Minus, Equal, At}
use Rattle.tcl_text.specs.declared.token.Token.{Token}
use Rattle.tcl_text.specs.declared.token.Token.TheVariants.{Name, Kind, Sign}
use Rattle.tcl_text.specs.Words.{word_of_op}
use Rattle.tcl_text.specs.Trees.{alg, prd}
use Rattle.tcl_text.specs.Canonical.{name_text, type_text, term_text, power_text, part_text, modulus_text, predicate_text, amount_text, line_text}
use Rattle.tcl_report.specs.Parts.{range_pred_text, signed_part_text, spaced_name, spaced_atom, names_text, atoms_text}
use Rattle.tcl_report.specs.CanonicalTokens.{tree_tokens, literal_tokens, atom_tokens, power_tokens, part_tokens, signed_part_tokens, modulus_tokens, predicate_tokens, amount_tokens, line_tokens}
use Rattle.tcl_report.specs.Rendering.{loose, ended, rendered, rendering}
use Rattle.tcl_report.proofs.TreeTexts.{From, term_shows, pred_shows, comparison_between}

module _ (names : List (List ℕ)) where
  -- moduli
  power_shows : (power : Option ℕ) (us : List Token) → From names ended (power_tokens power ++ us) ≡ power_text power ++ From names ended us
  power_shows None us = refl
  power_shows (Some k) us = refl

  part_shows : (p : Part) (us : List Token) → From names loose (part_tokens p ++ us) ≡ 32 ∷ (part_text p ++ From names ended us)
  part_shows p us =
      ap (λ r. 32 ∷ (signed_decimal p.base ++ r)) (power_shows p.power us)
      ∙ ap (λ r. 32 ∷ r) (sym (append_assoc (signed_decimal p.base) (power_text p.power) (From names ended us)))

  signed_shows : (minus : Bool) (p : Part) (us : List Token) →
      From names ended ((Sign (if minus then Minus else Plus) ∷ part_tokens p) ++ us)
      ≡ ((if minus then codes " - " else codes " + ") ++ part_text p) ++ From names ended us
  signed_shows true p us = ap (λ r. codes " -" ++ r) (part_shows p us)
  signed_shows false p us = ap (λ r. codes " +" ++ r) (part_shows p us)

  parts_show : (ps : List Part) → From names ended (flat_map signed_part_tokens ps) ≡ flat_map signed_part_text ps
  parts_show [] = refl
  parts_show (p ∷ ps) =
      ap (From names ended) (flat_map-cons signed_part_tokens p ps)
      ∙ (signed_shows p.minus p (flat_map signed_part_tokens ps)
      ∙ (ap (λ r. signed_part_text p ++ r) (parts_show ps) ∙ sym (flat_map-cons signed_part_text p ps)))

  modulus_shows : (m : Option (List Part)) → From names ended (modulus_tokens m) ≡ modulus_text m
  modulus_shows None = refl
  modulus_shows (Some []) = refl
  modulus_shows (Some (p ∷ ps)) =
      ap (λ r. codes " mod" ++ r) (part_shows p (flat_map signed_part_tokens ps))
      ∙ ap (λ r. codes " mod " ++ (part_text p ++ r)) (parts_show ps)

  -- predicates
  predicate_shows : (p : Pred) → From names loose (predicate_tokens p) ≡ 32 ∷ predicate_text names p
  predicate_shows (Rng p) =
      ap (λ ts. codes " rng" ++ From names loose ts) (sym (append-nil (tree_tokens prd p 3)))
      ∙ (ap (λ r. codes " rng" ++ r) ((pred_shows names p 3).at false []) ∙ ap (λ r. codes " rng " ++ r) (append-nil (range_pred_text names p 3)))
  predicate_shows (Alg p) =
      let m = modulus_tokens p.modulus in
      let right = tree_tokens alg p.right 4 ++ m in
      ap (λ r. codes " alg" ++ r) ((term_shows names p.left 4).at false (Sign Equal ∷ right))
      ∙ ap (λ r. codes " alg " ++ (term_text names p.left 4 ++ r))
      ((comparison_between names Eq).at right (term_text names p.right 4 ++ From names ended m) (λ b. (term_shows names p.right 4).at b m)
      ∙ ap (λ r. codes " = " ++ (term_text names p.right 4 ++ r)) (modulus_shows p.modulus))

  -- instructions
  abbrev Listed : List Token → List ℕ
  Listed ts = rendered names true loose ts

  names_show : (xs : List ℕ) (us : List Token) → Listed (map Name xs ++ us) ≡ names_text names xs ++ Listed us
  names_show [] us = refl
  names_show (x ∷ xs) us =
      ap (λ r. spaced_name names x ++ r) (names_show xs us)
      ∙ (sym (append_assoc (spaced_name names x) (names_text names xs) (Listed us))
      ∙ ap (λ r. r ++ Listed us) (sym (flat_map-cons (spaced_name names) x xs)))

  atom_shows : (a : Atom) (us : List Token) → Listed (atom_tokens a ++ us) ≡ spaced_atom names a ++ Listed us
  atom_shows (Var x) us = refl
  atom_shows (Lit T (pos k)) us =
      ap (λ m. Listed (literal_tokens m (pos k) (Sign At ∷ (Kind T ∷ [])) ++ us)) (le-ltb k 0 (omega arith))
      ∙ ap (λ r. 32 ∷ r) (sym (append_assoc (signed_decimal (pos k)) (codes "@" ++ type_text T) (Listed us)))
  atom_shows (Lit T (negsuc k)) us = ap (λ r. 32 ∷ r) (sym (append_assoc (signed_decimal (negsuc k)) (codes "@" ++ type_text T) (Listed us)))

  atoms_show : (xs : List Atom) (us : List Token) → Listed (flat_map atom_tokens xs ++ us) ≡ atoms_text names xs ++ Listed us
  atoms_show [] us = refl
  atoms_show (a ∷ xs) us =
      ap (λ ts. Listed (ts ++ us)) (flat_map-cons atom_tokens a xs)
      ∙ (ap Listed (append_assoc (atom_tokens a) (flat_map atom_tokens xs) us)
      ∙ (atom_shows a (flat_map atom_tokens xs ++ us)
      ∙ (ap (λ r. spaced_atom names a ++ r) (atoms_show xs us)
      ∙ (sym (append_assoc (spaced_atom names a) (atoms_text names xs) (Listed us))
      ∙ ap (λ r. r ++ Listed us) (sym (flat_map-cons (spaced_atom names) a xs))))))

  amount_shows : (b : Bool) (n : ℕ) → Listed (amount_tokens b n) ≡ amount_text b n
  amount_shows false n = refl
  amount_shows true n = ap (λ r. 32 ∷ r) (append-nil (decimal n))

  instruction_shows : (i : Instr) → rendering names (line_tokens (Step i)) ≡ line_text names (Step i)
  instruction_shows i =
      let amount = amount_tokens (has_amount i.op) i.amount in
      ap (λ r. word_of_op i.op ++ (codes " " ++ (type_text i.ty ++ r)))
      (names_show i.outs (flat_map atom_tokens i.args ++ amount)
      ∙ ap (λ r. names_text names i.outs ++ r)
      (atoms_show i.args amount ∙ ap (λ r. atoms_text names i.args ++ r) (amount_shows (has_amount i.op) i.amount)))

  -- lines
  pub line_shows : (l : Line) → rendering names (line_tokens l) ≡ line_text names l
  line_shows (Input T x) = ap (λ r. codes "in " ++ (type_text T ++ (codes " " ++ r))) (append-nil (name_text names x))
  line_shows (Pre p) = ap (λ r. codes "pre" ++ r) (predicate_shows p)
  line_shows (Step i) = instruction_shows i
  line_shows (Assert p) = ap (λ r. codes "assert" ++ r) (predicate_shows p)
  line_shows (Assume p) = ap (λ r. codes "assume" ++ r) (predicate_shows p)
  line_shows (Cut p) = ap (λ r. codes "cut" ++ r) (predicate_shows p)
  line_shows (Post p) = ap (λ r. codes "post" ++ r) (predicate_shows p)
