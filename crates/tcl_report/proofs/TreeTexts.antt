-- The canonical text of a tree is the rendering of its tokens, at each place and whatever stands behind them.
use Rattle.std.proofs.Common.{◌≡◌, ℕ, List, [], ◌∷◌, ◌++◌, refl, sym, ap, subst, ◌∙◌, arith, append_assoc, append-nil}
use Rattle.std.specs.Prelude.{nat_le, ℤ, pos, negsuc, Bool, true, false, if◌then◌else◌, codes}
use Rattle.std.specs.Fmt.{decimal, signed_decimal}
use Rattle.std.proofs.lemmas.Bool.{le-leb, le-ltb}
use Rattle.tcl_lang.specs.declared.ty.Ty.{Ty}
use Rattle.tcl_lang.specs.declared.instr.Atom.{Atom}
use Rattle.tcl_lang.specs.declared.instr.Atom.TheVariants.{Var, Lit}
use Rattle.tcl_lang.specs.declared.instr.Op.TheVariants.{Cast}
use Rattle.tcl_lang.specs.declared.term.Term.{Term, Term-F, roll-Term, map-Term, ind-Term}
use Rattle.tcl_lang.specs.declared.term.Term.TheOpen as term_layer
use Rattle.tcl_lang.specs.declared.term.Term.TheFolds.{fold-roll-Term}
use Rattle.tcl_lang.specs.declared.range.RngOp.{RngOp}
use Rattle.tcl_lang.specs.declared.range.RngOp.TheVariants as range_op
use Rattle.tcl_lang.specs.declared.range.CmpOp.{CmpOp}
use Rattle.tcl_lang.specs.declared.range.CmpOp.TheVariants as comparison
use Rattle.tcl_lang.specs.declared.range.RngTerm.{RngTerm, RngTerm-F, roll-RngTerm, map-RngTerm, ind-RngTerm}
use Rattle.tcl_lang.specs.declared.range.RngTerm.TheOpen as range_layer
use Rattle.tcl_lang.specs.declared.range.RngTerm.TheFolds.{fold-roll-RngTerm}
use Rattle.tcl_lang.specs.declared.range.RngPred.{RngPred, RngPred-F, roll-RngPred, map-RngPred, ind-RngPred}
use Rattle.tcl_lang.specs.declared.range.RngPred.TheOpen as pred_layer
use Rattle.tcl_lang.specs.declared.range.RngPred.TheFolds.{fold-roll-RngPred}
use Rattle.tcl_text.specs.declared.symbol.Symbol.{Symbol}
use Rattle.tcl_text.specs.declared.symbol.Symbol.TheVariants.{Minus, Tilde, Bang, Open, Close, OpenSquare, Comma, At}
use Rattle.tcl_text.specs.declared.token.Token.{Token}
use Rattle.tcl_text.specs.declared.token.Token.TheVariants.{Name, Number, Kind, Instruction, Sign}
use Rattle.tcl_text.specs.Trees.{Sort, alg, wrd, prd}
use Rattle.tcl_text.specs.Canonical.{name_text, type_text, atom_place, atom_text, operator_text, comparison_text, term_text_step, term_text, range_term_text_step, range_term_text, range_pred_text_step}
use Rattle.tcl_report.specs.Parts.{range_pred_text}
use Rattle.tcl_report.specs.CanonicalTokens.{Written, opening, closing, bracketed, placed, plain_written, joint_symbol, comparison_symbol, literal_tokens, atom_tokens, term_written_step, range_written_step, range_written, pred_written_step, tree_written, tree_tokens}
use Rattle.tcl_report.specs.Rendering.{Before, tight, loose, ended, symbol_text, space_unless, rendered}

-- where an operand begins
abbrev pub begin : Bool → Before
begin true = tight
begin false = loose

-- tokens outside an instruction, where this stands before them
abbrev pub From : List (List ℕ) → Before → List Token → List ℕ
From names before ts = rendered names false before ts

-- tokens that are an operand with this text
pub record Shows (names : List (List ℕ)) (ts : List Token) (text : List ℕ) : Type 0 where
  pub at : (b : Bool) (us : List Token) → From names (begin b) (ts ++ us) ≡ space_unless b ++ (text ++ From names ended us)

-- a sign or an opening bracket, which holds an operand fast
record Leads (names : List (List ℕ)) (s : Symbol) : Type 0 where
  at : (b : Bool) (us : List Token) → From names (begin b) (Sign s ∷ us) ≡ space_unless b ++ (symbol_text s ++ From names tight us)

-- an operator with the space around it
pub record Between (names : List (List ℕ)) (s : Symbol) (m : List ℕ) : Type 0 where
  pub at : (us : List Token) (x : List ℕ) → ((b : Bool) → From names (begin b) us ≡ space_unless b ++ x) → From names ended (Sign s ∷ us) ≡ m ++ x

by_both : (P : Bool → Type 0) → P true → P false → (b : Bool) → P b
by_both P p q true = p
by_both P p q false = q

module _ (names : List (List ℕ)) where
  leads : (s : Symbol) → ((us : List Token) → From names tight (Sign s ∷ us) ≡ symbol_text s ++ From names tight us) →
      ((us : List Token) → From names loose (Sign s ∷ us) ≡ 32 ∷ (symbol_text s ++ From names tight us)) → Leads names s
  leads s p q = record {
    at = λ b us. by_both (λ b. From names (begin b) (Sign s ∷ us) ≡ space_unless b ++ (symbol_text s ++ From names tight us)) (p us) (q us) b;
  }

  minus_leads : Leads names Minus
  minus_leads = leads Minus (λ us. refl) (λ us. refl)

  opening_leads : (s : Sort) → Leads names (opening s)
  opening_leads alg = leads Open (λ us. refl) (λ us. refl)
  opening_leads wrd = leads Open (λ us. refl) (λ us. refl)
  opening_leads prd = leads OpenSquare (λ us. refl) (λ us. refl)

  signed : {s : Symbol} {ts : List Token} {x : List ℕ} → Leads names s → Shows names ts x → Shows names (Sign s ∷ ts) (symbol_text s ++ x)
  signed {s = s} {ts = ts} {x = x} p h = record {
    at = λ b us.
        p.at b (ts ++ us)
        ∙ (ap (λ r. space_unless b ++ (symbol_text s ++ r)) (h.at true us)
        ∙ ap (λ r. space_unless b ++ r) (sym (append_assoc (symbol_text s) x (From names ended us))));
  }

  operator_between : (o : RngOp) → Between names (joint_symbol wrd o) (operator_text o)
  operator_between range_op.Add = record { at = λ us x h. ap (λ r. 32 ∷ (43 ∷ r)) (h false) }
  operator_between range_op.Sub = record { at = λ us x h. ap (λ r. 32 ∷ (45 ∷ r)) (h false) }
  operator_between range_op.Mul = record { at = λ us x h. ap (λ r. 32 ∷ (42 ∷ r)) (h false) }
  operator_between range_op.And = record { at = λ us x h. ap (λ r. 32 ∷ (38 ∷ r)) (h false) }
  operator_between range_op.Or = record { at = λ us x h. ap (λ r. 32 ∷ (124 ∷ r)) (h false) }
  operator_between range_op.Xor = record { at = λ us x h. ap (λ r. 32 ∷ (94 ∷ r)) (h false) }

  pub comparison_between : (op : CmpOp) → Between names (comparison_symbol op) (comparison_text op)
  comparison_between comparison.Eq = record { at = λ us x h. ap (λ r. 32 ∷ (61 ∷ r)) (h false) }
  comparison_between comparison.Ne = record { at = λ us x h. ap (λ r. 32 ∷ (33 ∷ (61 ∷ r))) (h false) }
  comparison_between comparison.Lt = record { at = λ us x h. ap (λ r. 32 ∷ (60 ∷ r)) (h false) }
  comparison_between comparison.Le = record { at = λ us x h. ap (λ r. 32 ∷ (60 ∷ (61 ∷ r))) (h false) }
  comparison_between comparison.Gt = record { at = λ us x h. ap (λ r. 32 ∷ (62 ∷ r)) (h false) }
  comparison_between comparison.Ge = record { at = λ us x h. ap (λ r. 32 ∷ (62 ∷ (61 ∷ r))) (h false) }

  joint : {s : Symbol} {ts us : List Token} {x m y : List ℕ} → Between names s m → Shows names ts x → Shows names us y →
      Shows names (ts ++ (Sign s ∷ us)) (x ++ (m ++ y))
  joint {s = s} {ts = ts} {us = us} {x = x} {m = m} {y = y} p h g = record {
    at = λ b vs.
        ap (From names (begin b)) (append_assoc ts (Sign s ∷ us) vs)
        ∙ (h.at b (Sign s ∷ (us ++ vs))
        ∙ ap (λ r. space_unless b ++ r)
        (ap (λ r. x ++ r) (p.at (us ++ vs) (y ++ From names ended vs) (λ c. g.at c vs) ∙ sym (append_assoc m y (From names ended vs)))
        ∙ sym (append_assoc x (m ++ y) (From names ended vs))));
  }

  -- brackets where the tree is looser than its place
  closes : (s : Sort) (us : List Token) → From names ended (Sign (closing s) ∷ us) ≡ symbol_text (closing s) ++ From names ended us
  closes alg us = refl
  closes wrd us = refl
  closes prd us = refl

  in_brackets : {ts : List Token} {x : List ℕ} (s : Sort) → Shows names ts x →
      Shows names (bracketed s ts) (symbol_text (opening s) ++ (x ++ symbol_text (closing s)))
  in_brackets {ts = ts} {x = x} s h = signed (opening_leads s) (record {
    at = λ b us.
        ap (From names (begin b)) (append_assoc ts (Sign (closing s) ∷ []) us)
        ∙ (h.at b (Sign (closing s) ∷ us)
        ∙ ap (λ r. space_unless b ++ r) (ap (λ r. x ++ r) (closes s us) ∙ sym (append_assoc x (symbol_text (closing s)) (From names ended us))));
  })

  placed_by : {ts : List Token} {x : List ℕ} (s : Sort) (b : Bool) → Shows names ts x →
      Shows names (if b then ts else bracketed s ts)
      ((if b then [] else symbol_text (opening s)) ++ (x ++ (if b then [] else symbol_text (closing s))))
  placed_by {ts = ts} {x = x} s true h = subst (λ y. Shows names ts y) (sym (append-nil x)) h
  placed_by s false h = in_brackets s h

  -- what never stands in brackets
  plain : {ts : List Token} {x : List ℕ} (s : Sort) (place : ℕ) → Shows names ts x → Shows names (placed s (plain_written ts) place) x
  plain {ts = ts} {x = x} s place h =
      subst (λ b. Shows names (if b then ts else bracketed s ts) x) (sym (le-leb 0 place (omega arith))) h

  -- two parts, in the nesting of the text
  two_by : {ts us : List Token} {symbol : Symbol} {m : List ℕ} (s : Sort) (b : Bool) (x y : List ℕ) → Between names symbol m →
      Shows names ts x → Shows names us y →
      Shows names (if b then ts ++ (Sign symbol ∷ us) else bracketed s (ts ++ (Sign symbol ∷ us)))
      ((if b then [] else symbol_text (opening s)) ++ (x ++ (m ++ (y ++ (if b then [] else symbol_text (closing s))))))
  two_by {ts = ts} {us = us} {symbol = symbol} {m = m} s b x y p h g =
      let c = if b then [] else symbol_text (closing s) in
      subst (λ z. Shows names (if b then ts ++ (Sign symbol ∷ us) else bracketed s (ts ++ (Sign symbol ∷ us))) ((if b then [] else symbol_text (opening s)) ++ z))
      (append_assoc x (m ++ y) c ∙ ap (λ z. x ++ z) (append_assoc m y c)) (placed_by s b (joint p h g))

  -- algebraic terms
  shown : {ts : List Token} {x : List ℕ} → ((us : List Token) → From names tight (ts ++ us) ≡ x ++ From names ended us) →
      ((us : List Token) → From names loose (ts ++ us) ≡ 32 ∷ (x ++ From names ended us)) → Shows names ts x
  shown {ts = ts} {x = x} p q = record {
    at = λ b us. by_both (λ b. From names (begin b) (ts ++ us) ≡ space_unless b ++ (x ++ From names ended us)) (p us) (q us) b;
  }

  name_shows : (x : ℕ) → Shows names (Name x ∷ []) (name_text names x)
  name_shows x = shown (λ us. refl) (λ us. refl)

  number_shows : (n : ℤ) → Shows names (Number n ∷ []) (signed_decimal n)
  number_shows n = shown (λ us. refl) (λ us. refl)

  abbrev TermShows : Term → Type 0
  TermShows t = (k : ℕ) → Shows names (tree_tokens alg t k) (term_text names t k)

  term_moved : (y : Term-F Term) →
      ((k : ℕ) → Shows names (placed alg (term_written_step (map-Term Term Written (tree_written alg) y)) k)
      (term_text_step names (map-Term Term (ℕ → List ℕ) (term_text names) y) k)) → TermShows (roll-Term y)
  term_moved y c k =
      subst (λ w. Shows names (placed alg w k) (term_text names (roll-Term y) k)) (sym (fold-roll-Term Written term_written_step y))
      (subst (λ f. Shows names (placed alg (term_written_step (map-Term Term Written (tree_written alg) y)) k) (f k))
      (sym (fold-roll-Term (ℕ → List ℕ) (term_text_step names) y)) (c k))

  abbrev TermStep : Type 0
  TermStep = (t : Term) × TermShows t

  term_step : (y : Term-F TermStep) → TermShows (roll-Term (map-Term TermStep Term (λ e. e.0) y))
  term_step (term_layer.Var x) = term_moved (term_layer.Var x) (λ k. plain alg k (name_shows x))
  term_step (term_layer.Num n) = term_moved (term_layer.Num n) (λ k. plain alg k (number_shows n))
  term_step (term_layer.Neg t) = term_moved (term_layer.Neg t.0) (λ k. placed_by alg (nat_le 2 k) (signed minus_leads (t.1 1)))
  term_step (term_layer.Add t u) = term_moved (term_layer.Add t.0 u.0) (λ k. two_by alg (nat_le 4 k) _ _ (operator_between range_op.Add) (t.1 4) (u.1 3))
  term_step (term_layer.Sub t u) = term_moved (term_layer.Sub t.0 u.0) (λ k. two_by alg (nat_le 4 k) _ _ (operator_between range_op.Sub) (t.1 4) (u.1 3))
  term_step (term_layer.Mul t u) = term_moved (term_layer.Mul t.0 u.0) (λ k. two_by alg (nat_le 3 k) _ _ (operator_between range_op.Mul) (t.1 3) (u.1 2))
  term_step (term_layer.Pow t n) =
      term_moved (term_layer.Pow t.0 n) (λ k. two_by {m = codes "**"} alg (nat_le 1 k) _ _ (record { at = λ us x h. ap (λ r. 42 ∷ (42 ∷ r)) (h true) }) (t.1 0) (number_shows (pos n)))

  pub term_shows : (t : Term) → TermShows t
  term_shows = ind-Term TermShows (λ x y is. subst (λ z. TermShows (roll-Term z)) is (term_step y))

  -- range terms
  atom_shows : (a : Atom) → Shows names (atom_tokens a) (atom_text names a)
  atom_shows (Var x) = name_shows x
  atom_shows (Lit T (pos k)) =
      subst (λ m. Shows names (literal_tokens m (pos k) (Sign At ∷ (Kind T ∷ []))) (atom_text names (Lit T (pos k)))) (sym (le-ltb k 0 (omega arith)))
      (shown (λ us. sym (append_assoc (decimal k) (codes "@" ++ type_text T) (From names ended us)))
      (λ us. ap (λ r. 32 ∷ r) (sym (append_assoc (decimal k) (codes "@" ++ type_text T) (From names ended us)))))
  atom_shows (Lit T (negsuc k)) =
      shown (λ us. sym (append_assoc (signed_decimal (negsuc k)) (codes "@" ++ type_text T) (From names ended us)))
      (λ us. ap (λ r. 32 ∷ r) (sym (append_assoc (signed_decimal (negsuc k)) (codes "@" ++ type_text T) (From names ended us))))

  abbrev RangeShows : RngTerm → Type 0
  RangeShows t = (k : ℕ) → Shows names (tree_tokens wrd t k) (range_term_text names t k)

  range_moved : (y : RngTerm-F RngTerm) →
      ((k : ℕ) → Shows names (placed wrd (range_written_step (map-RngTerm RngTerm Written range_written y)) k)
      (range_term_text_step names (map-RngTerm RngTerm (ℕ → List ℕ) (range_term_text names) y) k)) → RangeShows (roll-RngTerm y)
  range_moved y c k =
      subst (λ w. Shows names (placed wrd w k) (range_term_text names (roll-RngTerm y) k)) (sym (fold-roll-RngTerm Written range_written_step y))
      (subst (λ f. Shows names (placed wrd (range_written_step (map-RngTerm RngTerm Written range_written y)) k) (f k))
      (sym (fold-roll-RngTerm (ℕ → List ℕ) (range_term_text_step names) y)) (c k))

  abbrev RangeStep : Type 0
  RangeStep = (t : RngTerm) × RangeShows t

  bin_shows : (o : RngOp) (t u : RngTerm) → RangeShows t → RangeShows u → (k : ℕ) →
      Shows names (placed wrd (range_written_step (range_layer.Bin o (range_written t) (range_written u))) k)
      (range_term_text_step names (range_layer.Bin o (range_term_text names t) (range_term_text names u)) k)
  bin_shows range_op.Mul t u p q k = two_by wrd (nat_le 3 k) _ _ (operator_between range_op.Mul) (p 3) (q 2)
  bin_shows range_op.Add t u p q k = two_by wrd (nat_le 4 k) _ _ (operator_between range_op.Add) (p 4) (q 3)
  bin_shows range_op.Sub t u p q k = two_by wrd (nat_le 4 k) _ _ (operator_between range_op.Sub) (p 4) (q 3)
  bin_shows range_op.And t u p q k = two_by wrd (nat_le 5 k) _ _ (operator_between range_op.And) (p 5) (q 4)
  bin_shows range_op.Xor t u p q k = two_by wrd (nat_le 6 k) _ _ (operator_between range_op.Xor) (p 6) (q 5)
  bin_shows range_op.Or t u p q k = two_by wrd (nat_le 7 k) _ _ (operator_between range_op.Or) (p 7) (q 6)

  cast_shows : {ts : List Token} {x : List ℕ} (T : Ty) → Shows names ts x →
      Shows names (Instruction Cast ∷ (Sign Open ∷ (Kind T ∷ (Sign Comma ∷ (ts ++ (Sign Close ∷ []))))))
      (codes "cast(" ++ (type_text T ++ (codes ", " ++ (x ++ codes ")"))))
  cast_shows {ts = ts} {x = x} T h = shown (λ us. ap (λ r. codes "cast(" ++ r) (text us)) (λ us. ap (λ r. codes " cast(" ++ r) (text us))
    where
      text : (us : List Token) → type_text T ++ (44 ∷ From names loose ((ts ++ (Sign Close ∷ [])) ++ us))
          ≡ (type_text T ++ (codes ", " ++ (x ++ codes ")"))) ++ From names ended us
      text us =
          ap (λ r. type_text T ++ (44 ∷ r))
          (ap (From names loose) (append_assoc ts (Sign Close ∷ []) us)
          ∙ (h.at false (Sign Close ∷ us) ∙ ap (λ r. 32 ∷ r) (sym (append_assoc x (codes ")") (From names ended us)))))
          ∙ sym (append_assoc (type_text T) (codes ", " ++ (x ++ codes ")")) (From names ended us))

  range_step : (y : RngTerm-F RangeStep) → RangeShows (roll-RngTerm (map-RngTerm RangeStep RngTerm (λ e. e.0) y))
  range_step (range_layer.Leaf a) = range_moved (range_layer.Leaf a) (λ k. placed_by wrd (nat_le (atom_place a) k) (atom_shows a))
  range_step (range_layer.Neg t) = range_moved (range_layer.Neg t.0) (λ k. placed_by wrd (nat_le 2 k) (signed minus_leads (t.1 0)))
  range_step (range_layer.Flip t) = range_moved (range_layer.Flip t.0) (λ k. placed_by wrd (nat_le 2 k) (signed (leads Tilde (λ us. refl) (λ us. refl)) (t.1 1)))
  range_step (range_layer.Bin o t u) = range_moved (range_layer.Bin o t.0 u.0) (bin_shows o t.0 u.0 t.1 u.1)
  range_step (range_layer.Cast T t) = range_moved (range_layer.Cast T t.0) (λ k. plain wrd k (cast_shows T (t.1 7)))

  range_shows : (t : RngTerm) → RangeShows t
  range_shows = ind-RngTerm RangeShows (λ x y is. subst (λ z. RangeShows (roll-RngTerm z)) is (range_step y))

  -- range predicates
  abbrev PredShows : RngPred → Type 0
  PredShows p = (k : ℕ) → Shows names (tree_tokens prd p k) (range_pred_text names p k)

  pred_moved : (y : RngPred-F RngPred) →
      ((k : ℕ) → Shows names (placed prd (pred_written_step (map-RngPred RngPred Written (tree_written prd) y)) k)
      (range_pred_text_step names (map-RngPred RngPred (ℕ → List ℕ) (range_pred_text names) y) k)) → PredShows (roll-RngPred y)
  pred_moved y c k =
      subst (λ w. Shows names (placed prd w k) (range_pred_text names (roll-RngPred y) k)) (sym (fold-roll-RngPred Written pred_written_step y))
      (subst (λ f. Shows names (placed prd (pred_written_step (map-RngPred RngPred Written (tree_written prd) y)) k) (f k))
      (sym (fold-roll-RngPred (ℕ → List ℕ) (range_pred_text_step names) y)) (c k))

  abbrev PredStep : Type 0
  PredStep = (p : RngPred) × PredShows p

  pred_step : (y : RngPred-F PredStep) → PredShows (roll-RngPred (map-RngPred PredStep RngPred (λ e. e.0) y))
  pred_step pred_layer.True = pred_moved pred_layer.True (λ k. plain prd k (shown (λ us. refl) (λ us. refl)))
  pred_step pred_layer.False = pred_moved pred_layer.False (λ k. plain prd k (shown (λ us. refl) (λ us. refl)))
  pred_step (pred_layer.Cmp op t u) =
      pred_moved (pred_layer.Cmp op t u) (λ k. plain prd k (joint (comparison_between op) (range_shows t 7) (range_shows u 7)))
  pred_step (pred_layer.Not p) = pred_moved (pred_layer.Not p.0) (λ k. placed_by prd (nat_le 1 k) (signed (leads Bang (λ us. refl) (λ us. refl)) (p.1 0)))
  pred_step (pred_layer.Both p q) =
      pred_moved (pred_layer.Both p.0 q.0) (λ k. two_by {m = codes " && "} prd (nat_le 2 k) _ _ (record { at = λ us x h. ap (λ r. 32 ∷ (38 ∷ (38 ∷ r))) (h false) }) (p.1 2) (q.1 1))
  pred_step (pred_layer.Either p q) =
      pred_moved (pred_layer.Either p.0 q.0) (λ k. two_by {m = codes " || "} prd (nat_le 3 k) _ _ (record { at = λ us x h. ap (λ r. 32 ∷ (124 ∷ (124 ∷ r))) (h false) }) (p.1 3) (q.1 2))

  pub pred_shows : (p : RngPred) → PredShows p
  pred_shows = ind-RngPred PredShows (λ x y is. subst (λ z. PredShows (roll-RngPred z)) is (pred_step y))
