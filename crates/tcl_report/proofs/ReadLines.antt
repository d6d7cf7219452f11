-- From a reading of a line: its canonical tokens are leaner than those that were read, and they read as the same line.
use Rattle.std.proofs.Common.{◌≡◌, ℕ, suc, List, [], ◌∷◌, ◌++◌, refl, sym, ap, subst, ◌∙◌, arith, append_assoc, append-nil}
use Rattle.std.specs.Prelude.{pos, Bool, true, if◌then◌else◌, map, flat_map, Some}
use Rattle.std.proofs.lemmas.List.Concat.{flat_map-cons}
use Rattle.tcl_lang.specs.declared.ty.Ty.{Ty}
use Rattle.tcl_lang.specs.declared.instr.Atom.{Atom}
use Rattle.tcl_lang.specs.declared.instr.Op.{Op}
use Rattle.tcl_lang.specs.declared.instr.Instr.{Instr}
use Rattle.tcl_lang.specs.declared.term.Part.{Part}
use Rattle.tcl_lang.specs.declared.pred.Pred.{Pred}
use Rattle.tcl_lang.specs.declared.pred.Line.{Line}
use Rattle.tcl_lang.specs.declared.pred.Line.TheVariants as line
use Rattle.tcl_text.specs.declared.symbol.Symbol.TheVariants.{StarStar, Plus, Minus, Equal}
use Rattle.tcl_text.specs.declared.token.Keyword.TheVariants as keyword
use Rattle.tcl_text.specs.declared.token.Token.{Token}
use Rattle.tcl_text.specs.declared.token.Token.TheVariants.{Name, Number, Kind, Instruction, Reserved, Sign}
use Rattle.tcl_text.specs.declared.token.Statement.TheVariants.{Program}
use Rattle.tcl_text.specs.Trees.{alg, prd}
use Rattle.tcl_text.specs.Grammar.{capped, Chain}
use Rattle.tcl_text.specs.Statements as grammar
use Rattle.tcl_text.proofs.Shapes.{Fit, fit_rest}
use Rattle.tcl_report.specs.CanonicalTokens.{tree_tokens, atom_tokens, part_tokens, signed_part_tokens, predicate_tokens, amount_tokens, instruction_tokens, line_tokens}
use Rattle.tcl_report.proofs.Leaner.{Leaner, none, plain, kept, both, kept_low, leaner_fit}
use Rattle.tcl_report.proofs.ReadTrees.{reads_at, operand_found, capped_kept, chain_found}

-- moduli
part_found : {b : Bool} {ts us : List Token} {p : Part} → grammar.OnePart b ts p us →
    Leaner (part_tokens p) us ts × ((vs : List Token) → grammar.OnePart b (part_tokens p ++ vs) p vs)
part_found grammar.base = (plain (λ d. refl) none, λ vs. grammar.base)
part_found (grammar.powered {minus = minus} {n = n} {k = k}) = (
  plain (λ d. refl) (plain (λ d. refl) (kept none)),
  λ vs. subst (λ m. grammar.OnePart minus (Number n ∷ Sign StarStar ∷ Number (pos (capped k)) ∷ vs) (record { minus = minus; base = n; power = Some m }) vs)
      (capped_kept (capped k) (kept_low k)) grammar.powered,
)

minus_is : {b : Bool} {ts us : List Token} {p : Part} → grammar.OnePart b ts p us → p.minus ≡ b
minus_is grammar.base = refl
minus_is grammar.powered = refl

parts_cons : {b : Bool} {ts us : List Token} {p : Part} (ps : List Part) → grammar.OnePart b ts p us →
    flat_map signed_part_tokens (p ∷ ps) ≡ Sign (if b then Minus else Plus) ∷ (part_tokens p ++ flat_map signed_part_tokens ps)
parts_cons {p = p} ps q =
    flat_map-cons signed_part_tokens p ps
    ∙ ap (λ b. Sign (if b then Minus else Plus) ∷ (part_tokens p ++ flat_map signed_part_tokens ps)) (minus_is q)

more_parts_found : {ts : List Token} {ps : List Part} → grammar.MoreParts ts ps →
    Leaner (flat_map signed_part_tokens ps) [] ts × grammar.MoreParts (flat_map signed_part_tokens ps) ps
more_parts_found grammar.none = (none, grammar.none)
more_parts_found (grammar.plus {ts = ts} {p = p} {ps = ps} q m) =
    let r = part_found q in
    let n = more_parts_found m in
    subst (λ xs. Leaner xs [] (Sign Plus ∷ ts) × grammar.MoreParts xs (p ∷ ps)) (sym (parts_cons ps q))
    (plain (λ d. refl) (both r.0 n.0), grammar.plus (r.1 (flat_map signed_part_tokens ps)) n.1)
more_parts_found (grammar.minus {ts = ts} {p = p} {ps = ps} q m) =
    let r = part_found q in
    let n = more_parts_found m in
    subst (λ xs. Leaner xs [] (Sign Minus ∷ ts) × grammar.MoreParts xs (p ∷ ps)) (sym (parts_cons ps q))
    (plain (λ d. refl) (both r.0 n.0), grammar.minus (r.1 (flat_map signed_part_tokens ps)) n.1)

-- predicates
predicate_found : {ts : List Token} {p : Pred} → grammar.Predicate ts p → Fit ts →
    Leaner (predicate_tokens p) [] ts × grammar.Predicate (predicate_tokens p) p
predicate_found (grammar.range {ts = ts} {p = p} c) f =
    let r = chain_found c (fit_rest (Reserved keyword.Rng) ts f) in (
      plain (λ d. refl) (r.leaner 3 (omega arith)),
      grammar.range (subst (λ xs. Chain prd 2 xs p []) (append-nil (tree_tokens prd p 3)) (reads_at r 3 [])),
    )
predicate_found (grammar.equation {ts = ts} {us = us} {f = t} {g = u} c d) f =
    let r = chain_found c (fit_rest (Reserved keyword.Alg) ts f) in
    let fits = (leaner_fit (r.leaner 4 (omega arith)) (fit_rest (Reserved keyword.Alg) ts f)).1 in
    let q = chain_found d (fit_rest (Sign Equal) us fits) in (
      plain (λ d. refl) (both (r.leaner 4 (omega arith)) (plain (λ d. refl) (both (q.leaner 4 (omega arith)) none))),
      grammar.equation (reads_at r 4 (Sign Equal ∷ (tree_tokens alg u 4 ++ []))) (reads_at q 4 []),
    )
predicate_found (grammar.congruence {ts = ts} {us = us} {vs = vs} {f = t} {g = u} c d (grammar.parts {p = p} {ps = ps} o m)) f =
    let r = chain_found c (fit_rest (Reserved keyword.Alg) ts f) in
    let fits = (leaner_fit (r.leaner 4 (omega arith)) (fit_rest (Reserved keyword.Alg) ts f)).1 in
    let q = chain_found d (fit_rest (Sign Equal) us fits) in
    let first = part_found o in
    let others = more_parts_found m in
    let modulus = part_tokens p ++ flat_map signed_part_tokens ps in (
      plain (λ d. refl) (both (r.leaner 4 (omega arith))
          (plain (λ d. refl) (both (q.leaner 4 (omega arith)) (plain (λ d. refl) (both first.0 others.0))))),
      grammar.congruence (reads_at r 4 (Sign Equal ∷ (tree_tokens alg u 4 ++ (Reserved keyword.Mod ∷ modulus))))
          (reads_at q 4 (Reserved keyword.Mod ∷ modulus)) (grammar.parts (first.1 (flat_map signed_part_tokens ps)) others.1),
    )

-- instructions
names_found : {k : ℕ} {ts us : List Token} {xs : List ℕ} → grammar.Names k ts xs us →
    Leaner (map Name xs) us ts × ((vs : List Token) → grammar.Names k (map Name xs ++ vs) xs vs)
names_found grammar.no_name = (none, λ vs. grammar.no_name)
names_found (grammar.one_name p) = let r = names_found p in (plain (λ d. refl) r.0, λ vs. grammar.one_name (r.1 vs))

operands_found : {k : ℕ} {ts us : List Token} {xs : List Atom} → grammar.Operands k ts xs us → Fit ts →
    Leaner (flat_map atom_tokens xs) us ts × ((vs : List Token) → grammar.Operands k (flat_map atom_tokens xs ++ vs) xs vs)
operands_found grammar.no_operand f = (none, λ vs. grammar.no_operand)
operands_found (grammar.one_operand {k = k} {ts = ts} {vs = us} {a = a} {atoms = xs} o p) f =
    let r = operand_found o f in
    let q = operands_found p (leaner_fit r.leaner f).1 in
    subst (λ cs. Leaner cs us ts × ((vs : List Token) → grammar.Operands (suc k) (cs ++ vs) (a ∷ xs) vs)) (sym (flat_map-cons atom_tokens a xs)) (
      both r.leaner q.0,
      λ vs. subst (λ cs. grammar.Operands (suc k) cs (a ∷ xs) vs) (sym (append_assoc (atom_tokens a) (flat_map atom_tokens xs) vs))
          (grammar.one_operand (r.operand (flat_map atom_tokens xs ++ vs)) (q.1 vs)),
    )

amount_found : {b : Bool} {ts : List Token} {n : ℕ} → grammar.Amount b ts n → Leaner (amount_tokens b n) [] ts × grammar.Amount b (amount_tokens b n) n
amount_found (grammar.some_amount {n = n}) = (
  kept none,
  subst (λ m. grammar.Amount true (Number (pos (capped n)) ∷ []) m) (capped_kept (capped n) (kept_low n)) grammar.some_amount,
)
amount_found grammar.no_amount = (none, grammar.no_amount)

form_found : {op : Op} {T : Ty} {ts : List Token} {i : Instr} → grammar.Form op T ts i → Fit ts →
    Leaner (instruction_tokens i) [] (Instruction op ∷ Kind T ∷ ts) × grammar.IsStatement (instruction_tokens i) (Program (line.Step i))
form_found (grammar.form {op = op} {outs = outs} {args = args} {n = n} p q r) f =
    let a = names_found p in
    let b = operands_found q (leaner_fit a.0 f).1 in
    let c = amount_found r in (
      plain (λ d. refl) (plain (λ d. refl) (both a.0 (both b.0 c.0))),
      grammar.step (grammar.form (a.1 _) (b.1 _) c.1),
    )

-- lines
pub statement_found : {ts : List Token} {l : Line} → grammar.IsStatement ts (Program l) → Fit ts →
    Leaner (line_tokens l) [] ts × grammar.IsStatement (line_tokens l) (Program l)
statement_found grammar.input f = (plain (λ d. refl) (plain (λ d. refl) (plain (λ d. refl) none)), grammar.input)
statement_found (grammar.pre {ts = ts} p) f =
    let r = predicate_found p (fit_rest (Reserved keyword.Pre) ts f) in (plain (λ d. refl) r.0, grammar.pre r.1)
statement_found (grammar.step {op = op} {T = T} {ts = ts} p) f = form_found p (fit_rest (Kind T) ts (fit_rest (Instruction op) (Kind T ∷ ts) f))
statement_found (grammar.assert {ts = ts} p) f =
    let r = predicate_found p (fit_rest (Reserved keyword.Assert) ts f) in (plain (λ d. refl) r.0, grammar.assert r.1)
statement_found (grammar.assume {ts = ts} p) f =
    let r = predicate_found p (fit_rest (Reserved keyword.Assume) ts f) in (plain (λ d. refl) r.0, grammar.assume r.1)
statement_found (grammar.cut {ts = ts} p) f =
    let r = predicate_found p (fit_rest (Reserved keyword.Cut) ts f) in (plain (λ d. refl) r.0, grammar.cut r.1)
statement_found (grammar.post {ts = ts} p) f =
    let r = predicate_found p (fit_rest (Reserved keyword.Post) ts f) in (plain (λ d. refl) r.0, grammar.post r.1)
