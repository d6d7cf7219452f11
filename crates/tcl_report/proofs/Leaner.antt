-- A list of tokens that begins with given tokens, where some parts may stand in more brackets: it has no fewer tokens of any
-- kind, and its brackets nest no less deep.
use Rattle.std.proofs.Common.{◌≡◌, ℕ, ◌+◌, ◌≤◌, List, [], ◌∷◌, ◌++◌, refl, sym, ap, subst, ◌∙◌, arith, append_assoc}
use Rattle.std.specs.Prelude.{ℤ, pos, min, unsigned_abs, int_lt, Bool, true, false, ◌||◌, cond, count_by, nat_lt}
use Rattle.std.specs.List.{list_all}
use Rattle.std.proofs.lemmas.Bool.{and_from, or_parts, cond_both}
use Rattle.std.proofs.lemmas.Bool.Decides.{nat_tests}
use Rattle.std.proofs.lemmas.List.Folds.{list_all-append}
use Rattle.std.proofs.lemmas.List.Sums.{sum_by-cons, sum_by-append}
use Rattle.tcl_lang.specs.Shape.{is_number}
use Rattle.tcl_text.specs.declared.token.Token.{Token}
use Rattle.tcl_text.specs.declared.token.Token.TheVariants.{Number, Sign}
use Rattle.tcl_text.specs.Grammar.{capped}
use Rattle.tcl_text.specs.Scan.{depth_after, nests_too_deep}
use Rattle.tcl_text.specs.Trees.{Sort, alg, wrd, prd}
use Rattle.tcl_text.proofs.Shapes.{is_fit, Fit, fit_first, fit_rest}
use Rattle.tcl_report.specs.CanonicalTokens.{opening, closing, bracketed}

-- a token that opens and closes nothing
abbrev pub Plain : Token → Type 0
Plain token = (d : ℕ) → depth_after d token ≡ d

-- the last list begins with the first one, perhaps in more brackets, and the second one follows
pub data Leaner : List Token → List Token → List Token → Type 0 where
  none : {us : List Token} → Leaner [] us us
  plain : {token : Token} {cs us ts : List Token} → Plain token → Leaner cs us ts → Leaner (token ∷ cs) us (token ∷ ts)
  kept : {n : ℤ} {cs us ts : List Token} → Leaner cs us ts → Leaner (Number (pos (capped n)) ∷ cs) us (Number n ∷ ts)
  both : {cs ds us vs ts : List Token} → Leaner cs vs ts → Leaner ds us vs → Leaner (cs ++ ds) us ts
  around : {cs us ts : List Token} (s : Sort) →
      Leaner cs (Sign (closing s) ∷ us) ts → Leaner (bracketed s cs) us (Sign (opening s) ∷ ts)
  without : {cs us ts : List Token} (s : Sort) → Leaner cs (Sign (closing s) ∷ us) ts → Leaner cs us (Sign (opening s) ∷ ts)

-- no fewer tokens of a kind to which all numbers belong or none
module _ (p : Token → Bool) (numbers : (m n : ℤ) → p (Number m) ≡ p (Number n)) where
  abbrev one : Bool → ℕ
  one b = cond b 1 0

  pub leaner_count : {cs us ts : List Token} → Leaner cs us ts → count_by p cs + count_by p us ≤ count_by p ts
  leaner_count none = omega arith
  leaner_count (plain {token = token} {cs = cs} {ts = ts} q l) =
      let a = sum_by-cons (λ t. one (p t)) token cs in
      let b = sum_by-cons (λ t. one (p t)) token ts in
      let c = leaner_count l in omega (arith, a, b, c)
  leaner_count (kept {n = n} {cs = cs} {ts = ts} l) =
      let a = sum_by-cons (λ t. one (p t)) (Number (pos (capped n))) cs in
      let b = sum_by-cons (λ t. one (p t)) (Number n) ts in
      let c = leaner_count l in
      let d = ap one (numbers (pos (capped n)) n) in omega (arith, a, b, c, d)
  leaner_count (both {cs = cs} {ds = ds} l m) =
      let a = sum_by-append (λ t. one (p t)) cs ds in
      let b = leaner_count l in let c = leaner_count m in omega (arith, a, b, c)
  leaner_count (around {cs = cs} {us = us} {ts = ts} s l) =
      let a = sum_by-cons (λ t. one (p t)) (Sign (opening s)) (cs ++ Sign (closing s) ∷ []) in
      let b = sum_by-append (λ t. one (p t)) cs (Sign (closing s) ∷ []) in
      let c = sum_by-cons (λ t. one (p t)) (Sign (closing s)) [] in
      let d = sum_by-cons (λ t. one (p t)) (Sign (closing s)) us in
      let e = sum_by-cons (λ t. one (p t)) (Sign (opening s)) ts in
      let f = leaner_count l in omega (arith, a, b, c, d, e, f)
  leaner_count (without {us = us} {ts = ts} s l) =
      let a = sum_by-cons (λ t. one (p t)) (Sign (closing s)) us in
      let b = sum_by-cons (λ t. one (p t)) (Sign (opening s)) ts in
      let c = leaner_count l in omega (arith, a, b, c)

-- numbers and types in range
pub kept_low : (n : ℤ) → capped n ≤ 4294967295
kept_low n = cond_both (int_lt n (pos 0)) 0 (min (unsigned_abs n) 4294967295) (λ k. k ≤ 4294967295) (λ e. omega arith) (λ e. grind arith)

low_number : (k : ℕ) → k ≤ 4294967295 → is_number (pos k) ≡ true
low_number k low = grind (arith, nat_tests)

pub leaner_fit : {cs us ts : List Token} → Leaner cs us ts → Fit ts → Fit cs × Fit us
leaner_fit none f = (refl, f)
leaner_fit (plain {token = token} {cs = cs} {ts = ts} q l) f =
    let r = leaner_fit l (fit_rest token ts f) in (and_from (is_fit token) (list_all is_fit cs) (fit_first token ts f) r.0, r.1)
leaner_fit (kept {n = n} {cs = cs} {ts = ts} l) f =
    let r = leaner_fit l (fit_rest (Number n) ts f) in
    (and_from (is_number (pos (capped n))) (list_all is_fit cs) (low_number (capped n) (kept_low n)) r.0, r.1)
leaner_fit (both {cs = cs} {ds = ds} l m) f =
    let r = leaner_fit l f in
    let q = leaner_fit m r.1 in
    (list_all-append is_fit cs ds ∙ and_from (list_all is_fit cs) (list_all is_fit ds) r.0 q.0, q.1)
leaner_fit (around {cs = cs} {us = us} {ts = ts} s l) f =
    let r = leaner_fit l f in
    (list_all-append is_fit cs (Sign (closing s) ∷ []) ∙ and_from (list_all is_fit cs) true r.0 refl, r.1)
leaner_fit (without s l) f = leaner_fit l f

-- no more than 64 brackets are open, where d are open before
abbrev pub Shallow : ℕ → List Token → Type 0
Shallow d ts = nests_too_deep d ts ≡ false

not_more : (x : ℕ) → nat_lt 64 x ≡ false → x ≤ 64
not_more x e = grind (arith, nat_tests)

no_more : (x : ℕ) → x ≤ 64 → nat_lt 64 x ≡ false
no_more x h = grind (arith, nat_tests)

-- behind one token d brackets are open
first_of : (c d : ℕ) (token : Token) (ts : List Token) → depth_after c token ≡ d → Shallow c (token ∷ ts) → (d ≤ 64) × Shallow d ts
unfolding nests_too_deep
first_of c d token ts e f =
    let parts = or_parts (nat_lt 64 (depth_after c token)) (nests_too_deep (depth_after c token) ts) f in
    (subst (λ n. n ≤ 64) e (not_more (depth_after c token) parts.0), subst (λ n. Shallow n ts) e parts.1)

one_more : (c d : ℕ) (token : Token) (ts : List Token) → depth_after c token ≡ d → d ≤ 64 → Shallow d ts → Shallow c (token ∷ ts)
unfolding nests_too_deep
one_more c d token ts e h f =
    let low : depth_after c token ≤ 64 = omega (arith, e, h) in
    ap (λ b. b || nests_too_deep (depth_after c token) ts) (no_more (depth_after c token) low)
    ∙ subst (λ n. Shallow n ts) (sym e) f

opens : (s : Sort) (d : ℕ) → depth_after d (Sign (opening s)) ≡ d + 1
opens alg d = refl
opens wrd d = refl
opens prd d = refl

closes : (s : Sort) (d : ℕ) → depth_after (d + 1) (Sign (closing s)) ≡ d
closes alg d = omega arith
closes wrd d = omega arith
closes prd d = omega arith

-- what the longer list keeps, the first one keeps where no more brackets are open before, whatever follows that keeps it
pub leaner_shallow : {cs us ts : List Token} → Leaner cs us ts → (d e : ℕ) → e ≤ d → Shallow d ts →
    Shallow d us × ((vs : List Token) → Shallow e vs → Shallow e (cs ++ vs))
leaner_shallow none d e h f = (f, λ vs g. g)
leaner_shallow (plain {token = token} {cs = cs} {ts = ts} q l) d e h f =
    let a = first_of d d token ts (q d) f in
    let b = a.0 in
    let r = leaner_shallow l d e h a.1 in
    (r.0, λ vs g. one_more e e token (cs ++ vs) (q e) (omega (arith, b, h)) (r.1 vs g))
leaner_shallow (kept {n = n} {cs = cs} {ts = ts} l) d e h f =
    let a = first_of d d (Number n) ts refl f in
    let b = a.0 in
    let r = leaner_shallow l d e h a.1 in
    (r.0, λ vs g. one_more e e (Number (pos (capped n))) (cs ++ vs) refl (omega (arith, b, h)) (r.1 vs g))
leaner_shallow (both {cs = cs} {ds = ds} l m) d e h f =
    let r = leaner_shallow l d e h f in
    let q = leaner_shallow m d e h r.0 in
    (q.0, λ vs g. subst (λ xs. Shallow e xs) (sym (append_assoc cs ds vs)) (r.1 (ds ++ vs) (q.1 vs g)))
leaner_shallow (around {cs = cs} {us = us} {ts = ts} s l) d e h f =
    let a = first_of d (d + 1) (Sign (opening s)) ts (opens s d) f in
    let b = a.0 in
    let r = leaner_shallow l (d + 1) (e + 1) (omega (arith, h)) a.1 in (
      (first_of (d + 1) d (Sign (closing s)) us (closes s d) r.0).1,
      λ vs g. one_more e (e + 1) (Sign (opening s)) ((cs ++ Sign (closing s) ∷ []) ++ vs) (opens s e) (omega (arith, b, h))
          (subst (λ xs. Shallow (e + 1) xs) (sym (append_assoc cs (Sign (closing s) ∷ []) vs))
          (r.1 (Sign (closing s) ∷ vs) (one_more (e + 1) e (Sign (closing s)) vs (closes s e) (omega (arith, b, h)) g))),
    )
leaner_shallow (without {us = us} {ts = ts} s l) d e h f =
    let a = first_of d (d + 1) (Sign (opening s)) ts (opens s d) f in
    let r = leaner_shallow l (d + 1) e (omega (arith, h)) a.1 in
    ((first_of (d + 1) d (Sign (closing s)) us (closes s d) r.0).1, r.1)
