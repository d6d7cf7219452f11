-- Logs: what their lines derive follows, one line more, and the checker's answers.
use Rattle.std.proofs.Common.{◌≡◌, ℕ, ◌+◌, ◌≤◌, zero, suc, Bool, true, false, ◌||◌, cond, List, [], ◌∷◌, ◌++◌, length, take, drop, Option, Some, None, slice_get, refl, sym, ◌∙◌, ap, subst, arith, ◌⊎◌, inl, inr, append_assoc, length-append, add-zero, zero-add, ◌↔◌, drop-cons}
use Rattle.std.specs.Prelude.{option_and_then}
use Rattle.std.specs.Option.{option_map_or}
use Rattle.std.proofs.lemmas.Bool.{and_from, and_parts, or_cases, eqb-true}
use Rattle.std.proofs.lemmas.Option.{same_Some, none-some, slice_get_within, get_or_from_slice_get}
use Rattle.std.proofs.lemmas.List.{take_all, drop_all, append-nil, take-append-le, length-take-le}
use Rattle.tcl_cnf.specs.Clause.{AreClauses, clause_true, all_true, Satisfies, Follows, HaveNoSolution}
use Rattle.tcl_cnf.specs.Resolution.{chain_of}
use Rattle.tcl_cnf.specs.Log.{is_empty, has_empty, derived, answer_from, log_answer, IsFirstBadLine, AreChains, IsAnswer, LogState, IsLog, AddsClause, with_line}
use Rattle.tcl_cnf.specs.FreshLogs.{AreFresh, IsFreshLog, DeriveFresh}
use Rattle.tcl_cnf.specs.declared.answer.LogAnswer.{LogAnswer}
use Rattle.tcl_cnf.specs.declared.answer.LogAnswer.TheVariants.{BadLine, NoEnd, Refutes}
use Rattle.tcl_cnf.proofs.Bools.{true-false, or-false, or-assoc}
use Rattle.tcl_cnf.proofs.Clauses.{are_clauses_push}
use Rattle.tcl_cnf.proofs.Chains.{chain_clause, chain_follows}
use Rattle.tcl_cnf.proofs.Truth.{satisfies-append, true_each}

-- a step of `derived`, by what the line derives
pub derived_cons : (clauses lines : List (List ℕ)) (line c : List ℕ) → chain_of clauses line ≡ Some c → derived clauses (line ∷ lines) ≡ derived (clauses ++ c ∷ []) lines
unfolding derived
derived_cons clauses lines line c e = ap (option_and_then (λ d. derived (clauses ++ d ∷ []) lines)) e

pub derived_bad : (clauses lines : List (List ℕ)) (line : List ℕ) → chain_of clauses line ≡ None → derived clauses (line ∷ lines) ≡ None
unfolding derived
derived_bad clauses lines line e = ap (option_and_then (λ d. derived (clauses ++ d ∷ []) lines)) e

pub derived_none : (clauses : List (List ℕ)) → derived clauses [] ≡ Some clauses
unfolding derived
derived_none clauses = refl

-- what the first of the lines derives, and what the others derive then
pub record FirstLine (clauses lines : List (List ℕ)) (line : List ℕ) (all : List (List ℕ)) : Type 0 where
  pub clause : List ℕ
  pub chain : chain_of clauses line ≡ Some clause
  pub rest : derived (clauses ++ clause ∷ []) lines ≡ Some all

first_at : (clauses lines : List (List ℕ)) (line : List ℕ) (all : List (List ℕ)) (o : Option (List ℕ)) → chain_of clauses line ≡ o → derived clauses (line ∷ lines) ≡ Some all → FirstLine clauses lines line all
first_at clauses lines line all None h d = absurd (none-some all (sym (derived_bad clauses lines line h) ∙ d))
first_at clauses lines line all (Some c) h d = record { clause = c; chain = h; rest = sym (derived_cons clauses lines line c h) ∙ d }

pub first_line : (clauses lines : List (List ℕ)) (line : List ℕ) (all : List (List ℕ)) → derived clauses (line ∷ lines) ≡ Some all → FirstLine clauses lines line all
first_line clauses lines line all d = first_at clauses lines line all (chain_of clauses line) refl d

-- what lines with one more derive
pub derived_push : (clauses lines all : List (List ℕ)) (line c : List ℕ) → derived clauses lines ≡ Some all → chain_of all line ≡ Some c → derived clauses (lines ++ line ∷ []) ≡ Some (all ++ c ∷ [])
derived_push clauses [] all line c d e =
    let same : clauses ≡ all = same_Some clauses all (sym (derived_none clauses) ∙ d) in
    derived_cons clauses [] line c (subst (λ t. chain_of t line ≡ Some c) (sym same) e) ∙ derived_none (clauses ++ c ∷ []) ∙ ap (λ t. Some (t ++ c ∷ [])) same
derived_push clauses (l ∷ lines) all line c d e =
    let f = first_line clauses lines l all d in
    derived_cons clauses (lines ++ line ∷ []) l f.clause f.chain ∙ derived_push (clauses ++ f.clause ∷ []) lines all line c f.rest e

-- the derived clauses stand behind the given ones
pub derived_behind : (clauses lines all : List (List ℕ)) → derived clauses lines ≡ Some all → (more : List (List ℕ)) × (all ≡ clauses ++ more)
derived_behind clauses [] all d = ([], sym (same_Some clauses all (sym (derived_none clauses) ∙ d)) ∙ sym (append-nil clauses))
derived_behind clauses (l ∷ lines) all d =
    let f = first_line clauses lines l all d in
    let r = derived_behind (clauses ++ f.clause ∷ []) lines all f.rest in
    (f.clause ∷ r.0, r.1 ∙ append_assoc clauses (f.clause ∷ []) r.0)

-- values that make the given clauses true make all true
pub derived_true : (v : ℕ → Bool) (clauses lines all : List (List ℕ)) → derived clauses lines ≡ Some all → Satisfies v clauses → Satisfies v all
derived_true v clauses [] all d s = subst (Satisfies v) (same_Some clauses all (sym (derived_none clauses) ∙ d)) s
derived_true v clauses (l ∷ lines) all d s =
    let f = first_line clauses lines l all d in
    derived_true v (clauses ++ f.clause ∷ []) lines all f.rest
    (satisfies-append v clauses (f.clause ∷ []) ∙ and_from (all_true v clauses) (all_true v (f.clause ∷ [])) s
    (and_from (clause_true v f.clause) true (chain_follows clauses l f.clause f.chain v s) refl))

-- clauses of which one is empty are not all true
pub empty_false : (v : ℕ → Bool) (clauses : List (List ℕ)) → has_empty clauses ≡ true → Satisfies v clauses → ⊥
empty_false v [] h s = true-false false h refl
empty_false v ([] ∷ clauses) h s = true-false false (and_parts false (all_true v clauses) s).0 refl
empty_false v ((l ∷ c) ∷ clauses) h s = elim (or_cases (is_empty (l ∷ c)) (has_empty clauses) h) [
  | inl e ↦ let z : suc (length c) ≡ 0 = eqb-true (suc (length c)) 0 e in absurd (omega (arith, z))
  | inr e ↦ empty_false v clauses e (and_parts (clause_true v (l ∷ c)) (all_true v clauses) s).1
]

-- the clauses behind others
pub drop-behind : (clauses more : List (List ℕ)) → drop (length clauses) (clauses ++ more) ≡ more
drop-behind [] more = refl
drop-behind (c ∷ clauses) more = drop-behind clauses more

-- where lines derive the empty clause, no values make every clause true
pub refuted_sound : (clauses lines : List (List ℕ)) → AreChains clauses lines true → HaveNoSolution clauses
refuted_sound clauses lines a v s =
    let b = derived_behind clauses lines a.all a.chains in
    let t : Satisfies v (clauses ++ b.0) = subst (Satisfies v) b.1 (derived_true v clauses lines a.all a.chains s) in
    empty_false v b.0 (sym (ap has_empty (ap (drop (length clauses)) b.1 ∙ drop-behind clauses b.0)) ∙ a.empty)
    (and_parts (all_true v clauses) (all_true v b.0) (sym (satisfies-append v clauses b.0) ∙ t)).1

-- a log with no line
pub log_begin : (clauses : List (List ℕ)) → AreClauses clauses → IsLog (record { clauses = clauses; given = length clauses; lines = [] })
log_begin clauses a =
    let e : take (length clauses) clauses ≡ clauses = take_all (length clauses) clauses (omega arith) in
    record { are_clauses = a; derives = derived_none (take (length clauses) clauses) ∙ ap Some e; within = omega arith }

-- a log with one line more
pub log_more : (log : LogState) (line c : List ℕ) → IsLog log → chain_of log.clauses line ≡ Some c → IsLog (with_line log line c)
log_more log line c i e =
    let within : log.given ≤ length log.clauses = i.within in
    let front : take log.given (log.clauses ++ c ∷ []) ≡ take log.given log.clauses = take-append-le log.given log.clauses (c ∷ []) within in
    record {
      are_clauses = are_clauses_push log.clauses c i.are_clauses (chain_clause log.clauses line c i.are_clauses e);
      derives = ap (λ t. derived t (log.lines ++ line ∷ [])) front ∙ derived_push (take log.given log.clauses) log.lines log.clauses line c i.derives e;
      within = omega (arith, length-append log.clauses (c ∷ []));
    }

-- each clause of a log follows from the given ones
pub log_follows : (log : LogState) → IsLog log → (k : ℕ) (c : List ℕ) → slice_get log.clauses k ≡ Some c → Follows (take log.given log.clauses) c
log_follows log i k c e v s = true_each v log.clauses k c (derived_true v (take log.given log.clauses) log.lines log.clauses i.derives s) e

answer_none : (n : ℕ) (r : Bool) (clauses : List (List ℕ)) → answer_from n r clauses [] ≡ cond r Refutes NoEnd
unfolding answer_from
answer_none n r clauses = refl

-- a step of the answer, by what the line derives
pub answer_cons : (n : ℕ) (r : Bool) (clauses lines : List (List ℕ)) (line c : List ℕ) → chain_of clauses line ≡ Some c
    → answer_from n r clauses (line ∷ lines) ≡ answer_from (n + 1) (r || is_empty c) (clauses ++ c ∷ []) lines
unfolding answer_from
answer_cons n r clauses lines line c e = ap (λ o. option_map_or (λ d. answer_from (n + 1) (r || is_empty d) (clauses ++ d ∷ []) lines) o (BadLine n)) e

pub answer_bad : (n : ℕ) (r : Bool) (clauses lines : List (List ℕ)) (line : List ℕ) → chain_of clauses line ≡ None → answer_from n r clauses (line ∷ lines) ≡ BadLine n
unfolding answer_from
answer_bad n r clauses lines line e = ap (λ o. option_map_or (λ d. answer_from (n + 1) (r || is_empty d) (clauses ++ d ∷ []) lines) o (BadLine n)) e

behind_nothing : (clauses more : List (List ℕ)) → clauses ≡ clauses ++ more → more ≡ []
behind_nothing [] more e = sym e
behind_nothing (c ∷ clauses) more e = behind_nothing clauses more (cc)

append_same : (clauses xs ys : List (List ℕ)) → clauses ++ xs ≡ clauses ++ ys → xs ≡ ys
append_same [] xs ys e = e
append_same (c ∷ clauses) xs ys e = append_same clauses xs ys (cc)

-- the answer where all lines are chains
pub answer_chains : (n : ℕ) (r : Bool) (clauses lines all more : List (List ℕ)) → derived clauses lines ≡ Some all → all ≡ clauses ++ more
    → answer_from n r clauses lines ≡ cond (r || has_empty more) Refutes NoEnd
answer_chains n r clauses [] all more d e =
    let nothing : more ≡ [] = behind_nothing clauses more (same_Some clauses all (sym (derived_none clauses) ∙ d) ∙ e) in
    answer_none n r clauses ∙ ap (λ b. cond b Refutes NoEnd) (sym (ap (λ t. r || has_empty t) nothing ∙ or-false r))
answer_chains n r clauses (l ∷ lines) all more d e =
    let f = first_line clauses lines l all d in
    let b = derived_behind (clauses ++ f.clause ∷ []) lines all f.rest in
    let same : more ≡ f.clause ∷ b.0 = append_same clauses more (f.clause ∷ b.0) (sym e ∙ b.1 ∙ append_assoc clauses (f.clause ∷ []) b.0) in
    answer_cons n r clauses lines l f.clause f.chain ∙ answer_chains (n + 1) (r || is_empty f.clause) (clauses ++ f.clause ∷ []) lines all b.0 f.rest b.1
    ∙ ap (λ t. cond t Refutes NoEnd) (or-assoc r (is_empty f.clause) (has_empty b.0) ∙ ap (λ t. r || has_empty t) (sym same))

-- the answer at a first bad line
pub answer_first_bad : (n : ℕ) (r : Bool) (clauses lines : List (List ℕ)) (k : ℕ) → IsFirstBadLine clauses lines k → answer_from n r clauses lines ≡ BadLine (n + k)
answer_first_bad n r clauses [] k f = absurd (none-some f.line f.there)
answer_first_bad n r clauses (l ∷ lines) zero f =
    let same : clauses ≡ f.before = same_Some clauses f.before (sym (derived_none clauses) ∙ f.chains) in
    let here : l ≡ f.line = same_Some l f.line f.there in
    answer_bad n r clauses lines l (ap (λ t. chain_of t l) same ∙ ap (chain_of f.before) here ∙ f.bad) ∙ ap BadLine (sym (add-zero n))
answer_first_bad n r clauses (l ∷ lines) (suc k) f =
    let g = first_line clauses (take k lines) l f.before f.chains in
    let next : IsFirstBadLine (clauses ++ g.clause ∷ []) lines k = record { before = f.before; chains = g.rest; line = f.line; there = f.there; bad = f.bad } in
    answer_cons n r clauses lines l g.clause g.chain ∙ answer_first_bad (n + 1) (r || is_empty g.clause) (clauses ++ g.clause ∷ []) lines k next
    ∙ ap BadLine (omega arith)

at_first : (clauses : List (List ℕ)) (l : List ℕ) (lines : List (List ℕ)) (o : Option (List ℕ)) → chain_of clauses l ≡ o
    → ((c : List ℕ) → ((all : List (List ℕ)) × (derived (clauses ++ c ∷ []) lines ≡ Some all)) ⊎ ((k : ℕ) × IsFirstBadLine (clauses ++ c ∷ []) lines k))
    → ((all : List (List ℕ)) × (derived clauses (l ∷ lines) ≡ Some all)) ⊎ ((k : ℕ) × IsFirstBadLine clauses (l ∷ lines) k)
at_first clauses l lines None h next = inr (0, record { before = clauses; chains = derived_none clauses; line = l; there = refl; bad = h })
at_first clauses l lines (Some c) h next =
    elim (next c) [
      | inl a ↦ inl (a.0, derived_cons clauses lines l c h ∙ a.1)
      | inr b ↦ inr (suc b.0, record { before = b.1.before; chains = derived_cons clauses (take b.0 lines) l c h ∙ b.1.chains; line = b.1.line; there = b.1.there; bad = b.1.bad })
    ]

-- lines are chains, or there is a first bad one
pub chains_or_bad : (clauses lines : List (List ℕ)) → ((all : List (List ℕ)) × (derived clauses lines ≡ Some all)) ⊎ ((k : ℕ) × IsFirstBadLine clauses lines k)
chains_or_bad clauses [] = inl (clauses, derived_none clauses)
chains_or_bad clauses (l ∷ lines) = at_first clauses l lines (chain_of clauses l) refl (λ c. chains_or_bad (clauses ++ c ∷ []) lines)

-- the answer's number is that of the first bad line
pub bad_line_is : (clauses lines : List (List ℕ)) (k : ℕ) → IsFirstBadLine clauses lines k → log_answer clauses lines ≡ BadLine k
unfolding log_answer
bad_line_is clauses lines k f = answer_first_bad 0 false clauses lines k f ∙ ap BadLine (zero-add k)

-- the answer where all lines are chains
pub chains_answer : (clauses lines : List (List ℕ)) (refuted : Bool) → AreChains clauses lines refuted → log_answer clauses lines ≡ cond refuted Refutes NoEnd
unfolding log_answer
chains_answer clauses lines refuted a =
    let b = derived_behind clauses lines a.all a.chains in
    answer_chains 0 false clauses lines a.all b.0 a.chains b.1 ∙ ap (λ t. cond t Refutes NoEnd) (sym (ap has_empty (ap (drop (length clauses)) b.1 ∙ drop-behind clauses b.0)) ∙ a.empty)

chains_say : (clauses lines : List (List ℕ)) (refuted : Bool) → AreChains clauses lines refuted → IsAnswer clauses lines (cond refuted Refutes NoEnd)
chains_say clauses lines true c = c
chains_say clauses lines false c = c

-- the answer says what it should
pub answered : (clauses lines : List (List ℕ)) → IsAnswer clauses lines (log_answer clauses lines)
answered clauses lines =
    elim (chains_or_bad clauses lines) [
      | inl a ↦ let c : AreChains clauses lines (has_empty (drop (length clauses) a.0)) = record { all = a.0; chains = a.1; empty = refl } in
          subst (IsAnswer clauses lines) (sym (chains_answer clauses lines (has_empty (drop (length clauses) a.0)) c)) (chains_say clauses lines (has_empty (drop (length clauses) a.0)) c)
      | inr b ↦ subst (IsAnswer clauses lines) (sym (bad_line_is clauses lines b.0 b.1)) b.1
    ]

-- a log with no line, in the words of the code
pub log_begun : (cnf items seen lines : List (List ℕ)) → AreClauses cnf → items ≡ cnf → seen ≡ items → lines ≡ [] → IsLog (record { clauses = items; given = length seen; lines = lines })
log_begun cnf items seen lines a e s l =
    subst (λ n. IsLog (record { clauses = items; given = n; lines = lines })) (sym (ap length s))
    (subst (λ t. IsLog (record { clauses = items; given = length items; lines = t })) (sym l) (log_begin items (subst AreClauses (sym e) a)))

-- a log with one line more, in the words of the code
pub log_added : (old : LogState) (line c : List ℕ) (clauses lines : List (List ℕ)) → IsLog old → chain_of old.clauses line ≡ Some c → clauses ≡ old.clauses ++ c ∷ [] → lines ≡ old.lines ++ line ∷ []
    → IsLog (record { clauses = clauses; given = old.given; lines = lines })
log_added old line c clauses lines i e f g =
    subst (λ t. IsLog (record { clauses = t; given = old.given; lines = lines })) (sym f)
    (subst (λ t. IsLog (record { clauses = old.clauses ++ c ∷ []; given = old.given; lines = t })) (sym g) (log_more old line c i e))

-- a refutation is answered as one
pub log_refutes : (log : LogState) → IsLog log → has_empty (drop log.given log.clauses) ≡ true → log_answer (take log.given log.clauses) log.lines ≡ Refutes
log_refutes log i h =
    let count : length (take log.given log.clauses) ≡ log.given = length-take-le log.given log.clauses i.within in
    chains_answer (take log.given log.clauses) log.lines true
    (record { all = log.clauses; chains = i.derives; empty = ap (λ n. has_empty (drop n log.clauses)) count ∙ h })

-- the answer holds both ways
pub answer_bad_line : (clauses lines : List (List ℕ)) (a : LogAnswer) → a ≡ log_answer clauses lines → (k : ℕ) → (a ≡ BadLine k) ↔ IsFirstBadLine clauses lines k
answer_bad_line clauses lines a e k = (λ f. subst (IsAnswer clauses lines) (sym e ∙ f) (answered clauses lines), λ f. e ∙ bad_line_is clauses lines k f)

pub answer_no_end : (clauses lines : List (List ℕ)) (a : LogAnswer) → a ≡ log_answer clauses lines → (a ≡ NoEnd) ↔ AreChains clauses lines false
answer_no_end clauses lines a e = (λ f. subst (IsAnswer clauses lines) (sym e ∙ f) (answered clauses lines), λ f. e ∙ chains_answer clauses lines false f)

pub answer_refutes : (clauses lines : List (List ℕ)) (a : LogAnswer) → a ≡ log_answer clauses lines → (a ≡ Refutes) ↔ AreChains clauses lines true
answer_refutes clauses lines a e = (λ f. subst (IsAnswer clauses lines) (sym e ∙ f) (answered clauses lines), λ f. e ∙ chains_answer clauses lines true f)

-- where the answer is a refutation, no values make every clause true
pub answer_sound : (clauses lines : List (List ℕ)) (a : LogAnswer) → a ≡ log_answer clauses lines → a ≡ Refutes → HaveNoSolution clauses
answer_sound clauses lines a e f = refuted_sound clauses lines ((answer_refutes clauses lines a e).0 f)

-- the answer from the first line on
pub answer_start : (clauses lines : List (List ℕ)) → answer_from 0 false clauses lines ≡ log_answer clauses lines
unfolding log_answer
answer_start clauses lines = refl

-- the answer at the start, where nothing is derived yet
pub answer_begun : (clauses behind lines : List (List ℕ)) → behind ≡ [] → answer_from 0 false (clauses ++ behind) lines ≡ log_answer clauses lines
answer_begun clauses behind lines e = ap (λ t. answer_from 0 false t lines) (ap (λ t. clauses ++ t) e ∙ append-nil clauses) ∙ answer_start clauses lines

pub clauses_begun : (clauses behind : List (List ℕ)) → AreClauses clauses → behind ≡ [] → AreClauses (clauses ++ behind)
clauses_begun clauses behind a e = subst AreClauses (sym (ap (λ t. clauses ++ t) e ∙ append-nil clauses)) a

-- what is left from an entry on
drop-at : (lines : List (List ℕ)) (k : ℕ) (line : List ℕ) → slice_get lines k ≡ Some line → drop k lines ≡ line ∷ drop (k + 1) lines
drop-at lines k line e =
    let next : suc k ≡ k + 1 = omega arith in
    drop-cons lines k line (slice_get_within lines k line e) ∙ ap (λ t. t ∷ drop (suc k) lines) (get_or_from_slice_get lines k line line e) ∙ ap (λ n. line ∷ drop n lines) next

-- the answer with one line read
pub answer_more : (clauses after lines : List (List ℕ)) (k : ℕ) (refuted empty : Bool) (line : List ℕ) (all : LogAnswer) → answer_from k refuted clauses (drop k lines) ≡ all
    → slice_get lines k ≡ Some line → AddsClause clauses after line empty → answer_from (k + 1) (refuted || empty) after (drop (k + 1) lines) ≡ all
answer_more clauses after lines k refuted empty line all e l a =
    sym (sym e ∙ ap (answer_from k refuted clauses) (drop-at lines k line l) ∙ answer_cons k refuted clauses (drop (k + 1) lines) line a.clause a.chain
    ∙ ap (λ b. answer_from (k + 1) (refuted || b) (clauses ++ a.clause ∷ []) (drop (k + 1) lines)) a.is
    ∙ ap (λ t. answer_from (k + 1) (refuted || empty) t (drop (k + 1) lines)) (sym a.behind))

-- the answer at a line that is no chain
pub answer_stopped : (clauses lines : List (List ℕ)) (k : ℕ) (refuted : Bool) (line : List ℕ) (all : LogAnswer) → answer_from k refuted clauses (drop k lines) ≡ all
    → slice_get lines k ≡ Some line → chain_of clauses line ≡ None → BadLine k ≡ all
answer_stopped clauses lines k refuted line all e l n =
    sym (sym e ∙ ap (answer_from k refuted clauses) (drop-at lines k line l) ∙ answer_bad k refuted clauses (drop (k + 1) lines) line n)

-- the answer behind the last line
pub answer_end : (clauses lines : List (List ℕ)) (k : ℕ) (refuted : Bool) (all : LogAnswer) → answer_from k refuted clauses (drop k lines) ≡ all → length lines ≤ k
    → cond refuted Refutes NoEnd ≡ all
answer_end clauses lines k refuted all e h = sym (answer_none k refuted clauses) ∙ sym (ap (answer_from k refuted clauses) (drop_all k lines h)) ∙ e

-- the clauses stay clauses
pub added_clauses : (clauses after : List (List ℕ)) (line : List ℕ) (empty : Bool) → AreClauses clauses → AddsClause clauses after line empty → AreClauses after
added_clauses clauses after line empty all a = subst AreClauses (sym a.behind) (are_clauses_push clauses a.clause all (chain_clause clauses line a.clause all a.chain))

-- as many clauses are derived as there are lines
pub derived_count : (clauses lines all : List (List ℕ)) → derived clauses lines ≡ Some all → length all ≡ length clauses + length lines
derived_count clauses [] all d = ap length (sym (same_Some clauses all (sym (derived_none clauses) ∙ d))) ∙ omega arith
derived_count clauses (l ∷ lines) all d =
    let f = first_line clauses lines l all d in
    derived_count (clauses ++ f.clause ∷ []) lines all f.rest ∙ ap (λ n. n + length lines) (length-append clauses (f.clause ∷ [])) ∙ omega arith

-- a log has a line for each derived clause
pub log_count : (log : LogState) → IsLog log → length log.clauses ≡ log.given + length log.lines
log_count log i = derived_count (take log.given log.clauses) log.lines log.clauses i.derives ∙ ap (λ n. n + length log.lines) (length-take-le log.given log.clauses i.within)

-- the lines of a log of fresh clauses derive them
pub log_fresh : (log : LogState) (cnf : List (List ℕ)) (n : ℕ) → IsLog log → IsFreshLog cnf n log → DeriveFresh cnf n log.lines
log_fresh log cnf n i f = record {
  all = log.clauses;
  chains = ap (λ (t : List (List ℕ)). derived t log.lines) (sym f.log_of.formula) ∙ i.derives;
  whole = f.whole ∙ ap (λ m. m + n) f.log_of.given;
  fresh = subst (AreFresh log.clauses) f.log_of.given f.fresh;
  none_empty = ap (λ m. has_empty (drop m log.clauses)) (sym f.log_of.given) ∙ f.none_empty;
}
