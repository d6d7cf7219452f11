-- A fact that stands under a list of lemmas stands under those of them that it cites.
use Rattle.std.proofs.Common.{◌≡◌, ℕ, ◌<◌, ◌≤◌, ◌+◌, nat_eq, eqb-true, eq-eqb, refl, sym, ◌∙◌, ap, subst, arith, Bool, true, false, ◌&&◌, if◌then◌else◌, ℤ, All, List, [], ◌∷◌, ◌++◌, length, Option, Some, None}
use Rattle.std.specs.Option.{is_some}
use Rattle.std.specs.List.{list_all}
use Rattle.std.proofs.lemmas.Bool.{and_parts, and_from}
use Rattle.std.proofs.lemmas.List.Elements.{All-append, All-nil, All-cons}
use Rattle.tcl_kernel.proofs.CaseLists.{all_first, all_others}
use Rattle.std.proofs.lemmas.Bool.Decides.{nat_tests}
use Rattle.tcl_list.proofs.Booleans.{or_left, or_right, if_no}
use Rattle.tcl_lang.specs.declared.pred.Line.{Line}
use Rattle.tcl_lang.specs.Program.{VersionedProgram}
use Rattle.tcl_lang.specs.Form.{end_store}
use Rattle.tcl_goals.specs.declared.fact.Key.{Key}
use Rattle.tcl_goals.specs.declared.fact.Hyp.{Hyp}
use Rattle.tcl_goals.specs.declared.fact.Hyp.TheVariants as hyp
use Rattle.tcl_goals.specs.declared.lemma.Lemma.{Lemma}
use Rattle.tcl_goals.specs.declared.fact.Claim.{Claim}
use Rattle.tcl_goals.specs.declared.fact.Claim.TheVariants as claim
use Rattle.tcl_goals.specs.declared.fact.Fact.{Fact}
use Rattle.tcl_goals.specs.declared.lemma.Numbered.{Numbered}
use Rattle.tcl_goals.specs.Places.{goal_place}
use Rattle.tcl_goals.specs.LemmaList.{lemma_of, next_number, Extends}
use Rattle.tcl_goals.specs.Keys.{key_less, found_key, hyp_key, is_key_above, hyps_after, hyps_rise, claim_key}
use Rattle.tcl_goals.specs.Order.{InOrder, has_hyp, is_before}
use Rattle.tcl_goals.specs.Holds.{lemma_holds, hyp_holds, FactHolds}
use Rattle.tcl_board.specs.Shows.{is_lemma, AreCited}
use Rattle.tcl_kernel.specs.Earlier.{Earlier}
use Rattle.tcl_kernel.specs.Evidence.{next_fact, claimed_lemma, numbered, with_shown}
use Rattle.tcl_kernel.specs.Cited.{cites, cited_lemmas}
use Rattle.tcl_goals.specs.declared.piece.Shown.{Shown}
use Rattle.tcl_goals.specs.declared.piece.Shown.TheVariants as shown
use Rattle.tcl_lang.specs.Correct.{IsCounterexample}
use Rattle.tcl_kernel.specs.declared.facts.NumberedFact.{NumberedFact}
use Rattle.tcl_kernel.specs.Shown.{Stands, ShownHolds}

-- a lemma that the hypotheses do not cite has another number than one that they cite
not_cited : (hyps : List Hyp) (a n : ℕ) (b : Bool) → nat_eq a n ≡ b → cites hyps a ≡ false → cites hyps n ≡ true → b ≡ false
not_cited hyps a n true q none one = absurd (clash (cites hyps n) (sym (ap (cites hyps) (eqb-true a n q)) ∙ none) one)
  where
    clash : (c : Bool) → c ≡ false → c ≡ true → ⊥
    clash c e f = cc
not_cited hyps a n false q none one = refl

-- the cited lemmas have a number that is cited as the whole list has it
found_step : (hyps : List Hyp) (a : Numbered) (rest : List Numbered) (n : ℕ) → cites hyps n ≡ true → lemma_of (cited_lemmas hyps rest) n ≡ lemma_of rest n → (b : Bool) → cites hyps a.number ≡ b → lemma_of (if b then a ∷ cited_lemmas hyps rest else cited_lemmas hyps rest) n ≡ lemma_of (a ∷ rest) n
unfolding lemma_of
found_step hyps a rest n one same true q = ap (λ o. if nat_eq a.number n then Some a.lemma else o) same
found_step hyps a rest n one same false q =
    same ∙ sym (if_no (nat_eq a.number n) (Some a.lemma) (lemma_of rest n) (not_cited hyps a.number n (nat_eq a.number n) refl q one))

cited_found : (hyps : List Hyp) (lemmas : List Numbered) (n : ℕ) → cites hyps n ≡ true → lemma_of (cited_lemmas hyps lemmas) n ≡ lemma_of lemmas n
unfolding cited_lemmas
cited_found hyps [] n one = refl
cited_found hyps (a ∷ lemmas) n one = found_step hyps a lemmas n one (cited_found hyps lemmas n one) (cites hyps a.number) refl

-- two lists have the lemma of a hypothesis alike
abbrev AreAlike : List Numbered → List Numbered → Hyp → Type 0
AreAlike old new (hyp.Line k) = Unit {0}
AreAlike old new (hyp.Lemma n) = lemma_of new n ≡ lemma_of old n

abbrev AreAllAlike : List Numbered → List Numbered → List Hyp → Type 0
AreAllAlike old new [] = Unit {0}
AreAllAlike old new (h ∷ hyps) = AreAlike old new h × AreAllAlike old new hyps

alike_one : (hyps : List Hyp) (lemmas : List Numbered) (h : Hyp) → ((n : ℕ) → is_lemma n h ≡ true → cites hyps n ≡ true) → AreAlike lemmas (cited_lemmas hyps lemmas) h
alike_one hyps lemmas (hyp.Line k) within = tt
alike_one hyps lemmas (hyp.Lemma n) within = cited_found hyps lemmas n (within n (eq-eqb n n refl))

alike_all : (hyps : List Hyp) (lemmas : List Numbered) (some : List Hyp) → ((n : ℕ) → cites some n ≡ true → cites hyps n ≡ true) → AreAllAlike lemmas (cited_lemmas hyps lemmas) some
alike_all hyps lemmas [] within = tt
alike_all hyps lemmas (h ∷ some) within = (
  alike_one hyps lemmas h (λ n e. within n (or_left (is_lemma n h) (cites some n) e)),
  alike_all hyps lemmas some (λ n e. within n (or_right (is_lemma n h) (cites some n) e)),
)

-- so the same tests pass
all_alike : (f g : Hyp → Bool) (old new : List Numbered) → ((h : Hyp) → AreAlike old new h → f h ≡ true → g h ≡ true) → (hyps : List Hyp) → AreAllAlike old new hyps → list_all f hyps ≡ true → list_all g hyps ≡ true
all_alike f g old new same [] alike e = refl
all_alike f g old new same (h ∷ hyps) alike e =
    let parts = and_parts (f h) (list_all f hyps) e in
    and_from _ _ (same h alike.0 parts.0) (all_alike f g old new same hyps alike.1 parts.1)

exists_alike : (lines : List Line) (old new : List Numbered) (h : Hyp) → AreAlike old new h → has_hyp lines old h ≡ true → has_hyp lines new h ≡ true
exists_alike lines old new (hyp.Line k) a e = e
exists_alike lines old new (hyp.Lemma n) a e = ap is_some a ∙ e

key_alike : (lines : List Line) (old new : List Numbered) (h : Hyp) → AreAlike old new h → hyp_key lines new h ≡ hyp_key lines old h
key_alike lines old new (hyp.Line k) a = refl
key_alike lines old new (hyp.Lemma n) a = ap (λ o. found_key lines o n) a

rise_alike : (lines : List Line) (old new : List Numbered) (last : Option Key) (hyps : List Hyp) → AreAllAlike old new hyps → hyps_after lines new last hyps ≡ hyps_after lines old last hyps
rise_alike lines old new last [] alike = refl
rise_alike lines old new last (h ∷ hyps) alike =
    ap (λ (k : Key). is_key_above last k && hyps_after lines new (Some k) hyps) (key_alike lines old new h alike.0)
    ∙ ap (λ b. is_key_above last (hyp_key lines old h) && b) (rise_alike lines old new (Some (hyp_key lines old h)) hyps alike.1)

-- a lemma that is there has a number below the next
found_at : (a : Numbered) (lemmas : List Numbered) (n : ℕ) (m : Lemma) → (lemma_of lemmas n ≡ Some m → n < next_number lemmas) → (b : Bool) → nat_eq a.number n ≡ b → lemma_of (a ∷ lemmas) n ≡ Some m → n < next_number (a ∷ lemmas)
unfolding lemma_of next_number
found_at a lemmas n m rest true q e = let same : a.number ≡ n = eqb-true a.number n q in omega arith
found_at a lemmas n m rest false q e =
    let further : lemma_of lemmas n ≡ Some m = sym (if_no (nat_eq a.number n) (Some a.lemma) (lemma_of lemmas n) q) ∙ e in
    omega (arith, rest further)

none_found : (n : ℕ) (m : Lemma) → lemma_of [] n ≡ Some m → ⊥
unfolding lemma_of
none_found n m e = none_some e
  where
    none_some : None ≡ Some m → ⊥
    none_some f = cc

found_below : (lemmas : List Numbered) (n : ℕ) (m : Lemma) → lemma_of lemmas n ≡ Some m → n < next_number lemmas
found_below [] n m e = absurd (none_found n m e)
found_below (a ∷ lemmas) n m e = found_at a lemmas n m (λ r. found_below lemmas n m r) (nat_eq a.number n) refl e

some_below : (lemmas : List Numbered) (n : ℕ) (o : Option Lemma) → lemma_of lemmas n ≡ o → is_some o ≡ true → n < next_number lemmas
some_below lemmas n None q e = absurd (cc)
some_below lemmas n (Some m) q e = found_below lemmas n m q

-- a key below that of a claim without a number is below it for each list that has the lemma
line_less : (k place n m : ℕ) → key_less (record { place = k; kind = 1; number = 0 }) (record { place = place; kind = 0; number = n }) ≡ true → key_less (record { place = k; kind = 1; number = 0 }) (record { place = place; kind = 0; number = m }) ≡ true
line_less k place n m e = grind (arith, nat_tests)

lemma_less : (k place j n m : ℕ) → j < m → key_less (record { place = k; kind = 0; number = j }) (record { place = place; kind = 0; number = n }) ≡ true → key_less (record { place = k; kind = 0; number = j }) (record { place = place; kind = 0; number = m }) ≡ true
lemma_less k place j n m h e = grind (arith, nat_tests)

found_less : (lines : List Line) (o : Option Lemma) (place j n m : ℕ) → j < m → key_less (found_key lines o j) (record { place = place; kind = 0; number = n }) ≡ true → key_less (found_key lines o j) (record { place = place; kind = 0; number = m }) ≡ true
found_less lines None place j n m h e = lemma_less (goal_place lines 0) place j n m h e
found_less lines (Some l) place j n m h e = lemma_less (goal_place lines l.level) place j n m h e

before_alike : (lines : List Line) (old new : List Numbered) (c : Claim) (h : Hyp) → AreAlike old new h → has_hyp lines new h ≡ true → is_before lines old c h ≡ true → is_before lines new c h ≡ true
before_alike lines old new (claim.Goal i) h a s e = ap (λ (k : Key). key_less k (claim_key lines new (claim.Goal i))) (key_alike lines old new h a) ∙ e
before_alike lines old new (claim.Lemma m) (hyp.Line k) a s e = line_less k (goal_place lines m.level) (next_number old) (next_number new) e
before_alike lines old new (claim.Lemma m) (hyp.Lemma n) a s e =
    ap (λ (k : Key). key_less k (claim_key lines new (claim.Lemma m))) (key_alike lines old new (hyp.Lemma n) a)
    ∙ found_less lines (lemma_of old n) (goal_place lines m.level) n (next_number old) (next_number new) (some_below new n (lemma_of new n) refl s) e

before_all : (lines : List Line) (old new : List Numbered) (c : Claim) (hyps : List Hyp) → AreAllAlike old new hyps → list_all (has_hyp lines new) hyps ≡ true → list_all (is_before lines old c) hyps ≡ true → list_all (is_before lines new c) hyps ≡ true
before_all lines old new c [] alike s e = refl
before_all lines old new c (h ∷ hyps) alike s e =
    let there = and_parts (has_hyp lines new h) (list_all (has_hyp lines new) hyps) s in
    let parts = and_parts (is_before lines old c h) (list_all (is_before lines old c) hyps) e in
    and_from _ _ (before_alike lines old new c h alike.0 there.0 parts.0) (before_all lines old new c hyps alike.1 there.1 parts.1)

-- a hypothesis that holds under the one list holds under the other
holds_back : (p : VersionedProgram) (input : List ℤ) (old new : List Numbered) (h : Hyp) → AreAlike old new h → hyp_holds p new input h ≡ true → hyp_holds p old input h ≡ true
holds_back p input old new (hyp.Line k) a e = e
holds_back p input old new (hyp.Lemma n) a e = ap (lemma_holds (end_store p input)) (sym a) ∙ e

order_alike : (p : VersionedProgram) (old new : List Numbered) (fact : Fact) → AreAllAlike old new fact.hyps → InOrder p old fact → InOrder p new fact
order_alike p old new fact alike o =
    let parts = and_parts (hyps_rise p.lines old fact.hyps) (list_all (is_before p.lines old fact.claim) fact.hyps) o.order in
    let there : list_all (has_hyp p.lines new) fact.hyps ≡ true = all_alike (has_hyp p.lines old) (has_hyp p.lines new) old new (exists_alike p.lines old new) fact.hyps alike o.hyps in
    record {
      claim = o.claim;
      hyps = there;
      order = and_from _ _ (rise_alike p.lines old new None fact.hyps alike ∙ parts.0) (before_all p.lines old new fact.claim fact.hyps alike there parts.1);
      uses = o.uses;
      cube = o.cube;
    }

holds_alike : (p : VersionedProgram) (old new : List Numbered) (fact : Fact) → AreAllAlike old new fact.hyps → FactHolds p old fact → FactHolds p new fact
unfolding FactHolds
holds_alike p old new fact alike holds input fits hyps cube =
    holds input fits (all_alike (hyp_holds p new input) (hyp_holds p old input) old new (holds_back p input old new) fact.hyps alike hyps) cube

-- a fact stands under the lemmas that it cites
pub stands_cited : (p : VersionedProgram) (lemmas : List Numbered) (fact : Fact) → Stands p lemmas fact → Stands p (cited_lemmas fact.hyps lemmas) fact
stands_cited p lemmas fact s =
    let alike : AreAllAlike lemmas (cited_lemmas fact.hyps lemmas) fact.hyps = alike_all fact.hyps lemmas fact.hyps (λ n e. e) in
    record {
      order = order_alike p lemmas (cited_lemmas fact.hyps lemmas) fact alike s.order;
      holds = holds_alike p lemmas (cited_lemmas fact.hyps lemmas) fact alike s.holds;
    }

pub cited_shown : (p q : VersionedProgram) (lemmas cited : List Numbered) (fact : Fact) → q ≡ p → cited ≡ cited_lemmas fact.hyps lemmas → Stands p lemmas fact → ShownHolds q cited (shown.Fact fact)
unfolding ShownHolds
cited_shown p q lemmas cited fact same are s =
    subst (λ r. Stands r cited fact) (sym same)
    (subst (λ (list : List Numbered). Stands p list fact) (sym are) (stands_cited p lemmas fact s))

-- each lemma that is kept is cited
kept_step : (hyps : List Hyp) (a : Numbered) (rest : List Numbered) (n : ℕ) (m : Lemma) → (lemma_of rest n ≡ Some m → cites hyps n ≡ true) → cites hyps a.number ≡ true → (b : Bool) → nat_eq a.number n ≡ b → (if b then Some a.lemma else lemma_of rest n) ≡ Some m → cites hyps n ≡ true
kept_step hyps a rest n m further here true q e = subst (λ k. cites hyps k ≡ true) (eqb-true a.number n q) here
kept_step hyps a rest n m further here false q e = further e

kept_among : (hyps : List Hyp) (a : Numbered) (rest : List Numbered) (n : ℕ) (m : Lemma) → (lemma_of rest n ≡ Some m → cites hyps n ≡ true) → (b : Bool) → cites hyps a.number ≡ b → lemma_of (if b then a ∷ rest else rest) n ≡ Some m → cites hyps n ≡ true
unfolding lemma_of
kept_among hyps a rest n m further true q e = kept_step hyps a rest n m further q (nat_eq a.number n) refl e
kept_among hyps a rest n m further false q e = further e

are_cited : (hyps : List Hyp) (lemmas : List Numbered) (n : ℕ) (m : Lemma) → lemma_of (cited_lemmas hyps lemmas) n ≡ Some m → cites hyps n ≡ true
unfolding cited_lemmas
are_cited hyps [] n m e = absurd (none_found n m e)
are_cited hyps (a ∷ lemmas) n m e = kept_among hyps a (cited_lemmas hyps lemmas) n m (are_cited hyps lemmas n m) (cites hyps a.number) refl e

pub cited_kept : (lemmas cited : List Numbered) (fact : Fact) → cited ≡ cited_lemmas fact.hyps lemmas → AreCited cited (shown.Fact fact)
cited_kept lemmas cited fact are =
    subst (λ (list : List Numbered). AreCited list (shown.Fact fact)) (sym are) (λ n m e. are_cited fact.hyps lemmas n m e)

-- a fact stands under each list that has the lemmas that it cites, and under a list with one more
alike_more : (old new : List Numbered) (lines : List Line) → Extends old new → (hyps : List Hyp) → list_all (has_hyp lines old) hyps ≡ true → AreAllAlike old new hyps
alike_more old new lines more [] e = tt
alike_more old new lines more (hyp.Line k ∷ hyps) e = (tt, alike_more old new lines more hyps (and_parts (has_hyp lines old (hyp.Line k)) (list_all (has_hyp lines old) hyps) e).1)
alike_more old new lines more (hyp.Lemma n ∷ hyps) e =
    let parts = and_parts (has_hyp lines old (hyp.Lemma n)) (list_all (has_hyp lines old) hyps) e in
    (same (lemma_of old n) refl parts.0, alike_more old new lines more hyps parts.1)
  where
    same : (o : Option Lemma) → lemma_of old n ≡ o → is_some o ≡ true → lemma_of new n ≡ lemma_of old n
    same None q s = absurd (cc)
    same (Some m) q s = more n m q ∙ sym q

pub stands_more : (p : VersionedProgram) (old new : List Numbered) (fact : Fact) → Extends old new → Stands p old fact → Stands p new fact
stands_more p old new fact more s =
    let alike = alike_more old new p.lines more fact.hyps s.order.hyps in
    record { order = order_alike p old new fact alike s.order; holds = holds_alike p old new fact alike s.holds }

still_step : (a : Lemma) (old new : Option Lemma) (m : Lemma) → (old ≡ Some m → new ≡ Some m) → (b : Bool) → (if b then Some a else old) ≡ Some m → (if b then Some a else new) ≡ Some m
still_step a old new m further true e = e
still_step a old new m further false e = further e

found_still : (old new : List Numbered) (n : ℕ) (m : Lemma) → lemma_of old n ≡ Some m → lemma_of (old ++ new) n ≡ Some m
unfolding lemma_of
found_still [] new n m e = absurd (cc)
found_still (a ∷ old) new n m e = still_step a.lemma (lemma_of old n) (lemma_of (old ++ new) n) m (found_still old new n m) (nat_eq a.number n) e

all_more : (p : VersionedProgram) (old new : List Numbered) (facts : List NumberedFact) → Extends old new → All (λ f. Stands p old f.fact) facts → All (λ f. Stands p new f.fact) facts
all_more p old new [] more all = All-nil (λ f. Stands p new f.fact)
all_more p old new (f ∷ facts) more all =
    All-cons (λ g. Stands p new g.fact) f facts
    (stands_more p old new f.fact more (all_first (λ g. Stands p old g.fact) f facts all))
    (all_more p old new facts more (all_others (λ g. Stands p old g.fact) f facts all))

pub all_added : (p : VersionedProgram) (lemmas more : List Numbered) (facts : List NumberedFact) (f : NumberedFact) → Stands p lemmas f.fact → All (λ g. Stands p lemmas g.fact) facts → All (λ g. Stands p (lemmas ++ more) g.fact) (facts ++ f ∷ [])
all_added p lemmas more facts f stands all =
    All-append (λ g. Stands p (lemmas ++ more) g.fact) facts (f ∷ [])
    (all_more p lemmas (lemmas ++ more) facts (found_still lemmas more) all)
    (All-cons (λ g. Stands p (lemmas ++ more) g.fact) f [] (stands_more p lemmas (lemmas ++ more) f.fact (found_still lemmas more) stands)
    (All-nil (λ g. Stands p (lemmas ++ more) g.fact)))

-- the same, as the code has it
pub added_all : (p : VersionedProgram) (old lemmas more : List Numbered) (before facts : List NumberedFact) (f : NumberedFact) → facts ≡ before ++ f ∷ [] → lemmas ≡ old ++ more → Stands p old f.fact → All (λ g. Stands p old g.fact) before → All (λ g. Stands p lemmas g.fact) facts
added_all p old lemmas more before facts f are have stands all =
    subst (λ (list : List Numbered). All (λ g. Stands p list g.fact) facts) (sym have)
    (subst (λ (list : List NumberedFact). All (λ g. Stands p (old ++ more) g.fact) list) (sym are) (all_added p old more before f stands all))

pub shown_more : (p q : VersionedProgram) (cited lemmas : List Numbered) (sh : Shown) (fact copy : Fact) → q ≡ p → Extends cited lemmas → ShownHolds q cited sh → sh ≡ shown.Fact fact → copy ≡ fact → Stands p lemmas copy
unfolding ShownHolds
shown_more p q cited lemmas sh fact copy same more holds is equal =
    subst (Stands p lemmas) (sym equal)
    (stands_more p cited lemmas fact more (subst (λ r. Stands r cited fact) same (subst (ShownHolds q cited) is holds)))

pub break_shown : (p q : VersionedProgram) (cited : List Numbered) (goal : ℕ) (input : List ℤ) → q ≡ p → cited ≡ [] → IsCounterexample (length p.variables) p.lines input goal → ShownHolds q cited (shown.Breaks goal input) × AreCited cited (shown.Breaks goal input)
unfolding ShownHolds
break_shown p q cited goal input same none c = (
  subst (λ r. IsCounterexample (length r.variables) r.lines input goal) (sym same) c,
  λ n m e. absurd (none_found n m (ap (λ (list : List Numbered). lemma_of list n) (sym none) ∙ e)),
)

pub cited_among : (hyps : List Hyp) (lemmas : List Numbered) → Extends (cited_lemmas hyps lemmas) lemmas
cited_among hyps lemmas n m e = sym (cited_found hyps lemmas n (are_cited hyps lemmas n m e)) ∙ e

-- what is added is below the next number
lemma_added : (lemmas : List Numbered) (n : ℕ) (o : Option Lemma) → next_number lemmas ≤ n → next_number (lemmas ++ numbered n o) ≤ n + 1
unfolding next_number
lemma_added [] n None h = omega arith
lemma_added [] n (Some m) h = omega arith
lemma_added (a ∷ lemmas) n o h =
    let rest = lemma_added lemmas n o (omega (arith, h)) in
    omega (arith, h, rest)

fact_added : (facts : List NumberedFact) (n : ℕ) (f : Fact) → next_fact facts ≤ n → next_fact (facts ++ record { number = n; fact = f } ∷ []) ≤ n + 1
unfolding next_fact
fact_added [] n f h = omega arith
fact_added (a ∷ facts) n f h =
    let rest = fact_added facts n f (omega (arith, h)) in
    omega (arith, h, rest)

pub added_below : (earlier : Earlier) (n : ℕ) (sh : Shown) → next_number earlier.lemmas ≤ n → next_fact earlier.facts ≤ n → (next_number (with_shown earlier n sh).lemmas ≤ n + 1) × (next_fact (with_shown earlier n sh).facts ≤ n + 1)
added_below earlier n (shown.Fact fact) l f = (lemma_added earlier.lemmas n (claimed_lemma fact.claim fact.cube) l, fact_added earlier.facts n fact f)
added_below earlier n (shown.Breaks goal input) l f = (omega (arith, l), omega (arith, f))
