-- What the answer of a search says.
use Rattle.std.proofs.Common.{◌≡◌, ℕ, suc, length, ◌-◌, ◌*◌, ◌^◌, ◌<◌, ◌≤◌, refl, sym, ◌∙◌, ap, subst, arith, false, List, [], ◌∷◌, ℤ, Option}
use Rattle.tcl_ring.specs.Reduction.{reduced_by, is_wide}
use Rattle.tcl_poly.specs.Polynomial.{Polynomial, IsPolynomial, norm_of, terms_of, sum_of, product_of}
use Rattle.tcl_poly.proofs.TermLists.{terms_itself, degree_of_values}
use Rattle.tcl_poly.specs.Combination.{Terms, equation_at, combination_of, AreCofactors}
use Rattle.tcl_reduce.specs.Answer.{numbered}
use Rattle.tcl_reduce.specs.Remainder.{pairs_of, RiseFrom, IsRemainder}
use Rattle.tcl_pivots.specs.CofactorLists.{equations_of}
use Rattle.tcl_pivots.proofs.CofactorWeights.{equation_values, equation_degree, weight_values}
use Rattle.tcl_member.proofs.Holding.{equations_count}
use Rattle.tcl_reduce.specs.Row.{Rows}
use Rattle.tcl_reduce.specs.Multiple.{Multiple, multiples_of}
use Rattle.tcl_reduce.specs.Membership as s
use Rattle.tcl_pivots.specs.Held.{rows_shown}
use Rattle.tcl_pivots.specs.TargetState.{target_shown}
use Rattle.tcl_member.specs.declared.search.Search.{Search}
use Rattle.tcl_member.specs.declared.search.Turn.{Turn}
use Rattle.tcl_member.specs.declared.search.Turn.TheVariants as t
use Rattle.tcl_member.specs.declared.answer.Member.{Member}
use Rattle.tcl_member.specs.declared.answer.Member.TheVariants.{Cofactors, Spent, Rest, Stopped, Memory}
use Rattle.tcl_member.specs.Course.{found_from, IsTurn, IsStoppedAt, IsRun}
use Rattle.tcl_member.specs.Answer.{IsMember, IsShownBy, IsStopped, IsPolled, IsEndBy}
use Rattle.tcl_member.specs.Ended.{found_on, IsEnded}

-- ---- from the coefficients' values to the coefficients

raw_equation : {E : Type 0} (value : E → ℤ) (list : List (Terms E)) (k : ℕ) → terms_of (λ n. n) (equation_at (equations_of value list) k) ≡ terms_of value (equation_at list k)
raw_equation value list k = terms_itself (equation_at (equations_of value list) k) ∙ equation_values value list k

raw_combination : {E : Type 0} (r : ℤ → ℤ) (value : E → ℤ) (list : List (Terms E)) (cs : List (ℕ × Terms E)) → combination_of r (λ n. n) (equations_of value list) (pairs_of value cs) ≡ combination_of r value list cs
raw_combination r value list [] = refl
raw_combination r value list (c ∷ cs) =
    let own = terms_itself (terms_of value c.1) in
    let other = raw_equation value list c.0 in
    λ i. sum_of r (product_of r (own i) (other i)) (raw_combination r value list cs i)

raw_fit : {E : Type 0} (m : Option ℕ) (value : E → ℤ) (list : List (Terms E)) (cs : List (ℕ × Terms E)) → AreCofactors m (λ n. n) (equations_of value list) (pairs_of value cs) → AreCofactors m value list cs
raw_fit m value list [] h = tt
raw_fit m value list (c ∷ cs) h = (
  omega (arith, h.0, equations_count value list),
  subst (IsPolynomial (reduced_by m)) (terms_itself (terms_of value c.1)) h.1,
  omega (arith, h.2, degree_of_values value c.1, equation_degree value list c.0),
  raw_fit m value list cs h.3,
)

raw_rise : {E : Type 0} (value : E → ℤ) (least n end : ℕ) (cs : List (ℕ × Terms E)) → n ≡ end → RiseFrom least n (pairs_of value cs) → RiseFrom least end cs
raw_rise value least n end [] e h = tt
raw_rise value least n end (c ∷ cs) e h = (h.0, omega (arith, h.1, e), raw_rise value (suc c.0) n end cs e h.2)

raw_remainder : {E : Type 0} (m : Option ℕ) (value : E → ℤ) (list : List (Terms E)) (f rest : Polynomial) (cs : List (ℕ × Terms E)) → IsRemainder m (λ n. n) (equations_of value list) f rest (pairs_of value cs) → IsRemainder m value list f rest cs
raw_remainder m value list f rest cs h = record {
  kept = h.kept ∙ ap (sum_of (reduced_by m) rest) (raw_combination (reduced_by m) value list cs);
  fit = raw_fit m value list cs h.fit;
  rise = raw_rise value 0 (length (equations_of value list)) (length list) cs (equations_count value list) h.rise;
  narrow = sym (ap (is_wide m) (weight_values value list cs)) ∙ h.narrow;
}

-- ---- the answer

shows : {R E : Type 0} (m : Option ℕ) (value : E → ℤ) (list : List (Terms E)) (claim : Polynomial) (place budget : ℕ) (xs : List Multiple) (old new : Search R E) (polls polls' cancels cancels' : ℕ) (turn : Turn) (answer : Member R E) → IsRun m value (equations_of value list) claim place budget xs old new polls polls' cancels cancels' turn → IsEndBy new.target turn answer → IsShownBy m value list claim answer
shows m value list claim place budget xs old new polls polls' cancels cancels' turn (Cofactors cs) run end =
    let es = equations_of value list in
    let f = target_shown value false new.target in
    let zero = subst (λ z. IsTurn budget (found_from m es (norm_of claim) place budget xs (s.stage_of m es (norm_of claim) place (rows_shown value old.rows) (target_shown value false old.target))) (s.Open (s.first_note (rows_shown value new.rows).notes)) f z) end.0 run.found in
    raw_remainder m value list claim [] (numbered cs)
    (subst (λ z. IsRemainder m (λ n. n) es claim z (pairs_of value (numbered cs))) zero.0
    (subst (λ z. IsRemainder m (λ n. n) es claim f.poly (pairs_of value (numbered z))) (sym end.1) run.on.aimed.sound.shown))
shows m value list claim place budget xs old new polls polls' cancels cancels' turn (Spent n) run end = tt
shows m value list claim place budget xs old new polls polls' cancels cancels' turn (Rest g first) run end = tt
shows m value list claim place budget xs old new polls polls' cancels cancels' turn Stopped run end = tt
shows m value list claim place budget xs old new polls polls' cancels cancels' turn Memory run end = tt

polls_by : {R E : Type 0} (value : E → ℤ) (f : s.Found) (rest : Polynomial) (budget tried polls polls' : ℕ) (old new : Search R E) (turn : Turn) (answer : Member R E) → (polls' < 2 ^ 64 - 1 → tried ≤ 1000 * (polls' - polls)) → (turn ≡ t.Spent → tried ≡ budget) → IsEndBy new.target turn answer → IsMember value budget rest f answer → IsPolled polls polls' answer
polls_by value f rest budget tried polls polls' old new turn (Cofactors cs) paced spent end is = tt
polls_by value f rest budget tried polls polls' old new turn (Spent n) paced spent end is = λ h. omega (arith, paced h, spent end, is.0)
polls_by value f rest budget tried polls polls' old new turn (Rest g first) paced spent end is = tt
polls_by value f rest budget tried polls polls' old new turn Stopped paced spent end is = tt
polls_by value f rest budget tried polls polls' old new turn Memory paced spent end is = tt

stops_by : {R E : Type 0} (cancels cancels' : ℕ) (new : Search R E) (turn : Turn) (answer : Member R E) → IsStoppedAt cancels cancels' turn → IsEndBy new.target turn answer → IsStopped cancels cancels' answer
stops_by cancels cancels' new turn (Cofactors cs) at end = subst (IsStoppedAt cancels cancels') end.0 at
stops_by cancels cancels' new turn (Spent n) at end = subst (IsStoppedAt cancels cancels') end at
stops_by cancels cancels' new turn (Rest g first) at end = subst (IsStoppedAt cancels cancels') end at
stops_by cancels cancels' new turn Stopped at end = subst (IsStoppedAt cancels cancels') end at
stops_by cancels cancels' new turn Memory at end = absurd end

pub ended_of : {R E : Type 0} (m : Option ℕ) (value : E → ℤ) (list : List (Terms E)) (claim : Polynomial) (place budget : ℕ) (xs : List Multiple) (old new : Search R E) (rows : Rows) (rest : Polynomial) (cofactors : List (ℕ × Polynomial)) (polls polls' cancels cancels' : ℕ) (turn : Turn) (left : Terms E) (answer : Member R E) → IsRun m value (equations_of value list) claim place budget xs old new polls polls' cancels cancels' turn → xs ≡ multiples_of rows.kept rest → rows_shown value old.rows ≡ rows → target_shown value false old.target ≡ (let f : s.Target = record { poly = rest; cofactors = cofactors; noted = false } in f) → terms_of value left ≡ rest
    → ((found : s.Found) → IsTurn budget found (s.Open (s.first_note (rows_shown value new.rows).notes)) (target_shown value false new.target) turn → IsMember value budget (terms_of value left) found answer) → IsEndBy new.target turn answer → IsEnded m value list claim place budget rows rest cofactors polls polls' cancels cancels' answer
ended_of m value list claim place budget xs old new rows rest cofactors polls polls' cancels cancels' turn left answer run listed held target same answers end =
    let es = equations_of value list in
    let norm = norm_of claim in
    let before = found_from m es norm place budget xs (s.stage_of m es norm place (rows_shown value old.rows) (target_shown value false old.target)) in
    let whole : before ≡ found_on m es norm place budget rows rest cofactors = λ i. found_from m es norm place budget (listed i) (s.stage_of m es norm place (held i) (target i)) in
    let found = subst (λ z. IsMember value budget z (found_on m es norm place budget rows rest cofactors) answer) same (subst (λ z. IsMember value budget (terms_of value left) z answer) whole (answers before run.found)) in
    record {
      found = found;
      shown = shows m value list claim place budget xs old new polls polls' cancels cancels' turn answer run end;
      polled = polls_by value (found_on m es norm place budget rows rest cofactors) rest budget new.tried polls polls' old new turn answer run.polled run.spent end found;
      stopped = stops_by cancels cancels' new turn answer run.stopped end;
    }
