-- The parts of the fact.
use Rattle.std.proofs.Common.{◌≡◌, ◌∙◌, ℕ, List, Bool, ap, ap₂, arith, length}
use Rattle.tcl_lang.specs.declared.pred.Line.{Line}
use Rattle.tcl_goals.specs.declared.cuts.Starts.{Starts}
use Rattle.tcl_goals.specs.declared.fact.Hyp.{Hyp}
use Rattle.tcl_goals.specs.declared.fact.BitLit.{BitLit}
use Rattle.tcl_goals.specs.declared.fact.Fact.{Fact}
use Rattle.tcl_goals.specs.declared.fact.Claim.TheVariants as claim
use Rattle.tcl_goals.specs.Numbers.{those_below}
use Rattle.tcl_goals.specs.Places.{goal_place}
use Rattle.tcl_goals.specs.Defaults.{starts_at, line_hyps}
use Rattle.tcl_goals.specs.Slices.{is_sliced_hyp, is_sliced_step, slice_marks}
use Rattle.tcl_goals.proofs.GoalPlaces.{goal_place_below}
use Rattle.tcl_slice.specs.declared.search.Search.{Search}
use Rattle.tcl_slice.specs.Touching.{searched}
use Rattle.tcl_slice.proofs.Closing.{searched_marks}
use Rattle.tcl_slice.proofs.Slicing.{cut_is}
use Rattle.tcl_slice.proofs.cut_facts.slice_by.Goals as goal

abbrev fact_of : ℕ → List Hyp → List BitLit → List ℕ → Fact
fact_of i hyps cube uses = record { claim = claim.Goal i; hyps = hyps; cube = cube; uses = uses }

pub starts_at-starts-requires : goal.starts_at-starts-requires
starts_at-starts-requires c =
    let p = c.args.ssa.now in
    let same : c.as_slice-lines.result.now ≡ p.lines = c.as_slice-lines.ensures ∙ c.lines.ensures.lines in
    let at : c.goal_place-place.result ≡ goal_place p.lines c.args.goal = c.goal_place-place.ensures.place ∙ ap (λ (ls : List Line). goal_place ls c.args.goal) same in
    omega (arith, at, goal_place_below p.lines c.args.goal c.requires.goal, ap length same)

pub searched-requires-clause-within : goal.searched-requires-clause-within
searched-requires-clause-within c =
    let p = c.args.ssa.now in
    let same : c.as_slice-lines.result.now ≡ p.lines = c.as_slice-lines.ensures ∙ c.lines.ensures.lines in
    let at : c.goal_place-place.result ≡ goal_place p.lines c.args.goal = c.goal_place-place.ensures.place ∙ ap (λ (ls : List Line). goal_place ls c.args.goal) same in
    omega (arith, at, goal_place_below p.lines c.args.goal c.requires.goal)

pub returns : goal.returns
returns c =
    let p = c.args.ssa.now in
    let i = c.args.goal in
    let lines = c.as_slice-lines.result.now in
    let place = c.goal_place-place.result in
    let starts = c.starts_at-starts.result in
    let marks = c.in_ok-search.search.marks in
    let same : lines ≡ p.lines = c.as_slice-lines.ensures ∙ c.lines.ensures.lines in
    let at : place ≡ goal_place p.lines i = c.goal_place-place.ensures.place ∙ ap (λ (ls : List Line). goal_place ls i) same in
    let from : starts ≡ starts_at p.lines (goal_place p.lines i) =
    c.starts_at-starts.ensures ∙ ap (λ (ls : List Line). starts_at ls place) same ∙ ap (λ k. starts_at p.lines k) at in
    let set : marks ≡ slice_marks p (goal_place p.lines i) =
    ap (λ (s : Search). s.marks) c.in_ok-search.ensures
    ∙ ap₂ (λ (s : Starts) k. (searched p s k).marks) from at
    ∙ searched_marks p (goal_place p.lines i) in
    ap (λ (cube : List BitLit). fact_of i c.in_ok-hyps.hyps cube c.in_ok-uses.uses) c.new.ensures
    ∙ cut_is p lines i place starts marks c.in_ok-hyps.hyps c.in_ok-uses.uses same c.goal_place-place.ensures.place c.starts_at-starts.ensures set
    (c.in_ok-hyps.ensures ∙ ap (λ (m : List Bool). line_hyps (those_below (is_sliced_hyp lines starts m) place)) c.as_slice.ensures)
    (c.in_ok-uses.ensures ∙ ap (λ (m : List Bool). those_below (is_sliced_step lines starts m) place) c.as_slice-2.ensures)
