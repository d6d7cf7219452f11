-- What denies a cut piece: a model of its clauses, or an assignment at which the walk ends.
use Rattle.std.proofs.Common.{◌≡◌, ℕ, pos, Bool, true, false, refl, sym, ◌∙◌, ap, List, [], ◌∷◌, length, cond, if◌then◌else◌, replicate, Option, Some, None}
use Rattle.std.specs.Prelude.{find}
use Rattle.tcl_lang.specs.declared.variable.Variable.{Variable}
use Rattle.tcl_lang.specs.Program.{VersionedProgram}
use Rattle.tcl_lang.specs.Values.{AreValues}
use Rattle.tcl_lang.specs.Form.{IsWellFormed}
use Rattle.tcl_lang.proofs.FormFacts.{zero_in}
use Rattle.tcl_goals.specs.declared.fact.Fact.{Fact}
use Rattle.tcl_goals.specs.declared.fact.Claim.TheVariants as claim
use Rattle.tcl_goals.specs.declared.piece.Piece.{Piece}
use Rattle.tcl_goals.specs.declared.piece.Route.{Route}
use Rattle.tcl_goals.specs.declared.piece.Route.TheVariants as route
use Rattle.tcl_goals.specs.Numbers.{numbers_below}
use Rattle.tcl_goals.specs.Free.{free_variables}
use Rattle.tcl_goals.specs.Slices.{cut_fact, whole_fact, route_fact}
use Rattle.tcl_goals.specs.Plans.{piece_fact}
use Rattle.tcl_goals.specs.Order.{InOrder}
use Rattle.tcl_goals.specs.Assignments.{Assigns}
use Rattle.tcl_goals.proofs.PieceOrder.{piece_in_order}
use Rattle.tcl_enum.specs.Patterns.{given, free_values, assignment, assignment_count}
use Rattle.tcl_enum.specs.declared.ended.FreeValue.{FreeValue}
use Rattle.tcl_enum.specs.declared.ended.Ended.TheVariants as ended
use Rattle.tcl_enum.specs.NarrowFact.{is_narrow_fact}
use Rattle.tcl_enum.specs.Enumeration.{is_denied, is_denied_at, first_denial, ended_by, ended_of}
use Rattle.tcl_enum.proofs.Walks.{given_typed}
use Rattle.tcl_enum.proofs.Recomputing.{walk_assigns}
use Rattle.tcl_blast.specs.Models.{is_algebraic_claim, assignment_of, ModelsAreAssignments}
use Rattle.tcl_kernel.specs.Causes.{is_walked_by}
use Rattle.tcl_kernel.specs.CauseLaws.{ModelsAreCuts, DenialsAreCuts}

clash : {X : Type 0} (b : Bool) → b ≡ true → b ≡ false → X
clash b s t = absurd (cc)

-- the claim of a piece
route_claim : (p : VersionedProgram) (i : ℕ) (r : Route) → (route_fact p i r).claim ≡ claim.Goal i
unfolding cut_fact whole_fact
route_claim p i route.Cut = refl
route_claim p i route.Whole = refl

piece_claim : (p : VersionedProgram) (q : Piece) → (piece_fact p q).claim ≡ claim.Goal q.goal
unfolding piece_fact
piece_claim p q = route_claim p q.goal q.route

-- values that meet the clauses
pub models_cut : ModelsAreAssignments → ModelsAreCuts
models_cut models p budget q values w piece cut unbounded unwalked range meets = record {
  route_is = cut;
  unbounded = unbounded;
  walked = λ walked. clash (is_walked_by p budget (piece_fact p q)) walked unwalked;
  searched = λ e. record {
    range = range;
    values = assignment_of p [] (piece_fact p q) values;
    models = models p [] (piece_fact p q) values w (piece_in_order p [] q w piece) (ap (is_algebraic_claim p) (piece_claim p q) ∙ range) meets;
  };
}

-- the first number that passes a test passes it
found_passes : (test : ℕ → Bool) (ns : List ℕ) (n : ℕ) → find test ns ≡ Some n → test n ≡ true
found_passes test [] n e = absurd (cc)
found_passes test (m ∷ ns) n e = at (test m) refl e (λ f. found_passes test ns n f)
  where
    at : (b : Bool) → test m ≡ b → cond b (Some m) (find test ns) ≡ Some n → (find test ns ≡ Some n → test n ≡ true) → test n ≡ true
    at true t e later = let same : m ≡ n = cc in ap test (sym same) ∙ t
    at false t e later = later e

first_denies : (p : VersionedProgram) (fact : Fact) (n : ℕ) → first_denial p [] fact ≡ Some n → is_denied p [] fact (assignment p [] fact n) ≡ true
unfolding first_denial
first_denies p fact n e = found_passes (is_denied_at p [] fact) (numbers_below (assignment_count p [] fact)) n e

-- each numbered assignment is one of the fact
zeros_typed : (vs : List Variable) → AreValues vs (replicate (length vs) (pos 0))
zeros_typed [] = tt
zeros_typed (v ∷ vs) = (zero_in v.ty.signed v.ty.width, zeros_typed vs)

numbered_assigns : (p : VersionedProgram) (fact : Fact) (n : ℕ) → IsWellFormed p → InOrder p [] fact → Assigns p fact (assignment p [] fact n)
unfolding assignment
numbered_assigns p fact n w order =
    walk_assigns p [] fact (given (free_values p [] fact n) (replicate (length p.variables) (pos 0))) w order
    (given_typed p.variables (free_variables p [] fact) n (replicate (length p.variables) (pos 0)) w.words (zeros_typed p.variables))

-- a walk that ends at an assignment ends at the first that denies the fact
fails_first : (p : VersionedProgram) (fact : Fact) (free : List FreeValue) → ended_of p [] fact ≡ ended.Fails free → (n : ℕ) × (first_denial p [] fact ≡ Some n)
unfolding ended_of
fails_first p fact free e = at (is_narrow_fact p fact) (first_denial p [] fact) refl e
  where
    at : (b : Bool) (o : Option ℕ) → first_denial p [] fact ≡ o → (if b then ended_by p [] fact o else ended.Wide) ≡ ended.Fails free → (n : ℕ) × (first_denial p [] fact ≡ Some n)
    at true None s e = absurd (cc)
    at true (Some n) s e = (n, s)
    at false o s e = absurd (cc)

pub denials_cut : DenialsAreCuts
denials_cut p budget q free w piece cut unbounded walked fails =
    let first = fails_first p (piece_fact p q) free fails in
    record {
      route_is = cut;
      unbounded = unbounded;
      walked = λ e. record {
        values = assignment p [] (piece_fact p q) first.0;
        assigns = numbered_assigns p (piece_fact p q) first.0 w (piece_in_order p [] q w piece);
        denied = first_denies p (piece_fact p q) first.0 first.1;
      };
      searched = λ unwalked. clash (is_walked_by p budget (piece_fact p q)) walked unwalked;
    }
