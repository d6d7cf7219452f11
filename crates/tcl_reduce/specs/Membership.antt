-- The membership search for a claim of which plain reduction leaves something: the rows, then the products one by one,
-- and the claim reduced by them.
use Rattle.std.specs.Prelude.{ℕ, zero, suc, ◌==◌, Bool, true, false, if◌then◌else◌, List, [], ◌∷◌, length, ℤ, neg_ℤ, unsigned_abs, Option, None, Some}
use Rattle.tcl_ring.specs.Reduction.{reduced_by}
use Rattle.tcl_poly.specs.Polynomial.{Polynomial, sum_of, scaled, norm_of, coefficient}
use Rattle.tcl_reduce.specs.Reduction.{Definition}
use Rattle.tcl_reduce.specs.CofactorSum.{sum_cofactors, scaled_cofactors, are_wide}
use Rattle.tcl_reduce.specs.Row.{Pivot, Note, WideAt, Rows, leading, by_leading, quotient_at, with_note, rows_of}
use Rattle.tcl_reduce.specs.Multiple.{Multiple, add_multiple, multiples_of}

-- what is left of the claim, the cofactors that make it up to that, and whether a step was wide
pub record Target : Type 0 where
  pub poly : Polynomial
  pub cofactors : List (ℕ × Polynomial)
  pub noted : Bool

abbrev pub target_less : (ℤ → ℤ) → Target → Pivot → Target
target_less r f p =
    let c = quotient_at r f.poly p in
    record {
      poly = sum_of r f.poly (scaled r ([], neg_ℤ c) p.row.poly);
      cofactors = sum_cofactors r f.cofactors (scaled_cofactors r ([], c) p.row.cofactors);
      noted = f.noted;
    }

abbrev pub noted : Target → Target
noted f = record { poly = f.poly; cofactors = f.cofactors; noted = true }

-- reduced by kept rows from the greatest leading monomial down; a wide step is not made, and noted
abbrev pub target_by : Option ℕ → List Polynomial → ℕ → List Pivot → Target → Target
target_by m equations norm [] f = f
target_by m equations norm (p ∷ ps) f =
    if unsigned_abs (coefficient f.poly (leading p.row.poly)) == 0 then target_by m equations norm ps f else
    (if are_wide m equations norm (target_less (reduced_by m) f p).cofactors then target_by m equations norm ps (noted f) else
    target_by m equations norm ps (target_less (reduced_by m) f p))

-- rows and claim between two products
pub record Stage : Type 0 where
  pub rows : Rows
  pub target : Target

-- the claim reduced by all kept rows, with a note of its place where a step was wide
abbrev pub noted_rows : Bool → ℕ → Rows → Rows
noted_rows true place rows = with_note (WideAt place) rows
noted_rows false place rows = rows

abbrev pub stage_of : Option ℕ → List Polynomial → ℕ → ℕ → Rows → Target → Stage
stage_of m equations norm place rows f =
    let after = target_by m equations norm (by_leading rows.kept) (record { poly = f.poly; cofactors = f.cofactors; noted = false }) in
    record { rows = noted_rows after.noted place rows; target = after }

-- one product: the claim is reduced again where a row was added
abbrev pub stage_by : Option ℕ → List Polynomial → ℕ → ℕ → Multiple → Stage → Stage
stage_by m equations norm place x s =
    let rows = add_multiple m equations x s.rows in
    if length rows.kept == length s.rows.kept then record { rows = rows; target = s.target } else
    stage_of m equations norm place rows s.target

-- the stage after the first n products, all of them where there are fewer
abbrev pub stage_after : Option ℕ → List Polynomial → ℕ → ℕ → ℕ → List Multiple → Stage → Stage
stage_after m equations norm place zero xs s = s
stage_after m equations norm place (suc n) [] s = s
stage_after m equations norm place (suc n) (x ∷ xs) s = stage_after m equations norm place n xs (stage_by m equations norm place x s)

-- how the search ends: with cofactors, spent, or with what plain reduction left and the first note
pub data Found : Type 0 where
  Cofactors : List (ℕ × Polynomial) → Found
  Spent : ℕ → Found
  Open : Option Note → Found

abbrev pub first_note : List Note → Option Note
first_note [] = None
first_note (n ∷ ns) = Some n

abbrev pub is_nothing : Polynomial → Bool
is_nothing [] = true
is_nothing (t ∷ p) = false

-- the products one by one, after that many; the budget is the number of products that may be tried
abbrev pub found_by : Option ℕ → List Polynomial → ℕ → ℕ → ℕ → List Multiple → ℕ → Stage → Found
found_by m equations norm place budget [] tried s = Open (first_note s.rows.notes)
found_by m equations norm place budget (x ∷ xs) tried s =
    let after = stage_by m equations norm place x s in
    if is_nothing after.target.poly then Cofactors after.target.cofactors else
    (if suc tried == budget then Spent budget else found_by m equations norm place budget xs (suc tried) after)

-- the stage before the first product
abbrev pub first_stage : Option ℕ → List Definition → List Polynomial → List ℕ → Polynomial → ℕ → Polynomial → List (ℕ × Polynomial) → Stage
first_stage m defs equations places claim place rest cofactors =
    stage_of m equations (norm_of claim) place (rows_of m defs equations places) (record { poly = rest; cofactors = cofactors; noted = false })

-- the search for a claim of which plain reduction leaves that rest with these cofactors
abbrev pub found_of : Option ℕ → List Definition → List Polynomial → List ℕ → Polynomial → ℕ → ℕ → Polynomial → List (ℕ × Polynomial) → Found
found_of m defs equations places claim place budget rest cofactors =
    let start = first_stage m defs equations places claim place rest cofactors in
    if is_nothing start.target.poly then Cofactors start.target.cofactors else
    found_by m equations (norm_of claim) place budget (multiples_of (rows_of m defs equations places).kept rest) 0 start
