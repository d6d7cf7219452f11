-- The search over some products and then over others, and the turns that end it.
use Rattle.std.proofs.Common.{◌≡◌, inl, inr, ℕ, suc, ◌+◌, ◌-◌, ◌<◌, ◌≤◌, refl, sym, ◌∙◌, ap, subst, arith, Bool, true, false, cond, eqb, List, [], ◌∷◌, ◌++◌, length, append_assoc, ℤ, Option, Result, Ok, Err}
use Rattle.std.specs.Prelude.{◌==◌, if◌then◌else◌}
use Rattle.std.specs.Prelude.{IfOk}
use Rattle.std.specs.Result.{OnErr}
use Rattle.std.proofs.lemmas.Bool.{cases_eq, eq-eqb, ne_eqb}
use Rattle.tcl_port.specs.Polling.{counted}
use Rattle.tcl_poly.specs.Monomial.{Monomial}
use Rattle.tcl_poly.specs.Polynomial.{Polynomial, norm_of, terms_of}
use Rattle.tcl_reduce.specs.Row.{Rows}
use Rattle.tcl_reduce.specs.Multiple.{Multiple, add_multiple}
use Rattle.tcl_reduce.specs.Membership as s
use Rattle.tcl_pivots.specs.Held.{rows_shown}
use Rattle.tcl_pivots.specs.TargetState.{target_shown}
use Rattle.tcl_member.specs.declared.search.Search.{Search}
use Rattle.tcl_member.specs.declared.search.Turn.{Turn}
use Rattle.tcl_member.specs.declared.search.Turn.TheVariants.{Going, Zero, Spent, Stopped}
use Rattle.tcl_member.proofs.Listings.{Begins}
use Rattle.tcl_member.specs.Course.{stage_shown, unmarked, turn_of, is_end, IsTurn, IsStoppedAt, IsPaced, IsOn, IsGone, found_from, IsRun}

-- ---- turns that end

-- the turn ends the search
abbrev pub IsEnd : Turn → Type 0
IsEnd Going = ⊥
IsEnd Zero = Unit {0}
IsEnd Spent = Unit {0}
IsEnd Stopped = Unit {0}

pub end_is : (t : Turn) → is_end t ≡ true → IsEnd t
end_is Going h = clash h where
  clash : false ≡ true → ⊥
  clash z = cc
end_is Zero h = tt
end_is Spent h = tt
end_is Stopped h = tt

pub going_is : (t : Turn) → is_end t ≡ false → t ≡ Going
going_is Going h = refl
going_is Zero h = absurd (clash h) where
  clash : true ≡ false → ⊥
  clash z = cc
going_is Spent h = absurd (clash h) where
  clash : true ≡ false → ⊥
  clash z = cc
going_is Stopped h = absurd (clash h) where
  clash : true ≡ false → ⊥
  clash z = cc

turn_before : (budget : ℕ) (a b c : s.Found) (f : s.Target) (t : Turn) → a ≡ b → IsTurn budget b c f t → IsTurn budget a c f t
turn_before budget a b c f t e h = subst (λ x. IsTurn budget x c f t) (sym e) h

-- what is after the end does not matter
turn_end : (budget : ℕ) (a b c : s.Found) (f : s.Target) (t : Turn) → IsEnd t → IsTurn budget a b f t → IsTurn budget a c f t
turn_end budget a b c f Going e h = elim e [ ]
turn_end budget a b c f Zero e h = h
turn_end budget a b c f Spent e h = h
turn_end budget a b c f Stopped e h = h

-- ---- polls

paced_more : (t l p t' l' p' t'' l'' p'' : ℕ) → IsPaced t l p t' l' p' → IsPaced t' l' p' t'' l'' p'' → IsPaced t l p t'' l'' p''
paced_more t l p t' l' p' t'' l'' p'' h i e =
    let second = i e in
    let first = h (omega (arith, e, second.0)) in
    (omega (arith, first.0, second.0), omega (arith, first.0, second.0, first.1, second.1))

stopped_more : (c c' c'' : ℕ) (t : Turn) → c' ≡ c → IsStoppedAt c' c'' t → IsStoppedAt c c'' t
stopped_more c c' c'' Going e h = h ∙ e
stopped_more c c' c'' Zero e h = h ∙ e
stopped_more c c' c'' Spent e h = h ∙ e
stopped_more c c' c'' Stopped e h = h ∙ ap counted e

-- ---- one stretch of products after the other

pub gone_none : {R E : Type 0} (m : Option ℕ) (value : E → ℤ) (es : List Polynomial) (claim : Polynomial) (place budget : ℕ) (search : Search R E) (polls cancels : ℕ) → IsOn m value es claim search → search.tried < budget → IsGone m value es claim place budget [] search search polls polls cancels cancels Going
gone_none m value es claim place budget search polls cancels on below = record {
  found = λ further. refl;
  on = on;
  below = λ _. below;
  spent = λ e. absurd (clash e);
  paced = λ _. (omega arith, omega arith);
  stopped = refl;
} where
  clash : Going ≡ Spent → ⊥
  clash z = cc

pub gone_more : {R E : Type 0} (m : Option ℕ) (value : E → ℤ) (es : List Polynomial) (claim : Polynomial) (place budget : ℕ) (xs ys : List Multiple) (a b d : Search R E) (polls polls' polls'' cancels cancels' cancels'' : ℕ) (turn : Turn) → IsGone m value es claim place budget xs a b polls polls' cancels cancels' Going → IsGone m value es claim place budget ys b d polls' polls'' cancels' cancels'' turn → IsGone m value es claim place budget (xs ++ ys) a d polls polls'' cancels cancels'' turn
gone_more m value es claim place budget xs ys a b d polls polls' polls'' cancels cancels' cancels'' turn h i = record {
  found = λ further.
      turn_before budget (s.found_by m es (norm_of claim) place budget ((xs ++ ys) ++ further) a.tried (stage_shown value a)) (s.found_by m es (norm_of claim) place budget (ys ++ further) b.tried (stage_shown value b)) (s.found_by m es (norm_of claim) place budget further d.tried (stage_shown value d)) (target_shown value false d.target) turn
      (ap (λ z. s.found_by m es (norm_of claim) place budget z a.tried (stage_shown value a)) (append_assoc xs ys further) ∙ h.found (ys ++ further))
      (i.found further);
  on = i.on;
  below = i.below;
  spent = i.spent;
  paced = paced_more a.tried a.left polls b.tried b.left polls' d.tried d.left polls'' h.paced i.paced;
  stopped = stopped_more cancels cancels' cancels'' turn h.stopped i.stopped;
}

-- the end came before the last products
pub gone_early : {R E : Type 0} (m : Option ℕ) (value : E → ℤ) (es : List Polynomial) (claim : Polynomial) (place budget : ℕ) (xs ys : List Multiple) (a b : Search R E) (polls polls' cancels cancels' : ℕ) (turn : Turn) → IsEnd turn → IsGone m value es claim place budget xs a b polls polls' cancels cancels' turn → IsGone m value es claim place budget (xs ++ ys) a b polls polls' cancels cancels' turn
gone_early m value es claim place budget xs ys a b polls polls' cancels cancels' turn end h = record {
  found = λ further.
      turn_before budget (s.found_by m es (norm_of claim) place budget ((xs ++ ys) ++ further) a.tried (stage_shown value a)) (s.found_by m es (norm_of claim) place budget (xs ++ (ys ++ further)) a.tried (stage_shown value a)) (s.found_by m es (norm_of claim) place budget further b.tried (stage_shown value b)) (target_shown value false b.target) turn
      (ap (λ z. s.found_by m es (norm_of claim) place budget z a.tried (stage_shown value a)) (append_assoc xs ys further))
      (turn_end budget (s.found_by m es (norm_of claim) place budget (xs ++ (ys ++ further)) a.tried (stage_shown value a)) (s.found_by m es (norm_of claim) place budget (ys ++ further) b.tried (stage_shown value b)) (s.found_by m es (norm_of claim) place budget further b.tried (stage_shown value b)) (target_shown value false b.target) turn end (h.found (ys ++ further)));
  on = h.on;
  below = h.below;
  spent = h.spent;
  paced = h.paced;
  stopped = h.stopped;
}

-- ---- the mark of a wide step

found_at : (m : Option ℕ) (es : List Polynomial) (norm place budget : ℕ) (xs : List Multiple) (n : ℕ) (b : Bool) (rows : Rows) (f : s.Target) (other : s.Stage) → ((f : s.Target) (rows : Rows) → s.found_by m es norm place budget xs n (record { rows = rows; target = f }) ≡ s.found_by m es norm place budget xs n (unmarked (record { rows = rows; target = f })))
    → (let after : s.Stage = if b then record { rows = rows; target = f } else other in if s.is_nothing after.target.poly then s.Cofactors after.target.cofactors else (if n == budget then s.Spent budget else s.found_by m es norm place budget xs n after))
    ≡ (let after : s.Stage = if b then record { rows = rows; target = record { poly = f.poly; cofactors = f.cofactors; noted = false } } else other in if s.is_nothing after.target.poly then s.Cofactors after.target.cofactors else (if n == budget then s.Spent budget else s.found_by m es norm place budget xs n after))
found_at m es norm place budget xs n true rows f other same =
    ap (λ z. if s.is_nothing f.poly then s.Cofactors f.cofactors else (if n == budget then s.Spent budget else z)) (same f rows)
found_at m es norm place budget xs n false rows f other same = refl

-- it decides nothing
pub found_unmarked : (m : Option ℕ) (es : List Polynomial) (norm place budget : ℕ) (xs : List Multiple) (n : ℕ) (f : s.Target) (rows : Rows) → s.found_by m es norm place budget xs n (record { rows = rows; target = f }) ≡ s.found_by m es norm place budget xs n (unmarked (record { rows = rows; target = f }))
found_unmarked m es norm place budget [] n f rows = refl
found_unmarked m es norm place budget (x ∷ xs) n f rows =
    let after = add_multiple m es x rows in
    found_at m es norm place budget xs (suc n) (length after.kept == length rows.kept) after f (s.stage_of m es norm place after f) (λ g rs. found_unmarked m es norm place budget xs (suc n) g rs)

-- ---- one product

turn_nothing : (f : Polynomial) → s.is_nothing f ≡ true → f ≡ []
turn_nothing [] e = refl
turn_nothing (t ∷ f) e = absurd (clash e) where
  clash : false ≡ true → ⊥
  clash z = cc

turn_is : (m : Option ℕ) (es : List Polynomial) (norm place budget : ℕ) (further : List Multiple) (n : ℕ) (after new : s.Stage) (a b : Bool) → s.is_nothing new.target.poly ≡ a → (n == budget) ≡ b → new ≡ unmarked after
    → IsTurn budget (if s.is_nothing after.target.poly then s.Cofactors after.target.cofactors else (if n == budget then s.Spent budget else s.found_by m es norm place budget further n after)) (s.found_by m es norm place budget further n new) new.target (if a then Zero else (if b then Spent else Going))
turn_is m es norm place budget further n after new true b e f is = (
  turn_nothing new.target.poly e,
  ap (λ z. if z then s.Cofactors after.target.cofactors else (if n == budget then s.Spent budget else s.found_by m es norm place budget further n after)) (sym (ap (λ z. s.is_nothing z.target.poly) is) ∙ e)
      ∙ ap (λ z. s.Cofactors z.target.cofactors) (sym is),
)
turn_is m es norm place budget further n after new false true e f is =
    ap (λ z. if z then s.Cofactors after.target.cofactors else (if n == budget then s.Spent budget else s.found_by m es norm place budget further n after)) (sym (ap (λ z. s.is_nothing z.target.poly) is) ∙ e)
    ∙ ap (λ z. if z then s.Spent budget else s.found_by m es norm place budget further n after) f
turn_is m es norm place budget further n after new false false e f is =
    ap (λ z. if z then s.Cofactors after.target.cofactors else (if n == budget then s.Spent budget else s.found_by m es norm place budget further n after)) (sym (ap (λ z. s.is_nothing z.target.poly) is) ∙ e)
    ∙ ap (λ z. if z then s.Spent budget else s.found_by m es norm place budget further n after) f
    ∙ found_unmarked m es norm place budget further n after.target after.rows
    ∙ ap (s.found_by m es norm place budget further n) (sym is)

turn_below : (a b : Bool) (n budget : ℕ) → (n == budget) ≡ b → n ≤ budget → (if a then Zero else (if b then Spent else Going)) ≡ Going → n < budget
turn_below true b n budget e l g = absurd (clash g) where
  clash : Zero ≡ Going → ⊥
  clash z = cc
turn_below false true n budget e l g = absurd (clash g) where
  clash : Spent ≡ Going → ⊥
  clash z = cc
turn_below false false n budget e l g = elim (cases_eq n budget) [
  | inl same ↦ absurd (clash (sym (eq-eqb n budget same) ∙ e))
  | inr other ↦ omega (arith, l, other)
]
  where
    clash : true ≡ false → ⊥
    clash z = cc

turn_spent : (a b : Bool) (n budget : ℕ) → (n == budget) ≡ b → (if a then Zero else (if b then Spent else Going)) ≡ Spent → n ≡ budget
turn_spent true b n budget e g = absurd (clash g) where
  clash : Zero ≡ Spent → ⊥
  clash z = cc
turn_spent false false n budget e g = absurd (clash g) where
  clash : Going ≡ Spent → ⊥
  clash z = cc
turn_spent false true n budget e g = elim (cases_eq n budget) [
  | inl same ↦ same
  | inr other ↦ absurd (clash (sym (ne_eqb n budget other) ∙ e))
]
  where
    clash : false ≡ true → ⊥
    clash z = cc

turn_stopped : (a b : Bool) (c c' : ℕ) → c' ≡ c → IsStoppedAt c c' (if a then Zero else (if b then Spent else Going))
turn_stopped true b c c' e = e
turn_stopped false true c c' e = e
turn_stopped false false c c' e = e

-- a product was tried
pub gone_one : {R E : Type 0} (m : Option ℕ) (value : E → ℤ) (es : List Polynomial) (claim : Polynomial) (place budget : ℕ) (x : Multiple) (old new : Search R E) (polls polls' cancels cancels' allowed : ℕ) (turn : Turn) → old.tried < budget → new.tried ≡ old.tried + 1 → new.left ≡ allowed - 1 → stage_shown value new ≡ unmarked (s.stage_by m es (norm_of claim) place x (stage_shown value old)) → IsOn m value es claim new → turn ≡ turn_of (s.is_nothing (terms_of value new.target.poly)) new.tried budget
    → polls' ≡ cond (eqb old.left 0) (counted polls) polls → allowed ≡ cond (eqb old.left 0) 1000 old.left → cancels' ≡ cancels
    → IsGone m value es claim place budget (x ∷ []) old new polls polls' cancels cancels' turn
gone_one m value es claim place budget x old new polls polls' cancels cancels' allowed turn below one left is on t p a c =
    let a' = s.is_nothing (terms_of value new.target.poly) in
    let b' = new.tried == budget in
    let next : new.tried ≡ suc old.tried = omega (arith, one) in
    let after = s.stage_by m es (norm_of claim) place x (stage_shown value old) in
    let P : Turn → Type 0 = λ z. IsGone m value es claim place budget (x ∷ []) old new polls polls' cancels cancels' z in
    subst P (sym t) (record {
      found = λ further.
          turn_before budget _ _ (s.found_by m es (norm_of claim) place budget further new.tried (stage_shown value new)) (target_shown value false new.target) (if a' then Zero else (if b' then Spent else Going))
          (ap (λ n. if s.is_nothing after.target.poly then s.Cofactors after.target.cofactors else (if n == budget then s.Spent budget else s.found_by m es (norm_of claim) place budget further n after)) (sym next))
          (turn_is m es (norm_of claim) place budget further new.tried after (stage_shown value new) a' b' refl refl is);
      on = on;
      below = turn_below a' b' new.tried budget refl (omega (arith, one, below));
      spent = turn_spent a' b' new.tried budget refl;
      paced = paced_one old.left polls polls' allowed new.left old.tried new.tried one left p a;
      stopped = turn_stopped a' b' cancels cancels' c;
    }) where
      paced_one : (l polls polls' allowed l' n n' : ℕ) → n' ≡ n + 1 → l' ≡ allowed - 1 → polls' ≡ cond (eqb l 0) (counted polls) polls → allowed ≡ cond (eqb l 0) 1000 l → IsPaced n l polls n' l' polls'
      paced_one l polls polls' allowed l' n n' one left p a e = elim (cases_eq l 0) [
        | inl none ↦
            let more : polls' ≡ counted polls = p ∙ ap (λ b. cond b (counted polls) polls) (eq-eqb l 0 none) in
            let full : allowed ≡ 1000 = a ∙ ap (λ b. cond b 1000 l) (eq-eqb l 0 none) in
            let step : polls' ≡ polls + 1 = omega (arith, more, e) in
            (omega (arith, step), omega (arith, step, full, one, left))
        | inr some ↦
            let same : polls' ≡ polls = p ∙ ap (λ b. cond b (counted polls) polls) (ne_eqb l 0 some) in
            let keeps : allowed ≡ l = a ∙ ap (λ b. cond b 1000 l) (ne_eqb l 0 some) in
            (omega (arith, same), omega (arith, same, keeps, one, left, some))
      ]

-- the port stopped the search before a product
pub gone_stopped : {R E : Type 0} (m : Option ℕ) (value : E → ℤ) (es : List Polynomial) (claim : Polynomial) (place budget : ℕ) (xs : List Multiple) (search : Search R E) (polls polls' cancels cancels' : ℕ) → IsOn m value es claim search → polls' ≡ cond (eqb search.left 0) (counted polls) polls → search.left ≡ 0 → cancels' ≡ counted cancels → IsGone m value es claim place budget xs search search polls polls' cancels cancels' Stopped
gone_stopped m value es claim place budget xs search polls polls' cancels cancels' on p none c = record {
  found = λ further. tt;
  on = on;
  below = λ e. absurd (clash e);
  spent = λ e. absurd (clash' e);
  paced = λ e.
      let more : polls' ≡ counted polls = p ∙ ap (λ b. cond b (counted polls) polls) (eq-eqb search.left 0 none) in
      (omega (arith, more), omega (arith, more));
  stopped = c;
} where
  clash : Stopped ≡ Going → ⊥
  clash z = cc

  clash' : Stopped ≡ Spent → ⊥
  clash' z = cc

-- ---- the whole search

something : {E : Type 0} (value : E → ℤ) (f : List (Monomial × E)) → (f ≡ [] → ⊥) → s.is_nothing (terms_of value f) ≡ false
something value [] h = absurd (h refl)
something value (t ∷ f) h = refl

pub run_over : {R E : Type 0} (m : Option ℕ) (value : E → ℤ) (es : List Polynomial) (claim : Polynomial) (place budget : ℕ) (xs : List Multiple) (old start new : Search R E) (polls polls' cancels cancels' : ℕ) (turn : Turn) → (start.target.poly ≡ [] → ⊥) → start.tried ≡ 0 → start.left ≡ 0 → stage_shown value start ≡ unmarked (s.stage_of m es (norm_of claim) place (rows_shown value old.rows) (target_shown value false old.target)) → IsGone m value es claim place budget xs start new polls polls' cancels cancels' turn → IsRun m value es claim place budget xs old new polls polls' cancels cancels' turn
run_over m value es claim place budget xs old start new polls polls' cancels cancels' turn some none left is gone =
    let stage = s.stage_of m es (norm_of claim) place (rows_shown value old.rows) (target_shown value false old.target) in
    let all = gone.found [] in
    let nothing : s.is_nothing stage.target.poly ≡ false = sym (ap (λ z. s.is_nothing z.target.poly) is) ∙ something value start.target.poly some in
    record {
      found =
          turn_before budget (found_from m es (norm_of claim) place budget xs stage) (s.found_by m es (norm_of claim) place budget (xs ++ []) start.tried (stage_shown value start)) (s.Open (s.first_note (rows_shown value new.rows).notes)) (target_shown value false new.target) turn
          (ap (λ z. if z then s.Cofactors stage.target.cofactors else s.found_by m es (norm_of claim) place budget xs 0 stage) nothing
          ∙ found_unmarked m es (norm_of claim) place budget xs 0 stage.target stage.rows
          ∙ ap (s.found_by m es (norm_of claim) place budget xs 0) (sym is)
          ∙ (λ i. s.found_by m es (norm_of claim) place budget (sym (append_nothing xs) i) (sym none i) (stage_shown value start)))
          all;
      on = gone.on;
      polled = λ e. let h = gone.paced e in omega (arith, h.1, none, left);
      spent = gone.spent;
      stopped = gone.stopped;
    } where
      append_nothing : {X : Type 0} (xs : List X) → xs ++ [] ≡ xs
      append_nothing [] = refl
      append_nothing (x ∷ xs) = ap (λ z. x ∷ z) (append_nothing xs)

pub run_none : {R E : Type 0} (m : Option ℕ) (value : E → ℤ) (es : List Polynomial) (claim : Polynomial) (place budget : ℕ) (xs : List Multiple) (old start : Search R E) (polls cancels : ℕ) → start.target.poly ≡ [] → start.tried ≡ 0 → IsOn m value es claim start → stage_shown value start ≡ unmarked (s.stage_of m es (norm_of claim) place (rows_shown value old.rows) (target_shown value false old.target)) → IsRun m value es claim place budget xs old start polls polls cancels cancels Zero
run_none m value es claim place budget xs old start polls cancels empty none on is =
    let stage = s.stage_of m es (norm_of claim) place (rows_shown value old.rows) (target_shown value false old.target) in
    let nothing : s.is_nothing stage.target.poly ≡ true = sym (ap (λ z. s.is_nothing z.target.poly) is) ∙ ap (λ z. s.is_nothing (terms_of value z)) empty in
    record {
      found = (
        ap (terms_of value) empty,
        ap (λ z. if z then s.Cofactors stage.target.cofactors else s.found_by m es (norm_of claim) place budget xs 0 stage) nothing
            ∙ ap (λ z. s.Cofactors z.target.cofactors) (sym is),
      );
      on = on;
      polled = λ e. omega (arith, none);
      spent = λ e. absurd (clash e);
      stopped = refl;
    } where
      clash : Zero ≡ Spent → ⊥
      clash z = cc

-- what holds anyway holds where there is an error
pub on_err : {T E P : Type 0} (r : Result T E) → P → OnErr r P
on_err (Ok x) p = tt
on_err (Err e) p = p

pub turn_ends : {E : Type 0} (value : E → ℤ) (f : List (Monomial × E)) (n budget : ℕ) → (f ≡ [] → ⊥) → n ≡ budget → Spent ≡ turn_of (s.is_nothing (terms_of value f)) n budget
turn_ends value f n budget some e = λ i. if sym (something value f some) i then Zero else (if sym (eq-eqb n budget e) i then Spent else Going)

pub turn_goes : {E : Type 0} (value : E → ℤ) (f : List (Monomial × E)) (n budget : ℕ) → (f ≡ [] → ⊥) → (n ≡ budget → ⊥) → Going ≡ turn_of (s.is_nothing (terms_of value f)) n budget
turn_goes value f n budget some e = λ i. if sym (something value f some) i then Zero else (if sym (ne_eqb n budget e) i then Spent else Going)

-- ---- a loop over stretches

-- a stretch more, after which the search goes on
pub gone_next : {R E : Type 0} (m : Option ℕ) (value : E → ℤ) (es : List Polynomial) (claim : Polynomial) (place budget : ℕ) (xs ys zs : List Multiple) (a b d : Search R E) (polls polls' polls'' cancels cancels' cancels'' : ℕ) (turn : Turn) → IsGone m value es claim place budget xs a b polls polls' cancels cancels' Going → IsGone m value es claim place budget ys b d polls' polls'' cancels' cancels'' turn → is_end turn ≡ false → xs ++ ys ≡ zs → IsGone m value es claim place budget zs a d polls polls'' cancels cancels'' Going
gone_next m value es claim place budget xs ys zs a b d polls polls' polls'' cancels cancels' cancels'' turn h i e is =
    subst (λ z. IsGone m value es claim place budget z a d polls polls'' cancels cancels'' Going) is
    (subst (λ t. IsGone m value es claim place budget (xs ++ ys) a d polls polls'' cancels cancels'' t) (going_is turn e)
    (gone_more m value es claim place budget xs ys a b d polls polls' polls'' cancels cancels' cancels'' turn h i))

-- a stretch in which the search ends
pub gone_last : {R E : Type 0} (m : Option ℕ) (value : E → ℤ) (es : List Polynomial) (claim : Polynomial) (place budget : ℕ) (xs ys zs whole : List Multiple) (a b d : Search R E) (polls polls' polls'' cancels cancels' cancels'' : ℕ) (turn : Turn) → IsGone m value es claim place budget xs a b polls polls' cancels cancels' Going → IsGone m value es claim place budget ys b d polls' polls'' cancels' cancels'' turn → is_end turn ≡ true → xs ++ ys ≡ zs → Begins zs whole → IsGone m value es claim place budget whole a d polls polls'' cancels cancels'' turn
gone_last m value es claim place budget xs ys zs whole a b d polls polls' polls'' cancels cancels' cancels'' turn h i e is begins =
    subst (λ z. IsGone m value es claim place budget z a d polls polls'' cancels cancels'' turn) (sym begins.1)
    (gone_early m value es claim place budget zs begins.0 a d polls polls'' cancels cancels'' turn (end_is turn e)
    (subst (λ z. IsGone m value es claim place budget z a d polls polls'' cancels cancels'' turn) is
    (gone_more m value es claim place budget xs ys a b d polls polls' polls'' cancels cancels' cancels'' turn h i)))

-- what follows where there is a result
pub if_ok : {T E : Type 0} (r : Result T E) (P Q : T → Type 0) → ((x : T) → P x → Q x) → IfOk r P → IfOk r Q
if_ok (Ok x) P Q f h = f x h
if_ok (Err e) P Q f h = tt
