-- A line that keeps the static bounds is told by 128 bits.
use Rattle.std.proofs.Common.{◌≡◌, ◌≢◌, ℕ, ◌+◌, ◌∙◌, ap, min, nat_lt, Bool, true, false, not, cond, List, Option, Some, None}
use Rattle.std.specs.List.{list_any, All}
use Rattle.tcl_lang.specs.declared.outcome.Truth.TheVariants.{Yes, No, Wide}
use Rattle.tcl_lang.specs.declared.ty.Ty.{Ty}
use Rattle.tcl_lang.specs.declared.ty.Word.{Word}
use Rattle.tcl_lang.specs.declared.instr.Instr.{Instr}
use Rattle.tcl_lang.specs.declared.term.Term.{Term}
use Rattle.tcl_lang.specs.declared.term.Part.{Part}
use Rattle.tcl_lang.specs.declared.pred.Pred.{Pred}
use Rattle.tcl_lang.specs.declared.pred.Pred.TheVariants.{Alg, Rng}
use Rattle.tcl_lang.specs.declared.pred.Line.{Line}
use Rattle.tcl_lang.specs.Store.{word_at}
use Rattle.tcl_lang.specs.Bound.{size_end, size_in, size_of, type_among, equation_size, static_size}
use Rattle.tcl_lang.specs.Modulus.{is_wide_modulus}
use Rattle.tcl_lang.specs.Names.{term_names, stated_names, used_names}
use Rattle.tcl_lang.specs.Line.{predicate_of, instruction_of}
use Rattle.tcl_lang.specs.Narrow.{is_narrow_equation, is_narrow_stated, is_narrow}
use Rattle.tcl_lang.specs.Truth.{yes_or_no, equation_truth, stated_computed, line_computed}
use Rattle.tcl_lang.proofs.TermFolds.{any_parts}
use Rattle.tcl_lang.proofs.Locality.{outside, all_among, inside, none_outside, size_is}

told : (b : Bool) → yes_or_no b ≢ Wide
told true e = absurd (cc)
told false e = absurd (cc)

plain_told : (b c : Bool) → c ≡ true → cond b (cond c Yes Wide) No ≢ Wide
plain_told true true t e = absurd (cc)
plain_told true false t e = absurd (cc)
plain_told false c t e = absurd (cc)

modulus_told : (w b : Bool) → not w ≡ true → cond w Wide (yes_or_no b) ≢ Wide
modulus_told true b t e = absurd (cc)
modulus_told false b t e = told b e

-- sizes over the types of words are the static sizes, on terms whose names have these types
abbrev HaveTypes : (ℕ → Bool) → List Ty → List Word → Type 0
HaveTypes bad types store = (x : ℕ) → bad x ≡ false → (word_at store x).ty ≡ type_among types x

size_same : (bad : ℕ → Bool) (types : List Ty) (store : List Word) → HaveTypes bad types store → (t : Term) → list_any bad (term_names t) ≡ false → size_in store t ≡ size_of types t
size_same bad types store same t e = size_is bad (type_among types) (λ x. (word_at store x).ty) same t e

equation_told : (bad : ℕ → Bool) (types : List Ty) (store : List Word) (f g : Term) (m : Option (List Part)) → size_in store f ≡ size_of types f → size_in store g ≡ size_of types g → is_narrow_equation types f g m ≡ true → equation_truth store f g m ≢ Wide
equation_told bad types store f g None a b n =
    let same : equation_size store f g ≡ static_size types f g = ap (λ s. min (s + size_in store g) size_end) a ∙ ap (λ s. min (size_of types f + s) size_end) b in
    plain_told _ (nat_lt (equation_size store f g) size_end) (ap (λ s. nat_lt s size_end) same ∙ n)
equation_told bad types store f g (Some m) a b n = modulus_told (is_wide_modulus m) _ n

stated_told : (bad : ℕ → Bool) (types : List Ty) (store : List Word) → HaveTypes bad types store → (s : Option Pred) (i : Option Instr) → list_any bad (stated_names s i) ≡ false → is_narrow_stated types s ≡ true → stated_computed store s i ≢ Wide
stated_told bad types store same (Some (Alg p)) i e n =
    let parts = any_parts bad (term_names p.left) (term_names p.right) e in
    equation_told bad types store p.left p.right p.modulus (size_same bad types store same p.left parts.0) (size_same bad types store same p.right parts.1) n
stated_told bad types store same (Some (Rng p)) i e n = told _
stated_told bad types store same None (Some i) e n = told _
stated_told bad types store same None None e n = λ q. absurd (cc)

pub narrow_told : (types : List Ty) (store : List Word) (l : Line) → is_narrow types l ≡ true → All (λ v. (word_at store v).ty ≡ type_among types v) (used_names l) → line_computed store l ≢ Wide
narrow_told types store l n a =
    stated_told (outside (used_names l)) types store (λ x e. all_among (λ v. (word_at store v).ty ≡ type_among types v) (used_names l) a x (inside (used_names l) x e))
    (predicate_of l) (instruction_of l) (none_outside (used_names l) (used_names l) (λ x e. e)) n
