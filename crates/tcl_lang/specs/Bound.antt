-- Static bounds of an algebraic term: how great its coefficients, its degree, its number of monomials and its values can
-- be. A power 0 counts as the number 1. Bounds are exact numbers here; what is computed stays at a stated end.
use Rattle.std.specs.Prelude.{ℕ, ◌+◌, ◌-◌, ◌*◌, ◌^◌, min, max, unsigned_abs, if◌then◌else◌, List, slice_index_or}
use Rattle.tcl_lang.specs.declared.ty.Ty.{Ty}
use Rattle.tcl_lang.specs.declared.ty.Word.{Word}
use Rattle.tcl_lang.specs.declared.term.Term.{Term, Term-F, fold-Term}
use Rattle.tcl_lang.specs.declared.term.Term.TheOpen as layer
use Rattle.tcl_lang.specs.Store.{empty_word, word_at}

-- where a norm, a count (of a degree or of monomials) and a size stand still
abbrev pub norm_end : ℕ
norm_end = 2 ^ 127

abbrev pub count_end : ℕ
count_end = 2 ^ 32 - 1

abbrev pub size_end : ℕ
size_end = 2 ^ 126

-- norm: the sum of the magnitudes of the coefficients is at most this
abbrev pub norm_step : Term-F ℕ → ℕ
norm_step (layer.Var name) = 1
norm_step (layer.Num n) = unsigned_abs n
norm_step (layer.Neg t) = t
norm_step (layer.Add t u) = t + u
norm_step (layer.Sub t u) = t + u
norm_step (layer.Mul t u) = t * u
norm_step (layer.Pow t k) = t ^ k

abbrev pub norm_of : Term → ℕ
norm_of t = fold-Term ℕ norm_step t

-- degree
abbrev pub degree_step : Term-F ℕ → ℕ
degree_step (layer.Var name) = 1
degree_step (layer.Num n) = 0
degree_step (layer.Neg t) = t
degree_step (layer.Add t u) = max t u
degree_step (layer.Sub t u) = max t u
degree_step (layer.Mul t u) = t + u
degree_step (layer.Pow t k) = t * k

abbrev pub degree_of : Term → ℕ
degree_of t = fold-Term ℕ degree_step t

-- the number of monomials
abbrev pub terms_step : Term-F ℕ → ℕ
terms_step (layer.Var name) = 1
terms_step (layer.Num n) = 1
terms_step (layer.Neg t) = t
terms_step (layer.Add t u) = t + u
terms_step (layer.Sub t u) = t + u
terms_step (layer.Mul t u) = t * u
terms_step (layer.Pow t k) = t ^ k

abbrev pub terms_of : Term → ℕ
terms_of t = fold-Term ℕ terms_step t

-- the greatest magnitude of a value of a type
abbrev pub greatest_magnitude : Ty → ℕ
greatest_magnitude T = if T.signed then 2 ^ (T.width - 1) else 2 ^ T.width - 1

-- size: the magnitude of the value is at most this, where each name has a value of its type
abbrev pub size_step : (ℕ → Ty) → Term-F ℕ → ℕ
size_step type_of (layer.Var name) = greatest_magnitude (type_of name)
size_step type_of (layer.Num n) = unsigned_abs n
size_step type_of (layer.Neg t) = t
size_step type_of (layer.Add t u) = t + u
size_step type_of (layer.Sub t u) = t + u
size_step type_of (layer.Mul t u) = t * u
size_step type_of (layer.Pow t k) = t ^ k

abbrev pub size_over : (ℕ → Ty) → Term → ℕ
size_over type_of t = fold-Term ℕ (size_step type_of) t

-- the type of a variable in a list of types; that of the empty word where there is none
abbrev pub type_among : List Ty → ℕ → Ty
type_among types v = slice_index_or types v empty_word.ty

-- over a list of types by variable, and over the types of the words of a store
abbrev pub size_of : List Ty → Term → ℕ
size_of types t = size_over (type_among types) t

abbrev pub size_in : List Word → Term → ℕ
size_in store t = size_over (λ name. (word_at store name).ty) t

-- an equation's norm, monomials and size are the sums of both sides, its degree the greater; each stands still at its end
abbrev pub equation_norm : Term → Term → ℕ
equation_norm f g = min (norm_of f + norm_of g) norm_end

abbrev pub equation_degree : Term → Term → ℕ
equation_degree f g = min (max (degree_of f) (degree_of g)) count_end

abbrev pub equation_terms : Term → Term → ℕ
equation_terms f g = min (terms_of f + terms_of g) count_end

abbrev pub equation_size : List Word → Term → Term → ℕ
equation_size store f g = min (size_in store f + size_in store g) size_end

-- the size over a list of types by variable
abbrev pub static_size : List Ty → Term → Term → ℕ
static_size types f g = min (size_of types f + size_of types g) size_end
