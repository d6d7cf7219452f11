-- A name's number is its place among the keys of a set.
use Rattle.std.proofs.Common.{◌≡◌, ℕ, ◌+◌, Bool, true, false, not, ◌||◌, cond, List, [], ◌∷◌, ◌++◌, map, refl, ap, ◌∙◌}
use Rattle.std.specs.Prelude.{if◌then◌else◌, bytes_eq, Vec}
use Rattle.std.specs.List.{prefix_len, position_or_len, list_any}
use Rattle.tcl_text.specs.Numbering.{number_of, with_name}

prefix_len-map : {X Y : Type 0} (f : X → Y) (p : Y → Bool) (xs : List X) → prefix_len (λ x. p (f x)) xs ≡ prefix_len p (map f xs)
prefix_len-map f p [] = refl
prefix_len-map f p (x ∷ xs) = ap (λ n. cond (p (f x)) (1 + n) 0) (prefix_len-map f p xs)

list_any-map : {X Y : Type 0} (f : X → Y) (p : Y → Bool) (xs : List X) → list_any (λ x. p (f x)) xs ≡ list_any p (map f xs)
list_any-map f p [] = refl
list_any-map f p (x ∷ xs) = ap (λ b. p (f x) || b) (list_any-map f p xs)

map_push : {X Y : Type 0} (f : X → Y) (xs : List X) (x : X) → map f (xs ++ x ∷ []) ≡ map f xs ++ f x ∷ []
map_push f [] x = refl
map_push f (y ∷ xs) x = ap (λ ys. f y ∷ ys) (map_push f xs x)

pub number_in : {Z : Type 0} (keys : List (Vec ℕ Z)) (name : List ℕ) →
    position_or_len (λ k. bytes_eq name k.items) keys ≡ number_of (map (λ k. k.items) keys) name
number_in keys name = prefix_len-map (λ k. k.items) (λ n. not (bytes_eq name n)) keys

chosen : {X Y : Type 0} (f : X → Y) (b : Bool) (x y : X) → f (if b then x else y) ≡ (if b then f x else f y)
chosen f true x y = refl
chosen f false x y = refl

pub with_key : {Z : Type 0} (keys : List (Vec ℕ Z)) (name : Vec ℕ Z) →
    map (λ k. k.items) (if list_any (λ k. bytes_eq name.items k.items) keys then keys else keys ++ name ∷ [])
    ≡ with_name (map (λ k. k.items) keys) name.items
with_key keys name =
    chosen (map (λ k. k.items)) (list_any (λ k. bytes_eq name.items k.items) keys) keys (keys ++ name ∷ [])
    ∙ (ap (λ b. if b then map (λ k. k.items) keys else map (λ k. k.items) (keys ++ name ∷ [])) (list_any-map (λ k. k.items) (bytes_eq name.items) keys)
    ∙ ap (λ ks. if list_any (bytes_eq name.items) (map (λ k. k.items) keys) then map (λ k. k.items) keys else ks) (map_push (λ k. k.items) keys name))
