-- Lists of words of literals that are within the gates.
use Rattle.std.proofs.Common.{◌≡◌, ℕ, zero, suc, List, [], ◌∷◌, ◌++◌, get_or, length, map, refl, ap, ◌∙◌, false}
use Rattle.std.proofs.lemmas.List.{map_push}
use Rattle.std.specs.List.{slice_index_or}
use Rattle.tcl_lang.specs.declared.instr.Atom.{Atom}
use Rattle.tcl_lang.specs.declared.variable.Variable.{Variable}
use Rattle.tcl_lang.specs.Values.{types_of}
use Rattle.tcl_words.specs.Stores.{HaveWidths}
use Rattle.tcl_gates.specs.Meaning.{AreWithin}
use Rattle.tcl_gates.proofs.Shown.{within_none}
use Rattle.tcl_words.specs.Ranges.{AllWithin}

pub all_within_none : (n : ℕ) → AllWithin n []
all_within_none n = record { each = λ v. within_none n }

push_each : (n : ℕ) (words : List (List ℕ)) (ls : List ℕ) → ((v : ℕ) → AreWithin n (get_or words v [])) → AreWithin n ls
    → (v : ℕ) → AreWithin n (get_or (words ++ ls ∷ []) v [])
push_each n [] ls w h zero = h
push_each n [] ls w h (suc v) = within_none n
push_each n (word ∷ words) ls w h zero = w 0
push_each n (word ∷ words) ls w h (suc v) = push_each n words ls (λ k. w (suc k)) h v

pub all_within_push : (n : ℕ) (words : List (List ℕ)) (ls : List ℕ) → AllWithin n words → AreWithin n ls
    → AllWithin n (words ++ ls ∷ [])
all_within_push n words ls w h = record { each = push_each n words ls w.each h }

-- a list of words of these widths with one word more
pub widths_push : (words : List (List ℕ)) (ls : List ℕ) (widths : List ℕ) (n : ℕ) → map length words ≡ widths → length ls ≡ n
    → map length (words ++ ls ∷ []) ≡ widths ++ n ∷ []
widths_push words ls widths n h e = map_push length words ls ∙ ap (λ ws. ws ++ length ls ∷ []) h ∙ ap (λ k. widths ++ k ∷ []) e

head_same : (m n : ℕ) (ms ns : List ℕ) → m ∷ ms ≡ n ∷ ns → m ≡ n
head_same m n ms ns e = cc

tail_same : (m n : ℕ) (ms ns : List ℕ) → m ∷ ms ≡ n ∷ ns → ms ≡ ns
tail_same m n ms ns e = cc

none_some : (n : ℕ) (ns : List ℕ) → [] ≡ n ∷ ns → ⊥
none_some n ns e = absurd (cc)

some_none : (n : ℕ) (ns : List ℕ) → n ∷ ns ≡ [] → ⊥
some_none n ns e = absurd (cc)

-- each word is as wide as its variable, also where there is none
width_at : (words : List (List ℕ)) (variables : List Variable) → map length words ≡ map (λ x. x.ty.width) variables → (v : ℕ)
    → length (slice_index_or words v []) ≡ (slice_index_or (types_of variables) v (record { signed = false; width = 0 })).width
width_at [] [] h v = refl
width_at [] (x ∷ xs) h v = absurd (none_some _ _ h)
width_at (ls ∷ words) [] h v = absurd (some_none _ _ h)
width_at (ls ∷ words) (x ∷ xs) h zero = head_same _ _ _ _ h
width_at (ls ∷ words) (x ∷ xs) h (suc v) = width_at words xs (tail_same _ _ _ _ h) v

-- so the operands of every line are
pub have_widths : (words : List (List ℕ)) (variables : List Variable) (atoms : List Atom) → map length words ≡ map (λ x. x.ty.width) variables
    → HaveWidths words variables atoms
have_widths words variables atoms h = record { each = λ k v e. width_at words variables h v }
