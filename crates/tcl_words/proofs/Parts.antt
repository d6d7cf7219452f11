-- Small facts that the code of instructions and ranges rests on: literals within the gates, circuits that grow, and types of variables.
use Rattle.std.proofs.Common.{◌≡◌, ℕ, zero, suc, ◌/◌, ◌≤◌, Bool, false, List, [], ◌∷◌, length, map, get_or, set, Some, None, slice_get, refl, sym, ◌∙◌, ap, ap₂, subst, arith}
use Rattle.std.proofs.lemmas.Option.{slice_get_past}
use Rattle.tcl_gates.specs.declared.gate.Gate.{Gate}
use Rattle.tcl_gates.specs.Meaning.{AreWithin, Begins, IsPart}
use Rattle.tcl_gates.proofs.Shown.{begins_trans, part_first, part_second, within_grown}
use Rattle.tcl_lang.specs.declared.ty.Ty.{Ty}
use Rattle.tcl_lang.specs.declared.variable.Variable.{Variable}
use Rattle.tcl_circuits.specs.Wires.{Wires}
use Rattle.tcl_circuits.specs.Circuits.{in_range}
use Rattle.tcl_circuits.proofs.Adders.{adder_begins}
use Rattle.tcl_circuits.proofs.Loops.{difference_begins, range_begins}
use Rattle.tcl_circuits.proofs.Rows.{product_begins}
use Rattle.tcl_words.specs.declared.chain.Chain.{Chain}
use Rattle.tcl_words.specs.declared.chain.Chain.TheVariants.{Sum, Difference}
use Rattle.tcl_words.specs.Chains.{chained}
use Rattle.tcl_words.specs.Instructions.{first_lit, wide_product}
use Rattle.tcl_words.specs.Exactness.{plain, fits}
use Rattle.tcl_lang.specs.Values.{types_of}
use Rattle.tcl_words.specs.Ranges.{AllWithin, atom_lits, atom_ty}
use Rattle.tcl_words.specs.Steps.{operand_lits, operand_ty, set_at, set_words}
use Rattle.tcl_lang.specs.declared.instr.Atom.{Atom}

pub within_first : (n : ℕ) (ls : List ℕ) → AreWithin n ls → first_lit ls / 2 ≤ n
within_first n [] w = omega arith
within_first n (l ∷ ls) w = w.each 0 l refl

pub all_within_grown : (n m : ℕ) (words : List (List ℕ)) → n ≤ m → AllWithin n words → AllWithin m words
all_within_grown n m words h w = record { each = λ v. within_grown n m _ h (w.each v) }

pub all_within_or : (n k : ℕ) (words : List (List ℕ)) → AllWithin n words → AreWithin n (get_or words k [])
all_within_or n k words w = w.each k

pub wide_begins : (gates : List Gate) (signed : Bool) (xs ys : List ℕ) → Begins gates (wide_product gates signed xs ys).gates
wide_begins gates signed xs ys = product_begins gates _ _

pub fits_begins : {gates : List Gate} (signed : Bool) (width : ℕ) (s : Wires) → Begins gates s.gates → Begins gates (fits signed width s).gates
fits_begins signed width s b = begins_trans b (range_begins s.gates signed width s.word)

pub chained_begins : (chain : Chain) (gates : List Gate) (xs ys : List ℕ) (c : ℕ) → Begins gates (chained chain gates xs ys c).gates
chained_begins Sum gates xs ys c = adder_begins gates xs ys c
chained_begins Difference gates xs ys c = difference_begins gates xs ys c

pub chain_range_begins : (chain : Chain) (gates : List Gate) (signed : Bool) (width : ℕ) (xs ys : List ℕ) (c : ℕ) → Begins gates (fits signed width (plain (chained chain gates xs ys c))).gates
chain_range_begins chain gates signed width xs ys c = fits_begins signed width (plain (chained chain gates xs ys c)) (chained_begins chain gates xs ys c)

pub product_range_begins : (gates : List Gate) (signed wide : Bool) (width : ℕ) (xs ys : List ℕ) → Begins gates (fits signed width (wide_product gates wide xs ys)).gates
product_range_begins gates signed wide width xs ys = fits_begins signed width (wide_product gates wide xs ys) (wide_begins gates wide xs ys)

-- a range of a word that was made in part: while the word was made, and while its range was tested
fits_first : {gates now : List Gate} (signed : Bool) (width : ℕ) (s : Wires) → IsPart gates now s.gates → IsPart gates now (fits signed width s).gates
fits_first signed width s p = part_first (range_begins s.gates signed width s.word) p

fits_second : {gates middle now : List Gate} (signed : Bool) (width wide : ℕ) (s : Wires) (word : List ℕ) → Begins gates s.gates → middle ≡ s.gates → word ≡ s.word → IsPart middle now (in_range middle signed wide word).gates → wide ≡ width
    → IsPart gates now (fits signed width s).gates
fits_second {gates} {middle} {now} signed width wide s word b e f p w =
    part_second b
    (subst (λ m. IsPart m now (in_range m signed width s.word).gates) e (subst (λ l. IsPart middle now (in_range middle signed width l).gates) f (subst (λ n. IsPart middle now (in_range middle signed n word).gates) w p)))

pub chain_first : (chain : Chain) (gates now : List Gate) (signed : Bool) (width : ℕ) (xs ys x y : List ℕ) (c : ℕ) → x ≡ xs → y ≡ ys → IsPart gates now (chained chain gates x y c).gates → IsPart gates now (fits signed width (plain (chained chain gates xs ys c))).gates
chain_first chain gates now signed width xs ys x y c e f p = fits_first signed width (plain (chained chain gates xs ys c)) (subst (λ t. IsPart gates now t.gates) (ap₂ (λ p q. chained chain gates p q c) e f) p)

pub chain_second : (chain : Chain) (gates middle now : List Gate) (word : List ℕ) (signed : Bool) (width wide : ℕ) (xs ys x y : List ℕ) (c : ℕ) → x ≡ xs → y ≡ ys → middle ≡ (chained chain gates x y c).gates → word ≡ (chained chain gates x y c).word
    → IsPart middle now (in_range middle signed wide word).gates → wide ≡ width → IsPart gates now (fits signed width (plain (chained chain gates xs ys c))).gates
chain_second chain gates middle now word signed width wide xs ys x y c e f g h p w =
    let same = ap₂ (λ p q. chained chain gates p q c) e f in
    fits_second signed width wide (plain (chained chain gates xs ys c)) word (chained_begins chain gates xs ys c) (g ∙ ap (λ t. t.gates) same) (h ∙ ap (λ t. t.word) same) p w

pub product_first : (gates now : List Gate) (signed : Bool) (width : ℕ) (xs ys : List ℕ) → IsPart gates now (wide_product gates signed xs ys).gates → IsPart gates now (fits signed width (wide_product gates signed xs ys)).gates
product_first gates now signed width xs ys p = fits_first signed width (wide_product gates signed xs ys) p

pub product_second : (gates middle now : List Gate) (word : List ℕ) (signed : Bool) (width wide : ℕ) (xs ys : List ℕ) → middle ≡ (wide_product gates signed xs ys).gates → word ≡ (wide_product gates signed xs ys).word
    → IsPart middle now (in_range middle signed wide word).gates → wide ≡ width → IsPart gates now (fits signed width (wide_product gates signed xs ys)).gates
product_second gates middle now word signed width wide xs ys g h p w = fits_second signed width wide (wide_product gates signed xs ys) word (wide_begins gates signed xs ys) g h p w

-- the type of a variable that there is, and of one that there is not
pub type_found : (variables : List Variable) (k : ℕ) (v : Variable) (d : Ty) → slice_get variables k ≡ Some v → get_or (types_of variables) k d ≡ v.ty
type_found [] k v d e = absurd (none_some e)
  where
    none_some : {v : Variable} → None ≡ Some v → ⊥
    none_some e = cc
type_found (w ∷ variables) zero v d e = ap (λ (x : Variable). x.ty) (some_same e)
  where
    some_same : {w v : Variable} → Some w ≡ Some v → w ≡ v
    some_same e = cc
type_found (w ∷ variables) (suc k) v d e = type_found variables k v d e

pub type_past : (variables : List Variable) (k : ℕ) (d : Ty) → length variables ≤ k → get_or (types_of variables) k d ≡ d
type_past [] k d h = refl
type_past (w ∷ variables) zero d h = absurd (omega arith)
type_past (w ∷ variables) (suc k) d h = type_past variables k d (omega arith)

-- an item of a mapped list that there is, and one that there is not
pub mapped_found : {A B : Type 0} (f : A → B) (xs : List A) (k : ℕ) (x : A) (d : B) → slice_get xs k ≡ Some x → get_or (map f xs) k d ≡ f x
mapped_found f [] k x d e = absurd (none_some e)
  where
    none_some : {A : Type 0} {x : A} → None ≡ Some x → ⊥
    none_some e = cc
mapped_found f (y ∷ xs) zero x d e = ap f (some_same e)
  where
    some_same : {A : Type 0} {x y : A} → Some x ≡ Some y → x ≡ y
    some_same e = cc
mapped_found f (y ∷ xs) (suc k) x d e = mapped_found f xs k x d e

pub mapped_past : {A B : Type 0} (f : A → B) (xs : List A) (k : ℕ) (d : B) → length xs ≤ k → get_or (map f xs) k d ≡ d
mapped_past f [] k d h = refl
mapped_past f (y ∷ xs) zero d h = absurd (omega arith)
mapped_past f (y ∷ xs) (suc k) d h = mapped_past f xs k d (omega arith)

pub operand_found : (words : List (List ℕ)) (atoms : List Atom) (k : ℕ) (atom : Atom) (ls : List ℕ) → slice_get atoms k ≡ Some atom → ls ≡ atom_lits words atom → ls ≡ operand_lits words atoms k
operand_found words atoms k atom ls e f = f ∙ sym (mapped_found (atom_lits words) atoms k atom [] e)

pub operand_past : (words : List (List ℕ)) (atoms : List Atom) (k : ℕ) (ls : List ℕ) → length atoms ≤ k → ls ≡ [] → ls ≡ operand_lits words atoms k
operand_past words atoms k ls h e = e ∙ sym (mapped_past (atom_lits words) atoms k [] h)

pub operand_ty_found : (variables : List Variable) (atoms : List Atom) (k : ℕ) (atom : Atom) (T : Ty) → slice_get atoms k ≡ Some atom → T ≡ atom_ty (types_of variables) atom → T ≡ operand_ty variables atoms k
operand_ty_found variables atoms k atom T e f = f ∙ sym (mapped_found (atom_ty (types_of variables)) atoms k atom (record { signed = false; width = 0 }) e)

pub operand_ty_past : (variables : List Variable) (atoms : List Atom) (k : ℕ) (T : Ty) → length atoms ≤ k → T ≡ record { signed = false; width = 0 } → T ≡ operand_ty variables atoms k
operand_ty_past variables atoms k T h e = e ∙ sym (mapped_past (atom_ty (types_of variables)) atoms k (record { signed = false; width = 0 }) h)

-- results are set one by one
pub set_there : (words now : List (List ℕ)) (outs : List ℕ) (k v : ℕ) (ls : List ℕ) → slice_get outs k ≡ Some v → now ≡ set words v ls → now ≡ set_at words (slice_get outs k) ls
set_there words now outs k v ls e f = f ∙ ap (λ o. set_at words o ls) (sym e)

pub set_nowhere : (words now : List (List ℕ)) (outs : List ℕ) (k : ℕ) (ls : List ℕ) → length outs ≤ k → now ≡ words → now ≡ set_at words (slice_get outs k) ls
set_nowhere words now outs k ls h f = f ∙ ap (λ o. set_at words o ls) (sym (slice_get_past outs k h))

one_set : (words : List (List ℕ)) (outs : List ℕ) (ls : List ℕ) → set_at words (slice_get outs 0) ls ≡ set_words words outs (ls ∷ [])
one_set words [] ls = refl
one_set words (v ∷ []) ls = refl
one_set words (v ∷ w ∷ outs) ls = refl

two_set : (words : List (List ℕ)) (outs : List ℕ) (ls ms : List ℕ) → set_at (set_at words (slice_get outs 0) ls) (slice_get outs 1) ms ≡ set_words words outs (ls ∷ ms ∷ [])
two_set words [] ls ms = refl
two_set words (v ∷ []) ls ms = refl
two_set words (v ∷ w ∷ []) ls ms = refl
two_set words (v ∷ w ∷ x ∷ outs) ls ms = refl

pub set_one : (words now : List (List ℕ)) (outs : List ℕ) (ls : List ℕ) → now ≡ set_at words (slice_get outs 0) ls → now ≡ set_words words outs (ls ∷ [])
set_one words now outs ls e = e ∙ one_set words outs ls

pub set_two : (words middle now : List (List ℕ)) (outs : List ℕ) (ls ms : List ℕ) → middle ≡ set_at words (slice_get outs 0) ls → now ≡ set_at middle (slice_get outs 1) ms → now ≡ set_words words outs (ls ∷ ms ∷ [])
set_two words middle now outs ls ms e f = f ∙ ap (λ ws. set_at ws (slice_get outs 1) ms) e ∙ two_set words outs ls ms
