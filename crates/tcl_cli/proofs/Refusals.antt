-- The words that `clap` refuses.
use Rattle.std.proofs.Common.{◌≡◌, ◌∙◌, ℕ, Bool, true, false, refl, sym, ap, List, [], ◌∷◌, Option, Some, None, true≢false}
use Rattle.std.specs.Prelude.{◌==◌, if◌then◌else◌, is_some, option_and_then, slice_get, unwrap_or}
use Rattle.std.specs.Str.{bytes_eq, chars}
use Rattle.clap.specs.Lexer.{long_of, short_of, short_of_rest, strip_byte}
use Rattle.clap.specs.Walk.{Held, Text, arg_by_id, arg_by_long, bundle_met, has_row, settled, walk_from, walked}
use Rattle.clap.specs.Faults.{flags_fault, react_fault, settle_fault, turn_fault, use_fault}
use Rattle.clap.specs.Kinds.{Kinds, or_else}
use Rattle.clap.specs.declared.error.kind.ErrorKind.{ErrorKind}
use Rattle.clap.specs.declared.error.kind.ErrorKind.TheVariants.{ArgumentConflict, InvalidValue, TooManyValues, UnknownArgument}
use Rattle.tcl_cli.proofs.Names.{flag_rule, value_rule}
use Rattle.tcl_cli.proofs.Steps.{opened, rules_of_tool, shape}

-- a list is empty; `length xs == 0` does not compute at a first item
abbrev is_nil : {X : Type 0} → List X → Bool
is_nil [] = true
is_nil (x ∷ xs) = false

pub fails : (ks : Kinds) (k : ErrorKind) → ks ≡ k ∷ [] → ks ≡ [] → ⊥
fails ks k e none = true≢false (sym (ap is_nil (sym e ∙ none)))

pub first_none : (a b : Kinds) → or_else a b ≡ [] → a ≡ []
first_none [] b e = refl
first_none (k ∷ ks) b e = e

pub then_none : (a b : Kinds) → or_else a b ≡ [] → b ≡ []
then_none [] b e = e
then_none (k ∷ ks) b e = absurd (true≢false (sym (ap is_nil e)))

-- ---- no option waits

pub unknown_fails : (h : Held) (name word : Text) (v : Option Text) → bytes_eq word (45 ∷ 45 ∷ []) ≡ false → long_of word ≡ Some (name, v)
    → arg_by_long rules_of_tool name ≡ None → turn_fault shape [] (walk_from h) word ≡ UnknownArgument ∷ []
unknown_fails h name word v other long found = rw (other, long, found) refl

plain_fails : (h : Held) (word : Text) → bytes_eq word (45 ∷ 45 ∷ []) ≡ false → long_of word ≡ None → short_of word ≡ None
    → turn_fault shape [] (walk_from h) word ≡ UnknownArgument ∷ []
plain_fails h word other long short = rw (other, long, short) refl

short_fails : (h : Held) (word : Text) (x : ℕ) (xs : Text) → bytes_eq word (45 ∷ 45 ∷ []) ≡ false → long_of word ≡ None → short_of word ≡ Some (x ∷ xs) → h.skip ≡ 0
    → (o : Option ℕ) → slice_get (chars (x ∷ xs)) 0 ≡ o → turn_fault shape [] (walk_from h) word ≡ UnknownArgument ∷ []
unfolding flags_fault bundle_met
short_fails h word x xs other long short skip (Some y) at = rw (other, long, short, skip, at) refl
short_fails h word x xs other long short skip None at = rw (other, long, short, skip, at) refl

-- what follows the hyphen of a short option is not empty
rest_cons : (rest : Text) → short_of_rest rest ≡ Some [] → ⊥
rest_cons [] e = true≢false (sym (ap is_some e))
rest_cons (x ∷ xs) e = by_case (x == 45) e
  where
    by_case : (b : Bool) → (if b then None else Some (x ∷ xs)) ≡ Some [] → ⊥
    by_case true e = true≢false (sym (ap is_some e))
    by_case false e = true≢false (sym (ap (λ o. is_nil (unwrap_or o [])) e))

pub short_cons : (word : Text) → short_of word ≡ Some [] → ⊥
short_cons word e = by_option (strip_byte 45 word) e
  where
    by_option : (o : Option Text) → option_and_then short_of_rest o ≡ Some [] → ⊥
    by_option None e = true≢false (sym (ap is_some e))
    by_option (Some rest) e = rest_cons rest e

pub stray_fails : (h : Held) (word : Text) (s : Option Text) → bytes_eq word (45 ∷ 45 ∷ []) ≡ false → long_of word ≡ None → short_of word ≡ s → h.skip ≡ 0
    → turn_fault shape [] (walk_from h) word ≡ UnknownArgument ∷ []
stray_fails h word None other long short skip = plain_fails h word other long short
stray_fails h word (Some []) other long short skip = absurd (short_cons word short)
stray_fails h word (Some (x ∷ xs)) other long short skip = short_fails h word x xs other long short skip (slice_get (chars (x ∷ xs)) 0) refl

pub attached_is : (h : Held) (name v word : Text) → bytes_eq word (45 ∷ 45 ∷ []) ≡ false → long_of word ≡ Some (name, Some v)
    → arg_by_long rules_of_tool name ≡ Some (value_rule name)
    → turn_fault shape [] (walk_from h) word ≡ or_else (react_fault rules_of_tool false (value_rule name) (v ∷ []) h) []
attached_is h name v word other long found = rw (other, long, found) refl

pub opened_is : (h : Held) (name word : Text) → bytes_eq word (45 ∷ 45 ∷ []) ≡ false → long_of word ≡ Some (name, None)
    → arg_by_long rules_of_tool name ≡ Some (value_rule name) → turn_fault shape [] (walk_from h) word ≡ or_else (settle_fault rules_of_tool false h) []
opened_is h name word other long found = rw (other, long, found) refl

pub flag_is : (h : Held) (name word : Text) → bytes_eq word (45 ∷ 45 ∷ []) ≡ false → long_of word ≡ Some (name, None)
    → arg_by_long rules_of_tool name ≡ Some (flag_rule name)
    → turn_fault shape [] (walk_from h) word ≡ or_else (react_fault rules_of_tool false (flag_rule name) [] h) []
flag_is h name word other long found = rw (other, long, found) refl

pub valued_flag_fails : (h : Held) (name v word : Text) → bytes_eq word (45 ∷ 45 ∷ []) ≡ false → long_of word ≡ Some (name, Some v)
    → arg_by_long rules_of_tool name ≡ Some (flag_rule name) → turn_fault shape [] (walk_from h) word ≡ TooManyValues ∷ []
valued_flag_fails h name v word other long found = rw (other, long, found) refl

-- a second use
pub use_fresh : (h : Held) (name v : Text) (b : Bool) → has_row name (settled rules_of_tool h).rows ≡ b
    → use_fault false (value_rule name) (v ∷ []) (settled rules_of_tool h).rows ≡ [] → b ≡ false
use_fresh h name v true e none = absurd (fails _ ArgumentConflict (rw e refl) none)
use_fresh h name v false e none = refl

pub flag_fresh : (h : Held) (name : Text) (b : Bool) → has_row name (settled rules_of_tool h).rows ≡ b
    → use_fault false (flag_rule name) [] (settled rules_of_tool h).rows ≡ [] → b ≡ false
flag_fresh h name true e none = absurd (fails _ ArgumentConflict (rw e refl) none)
flag_fresh h name false e none = refl

pub pending_fresh : (h : Held) (name v : Text) → arg_by_id rules_of_tool name ≡ Some (value_rule name) → (b : Bool) → has_row name h.rows ≡ b
    → settle_fault rules_of_tool false (record h { pending = Some (name, v ∷ []) }) ≡ [] → b ≡ false
pending_fresh h name v found true e none = absurd (fails _ ArgumentConflict (rw (found, e) refl) none)
pending_fresh h name v found false e none = refl

-- ---- an option waits

pub end_fails : (h : Held) (name : Text) → arg_by_id rules_of_tool name ≡ Some (value_rule name) → settle_fault rules_of_tool false (opened h name).held ≡ InvalidValue ∷ []
end_fails h name found = rw found refl

pub waits_unknown_fails : (h : Held) (name next word : Text) (v : Option Text) → bytes_eq word (45 ∷ 45 ∷ []) ≡ false → long_of word ≡ Some (next, v)
    → arg_by_long rules_of_tool next ≡ None → turn_fault shape [] (opened h name) word ≡ UnknownArgument ∷ []
waits_unknown_fails h name next word v other long found = rw (other, long, found) refl

pub waits_known_fails : (h : Held) (name next word : Text) (v : Option Text) → bytes_eq word (45 ∷ 45 ∷ []) ≡ false → long_of word ≡ Some (next, v)
    → arg_by_long rules_of_tool next ≡ Some (value_rule next) → arg_by_id rules_of_tool name ≡ Some (value_rule name)
    → turn_fault shape [] (opened h name) word ≡ InvalidValue ∷ []
waits_known_fails h name next word None other long found own = rw (other, long, found, own) refl
waits_known_fails h name next word (Some v) other long found own = rw (other, long, found, own) refl

pub waits_flag_fails : (h : Held) (name next word : Text) → bytes_eq word (45 ∷ 45 ∷ []) ≡ false → long_of word ≡ Some (next, None)
    → arg_by_long rules_of_tool next ≡ Some (flag_rule next) → arg_by_id rules_of_tool name ≡ Some (value_rule name)
    → turn_fault shape [] (opened h name) word ≡ InvalidValue ∷ []
waits_flag_fails h name next word other long found own = rw (other, long, found, own) refl

pub waits_valued_flag_fails : (h : Held) (name next v word : Text) → bytes_eq word (45 ∷ 45 ∷ []) ≡ false → long_of word ≡ Some (next, Some v)
    → arg_by_long rules_of_tool next ≡ Some (flag_rule next) → turn_fault shape [] (opened h name) word ≡ TooManyValues ∷ []
waits_valued_flag_fails h name next v word other long found = rw (other, long, found) refl

pub waits_short_fails : (h : Held) (name word : Text) (x : ℕ) (xs : Text) → bytes_eq word (45 ∷ 45 ∷ []) ≡ false → long_of word ≡ None → short_of word ≡ Some (x ∷ xs) → h.skip ≡ 0
    → (y : ℕ) → slice_get (chars (x ∷ xs)) 0 ≡ Some y → turn_fault shape [] (opened h name) word ≡ UnknownArgument ∷ []
unfolding flags_fault bundle_met
waits_short_fails h name word x xs other long short skip y at = rw (other, long, short, skip, at) refl

pub waits_short_walk : (h : Held) (name word : Text) (x : ℕ) (xs : Text) → bytes_eq word (45 ∷ 45 ∷ []) ≡ false → long_of word ≡ None → short_of word ≡ Some (x ∷ xs)
    → slice_get (chars (x ∷ xs)) 0 ≡ None → arg_by_id rules_of_tool name ≡ Some (value_rule name) → bytes_eq name name ≡ true
    → walked rules_of_tool [] (opened h name) word ≡ walk_from (record h { pending = Some (name, word ∷ []); skip = 0 })
unfolding walked bundle_met
waits_short_walk h name word x xs other long short at found same = rw (other, long, short, at, found, same) refl
