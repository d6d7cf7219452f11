-- The assignment that values of the clauses give meets what the clauses say of hypotheses, cube and claim.
use Rattle.std.proofs.Common.{◌≡◌, inl, inr, ℕ, suc, ◌<◌, Bool, true, false, not, ◌||◌, List, [], ◌∷◌, length, map, get_or, filter_map, refl, sym, ◌∙◌, ap, ap₂, arith}
use Rattle.std.specs.Option.{option_to_list}
use Rattle.std.proofs.lemmas.Bool.{and_from, cases_lt}
use Rattle.tcl_cnf.specs.Literal.{neg, literal_true}
use Rattle.tcl_cnf.specs.Clause.{clause_of, clause_true, Satisfies}
use Rattle.tcl_cnf.proofs.Bools.{or-false}
use Rattle.tcl_cnf.proofs.Truth.{neg_true, kept, kept_true}
use Rattle.tcl_gates.specs.declared.gate.Gate.{Gate}
use Rattle.tcl_gates.specs.Gates.{AreGates, free_of, clauses_behind}
use Rattle.tcl_gates.specs.Meaning.{lit_bit, Begins, ShowsBit}
use Rattle.tcl_gates.proofs.Shown.{begins_trans, within_grown}
use Rattle.tcl_circuits.specs.Wires.{Wire}
use Rattle.tcl_lang.specs.declared.instr.Atom.{Atom}
use Rattle.tcl_lang.specs.declared.instr.Atom.TheVariants.{Var}
use Rattle.tcl_lang.specs.Names.{name_of}
use Rattle.tcl_lang.specs.Values.{types_of}
use Rattle.tcl_lang.specs.Defined.{is_among}
use Rattle.tcl_goals.specs.declared.fact.BitLit.{BitLit}
use Rattle.tcl_goals.specs.Holds.{bit_holds, clause_holds, cube_holds}
use Rattle.tcl_words.specs.Ranges.{AllWithin, atom_ty}
use Rattle.tcl_words.specs.Stores.{ShowsVariable, ShowsOperands}
use Rattle.tcl_blast.specs.declared.blasted.Blasted.{Blasted}
use Rattle.tcl_blast.specs.Blasted.{grown, with_clause, with_unit, stated, denied, bit_lit, with_bit, without_bit, with_bits, without_bits}
use Rattle.tcl_blast.proofs.GateOrder.{Grows, LitMade, grows_length}
use Rattle.tcl_blast.proofs.Members.{named_atom}
use Rattle.tcl_blast.proofs.ReadBits.{IsReadable, AreReadable, literal_at, past_item}
use Rattle.tcl_blast.proofs.Countermodels.{past_empty}
use Rattle.tcl_blast.proofs.Facts.{known_by}
use Rattle.tcl_blast.proofs.Stages.{IsFull, grown_full, clause_full, left_met, right_met}
use Rattle.tcl_blast.proofs.Models.{literal_is, variable_is}
use Rattle.tcl_blast.proofs.ModelUses.{Setting, IsSet, store_in}

-- the known variables have their literals at the end, as many as their types have bits
abbrev pub SizedKnown : Setting → Type 0
SizedKnown x = (u : ℕ) → known_by x.program x.lemmas x.fact x.fact.uses u ≡ true → length (get_or x.final u []) ≡ (atom_ty (types_of x.program.variables) (Var u)).width

-- a state behind the used instructions
pub record IsPost (x : Setting) (t : Blasted) : Type 0 where
  pub words : t.words ≡ x.final
  pub within : AllWithin (length t.gates) t.words
  pub ordered : AreGates t.gates
  pub full : IsFull t

-- what is made behind it is met
pub record IsReached (x : Setting) (t : Blasted) : Type 0 where
  pub begins : Begins t.gates x.all
  pub met : Satisfies x.v t.clauses

pub grown_post : (x : Setting) (t : Blasted) (gates : List Gate) → Grows t.gates gates → IsPost x t → IsPost x (grown t gates t.words)
grown_post x t gates g p = record {
  words = p.words;
  within = record { each = λ u. within_grown _ _ _ (grows_length g) (p.within.each u) };
  ordered = g.ordered p.ordered;
  full = grown_full t gates t.words g.begins p.full;
}

pub clause_post : (x : Setting) (t : Blasted) (ls : List ℕ) → IsPost x t → IsPost x (with_clause t ls)
clause_post x t ls p = record { words = p.words; within = p.within; ordered = p.ordered; full = clause_full t ls p.full }

-- a clause of literals
pub clause_back : (x : Setting) (t : Blasted) (ls : List ℕ) → IsReached x (with_clause t ls) → IsReached x t × (clause_true x.v ls ≡ true)
clause_back x t ls r = (
  record { begins = r.begins; met = left_met x.v t.clauses (option_to_list (clause_of ls)) r.met },
  sym (kept_true x.v ls) ∙ right_met x.v t.clauses (kept ls) r.met,
)

pub unit_back : (x : Setting) (t : Blasted) (l : ℕ) → IsReached x (with_unit t l) → IsReached x t × (literal_true x.v l ≡ true)
unit_back x t l r = let b = clause_back x t (l ∷ []) r in (b.0, sym (or-false (literal_true x.v l)) ∙ b.1)

-- a literal that a circuit gave
made_back : (x : Setting) (t : Blasted) (w : Wire) (l : ℕ) → LitMade t.gates w → IsReached x (with_unit (grown t w.gates t.words) l) → IsReached x t × (Begins w.gates x.all) × (literal_true x.v l ≡ true)
made_back x t w l m r =
    let u = unit_back x (grown t w.gates t.words) l r in
    (record { begins = begins_trans m.grows.begins r.begins; met = left_met x.v t.clauses (clauses_behind (length t.gates) w.gates) u.0.met }, r.begins, u.1)

pub stated_back : (x : Setting) (t : Blasted) (w : Wire) → IsSet x → LitMade t.gates w → IsReached x (stated t w) → IsReached x t × (lit_bit w.gates (free_of x.v x.all) w.lit ≡ true)
stated_back x t w e m r =
    let b = made_back x t w w.lit m r in
    (b.0, literal_is x.v w.gates x.all w.lit e.ordered e.met b.1 m.lit ∙ b.2)

twice : (b c : Bool) → not b ≡ c → c ≡ true → b ≡ false
twice true c e f = absurd (cc)
twice false c e f = refl

pub denied_back : (x : Setting) (t : Blasted) (w : Wire) → IsSet x → LitMade t.gates w → IsReached x (denied t w) → IsReached x t × (lit_bit w.gates (free_of x.v x.all) w.lit ≡ false)
denied_back x t w e m r =
    let b = made_back x t w (neg w.lit) m r in
    (b.0, literal_is x.v w.gates x.all w.lit e.ordered e.met b.1 m.lit ∙ twice (literal_true x.v w.lit) (literal_true x.v (neg w.lit)) (sym (neg_true x.v w.lit)) b.2)

-- what the known variables show there
pub post_shows : (x : Setting) (t : Blasted) → IsSet x → SizedKnown x → IsPost x t → IsReached x t → (u : ℕ) → known_by x.program x.lemmas x.fact x.fact.uses u ≡ true → u < length x.program.variables
    → ShowsVariable t.gates (free_of x.v x.all) t.words x.program.variables (store_in x) u
post_shows x t e sized p r u kn less =
    let same : get_or t.words u [] ≡ get_or x.final u [] = ap (λ (ws : List (List ℕ)). get_or ws u []) p.words in
    variable_is x.v t.gates x.all x.program.variables x.final t.words u e.ordered e.met r.begins e.count e.typed less same (p.within.each u) (ap length same ∙ sized u kn)

pub post_operands : (x : Setting) (t : Blasted) (atoms : List Atom) → IsSet x → SizedKnown x → IsPost x t → IsReached x t
    → ((u : ℕ) → is_among (filter_map name_of atoms) u ≡ true → (known_by x.program x.lemmas x.fact x.fact.uses u ≡ true) × (u < length x.program.variables))
    → ShowsOperands t.gates (free_of x.v x.all) t.words x.program.variables (store_in x) atoms
post_operands x t atoms e sized p r h = record { each = λ k u f. let m = h u (named_atom atoms k u f) in post_shows x t e sized p r u m.0 m.1 }

-- the literal of a bit
bit_shows : (x : Setting) (t : Blasted) (b : BitLit) → IsSet x → SizedKnown x → IsPost x t → IsReached x t → IsReadable x.program.variables (known_by x.program x.lemmas x.fact x.fact.uses) b.var
    → ShowsBit t.gates (free_of x.v x.all) (bit_lit t.words b) (bit_holds (store_in x) b)
bit_shows x t b e sized p r readable = elim (cases_lt b.var (length x.program.variables)) [
  | inl less ↦ elim readable [
    | inl kn ↦ literal_at t.gates (free_of x.v x.all) t.words x.program.variables (store_in x) b (inl (post_shows x t e sized p r b.var kn less))
    | inr more ↦ absurd (omega (arith, less, more))
  ]
  | inr more ↦
      literal_at t.gates (free_of x.v x.all) t.words x.program.variables (store_in x) b
      (inr (ap (λ (ws : List (List ℕ)). get_or ws b.var []) p.words ∙ past_item x.final b.var (omega (arith, more, e.count)), past_empty x.program.variables _ b.var more))
]

bit_is : (x : Setting) (t : Blasted) (b : BitLit) → IsSet x → SizedKnown x → IsPost x t → IsReached x t → IsReadable x.program.variables (known_by x.program x.lemmas x.fact x.fact.uses) b.var
    → literal_true x.v (bit_lit t.words b) ≡ bit_holds (store_in x) b
bit_is x t b e sized p r readable =
    let s = bit_shows x t b e sized p r readable in
    sym (literal_is x.v t.gates x.all (bit_lit t.words b) e.ordered e.met r.begins s.within) ∙ s.value

-- bits that have their values
pub bits_back : (x : Setting) (t : Blasted) (bits : List BitLit) → IsSet x → SizedKnown x → IsPost x t → AreReadable x.program.variables (known_by x.program x.lemmas x.fact x.fact.uses) bits → IsReached x (with_bits t bits)
    → IsReached x t × (cube_holds (store_in x) bits ≡ true)
bits_back x t [] e sized p readable r = (r, refl)
bits_back x t (b ∷ bits) e sized p readable r =
    let rest = bits_back x (with_bit t b) bits e sized (clause_post x t (bit_lit t.words b ∷ []) p) (λ n c f. readable (suc n) c f) r in
    let here = unit_back x t (bit_lit t.words b) rest.0 in
    (here.0, and_from (bit_holds (store_in x) b) (cube_holds (store_in x) bits) (sym (bit_is x t b e sized p here.0 (readable 0 b refl)) ∙ here.1) rest.1)

-- bits of which none has its value
neither : (b c : Bool) → b ≡ false → c ≡ false → (b || c) ≡ false
neither true c e f = absurd (cc)
neither false c e f = f

pub denied_bits_back : (x : Setting) (t : Blasted) (bits : List BitLit) → IsSet x → SizedKnown x → IsPost x t → AreReadable x.program.variables (known_by x.program x.lemmas x.fact x.fact.uses) bits → IsReached x (without_bits t bits)
    → IsReached x t × (clause_holds (store_in x) bits ≡ false)
denied_bits_back x t [] e sized p readable r = (r, refl)
denied_bits_back x t (b ∷ bits) e sized p readable r =
    let rest = denied_bits_back x (without_bit t b) bits e sized (clause_post x t (neg (bit_lit t.words b) ∷ []) p) (λ n c f. readable (suc n) c f) r in
    let here = unit_back x t (neg (bit_lit t.words b)) rest.0 in (
      here.0,
      neither (bit_holds (store_in x) b) (clause_holds (store_in x) bits)
          (sym (bit_is x t b e sized p here.0 (readable 0 b refl)) ∙ twice (literal_true x.v (bit_lit t.words b)) (literal_true x.v (neg (bit_lit t.words b))) (sym (neg_true x.v (bit_lit t.words b))) here.1) rest.1,
    )

-- a lemma's clause
clause_same : (x : Setting) (t : Blasted) (bits : List BitLit) → IsSet x → SizedKnown x → IsPost x t → IsReached x t → AreReadable x.program.variables (known_by x.program x.lemmas x.fact x.fact.uses) bits
    → clause_true x.v (map (bit_lit t.words) bits) ≡ clause_holds (store_in x) bits
clause_same x t [] e sized p r readable = refl
clause_same x t (b ∷ bits) e sized p r readable = ap₂ (λ y z. y || z) (bit_is x t b e sized p r (readable 0 b refl)) (clause_same x t bits e sized p r (λ n c f. readable (suc n) c f))

pub lemma_back : (x : Setting) (t : Blasted) (bits : List BitLit) → IsSet x → SizedKnown x → IsPost x t → AreReadable x.program.variables (known_by x.program x.lemmas x.fact x.fact.uses) bits
    → IsReached x (with_clause t (map (bit_lit t.words) bits)) → IsReached x t × (clause_holds (store_in x) bits ≡ true)
lemma_back x t bits e sized p readable r =
    let b = clause_back x t (map (bit_lit t.words) bits) r in
    (b.0, sym (clause_same x t bits e sized p b.0 readable) ∙ b.1)
