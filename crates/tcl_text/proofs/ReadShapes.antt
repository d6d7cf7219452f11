-- What is read of a text keeps the shape of a program, line by line.
use Rattle.std.proofs.Common.{◌≡◌, ◌<◌, ◌≤◌, ◌+◌, ◌-◌, ◌^◌, ℕ, true, List, [], ◌∷◌, ◌++◌, length, Ok, refl, sym, ap, subst, ◌∙◌, arith, append-nil}
use Rattle.std.specs.Prelude.{Some, nat_le, nat_lt, map, flat_map}
use Rattle.std.specs.List.{list_all}
use Rattle.std.proofs.lemmas.Bool.{and_parts, and_from, le-leb, leb-true}
use Rattle.std.proofs.lemmas.List.{length-append}
use Rattle.std.proofs.lemmas.Grind.{flat_map-append}
use Rattle.tcl_lang.specs.declared.pred.Line.{Line}
use Rattle.tcl_lang.specs.declared.pred.Line.TheVariants as line
use Rattle.tcl_lang.specs.Names.{occurrences, all_occurrences}
use Rattle.tcl_lang.specs.Shape.{HasShape, AreDistinct, is_line, is_numbered, stage_of, in_stages}
use Rattle.tcl_text.specs.declared.token.Raw.{Raw}
use Rattle.tcl_text.specs.declared.token.Token.{Token}
use Rattle.tcl_text.specs.declared.token.Statement.{Statement}
use Rattle.tcl_text.specs.declared.token.Statement.TheVariants.{Program, End}
use Rattle.tcl_text.specs.Tokens.{raws_of}
use Rattle.tcl_text.specs.Numbering.{tokens_of, names_after}
use Rattle.tcl_text.specs.Statements.{IsStatement, end_line}
use Rattle.tcl_text.specs.Verdict.{Judged, good}
use Rattle.tcl_text.specs.Reading.{Progress, start, skipped, continued, may_follow}
use Rattle.tcl_text.proofs.TreeNames.{token_names}
use Rattle.tcl_text.proofs.StatementNames.{statement_names}
use Rattle.tcl_text.proofs.StatementShapes.{statement_shape}
use Rattle.tcl_text.proofs.TokenShapes.{line_fit}
use Rattle.tcl_text.proofs.NumberedNames.{distinct_none, distinct_after, line_numbered, more_numbered}

-- the part of the last line
abbrev pub last_stage : ℕ → List Line → ℕ
last_stage stage [] = stage
last_stage stage (l ∷ lines) = last_stage (stage_of l) lines

pub record Kept (s : Progress) : Type 0 where
  pub few : length s.lines < s.number
  pub places : length s.places ≡ length s.lines
  pub stages : in_stages 0 (map stage_of s.lines) ≡ true
  pub last : last_stage 0 s.lines ≤ s.stage
  pub stage : s.stage ≤ 4
  pub shapes : list_all is_line s.lines ≡ true
  pub distinct : AreDistinct s.names
  pub numbered : is_numbered (length s.names) 0 (all_occurrences s.lines) ≡ true

-- what was read has the shape of a program, where its lines are few enough
pub has_shape : (s : Progress) → Kept s → s.number ≤ 2 ^ 32 - 1 → HasShape s.names s.lines
has_shape s k few = record {
  few = let h = k.few in omega (arith, h, few);
  stages = k.stages;
  shapes = k.shapes;
  distinct = k.distinct;
  numbered = k.numbered;
}

pub kept_start : Kept start
unfolding all_occurrences
kept_start = record {
  few = omega arith;
  places = refl;
  stages = refl;
  last = omega arith;
  stage = omega arith;
  shapes = refl;
  distinct = distinct_none;
  numbered = refl;
}

pub kept_skipped : (s : Progress) → Kept s → Kept (skipped s)
kept_skipped s k = record {
  few = let h = k.few in omega (arith, h);
  places = k.places;
  stages = k.stages;
  last = k.last;
  stage = k.stage;
  shapes = k.shapes;
  distinct = k.distinct;
  numbered = k.numbered;
}

stages_push : (stage : ℕ) (lines : List Line) (l : Line) → in_stages stage (map stage_of lines) ≡ true → last_stage stage lines ≤ stage_of l →
    in_stages stage (map stage_of (lines ++ l ∷ [])) ≡ true
stages_push stage [] l e h = and_from _ _ (le-leb _ _ h) refl
stages_push stage (k ∷ lines) l e h =
    let p = and_parts (nat_le stage (stage_of k)) (in_stages (stage_of k) (map stage_of lines)) e in
    and_from _ _ p.0 (stages_push (stage_of k) lines l p.1 h)

last_push : (stage : ℕ) (lines : List Line) (l : Line) → last_stage stage (lines ++ l ∷ []) ≡ stage_of l
last_push stage [] l = refl
last_push stage (k ∷ lines) l = last_push (stage_of k) lines l

all_push : (lines : List Line) (l : Line) → list_all is_line lines ≡ true → is_line l ≡ true → list_all is_line (lines ++ l ∷ []) ≡ true
all_push [] l e h = and_from _ _ h refl
all_push (k ∷ lines) l e h =
    let p = and_parts (is_line k) (list_all is_line lines) e in and_from _ _ p.0 (all_push lines l p.1 h)

occurrences_push : (lines : List Line) (l : Line) → all_occurrences (lines ++ l ∷ []) ≡ all_occurrences lines ++ occurrences l
unfolding all_occurrences
occurrences_push lines l =
    flat_map-append occurrences lines (l ∷ []) ∙ ap (λ ns. flat_map occurrences lines ++ ns) (append-nil (occurrences l))

stage_within : (l : Line) → nat_le (stage_of l) 4 ≡ true
stage_within (line.Input T x) = refl
stage_within (line.Pre p) = refl
stage_within (line.Post p) = refl
stage_within _ = refl

no_names : {ts : List Token} → IsStatement ts End → token_names ts ≡ []
no_names end_line = refl

-- a statement in its place
pub kept_continued : (s : Progress) (line : List ℕ) (raws : List Raw) (l : Statement) → Kept s → raws_of line ≡ Some raws →
    Judged (tokens_of s.names raws) (Ok l) → may_follow s.stage l ≡ true → Kept (continued s (names_after s.names raws) l)
kept_continued s line raws End k e (good deep many is low) m = record {
  few = let h = k.few in omega (arith, h);
  places = k.places;
  stages = k.stages;
  last = let a = k.last in let b = k.stage in omega (arith, a, b);
  stage = omega arith;
  shapes = k.shapes;
  distinct = distinct_after s.names raws k.distinct;
  numbered =
      let here : is_numbered (length (names_after s.names raws)) (length s.names) [] ≡ true =
      subst (λ ns. is_numbered (length (names_after s.names raws)) (length s.names) ns ≡ true) (no_names is) (line_numbered s.names raws) in
      subst (λ ns. is_numbered (length (names_after s.names raws)) 0 ns ≡ true) (append-nil (all_occurrences s.lines))
      (more_numbered (length s.names) _ 0 (all_occurrences s.lines) [] k.numbered here);
}
kept_continued s line raws (Program l) k e (good deep many is low) m =
    let follows : s.stage ≤ stage_of l = leb-true _ _ (and_parts (nat_lt s.stage 4) (nat_le s.stage (stage_of l)) m).1 in
    record {
      few = let h = k.few in let n = length-append s.lines (l ∷ []) in omega (arith, h, n);
      places =
          length-append s.places (s.number ∷ []) ∙ (ap (λ n. n + 1) k.places ∙ sym (length-append s.lines (l ∷ [])));
      stages = stages_push 0 s.lines l k.stages (let a = k.last in omega (arith, a, follows));
      last = let a = last_push 0 s.lines l in omega (arith, a);
      stage = leb-true _ _ (stage_within l);
      shapes = all_push s.lines l k.shapes (statement_shape is (line_fit line raws s.names e) low);
      distinct = distinct_after s.names raws k.distinct;
      numbered =
          let here : is_numbered (length (names_after s.names raws)) (length s.names) (occurrences l) ≡ true =
          subst (λ ns. is_numbered (length (names_after s.names raws)) (length s.names) ns ≡ true) (statement_names is) (line_numbered s.names raws) in
          subst (λ ns. is_numbered (length (names_after s.names raws)) 0 ns ≡ true) (sym (occurrences_push s.lines l))
          (more_numbered (length s.names) _ 0 (all_occurrences s.lines) (occurrences l) k.numbered here);
    }
