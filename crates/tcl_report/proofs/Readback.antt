-- The canonical text of a program that some text reads as reads as the same program.
use Rattle.std.proofs.Common.{◌≡◌, ◌≤◌, ◌<◌, ◌+◌, ℕ, zero, suc, List, [], ◌∷◌, ◌++◌, length, take, map, true, false, refl, ap, sym, subst, ◌∙◌, arith, append_assoc, append-nil}
use Rattle.std.specs.Prelude.{Option, Some, None, is_none, Ok, nat_lt, codes}
use Rattle.std.specs.List.{list_all}
use Rattle.std.proofs.lemmas.Bool.{eqb-true, and_parts, both_ways}
use Rattle.std.proofs.lemmas.Bool.Decides.{nat_tests}
use Rattle.std.proofs.lemmas.List.{length-append}
use Rattle.std.proofs.lemmas.List.Concat.{flat_map-cons}
use Rattle.std.proofs.Math.Seq.{take-append_seam, take-length}
use Rattle.tcl_lang.specs.declared.pred.Line.{Line}
use Rattle.tcl_lang.specs.declared.pred.Line.TheVariants.{Step}
use Rattle.tcl_lang.specs.Names.{occurrences}
use Rattle.tcl_lang.specs.Shape.{stage_of, is_numbered, AreDistinct}
use Rattle.tcl_lang.specs.Program.{NamedProgram, ReadProgram}
use Rattle.tcl_text.specs.declared.token.Raw.{Raw}
use Rattle.tcl_text.specs.declared.token.Raw.TheVariants as raw
use Rattle.tcl_text.specs.declared.token.Token.{Token}
use Rattle.tcl_text.specs.declared.token.Token.TheVariants.{Reserved}
use Rattle.tcl_text.specs.declared.token.Keyword.TheVariants as keyword
use Rattle.tcl_text.specs.declared.token.Statement.TheVariants.{Program, End}
use Rattle.tcl_text.specs.Tokens.{raws_of}
use Rattle.tcl_text.specs.Words.{meaning_of}
use Rattle.tcl_text.specs.Lines.{lines_of}
use Rattle.tcl_text.specs.Numbering.{word_token, word_names, tokens_of, names_after}
use Rattle.tcl_text.specs.Scan.{is_operator, nests_too_deep}
use Rattle.tcl_text.specs.Canonical.{name_text, line_text, canonical_text}
use Rattle.tcl_text.specs.Statements as grammar
use Rattle.tcl_text.specs.Verdict as verdict
use Rattle.tcl_text.specs.Reading as reading
use Rattle.tcl_text.specs.Reading.{Progress, start, continued, program_of, may_follow, Reads}
use Rattle.tcl_text.proofs.TreeNames.{token_names}
use Rattle.tcl_text.proofs.StatementNames.{statement_names}
use Rattle.tcl_text.proofs.NumberedNames.{line_numbered}
use Rattle.tcl_text.proofs.NameGrowth.{Grown, grown_same, grown_on, names_grown}
use Rattle.tcl_text.proofs.NameWords.{is_word, is_proper}
use Rattle.tcl_text.proofs.TokenShapes.{line_fit}
use Rattle.tcl_text.proofs.ReadPrograms.{Good, good_of, read_program}
use Rattle.tcl_report.specs.Parts.{ended_line, lines_text}
use Rattle.tcl_report.specs.Readable.{ReadsAs, IsReadable}
use Rattle.tcl_report.specs.CanonicalTokens.{line_tokens}
use Rattle.tcl_report.specs.Rendering.{tight, is_listed}
use Rattle.tcl_report.proofs.Leaner.{Shallow, leaner_fit, leaner_count, leaner_shallow}
use Rattle.tcl_report.proofs.ReadLines.{statement_found}
use Rattle.tcl_report.proofs.LineTexts.{line_shows}
use Rattle.tcl_report.proofs.CutRenderings.{AreNames, are_below, all_sound, raw_of, rendered_cuts, rendered_shown}
use Rattle.tcl_report.proofs.Meanings.{keyword_meaning}
use Rattle.tcl_report.proofs.Told.{in_order, next_after, numbered_parts, next_below, told}
use Rattle.tcl_report.proofs.Ended.{AreShown, ended, no_lines}

-- the names of a program that is read are names
proper_at : (names : List (List ℕ)) (x : ℕ) → list_all is_proper names ≡ true → x < length names → is_proper (name_text names x) ≡ true
proper_at [] x e h = absurd (omega arith)
proper_at (w ∷ names) zero e h = (and_parts (is_proper w) (list_all is_proper names) e).0
proper_at (w ∷ names) (suc x) e h = proper_at names x (and_parts (is_proper w) (list_all is_proper names) e).1 (omega arith)

no_meaning : (o : Option Token) → is_none o ≡ true → o ≡ None
no_meaning None e = refl
no_meaning (Some t) e = absurd cc

are_names : (names : List (List ℕ)) → list_all is_proper names ≡ true → AreNames names
are_names names e = record {
  word = λ x h. (and_parts (is_word (name_text names x)) (is_none (meaning_of (name_text names x))) (proper_at names x e h)).0;
  free = λ x h.
      no_meaning (meaning_of (name_text names x))
      (and_parts (is_word (name_text names x)) (is_none (meaning_of (name_text names x))) (proper_at names x e h)).1;
}

-- the names so far are the first ones of all
reads_grown : {s : Progress} {lines : List (List ℕ)} {q : ReadProgram} → reading.ReadsOn s lines (Ok q) → Grown s.names q.program.names
reads_grown {s = s} (reading.ended e) = grown_same s.names
reads_grown (reading.blank e r) = reads_grown r
reads_grown {s = s} {q = q} (reading.placed {raw = raw} {raws = raws} {l = End} e j f r) =
    grown_on s.names (names_after s.names (raw ∷ raws)) q.program.names (names_grown s.names (raw ∷ raws)) (reads_grown r)
reads_grown {s = s} {q = q} (reading.placed {raw = raw} {raws = raws} {l = Program l} e j f r) =
    grown_on s.names (names_after s.names (raw ∷ raws)) q.program.names (names_grown s.names (raw ∷ raws)) (reads_grown r)

first_names : (names all : List (List ℕ)) → Grown names all → take (length names) all ≡ names
first_names names all g = ap (take (length names)) g.is ∙ take-append_seam names g.more

-- the first token of a line
record Head (ts : List Token) : Type 0 where
  first : Token
  others : List Token
  is : ts ≡ first ∷ others

line_head : (l : Line) → Head (line_tokens l)
line_head (Step i) = record { first = _; others = _; is = refl }
line_head _ = record { first = _; others = _; is = refl }

-- no more operators, where no more than 4,096 are allowed
few_less : (m n : ℕ) → m + 0 ≤ n → nat_lt 4096 n ≡ false → nat_lt 4096 m ≡ false
few_less m n h e = grind (arith, nat_tests)

empty : Shallow 0 []
unfolding nests_too_deep
empty = refl

-- what reading the canonical text of a line gives
record Canonical (names all after : List (List ℕ)) (l : Line) : Type 0 where
  first : Raw
  others : List Raw
  cut : raws_of (line_text all l) ≡ Some (first ∷ others)
  judged : verdict.Judged (tokens_of names (first ∷ others)) (Ok (Program l))
  grows : names_after names (first ∷ others) ≡ after
  shown : AreShown (line_text all l)

canonical_line : (names all : List (List ℕ)) (line : List ℕ) (raws : List Raw) (l : Line) → AreDistinct all → AreNames all →
    raws_of line ≡ Some raws → Good (tokens_of names raws) (Program l) → Grown names all → Grown (names_after names raws) all →
    Canonical names all (names_after names raws) l
canonical_line names all line raws l d h e good g k =
    let after = names_after names raws in
    let n = length names in
    let fit = line_fit line raws names e in
    let found = statement_found good.is fit in
    let numbered = subst (λ xs. is_numbered (length after) n xs ≡ true) (statement_names good.is) (line_numbered names raws) in
    let parts = numbered_parts (length after) n (occurrences l) [] (subst (λ xs. is_numbered (length after) n xs ≡ true) (sym (append-nil (occurrences l))) numbered) in
    let next : next_after n (occurrences l) ≡ length after = eqb-true (next_after n (occurrences l)) (length after) parts.1 in
    let long : length all ≡ length after + length k.more = ap length k.is ∙ length-append after k.more in
    let low : next_after n (occurrences l) ≤ length all = omega (arith, next, long) in
    let same = statement_names found.1 in
    let sound =
    all_sound (length all) (line_tokens l) (leaner_fit found.0 fit).0 (ap (are_below (length all)) same ∙ next_below (length all) n (occurrences l) low) in
    let told = told all d h (line_tokens l) n sound (ap (in_order n) same ∙ parts.0) (subst (λ xs. next_after n xs ≤ length all) (sym same) low) in
    let begin : take n all ≡ names = first_names names all g in
    let raws_here = map (raw_of all) (line_tokens l) in
    let tokens : tokens_of names raws_here ≡ line_tokens l = ap (λ ns. tokens_of ns raws_here) (sym begin) ∙ told.0 in
    let head = line_head l in
    let head_is : raws_here ≡ raw_of all head.first ∷ map (raw_of all) head.others = ap (map (raw_of all)) head.is in
    let shallow = subst (λ ts. Shallow 0 ts) (append-nil (line_tokens l)) ((leaner_shallow found.0 0 0 (omega arith) good.shallow).1 [] empty) in
    let count = leaner_count is_operator (λ a b. refl) found.0 in
    record {
      first = raw_of all head.first;
      others = map (raw_of all) head.others;
      cut =
          ap raws_of (sym (line_shows all l))
          ∙ (rendered_cuts all h (is_listed (line_tokens l)) tight (line_tokens l) sound ∙ ap Some head_is);
      judged =
          subst (λ rs. verdict.Judged (tokens_of names rs) (Ok (Program l))) head_is
          (subst (λ ts. verdict.Judged ts (Ok (Program l))) (sym tokens)
          (verdict.good shallow (few_less _ _ count good.few) found.1 good.low));
      grows =
          ap (names_after names) (sym head_is)
          ∙ (ap (λ ns. names_after ns raws_here) (sym begin)
          ∙ (told.1 ∙ (ap (λ m. take m all) (ap (next_after n) same ∙ next) ∙ first_names after all k)));
      shown = subst AreShown (line_shows all l) (rendered_shown all h (is_listed (line_tokens l)) tight (line_tokens l) sound);
    }

-- the end of the text
abbrev pub end_text : List ℕ
end_text = codes "end" ++ 10 ∷ []

end_ends : lines_of end_text ≡ codes "end" ∷ []
end_ends = ended (codes "end") [] refl ∙ ap (λ ls. codes "end" ∷ ls) no_lines

end_told : (before : List (List ℕ)) →
    (tokens_of before (raw.Word (codes "end") ∷ []) ≡ Reserved keyword.End ∷ []) × (names_after before (raw.Word (codes "end") ∷ []) ≡ before)
unfolding tokens_of names_after
end_told before = (
  ap (λ m. word_token before (codes "end") m ∷ []) (keyword_meaning keyword.End),
  ap (word_names before (codes "end")) (keyword_meaning keyword.End),
)

-- the same place of the text with other numbers of lines
abbrev at : Progress → ℕ → List ℕ → Progress
at s number places = record { number = number; stage = s.stage; names = s.names; lines = s.lines; places = places }

-- what is left of the program in its canonical text
record Again (s : Progress) (number : ℕ) (places : List ℕ) (all : List (List ℕ)) (p : NamedProgram) : Type 0 where
  lines : List Line
  whole : p.lines ≡ s.lines ++ lines
  ends : lines_of (lines_text all lines ++ end_text) ≡ map (line_text all) lines ++ codes "end" ∷ []
  numbers : List ℕ
  reads : reading.ReadsOn (at s number places) (map (line_text all) lines ++ codes "end" ∷ []) (Ok (record { program = p; places = numbers }))

-- nothing stands behind `end`
after_end : {s : Progress} {lines : List (List ℕ)} {q : ReadProgram} → reading.ReadsOn s lines (Ok q) → s.stage ≡ 4 → q ≡ program_of s
after_end (reading.ended e) h = refl
after_end (reading.blank e r) h = after_end r h
after_end {s = s} (reading.placed {l = l} e j f r) h =
    absurd (both_ways (may_follow s.stage l) (ap (λ n. may_follow n l) h) f)

body_stage : (l : Line) → nat_lt (stage_of l) 4 ≡ true
body_stage (Step i) = refl
body_stage _ = refl

no_names : {ts : List Token} → grammar.IsStatement ts End → token_names ts ≡ []
no_names grammar.end_line = refl

-- a list that does not grow is the same
no_more : (names after : List (List ℕ)) → Grown names after → length names ≡ length after → after ≡ names
no_more names after g e = sym (take-length after) ∙ (ap (λ n. take n after) (sym e) ∙ first_names names after g)

end_tokens : verdict.Judged (Reserved keyword.End ∷ []) (Ok End)
unfolding nests_too_deep
end_tokens = verdict.good refl refl grammar.end_line refl

-- the end of the program
again_end : (s : Progress) (raws : List Raw) (lines : List (List ℕ)) (q : ReadProgram) → AreNames q.program.names → Good (tokens_of s.names raws) End →
    may_follow s.stage End ≡ true → reading.ReadsOn (continued s (names_after s.names raws) End) lines (Ok q) →
    (number : ℕ) (places : List ℕ) → Again s number places q.program.names q.program
again_end s raws lines q h good follow rest number places =
    let after = names_after s.names raws in
    let last : q ≡ program_of (continued s after End) = after_end rest refl in
    let numbered = subst (λ xs. is_numbered (length after) (length s.names) xs ≡ true) (no_names good.is) (line_numbered s.names raws) in
    let same : after ≡ s.names = no_more s.names after (names_grown s.names raws) (eqb-true (length s.names) (length after) numbered) in
    let told = end_told s.names in
    let next = continued (at s number places) (names_after s.names (raw.Word (codes "end") ∷ [])) End in
    let program : next_program next ≡ q.program =
    ap (λ ns. the_program ns s.lines) (told.1 ∙ sym same) ∙ ap (λ r. r.program) (sym last) in
    record {
      lines = [];
      whole = ap (λ r. r.program.lines) last ∙ sym (append-nil s.lines);
      ends = end_ends;
      numbers = places;
      reads =
          reading.placed (rendered_cuts q.program.names h false tight (Reserved keyword.End ∷ []) refl) (subst (λ ts. verdict.Judged ts (Ok End)) (sym told.0) end_tokens) follow
          (subst (λ p. reading.ReadsOn next [] (Ok (record { program = p; places = places }))) program (reading.ended refl));
    }
  where
    the_program : List (List ℕ) → List Line → NamedProgram
    the_program names lines = record { names = names; lines = lines }

    next_program : Progress → NamedProgram
    next_program t = record { names = t.names; lines = t.lines }

-- what is read line by line is read again
again : {s : Progress} {lines : List (List ℕ)} {q : ReadProgram} → reading.ReadsOn s lines (Ok q) → nat_lt s.stage 4 ≡ true →
    AreDistinct q.program.names → AreNames q.program.names → (number : ℕ) (places : List ℕ) → Again s number places q.program.names q.program
again {s = s} (reading.ended e) early d h number places = absurd (both_ways (nat_lt s.stage 4) (ap (λ n. nat_lt n 4) e) early)
again (reading.blank e r) early d h number places =
    let rest = again r early d h number places in
    record { lines = rest.lines; whole = rest.whole; ends = rest.ends; numbers = rest.numbers; reads = rest.reads }
again {s = s} {q = q} (reading.placed {lines = lines} {raw = raw} {raws = raws} {l = End} e j f r) early d h number places =
    again_end s (raw ∷ raws) lines q h (good_of j) f r number places
again {s = s} {q = q} (reading.placed {line = line} {raw = raw} {raws = raws} {l = Program l} e j f r) early d h number places =
    let all = q.program.names in
    let after = names_after s.names (raw ∷ raws) in
    let g = grown_on s.names after all (names_grown s.names (raw ∷ raws)) (reads_grown r) in
    let c = canonical_line s.names all line (raw ∷ raws) l d h e (good_of j) g (reads_grown r) in
    let rest = again r (body_stage l) d h (number + 1) (places ++ number ∷ []) in
    record {
      lines = l ∷ rest.lines;
      whole = rest.whole ∙ append_assoc s.lines (l ∷ []) rest.lines;
      ends =
          ap (λ bs. lines_of (bs ++ end_text)) (flat_map-cons (ended_line all) l rest.lines)
          ∙ (ap lines_of (append_assoc (line_text all l ++ 10 ∷ []) (lines_text all rest.lines) end_text
          ∙ append_assoc (line_text all l) (10 ∷ []) (lines_text all rest.lines ++ end_text))
          ∙ (ended (line_text all l) (lines_text all rest.lines ++ end_text) c.shown ∙ ap (λ ls. line_text all l ∷ ls) rest.ends));
      numbers = rest.numbers;
      reads =
          reading.placed c.cut c.judged f
          (subst (λ ns. reading.ReadsOn (record { number = number + 1; stage = stage_of l; names = ns; lines = s.lines ++ l ∷ []; places = places ++ number ∷ [] })
          (map (line_text all) rest.lines ++ codes "end" ∷ []) (Ok (record { program = q.program; places = rest.numbers })))
          (sym c.grows) rest.reads);
    }

-- the whole text
pub reads_back : (bytes : List ℕ) (q : ReadProgram) → Reads bytes q → ReadsAs (canonical_text q.program) q.program
reads_back bytes q r =
    let shape = read_program bytes q r in
    let names = are_names q.program.names shape.proper in
    let body = again r refl shape.distinct names 1 [] in
    record {
      places = body.numbers;
      reads =
          subst (λ ls. reading.ReadsOn start ls (Ok (record { program = q.program; places = body.numbers })))
          (sym (ap (λ ls. lines_of (lines_text q.program.names ls ++ end_text)) body.whole ∙ body.ends)) body.reads;
    }

pub readable_text : (p : NamedProgram) (text : List ℕ) → IsReadable p → text ≡ canonical_text p → ReadsAs text p
readable_text p text r e =
    subst (λ bytes. ReadsAs bytes p) (sym e) (reads_back r.bytes (record { program = p; places = r.reads.places }) r.reads.reads)
