-- The definitions on small texts.
use Rattle.std.proofs.Common.{◌≡◌, [], ◌∷◌, refl}
use Rattle.std.specs.Prelude.{codes, ◌++◌, Some, None, pos}
use Rattle.tcl_text.specs.Canonical.{canonical_text}
use Rattle.tcl_text.specs.declared.symbol.Symbol.TheVariants.{StarStar, Star, NotEqual}
use Rattle.tcl_text.specs.declared.token.Raw.TheVariants as raw
use Rattle.tcl_text.specs.declared.token.Token.TheVariants.{Name, Reserved}
use Rattle.tcl_text.specs.declared.token.Keyword.TheVariants.{Pre}
use Rattle.tcl_text.specs.Lines.{lines_of, lines_from, first_line}
use Rattle.tcl_text.specs.Tokens.{raws_of, raws_from, cut_of, word_cut, number_cut, symbol_cut}
use Rattle.tcl_text.specs.Words.{meaning_of}
use Rattle.tcl_text.specs.Numbering.{tokens_of}

-- `a`, CR LF, an empty line, and a last line that lacks its end and keeps a carriage return
lines : lines_of (97 ∷ 13 ∷ 10 ∷ 10 ∷ 98 ∷ 13 ∷ []) ≡ (97 ∷ []) ∷ [] ∷ (98 ∷ 13 ∷ []) ∷ []
unfolding lines_from first_line
lines = refl

no_lines : lines_of [] ≡ []
unfolding lines_from
no_lines = refl

tokens : raws_of (codes "8abc***!=#@@") ≡
    Some (raw.Number (pos 8) ∷ raw.Word (codes "abc") ∷ raw.Sign StarStar ∷ raw.Sign Star ∷ raw.Sign NotEqual ∷ [])
unfolding raws_from cut_of word_cut number_cut symbol_cut
tokens = refl

-- no byte but those of the grammar outside a comment
refused : raws_of (codes "a $") ≡ None
unfolding raws_from cut_of word_cut number_cut symbol_cut
refused = refl

numbers : tokens_of (codes "x" ∷ []) (raw.Word (codes "pre") ∷ raw.Word (codes "y") ∷ raw.Word (codes "x") ∷ raw.Word (codes "y") ∷ [])
    ≡ Reserved Pre ∷ Name 1 ∷ Name 0 ∷ Name 1 ∷ []
unfolding tokens_of meaning_of
numbers = refl

-- the program without lines
end_alone : canonical_text (record { names = []; lines = [] }) ≡ codes "end" ++ 10 ∷ []
end_alone = refl
