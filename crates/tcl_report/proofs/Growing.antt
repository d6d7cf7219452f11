-- Texts that grow by bytes joined one behind the other.
use Rattle.std.proofs.Common.{◌≡◌, ◌<◌, ◌≤◌, ◌+◌, ◌++◌, ℕ, List, [], ◌∷◌, take, get_or, length, ap, sym, subst, refl, true, ◌∙◌, append-nil}
use Rattle.std.specs.Prelude.{flat_map}
use Rattle.std.proofs.lemmas.List.{take_more, take_all}
use Rattle.std.proofs.lemmas.Grind.{flat_map-append}
use mathlib.Core.List.{append_assoc}
use Rattle.tcl_report.specs.declared.printer.Printer.{Printer}
use Rattle.tcl_report.specs.Growing.{Grows}

-- nothing is joined
pub unchanged : (s : Printer) → Grows s [] s
unchanged s = record { was_whole = λ w. w; text = λ w. sym (append-nil s.text.items) }

-- more is joined
pub further : {s t u : Printer} {a b : List ℕ} → Grows s a t → Grows t b u → Grows s (a ++ b) u
further {s = s} {a = a} {b = b} g h = record {
  was_whole = λ w. g.was_whole (h.was_whole w);
  text = λ w. h.text w ∙ (ap (λ r. r ++ b) (g.text (h.was_whole w)) ∙ append_assoc s.text.items a b);
}

-- the bytes of each item of a list, one item after the other: none yet, one item more, and all
pub none : {X : Type 0} (f : X → List ℕ) (xs : List X) (s : Printer) → Grows s (flat_map f (take 0 xs)) s
none f xs s = unchanged s

pub more : {X : Type 0} (f : X → List ℕ) (xs : List X) (k : ℕ) (d : X) {s t u : Printer} → k < length xs →
    Grows s (flat_map f (take k xs)) t → Grows t (f (get_or xs k d)) u → Grows s (flat_map f (take (k + 1) xs)) u
more f xs k d {s = s} {u = u} h g i =
    subst (λ b. Grows s b u)
    (ap (λ b. flat_map f (take k xs) ++ b) (sym (append-nil (f (get_or xs k d))))
    ∙ (sym (flat_map-append f (take k xs) (get_or xs k d ∷ [])) ∙ ap (flat_map f) (sym (take_more xs k d h))))
    (further g i)

pub all : {X : Type 0} (f : X → List ℕ) (xs : List X) (k : ℕ) {s t : Printer} → length xs ≤ k →
    Grows s (flat_map f (take k xs)) t → Grows s (flat_map f xs) t
all f xs k {s = s} {t = t} h g = subst (λ ys. Grows s (flat_map f ys) t) (take_all k xs h) g

-- the same bytes
pub replaced : {s t : Printer} {a b : List ℕ} → Grows s a t → a ≡ b → Grows s b t
replaced {s = s} {t = t} g e = subst (λ r. Grows s r t) e g

-- three, four and five texts, one behind the other
pub three : {s t u v : Printer} {a b c : List ℕ} → Grows s a t → Grows t b u → Grows u c v → Grows s (a ++ (b ++ c)) v
three g h i = further g (further h i)

pub four : {s t u v w : Printer} {a b c d : List ℕ} → Grows s a t → Grows t b u → Grows u c v → Grows v d w →
    Grows s (a ++ (b ++ (c ++ d))) w
four g h i j = further g (three h i j)

pub five : {s t u v w x : Printer} {a b c d e : List ℕ} → Grows s a t → Grows t b u → Grows u c v → Grows v d w → Grows w e x →
    Grows s (a ++ (b ++ (c ++ (d ++ e)))) x
five g h i j k = further g (four h i j k)

-- this much is left to join, where so much is to be joined in all
pub record Leaves (s : Printer) (whole : List ℕ) (t : Printer) (left : List ℕ) : Type 0 where
  pub was_whole : t.is_whole ≡ true → s.is_whole ≡ true
  pub text : t.is_whole ≡ true → t.text.items ++ left ≡ s.text.items ++ whole

pub start : (s : Printer) (whole : List ℕ) → Leaves s whole s whole
start s whole = record { was_whole = λ w. w; text = λ w. refl }

pub joined : {s t u : Printer} {whole a left : List ℕ} → Leaves s whole t (a ++ left) → Grows t a u → Leaves s whole u left
joined {t = t} {a = a} {left = left} h g = record {
  was_whole = λ w. h.was_whole (g.was_whole w);
  text = λ w. ap (λ r. r ++ left) (g.text w) ∙ append_assoc t.text.items a left ∙ h.text (g.was_whole w);
}

pub ended : {s t : Printer} {whole left : List ℕ} → left ≡ [] → Leaves s whole t left → Grows s whole t
ended {t = t} e h = record {
  was_whole = h.was_whole;
  text = λ w. sym (append-nil t.text.items) ∙ ap (λ r. t.text.items ++ r) (sym e) ∙ h.text w;
}
