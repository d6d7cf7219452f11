-- Told bytes, call after call: what several reads or writes do to them is what one of all their bytes does.
use Rattle.std.proofs.Common.{◌≡◌, ℕ, ◌+◌, ◌<◌, ◌≤◌, Option, Some, None, IfSome, List, [], ◌++◌, length, take, drop, length-append, length-take, take-take, take-add, refl, ap, sym, ◌∙◌, arith, append_assoc, append-nil}
use Rattle.std.proofs.lemmas.Grind.{common_steps}
use Rattle.std.proofs.Math.Seq.{drop-append_seam}
use Rattle.tcl_io.specs.Source.{then_left, left_after, IsEmptied, total_of}
use Rattle.tcl_io.specs.Sink.{and_then}

told_stays : (bytes : List ℕ) → Some bytes ≡ None → ⊥
told_stays bytes e = cc

-- two reads, one after the other
pub then_left-then_left : (xs ys : List ℕ) (left : Option (List ℕ)) → then_left xs (then_left ys left) ≡ then_left (xs ++ ys) left
then_left-then_left xs ys None = refl
then_left-then_left xs ys (Some zs) = ap (λ bytes. Some bytes) (sym (append_assoc xs ys zs))

-- no byte read
pub then_left-nil : (left : Option (List ℕ)) → then_left [] left ≡ left
then_left-nil None = refl
then_left-nil (Some xs) = refl

-- what is left after bytes that were read
pub left_after-then_left : (n : ℕ) (xs : List ℕ) (left : Option (List ℕ)) → n ≡ length xs → left_after n (then_left xs left) ≡ left
left_after-then_left n xs None e = refl
left_after-then_left n xs (Some ys) e = ap (λ bytes. Some bytes) (rw e (drop-append_seam xs ys))

-- two writes, one after the other
pub and_then-and_then : (taken : Option (List ℕ)) (xs ys : List ℕ) → and_then (and_then taken xs) ys ≡ and_then taken (xs ++ ys)
and_then-and_then None xs ys = refl
and_then-and_then (Some zs) xs ys = ap (λ bytes. Some bytes) (append_assoc zs xs ys)

-- no byte written
pub and_then-nil : (taken : Option (List ℕ)) → and_then taken [] ≡ taken
and_then-nil None = refl
and_then-nil (Some xs) = ap (λ bytes. Some bytes) (grind (arith, common_steps))

-- what is left after two reads, the second of n bytes
pub left_after_both : (first middle last : Option (List ℕ)) (xs piece : List ℕ) (n m : ℕ) → first ≡ then_left xs middle → middle ≡ then_left (take n piece) last → n ≤ length piece → m ≡ length xs + n → last ≡ left_after m first
left_after_both first middle last xs piece n m one two within count =
    let size : length (xs ++ take n piece) ≡ length xs + n = simp (length-append, length-take) (omega arith) in
    let joined : first ≡ then_left (xs ++ take n piece) last = one ∙ (ap (then_left xs) two ∙ then_left-then_left xs (take n piece) last) in
    sym (rw joined (left_after-then_left m (xs ++ take n piece) last (count ∙ sym size)))

-- what is taken of a piece after two writes, the second of n bytes of what the first left
pub and_then_both : (first middle last : Option (List ℕ)) (bytes : List ℕ) (m n room : ℕ) → middle ≡ and_then first (take m bytes) → last ≡ and_then middle (take n (take room (drop m bytes))) → n ≤ room → last ≡ and_then first (take (m + n) bytes)
and_then_both first middle last bytes m n room one two within =
    let front : take n (take room (drop m bytes)) ≡ take n (drop m bytes) = take-take n room (drop m bytes) within in
    let whole : take (m + n) bytes ≡ take m bytes ++ take n (drop m bytes) = take-add m n bytes in
    two ∙ (ap (λ t. and_then t (take n (take room (drop m bytes)))) one ∙ (and_then-and_then first (take m bytes) (take n (take room (drop m bytes))) ∙ ap (and_then first) (ap (λ piece. take m bytes ++ piece) front ∙ sym whole)))

-- bytes that were all read, up to an end, are those that were left
pub read_whole : (old new : Option (List ℕ)) (all : List ℕ) → old ≡ then_left all new → IsEmptied new → IfSome old (λ bytes. bytes ≡ all)
read_whole None new all read end = tt
read_whole (Some bytes) None all read end = absurd (told_stays bytes read)
read_whole (Some bytes) (Some rest) all read end = cc (append-nil all)

-- more bytes were left than a count that was passed
pub left_beyond : (old new : Option (List ℕ)) (limit given now : ℕ) → total_of old given ≡ total_of new now → given + limit < now → IfSome old (λ bytes. limit < length bytes)
left_beyond None new limit given now total passed = tt
left_beyond (Some bytes) None limit given now total passed = cc
left_beyond (Some bytes) (Some rest) limit given now total passed =
    let counts : given + length bytes ≡ now + length rest = cc in
    omega arith

-- a read that takes these bytes keeps the total
pub total_kept : (old new : Option (List ℕ)) (bytes : List ℕ) (given : ℕ) → old ≡ then_left bytes new → total_of old given ≡ total_of new (given + length bytes)
total_kept old None bytes given read = rw read refl
total_kept old (Some rest) bytes given read = rw read (ap (λ n. Some n) (omega (arith, length-append bytes rest)))
