-- The lines of a text: pieces that end with a line feed, or a carriage return and a line feed, and a last piece that
-- lacks its end and is not empty.
use Rattle.std.specs.Prelude.{ℕ, zero, suc, ◌-◌, nat_lt, ◌==◌, not, if◌then◌else◌, List, [], ◌∷◌, length, take, slice_index}
use Rattle.std.specs.List.{prefix_len}

-- the number of bytes before the first line feed
abbrev pub line_length : List ℕ → ℕ
line_length bytes = prefix_len (λ b. not (b == 10)) bytes

-- the bytes before a line feed, without the carriage return that belongs to it
abbrev pub without_return : List ℕ → List ℕ
without_return line = if slice_index line (length line - 1) == 13 then take (length line - 1) line else line

-- the first line, without its end
unfoldable pub first_line : List ℕ → List ℕ
first_line bytes =
    if nat_lt (line_length bytes) (length bytes) then without_return (take (line_length bytes) bytes) else bytes

-- the lines behind the next k bytes, which belong to a line that stands before
unfoldable pub lines_from : ℕ → List ℕ → List (List ℕ)
lines_from k [] = []
lines_from (suc k) (b ∷ bytes) = lines_from k bytes
lines_from zero (b ∷ bytes) = first_line (b ∷ bytes) ∷ lines_from (line_length (b ∷ bytes)) bytes

-- the lines of a text; the empty text has none
abbrev pub lines_of : List ℕ → List (List ℕ)
lines_of bytes = lines_from 0 bytes
