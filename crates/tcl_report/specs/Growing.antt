-- Bytes that are joined to a text that is printed. Where memory has run out a text is not whole, and stays so.
use Rattle.std.specs.Prelude.{◌≡◌, ◌++◌, ℕ, List, true}
use Rattle.tcl_report.specs.declared.printer.Printer.{Printer}

-- a text that is whole behind more bytes was whole before them, and has grown by them
pub record Grows (old : Printer) (bytes : List ℕ) (new : Printer) : Type 0 where
  pub was_whole : new.is_whole ≡ true → old.is_whole ≡ true
  pub text : new.is_whole ≡ true → new.text.items ≡ old.text.items ++ bytes
