-- What the crate `sfi` answers, as numbers. A refusal leaves what the caller lent as it was.
-- Assumes nothing.
use Rattle.std.specs.Prelude.{ℕ, List, Result, Ok, Err}
use Rattle.sfi.specs.declared.Reason.{Reason}
use Rattle.sfi.specs.declared.Table.{Table}
use Rattle.sfi.specs.declared.choice.Source.{Source}
use Rattle.sfi.specs.declared.choice.Source.TheVariants.{Board, BuiltIn}
use Rattle.sfi.specs.Checks as Checks

-- the signature of the table's kind
abbrev pub signature_after : Result Table Reason → ℕ → ℕ
signature_after (Ok table) before = table.kind.signature
signature_after (Err reason) before = before

-- its Length
abbrev pub table_length_after : Result Table Reason → ℕ → ℕ
table_length_after (Ok table) before = table.length
table_length_after (Err reason) before = before

-- which table is chosen, else the number of the refusal
abbrev pub choose_number : Result Source Reason → ℕ
choose_number (Ok Board) = 101
choose_number (Ok BuiltIn) = 102
choose_number (Err reason) = Checks.number_of reason

-- Length of the table that is chosen, and so the length of the part (`part_passes` in `crates/sfi/proofs/Theorems.antt`)
abbrev pub chosen_length_after : Result Source Reason → List ℕ → List ℕ → ℕ → ℕ
chosen_length_after (Ok Board) board built_in before = Checks.length_of_def board
chosen_length_after (Ok BuiltIn) board built_in before = Checks.length_of_def built_in
chosen_length_after (Err reason) board built_in before = before
