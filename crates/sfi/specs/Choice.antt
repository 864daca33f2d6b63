-- Document 01, "SFI tables": choosing. "the entries come either from the board's table or from the built-in one, both lent"
-- Assumes nothing.
use Rattle.std.specs.Prelude.{ℕ, cond, List, [], take, Option, None, Some, Result, Ok, Err}
use Rattle.sfi.specs.Kinds.{kind_of}
use Rattle.sfi.specs.Checks.{length_of_def, checked, passes_as_def}
use Rattle.sfi.specs.declared.kind.Kind.{Kind}
use Rattle.sfi.specs.declared.Reason.{Reason}
use Rattle.sfi.specs.declared.Reason.TheVariants.{UnknownSignature, Neither}
use Rattle.sfi.specs.declared.choice.Source.{Source}
use Rattle.sfi.specs.declared.choice.Source.TheVariants.{Board, BuiltIn}

-- "the board's if it passes with that signature, else the built-in one if it does, else 48"
unfoldable pub between : ℕ → List ℕ → List ℕ → Result Source Reason
between signature board built_in =
    cond (passes_as_def signature (checked board)) (Ok Board)
    (cond (passes_as_def signature (checked built_in)) (Ok BuiltIn)
    (Err Neither))

-- "asked for a signature (unknown: 42)"
abbrev pub asked : Option Kind → ℕ → List ℕ → List ℕ → Result Source Reason
asked (Some kind) signature board built_in = between signature board built_in
asked None signature board built_in = Err UnknownSignature

abbrev pub chosen : ℕ → List ℕ → List ℕ → Result Source Reason
chosen signature board built_in = asked (kind_of signature) signature board built_in

-- "the first Length bytes of the one chosen, or no bytes where the first refuses"
abbrev pub part_of : Result Source Reason → List ℕ → List ℕ → List ℕ
part_of (Ok Board) board built_in = take (length_of_def board) board
part_of (Ok BuiltIn) board built_in = take (length_of_def built_in) built_in
part_of (Err reason) board built_in = []
