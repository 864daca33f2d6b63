-- The text that is written: "a line a record: record number from 0, then the refusal number, "more", or "delivered" with Message ID and length, in decimal, one
-- space between (`2 delivered 16909060 5`)"; "If the receiver file isn't four bytes, the only line written is "no receiver"." (document 02, Q-2). Each line ends with one newline, the last too.
-- Assumes nothing.
use Rattle.std.specs.Prelude.{ℕ, suc, cond, List, [], ◌∷◌, ◌++◌, Option, Some, None, Ok, Err, eqb, length}
use Rattle.le.specs.Word.{word}
use Rattle.text.specs.Decimal.{decimal}
use Rattle.framelog.specs.Layout as Layout
use Rattle.reassembly.specs.Step as Step
use Rattle.reassembly.specs.declared.Verdict.TheVariants.{More, Delivered, Refused}
use Rattle.replay.specs.Day.{Entry, listed}

-- in ASCII
abbrev pub space : List ℕ
space = 32 ∷ []

abbrev pub newline : List ℕ
newline = 10 ∷ []

-- "more"
abbrev pub more_word : List ℕ
more_word = 109 ∷ 111 ∷ 114 ∷ 101 ∷ []

-- "delivered"
abbrev pub delivered_word : List ℕ
delivered_word = 100 ∷ 101 ∷ 108 ∷ 105 ∷ 118 ∷ 101 ∷ 114 ∷ 101 ∷ 100 ∷ []

-- "no receiver", and the newline
abbrev pub no_receiver_def : List ℕ
no_receiver_def = 110 ∷ 111 ∷ 32 ∷ 114 ∷ 101 ∷ 99 ∷ 101 ∷ 105 ∷ 118 ∷ 101 ∷ 114 ∷ newline

-- "delivered" with Message ID and length
abbrev pub delivered_text : ℕ → ℕ → List ℕ
delivered_text id n = delivered_word ++ (space ++ (decimal id ++ (space ++ decimal n)))

-- what is told of a record
abbrev pub told : Entry → List ℕ
told (Err reason) = decimal (Layout.number_of reason)
told (Ok (Refused reason)) = decimal (Step.number_of reason)
told (Ok More) = more_word
told (Ok (Delivered words n)) = delivered_text words.id n

-- the line of a record with that number
unfoldable pub line_of : ℕ → Entry → List ℕ
line_of number entry = decimal number ++ (space ++ (told entry ++ newline))

-- the lines of records that are numbered from there on
unfoldable pub lines_from : ℕ → List Entry → List ℕ
lines_from number [] = []
lines_from number (e ∷ es) = line_of number e ++ lines_from (suc number) es

-- the text of a log, of any length
abbrev pub lines : ℕ → List ℕ → List ℕ
lines us log = lines_from 0 (listed us log)

-- "the receiver we name in a four-byte file": its Receiver ID, little-endian as all numbers are
unfoldable pub receiver_of : List ℕ → Option ℕ
receiver_of file = cond (eqb (length file) 4) (Some (word 4 file)) None

abbrev pub output_for : Option ℕ → List ℕ → List ℕ
output_for (Some us) log = lines us log
output_for None log = no_receiver_def

-- all that is written for a receiver file and a log
abbrev pub output_of : List ℕ → List ℕ → List ℕ
output_of file log = output_for (receiver_of file) log
