-- The answers of the crate `frame` as numbers: 0 where there is an answer, else the number of the refusal. A refusal leaves what the caller lent as it was.
-- Assumes nothing.
use Rattle.std.specs.Prelude.{ℕ, List, [], ◌∷◌}
use Rattle.frame.specs.declared.Envelope.{Envelope}
use Rattle.frame.specs.declared.read.Parsed.{Parsed}
use Rattle.frame.specs.declared.read.Parsed.TheVariants.{Header, Refused}
use Rattle.frame.specs.Reading as Reading

abbrev pub parse_number : Parsed → ℕ
parse_number (Header h) = 0
parse_number (Refused reason) = Reading.number_of reason

-- the seven words of a header, in the frame's order
abbrev pub header_after : Parsed → List ℕ → List ℕ
header_after (Header h) before =
    h.words.sequence ∷ h.index ∷ h.words.id ∷ h.words.sender ∷ h.receiver ∷ h.words.status ∷ h.words.total ∷ []
header_after (Refused reason) before = before

abbrev pub envelope_of : ℕ → ℕ → ℕ → ℕ → ℕ → Envelope
envelope_of sequence id sender status receiver = record { sequence = sequence; id = id; sender = sender; status = status; receiver = receiver }
