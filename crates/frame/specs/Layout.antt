-- Document 01, "Frames": the table of a frame's words (001, table 11). Byte 1, Reserved there, is the sequence number (document 02, Q-4).
-- Assumes nothing.
use Rattle.std.specs.Prelude.{ℕ, ◌+◌, List, [], ◌∷◌, ◌++◌, drop, get_or}
use Rattle.le.specs.Word.{word, bytes}
use Rattle.frame.specs.declared.Envelope.{Envelope}
use Rattle.frame.specs.declared.Header.{Header}
use Rattle.frame.specs.declared.Words.{Words}

-- "A frame is 24 to 256 bytes, so it carries 0 to 232." "A message is 0 to 4,096 bytes."
abbrev pub header_size : ℕ
header_size = 24

abbrev pub frame_max : ℕ
frame_max = 256

abbrev pub piece_max : ℕ
piece_max = 232

abbrev pub message_max : ℕ
message_max = 4096

-- type 1 in the low four bits, version 1 in the high four
abbrev pub type_version : ℕ
type_version = 0x11

-- the carried words as a list, in the frame's order, and the words that stand in a list from a place on
abbrev pub words_of : Words → List ℕ
words_of w = w.sequence ∷ w.id ∷ w.sender ∷ w.status ∷ w.total ∷ []

abbrev pub words_at : ℕ → List ℕ → Words
words_at at l =
    record {
      sequence = get_or l at 0;
      id = get_or l (1 + at) 0;
      sender = get_or l (2 + at) 0;
      status = get_or l (3 + at) 0;
      total = get_or l (4 + at) 0;
    }

-- the words of a frame as it is read
abbrev pub header_of : List ℕ → Header
header_of f =
    record {
      index = word 2 (drop 2 f);
      receiver = word 4 (drop 12 f);
      words =
          record {
            sequence = word 1 (drop 1 f);
            id = word 4 (drop 4 f);
            sender = word 4 (drop 8 f);
            status = word 4 (drop 16 f);
            total = word 4 (drop 20 f);
          };
    }

-- the header of one frame of a message
abbrev pub header_for : Envelope → ℕ → ℕ → Header
header_for e total index =
    record {
      index = index;
      receiver = e.receiver;
      words = record { sequence = e.sequence; id = e.id; sender = e.sender; status = e.status; total = total };
    }

-- the header as it is written
unfoldable pub header_bytes : Header → List ℕ
header_bytes h =
    type_version
    ∷ bytes 1 h.words.sequence
    ++ (bytes 2 h.index
    ++ (bytes 4 h.words.id
    ++ (bytes 4 h.words.sender
    ++ (bytes 4 h.receiver
    ++ (bytes 4 h.words.status
    ++ bytes 4 h.words.total)))))

-- a frame: its header, then its data
abbrev pub frame_of : Header → List ℕ → List ℕ
frame_of h piece = header_bytes h ++ piece
