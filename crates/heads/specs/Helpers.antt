-- What only private functions' contracts name. No reader has to believe it.
-- Assumes nothing.
use Rattle.std.specs.Prelude.{ℕ, ◌*◌, ◌+◌, true, cond, ◌≡◌, List, ◌++◌, length, take, drop}
use Rattle.frame.specs.declared.Header.{Header}
use Rattle.frame.specs.declared.read.Parsed.{Parsed}
use Rattle.reassembly.specs.Step.{consistent, is_first, received}
use Rattle.reassembly.specs.declared.State.{State}
use Rattle.reassembly.specs.declared.Reason.TheVariants.{NothingOpen}
use Rattle.heads.specs.declared.Reason.{Reason}
use Rattle.heads.specs.declared.Reason.TheVariants.{Step}
use Rattle.heads.specs.Places.{place_size, is_free_def, lowest, place_of, without}
use Rattle.heads.specs.Step.{crowded}
use Rattle.heads.specs.Numbers.{row_size, row_of}

-- the numbers with that state kept at place k
abbrev pub relaid : ℕ → State → List ℕ → List ℕ
relaid k state numbers =
    take (row_size * k) numbers ++ (row_of state ++ drop (row_size * k + row_size) numbers)

-- from a consistent state, a frame of this header and data leaves a consistent state: so does each that is read (`stays_consistent` of `reassembly`)
abbrev pub Keeps : Header → List ℕ → Type 0
Keeps h piece =
    (state : State) (buffer : List ℕ)
    → length buffer ≡ place_size
    → consistent state place_size ≡ true
    → consistent (received (Parsed.Header h) piece state buffer).answer.state place_size ≡ true

-- the place of a frame with this header, and the places then: with Index 0 without what its sender has open
abbrev pub seat_of : Header → List State → ℕ
seat_of h ps = cond (is_first h) (lowest is_free_def (without h.words.sender ps)) (place_of h.words.sender ps)

abbrev pub left_for : Header → List State → List State
left_for h ps = cond (is_first h) (without h.words.sender ps) ps

-- why one that has no place is refused
abbrev pub turned_away : Header → ℕ → Reason
turned_away h size = cond (is_first h) (crowded size h.words.total) (Step NothingOpen)
