-- "Keep up to eight open messages at once, one a sender, each in its own 4,096 bytes (place k, from 0, at 4,096 × k) of a lent buffer of 32,768 or more." (document 02, Q-7)
-- The places are a list of states: that of place 0, that of place 1, and on.
-- Assumes nothing.
use Rattle.std.specs.Prelude.{ℕ, suc, ◌+◌, ◌*◌, Bool, true, false, cond, ◌&&◌, List, [], ◌∷◌, ◌++◌, eqb, leb, length, get_or, take, drop, set, replicate}
use Rattle.reassembly.specs.Step.{consistent}
use Rattle.reassembly.specs.declared.State.{State}
use Rattle.reassembly.specs.declared.State.TheVariants.{Fresh, Open}

abbrev pub place_count : ℕ
place_count = 8

abbrev pub place_size : ℕ
place_size = 4096

abbrev pub buffer_min : ℕ
buffer_min = 32768

-- "a fresh start": nothing is open
abbrev pub all_fresh : List State
all_fresh = replicate place_count Fresh

-- the bytes of place k, and the buffer with others in their stead
abbrev pub part : ℕ → List ℕ → List ℕ
part k buffer = take place_size (drop (place_size * k) buffer)

abbrev pub with_part : ℕ → List ℕ → List ℕ → List ℕ
with_part k bytes buffer = take (place_size * k) buffer ++ (bytes ++ drop (place_size * k + place_size) buffer)

-- whether a place is free, and whether the sender s has its message there
abbrev pub is_free_def : State → Bool
is_free_def Fresh = true
is_free_def (Open p) = false

abbrev pub is_of_def : ℕ → State → Bool
is_of_def s Fresh = false
is_of_def s (Open p) = eqb p.words.sender s

-- the lowest place of a kind; as many as there are places where none is of that kind
unfoldable pub lowest : (State → Bool) → List State → ℕ
lowest P [] = 0
lowest P (p ∷ ps) = cond (P p) 0 (suc (lowest P ps))

abbrev pub none : (State → Bool) → List State → Bool
none P ps = eqb (lowest P ps) (length ps)

-- the place of the sender s, what it has open there, and the places without that
abbrev pub place_of : ℕ → List State → ℕ
place_of s ps = lowest (is_of_def s) ps

abbrev pub open_of_def : ℕ → List State → State
open_of_def s ps = get_or ps (place_of s ps) Fresh

abbrev pub without : ℕ → List State → List State
without s ps = set ps (place_of s ps) Fresh

-- each place is fresh or consistent, in its own 4,096 bytes
unfoldable pub all_consistent : List State → Bool
all_consistent [] = true
all_consistent (p ∷ ps) = consistent p place_size && all_consistent ps

-- the sender of this place has none of those behind it
abbrev pub is_alone_def : State → List State → Bool
is_alone_def Fresh ps = true
is_alone_def (Open p) ps = none (is_of_def p.words.sender) ps

-- no "two places with one sender"
unfoldable pub distinct : List State → Bool
distinct [] = true
distinct (p ∷ ps) = is_alone_def p ps && distinct ps

-- "Refusal 11 now also covers a shorter buffer and two places with one sender": where it is not given
unfoldable pub legal : List State → ℕ → Bool
legal ps room = leb buffer_min room && (all_consistent ps && distinct ps)
