-- Document 01, "The notice ring" (001, tables 30 and 31): one post and one take.
-- Assumes nothing.
use Rattle.std.specs.Prelude.{ℕ, ◌+◌, ◌-◌, ◌%◌, Bool, cond, not, ◌||◌, List, ◌++◌, ltb, leb, eqb, length, take, drop, Result, Ok, Err}
use Rattle.le.specs.Word.{word, bytes}
use Rattle.notice.specs.declared.Positions.{Positions}
use Rattle.notice.specs.declared.Reason.{Reason}
use Rattle.notice.specs.declared.Reason.TheVariants.{BadRing, Empty, Damaged, OutputShort, DataLong, Full}
use Rattle.notice.specs.declared.Taken.{Taken}

abbrev pub number_of : Reason → ℕ
number_of BadRing = 20
number_of Empty = 21
number_of Damaged = 22
number_of OutputShort = 23
number_of DataLong = 24
number_of Full = 25

-- "data of 0 to 1,024 bytes"
abbrev pub data_max : ℕ
data_max = 1024

-- Notify ID and Data Length
abbrev pub header_size : ℕ
header_size = 8

-- the capacities
abbrev pub ring_min : ℕ
ring_min = 16

abbrev pub ring_max : ℕ
ring_max = 65536

abbrev pub ring_unit : ℕ
ring_unit = 8

-- 20: "C below 16, above 65,536, not a multiple of 8, or a position not below C"
abbrev pub is_small : ℕ → Bool
is_small c = ltb c ring_min

abbrev pub is_large : ℕ → Bool
is_large c = ltb ring_max c

abbrev pub is_uneven : ℕ → Bool
is_uneven c = not (eqb (c % ring_unit) 0)

abbrev pub is_outside : ℕ → ℕ → Bool
is_outside c position = leb c position

unfoldable pub bad_ring : ℕ → Positions → Bool
bad_ring c at =
    is_small c
    || (is_large c
    || (is_uneven c
    || (is_outside c at.read || is_outside c at.write)))

-- what waits ends before the ring does; else it runs past the last byte to the first
abbrev pub is_between : Positions → Bool
is_between at = leb at.read at.write

-- how many bytes wait: "Equal positions mean empty, so at most C − 1 bytes wait."
unfoldable pub waiting : ℕ → Positions → ℕ
waiting c at = cond (is_between at) (at.write - at.read) (c - at.read + at.write)

abbrev pub is_empty : Positions → Bool
is_empty at = eqb at.read at.write

-- how many more bytes can wait
abbrev pub free : ℕ → Positions → ℕ
free c at = c - 1 - waiting c at

-- 24: "data over 1,024"
abbrev pub is_long : ℕ → Bool
is_long n = ltb data_max n

-- 25: "exactly if 8 plus length exceeds C − 1 − waiting"
abbrev pub is_full : ℕ → Positions → ℕ → Bool
is_full c at n = ltb (free c at) (header_size + n)

-- a position moved on by n, past the last byte to the first
unfoldable pub moved : ℕ → ℕ → ℕ → ℕ
moved c at n = (at + n) % c

-- the ring as it is seen from a place: from there to the last byte, then from the first on
abbrev pub turned : ℕ → List ℕ → List ℕ
turned at ring = drop at ring ++ take at ring

-- the ring with these bytes from a place on, running past the last byte to the first: seen from there it starts with them, and is else as before
abbrev pub stored : ℕ → List ℕ → List ℕ → List ℕ
stored at bs ring = turned (length ring - at) (bs ++ drop (length bs) (turned at ring))

-- a notice: Notify ID, Data Length ("not counting these eight bytes"), data
abbrev pub notice_of : ℕ → List ℕ → List ℕ
notice_of id body = bytes 4 id ++ (bytes 4 (length body) ++ body)

-- what a post answers; "Only whole notices move a position."
unfoldable pub posted : List ℕ → Positions → ℕ → List ℕ → Result Positions Reason
posted ring at id body =
    cond (bad_ring (length ring) at) (Err BadRing)
    (cond (is_long (length body)) (Err DataLong)
    (cond (is_full (length ring) at (length body)) (Err Full)
    (Ok (record { read = at.read; write = moved (length ring) at.write (header_size + length body) }))))

-- what the ring holds after that answer
abbrev pub ring_after : Result Positions Reason → List ℕ → Positions → ℕ → List ℕ → List ℕ
ring_after (Ok next) ring at id body = stored at.write (notice_of id body) ring
ring_after (Err reason) ring at id body = ring

-- the header of the oldest notice, read round the ring
abbrev pub id_at : List ℕ → Positions → ℕ
id_at ring at = word 4 (turned at.read ring)

abbrev pub length_at : List ℕ → Positions → ℕ
length_at ring at = word 4 (drop 4 (turned at.read ring))

-- 22: "fewer than 8 bytes wait, length over 1,024, or length over waiting − 8"
abbrev pub lacks_header : List ℕ → Positions → Bool
lacks_header ring at = ltb (waiting (length ring) at) header_size

abbrev pub lacks_data_def : List ℕ → Positions → Bool
lacks_data_def ring at = ltb (waiting (length ring) at - header_size) (length_at ring at)

abbrev pub damaged : List ℕ → Positions → Bool
damaged ring at = lacks_header ring at || (is_long (length_at ring at) || lacks_data_def ring at)

-- 23: "output shorter than the data"
abbrev pub is_short : List ℕ → Positions → List ℕ → Bool
is_short ring at out = ltb (length out) (length_at ring at)

-- the answer to a take that gives a notice: Notify ID, Data Length, and the positions after it
abbrev pub got : ℕ → ℕ → Positions → Result Taken Reason
got id n next = Ok (record { id = id; length = n; positions = next })

-- what a take answers
unfoldable pub taken_of : List ℕ → Positions → List ℕ → Result Taken Reason
taken_of ring at out =
    cond (bad_ring (length ring) at) (Err BadRing)
    (cond (is_empty at) (Err Empty)
    (cond (damaged ring at) (Err Damaged)
    (cond (is_short ring at out) (Err OutputShort)
    (got (id_at ring at) (length_at ring at)
    (record { read = moved (length ring) at.read (header_size + length_at ring at); write = at.write })))))

-- what the output holds after that answer: the data, then its own bytes
abbrev pub output_after : Result Taken Reason → List ℕ → Positions → List ℕ → List ℕ
output_after (Ok taken) ring at out = take taken.length (drop header_size (turned at.read ring)) ++ drop taken.length out
output_after (Err reason) ring at out = out
