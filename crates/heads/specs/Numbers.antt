-- The places as 64 numbers of 32 bits, which the caller lends: eight of each place, one place after another. Each state is kept in one way only; zeros are eight fresh places.
-- Assumes nothing.
use Rattle.std.specs.Prelude.{ℕ, zero, suc, cond, not, List, [], ◌∷◌, ◌++◌, map, eqb, ltb, get_or, take, drop, replicate}
use Rattle.le.specs.Compare.{same}
use Rattle.frame.specs.Layout.{words_of, words_at}
use Rattle.reassembly.specs.declared.State.{State}
use Rattle.reassembly.specs.declared.State.TheVariants.{Fresh, Open}
use Rattle.heads.specs.Places.{place_count}

-- how many numbers a place has
abbrev pub row_size : ℕ
row_size = 8

-- and all of them
abbrev pub number_count : ℕ
number_count = 64

-- the largest byte: the first of the carried words is one
abbrev pub byte_max : ℕ
byte_max = 0xFF

-- the numbers of a place: eight zeros where it is fresh; else 1, the carried words, the next Index and how many bytes are filled
abbrev pub row_of : State → List ℕ
row_of Fresh = replicate row_size 0
row_of (Open p) = 1 ∷ (words_of p.words ++ (p.next ∷ p.filled ∷ []))

-- an open state that no buffer is consistent with
abbrev pub no_state_def : State
no_state_def = Open (record { words = words_at 0 []; next = 0; filled = 0 })

-- the state that eight numbers are; what is none reads as `no_state_def`, so that it gets 11
abbrev pub open_in_def : List ℕ → State
open_in_def row =
    cond (ltb byte_max (get_or row 1 0)) no_state_def
    (Open (record { words = words_at 1 row; next = get_or row 6 0; filled = get_or row 7 0 }))

unfoldable pub state_in_def : List ℕ → State
state_in_def row =
    cond (eqb (get_or row 0 0) 0) (cond (same row (row_of Fresh)) Fresh no_state_def)
    (cond (not (eqb (get_or row 0 0) 1)) no_state_def (open_in_def row))

-- the numbers of the first n places
unfoldable pub rows : ℕ → List ℕ → List (List ℕ)
rows zero numbers = []
rows (suc n) numbers = take row_size numbers ∷ rows n (drop row_size numbers)

-- the places that 64 numbers are, and the numbers that places are kept as
abbrev pub places_in : List ℕ → List State
places_in numbers = map state_in_def (rows place_count numbers)

unfoldable pub numbers_of : List State → List ℕ
numbers_of [] = []
numbers_of (p ∷ ps) = row_of p ++ numbers_of ps
