-- Document 01, "SFI tables" (002), as 02 changes it (Q-1): the check of a table, and its entries.
-- Assumes nothing.
use Rattle.std.specs.Prelude.{ℕ, ◌+◌, ◌*◌, ◌-◌, ◌/◌, ◌%◌, Bool, false, cond, not, ◌&&◌, ◌||◌, List, ltb, eqb, length, take, drop, Option, None, Some, Result, Ok, Err}
use Rattle.le.specs.Word.{word}
use Rattle.le.specs.Sum.{sum}
use Rattle.sfi.specs.Kinds.{wake, kind_of}
use Rattle.sfi.specs.declared.kind.Kind.{Kind}
use Rattle.sfi.specs.declared.Table.{Table}
use Rattle.sfi.specs.declared.Reason.{Reason}
use Rattle.sfi.specs.declared.Reason.TheVariants.{BadLength, WrongSum, UnknownSignature, BadEntries, WrongRevision, NoEntry, BadMemory, NoSyst, Neither}

abbrev pub number_of : Reason → ℕ
number_of BadLength = 40
number_of WrongSum = 41
number_of UnknownSignature = 42
number_of BadEntries = 43
number_of WrongRevision = 44
number_of NoEntry = 45
number_of BadMemory = 46
number_of NoSyst = 47
number_of Neither = 48

-- "Header 24", and the longest table
abbrev pub header_size : ℕ
header_size = 24

abbrev pub length_max : ℕ
length_max = 65536

-- "WAKE has exactly one entry"
abbrev pub wake_length : ℕ
wake_length = 32

-- the words of the header; OEMID, at 10, and OEM Table ID, at 16, are only summed
abbrev pub signature_of : List ℕ → ℕ
signature_of t = word 4 t

abbrev pub length_of_def : List ℕ → ℕ
length_of_def t = word 4 (drop 4 t)

abbrev pub revision_of : List ℕ → ℕ
revision_of t = word 1 (drop 8 t)

-- "slice under 24 bytes, Length under 24, over 65,536 or past the slice"
abbrev pub short_slice : ℕ → Bool
short_slice size = ltb size header_size

abbrev pub under_header : ℕ → Bool
under_header total = ltb total header_size

abbrev pub over_most : ℕ → Bool
over_most total = ltb length_max total

abbrev pub past_slice : ℕ → ℕ → Bool
past_slice size total = ltb size total

-- 40: one of these four
unfoldable pub bad_length : ℕ → ℕ → Bool
bad_length size total =
    short_slice size
    || (under_header total
    || (over_most total
    || past_slice size total))

-- 44: "exactly when Revision is below the listed one" (Q-1)
abbrev pub older_revision : Kind → ℕ → Bool
older_revision kind revision = ltb revision kind.revision

-- "Length − 24 no multiple of the entry size"
abbrev pub uneven : Kind → ℕ → Bool
uneven kind total = not (eqb ((total - header_size) % kind.entry) 0)

-- "or WAKE not 32"
abbrev pub is_wake : Kind → Bool
is_wake kind = eqb kind.signature wake.signature

abbrev pub not_one_entry : ℕ → Bool
not_one_entry total = not (eqb total wake_length)

-- 43: one of these two
unfoldable pub bad_entries : Kind → ℕ → Bool
bad_entries kind total = uneven kind total || (is_wake kind && not_one_entry total)

-- 44 and 43, of a table of that kind
unfoldable pub judged : Kind → List ℕ → Result Table Reason
judged kind header =
    cond (older_revision kind (revision_of header)) (Err WrongRevision)
    (cond (bad_entries kind (length_of_def header)) (Err BadEntries)
    (Ok (record { kind = kind; length = length_of_def header })))

abbrev pub judged_as : Option Kind → List ℕ → Result Table Reason
judged_as (Some kind) header = judged kind header
judged_as None header = Err UnknownSignature

-- 40, 42, 44 and 43: what the slice's size and its first 24 bytes tell (`header_alone`)
unfoldable pub header_checked : ℕ → List ℕ → Result Table Reason
header_checked size header =
    cond (bad_length size (length_of_def header)) (Err BadLength)
    (judged_as (kind_of (signature_of header)) header)

-- "All Length bytes sum to 0 modulo 256"
abbrev pub summed_part : Table → List ℕ → List ℕ
summed_part table t = take table.length t

-- 41: "sum"
abbrev pub wrong_sum : List ℕ → Bool
wrong_sum part = not (eqb (sum 1 part) 0)

abbrev pub summed : Result Table Reason → List ℕ → Result Table Reason
summed (Err reason) t = Err reason
summed (Ok table) t = cond (wrong_sum (summed_part table t)) (Err WrongSum) (Ok table)

-- what the check of a table answers, the header first and then the sum: its kind, and its Length
unfoldable pub checked : List ℕ → Result Table Reason
checked t = summed (header_checked (length t) t) t

-- how many entries a table has, and where each stands
abbrev pub entries_of : Table → ℕ
entries_of table = (table.length - header_size) / table.kind.entry

abbrev pub entry_at : Table → ℕ → ℕ
entry_at table k = header_size + k * table.kind.entry

-- "the table's refusals first, then 45 if it has no such entry, else the answer is its offset"
abbrev pub entry_in : Result Table Reason → ℕ → Result ℕ Reason
entry_in (Err reason) k = Err reason
entry_in (Ok table) k = cond (ltb k (entries_of table)) (Ok (entry_at table k)) (Err NoEntry)

abbrev pub entry_of : List ℕ → ℕ → Result ℕ Reason
entry_of t k = entry_in (checked t) k

-- whether a table passes, and has that signature
abbrev pub passes_as_def : ℕ → Result Table Reason → Bool
passes_as_def signature (Ok table) = eqb table.kind.signature signature
passes_as_def signature (Err reason) = false
