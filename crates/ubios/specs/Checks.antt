-- Document 01, "UBIOS tables": the checks of a table and of the root, in their order. "Memory is a lent region with the address of its first byte."
-- Assumes nothing.
use Rattle.std.specs.Prelude.{ℕ, ◌+◌, ◌*◌, ◌-◌, ◌%◌, Bool, cond, not, ◌||◌, List, ltb, eqb, length, drop, Result, Ok, Err}
use Rattle.le.specs.Sum.{sum}
use Rattle.le.specs.Compare.{same}
use Rattle.region.specs.Region.{outside}
use Rattle.ubios.specs.Layout.{root_header, total_max, count_max, version, name_of, total_of, version_of, remaining_of, used_of, summed_part, root_name, count_of}
use Rattle.ubios.specs.declared.Table.{Table}
use Rattle.ubios.specs.declared.Root.{Root}
use Rattle.ubios.specs.declared.Reason.{Reason}
use Rattle.ubios.specs.declared.Reason.TheVariants.{Outside, Misaligned, BadSize, WrongVersion, WrongSum, NotRoot, BadCount, NoTable, TwoTables, BadName}

abbrev pub number_of : Reason → ℕ
number_of Outside = 30
number_of Misaligned = 31
number_of BadSize = 32
number_of WrongVersion = 33
number_of WrongSum = 34
number_of NotRoot = 35
number_of BadCount = 36
number_of NoTable = 37
number_of TwoTables = 38
number_of BadName = 39

-- what stands in the region from an address on
abbrev pub table_at : List ℕ → ℕ → ℕ → List ℕ
table_at region base address = drop (address - base) region

-- 31: "address not a multiple of 8"
abbrev pub misaligned : ℕ → Bool
misaligned address = not (eqb (address % 8) 0)

-- "Total under the header, over 65,536 or past the region": `size` is how much of the region there is from the table's first byte on
abbrev pub under_header : ℕ → ℕ → Bool
under_header header total = ltb total header

abbrev pub over_most : ℕ → Bool
over_most total = ltb total_max total

abbrev pub past_region : ℕ → ℕ → Bool
past_region size total = ltb size total

-- "or Remaining over Total − header"
abbrev pub over_rest : ℕ → ℕ → ℕ → Bool
over_rest header total remaining = ltb (total - header) remaining

-- 32: one of these four
unfoldable pub bad_size : ℕ → ℕ → ℕ → ℕ → Bool
bad_size header size total remaining =
    under_header header total
    || (over_most total
    || (past_region size total
    || over_rest header total remaining))

-- 33: "Version not 1"
abbrev pub wrong_version : List ℕ → Bool
wrong_version t = not (eqb (version_of t) version)

-- 34: "sum", of the used part
abbrev pub wrong_sum : List ℕ → Bool
wrong_sum part = not (eqb (sum 4 part) 0)

-- 32, 33 and 34, of the table t that stands at that place of the region
unfoldable pub judged : ℕ → ℕ → List ℕ → Result Table Reason
judged header at t =
    cond (bad_size header (length t) (total_of t) (remaining_of t)) (Err BadSize)
    (cond (wrong_version t) (Err WrongVersion)
    (cond (wrong_sum (summed_part t)) (Err WrongSum)
    (Ok (record { at = at; used = used_of t }))))

-- what the checks of a table with a header of that size answer: where it stands in the region, and how long its used part is
unfoldable pub checked : ℕ → List ℕ → ℕ → ℕ → Result Table Reason
checked header region base address =
    cond (misaligned address) (Err Misaligned)
    (cond (outside header (length region) base address) (Err Outside)
    (judged header (address - base) (table_at region base address)))

-- 35: "name"
abbrev pub not_root : List ℕ → Bool
not_root t = not (same (name_of t) root_name)

-- "Count over 128, or 40 + 8 × Count over the used part"
abbrev pub many_slots : ℕ → Bool
many_slots count = ltb count_max count

abbrev pub past_used : ℕ → ℕ → Bool
past_used used count = ltb used (root_header + 8 * count)

-- 36: one of these two
unfoldable pub bad_count : ℕ → ℕ → Bool
bad_count used count = many_slots count || past_used used count

-- 35 and 36, of a root that passes the checks of a table
unfoldable pub root_judged : Table → List ℕ → Result Root Reason
root_judged table t =
    cond (not_root t) (Err NotRoot)
    (cond (bad_count table.used (count_of t)) (Err BadCount)
    (Ok (record { table = table; count = count_of t })))

abbrev pub root_after : Result Table Reason → List ℕ → Result Root Reason
root_after (Err reason) t = Err reason
root_after (Ok table) t = root_judged table t

-- what the checks of the root answer
unfoldable pub root_checked : List ℕ → ℕ → ℕ → Result Root Reason
root_checked region base address = root_after (checked root_header region base address) (table_at region base address)
