-- Document 01, "UBIOS tables": looking for a name.
-- Assumes nothing.
use Rattle.std.specs.Prelude.{ℕ, suc, ◌+◌, ◌-◌, Bool, true, false, cond, not, ◌&&◌, ◌||◌, List, [], ◌∷◌, map, ltb, eqb, length, Result, Ok, Err}
use Rattle.le.specs.Compare.{same}
use Rattle.ubios.specs.Layout.{table_header, name_max, up_to_zero, name_of, used_of, is_gap, slots_of}
use Rattle.ubios.specs.Checks.{table_at, checked, root_checked}
use Rattle.ubios.specs.declared.Table.{Table}
use Rattle.ubios.specs.declared.Root.{Root}
use Rattle.ubios.specs.declared.lookup.Body.{Body}
use Rattle.ubios.specs.declared.Reason.{Reason}
use Rattle.ubios.specs.declared.Reason.TheVariants.{NoTable, TwoTables, BadName}

-- "sought name empty, over 16 bytes, or with a zero byte"
abbrev pub is_empty : List ℕ → Bool
is_empty name = eqb (length name) 0

abbrev pub is_long : List ℕ → Bool
is_long name = ltb name_max (length name)

abbrev pub has_zero : List ℕ → Bool
has_zero name = ltb (length (up_to_zero name)) (length name)

-- a name that no table has; the empty one is a table's name too
unfoldable pub no_name : List ℕ → Bool
no_name name = is_long name || has_zero name

-- 39: one of the three
unfoldable pub bad_name : List ℕ → Bool
bad_name name = is_empty name || no_name name

abbrev pub passes : Result Table Reason → Bool
passes (Ok table) = true
passes (Err reason) = false

-- whether a slot with that address leads to a passing table: "A slot of 0 is a gap", "A slot whose table fails its checks counts as none."
unfoldable pub leads_on : List ℕ → ℕ → ℕ → Bool
leads_on region base address = not (is_gap address) && passes (checked table_header region base address)

-- and to one of the name
unfoldable pub leads : List ℕ → ℕ → List ℕ → ℕ → Bool
leads region base name address = leads_on region base address && same (name_of (table_at region base address)) name

-- "the slot, counted from 0, and the body's place and length in the region: used part from byte 32 on"
abbrev pub body_of : ℕ → Table → Body
body_of slot table = record { slot = slot; at = table.at + table_header; length = table.used - table_header }

-- a passing table that a slot leads to: the slot, where the table stands and how long its used part is, and the bytes that stand there
pub record Lead : Type 0 where
  pub slot : ℕ
  pub table : Table
  pub bytes : List ℕ

abbrev pub lead_at : List ℕ → ℕ → ℕ → ℕ → Lead
lead_at region base slot address =
    record {
      slot = slot;
      table = record { at = address - base; used = used_of (table_at region base address) };
      bytes = table_at region base address;
    }

-- the passing tables that the slots lead to, in their order; the slots are counted from k on
unfoldable pub led_to : List ℕ → ℕ → ℕ → List ℕ → List Lead
led_to region base k [] = []
led_to region base k (a ∷ slots) =
    cond (leads_on region base a) (lead_at region base k a ∷ led_to region base (suc k) slots)
    (led_to region base (suc k) slots)

-- those of a name
unfoldable pub named : List ℕ → List Lead → List Lead
named name [] = []
named name (l ∷ more) = cond (same (name_of l.bytes) name) (l ∷ named name more) (named name more)

abbrev pub body_in : Lead → Body
body_in l = body_of l.slot l.table

abbrev pub body_at : List ℕ → ℕ → ℕ → ℕ → Body
body_at region base slot address = body_in (lead_at region base slot address)

-- the bodies of all slots that lead to a passing table of the name
unfoldable pub hits : List ℕ → ℕ → List ℕ → ℕ → List ℕ → List Body
hits region base name k slots = map body_in (named name (led_to region base k slots))

-- "38 if two slots or more lead to passing tables of that name (even by the same address), 37 if none does"
abbrev pub answer_of : List Body → Result Body Reason
answer_of [] = Err NoTable
answer_of (b ∷ []) = Ok b
answer_of (b ∷ c ∷ more) = Err TwoTables

-- the look-up in a memory with these slots
abbrev pub looked_up : List ℕ → ℕ → List ℕ → List ℕ → Result Body Reason
looked_up region base name slots = answer_of (hits region base name 0 slots)

abbrev pub in_root : Result Root Reason → List ℕ → ℕ → ℕ → List ℕ → Result Body Reason
in_root (Err reason) region base address name = Err reason
in_root (Ok root) region base address name = looked_up region base name (slots_of (table_at region base address))

-- "39 first .., then the root's refusals, then 38 .., 37"
unfoldable pub found : List ℕ → ℕ → ℕ → List ℕ → Result Body Reason
found region base root name =
    cond (bad_name name) (Err BadName)
    (in_root (root_checked region base root) region base root name)
