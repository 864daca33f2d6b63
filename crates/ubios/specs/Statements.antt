-- What is proved of the checks and of the look-up, under the names given here. The proofs are in `proofs/Theorems.antt`, those whose names begin with `laid` in
-- `proofs/Laid.antt`, those of `passes_only`, `root_passes_only` and `root_refusals` in `proofs/Answers.antt`.
-- Assumes nothing.
use Rattle.std.specs.Prelude.{ℕ, suc, ◌+◌, ◌*◌, ◌-◌, ◌%◌, ◌^◌, ◌≤◌, ◌<◌, true, false, cond, ◌≡◌, List, [], ◌∷◌, ◌++◌, ltb, length, take, drop, Result, Ok, Err}
use Rattle.le.specs.Word.{word, bytes}
use Rattle.le.specs.Sum.{sum, checksum_of}
use Rattle.le.specs.Compare.{same}
use Rattle.region.specs.Statements.{Inside}
use Rattle.ubios.specs.Layout.{table_header, version, up_to_zero, name_of, used_of, root_name, slots_of}
use Rattle.ubios.specs.Checks.{number_of, table_at, checked, root_checked}
use Rattle.ubios.specs.Lookup.{bad_name, leads, body_at, found}
use Rattle.ubios.specs.declared.Table.{Table}
use Rattle.ubios.specs.declared.Root.{Root}
use Rattle.ubios.specs.declared.Reason.{Reason}
use Rattle.ubios.specs.declared.Reason.TheVariants.{NoTable, TwoTables}
use Rattle.ubios.specs.declared.lookup.Body.{Body}

-- Total Size and Remaining Size of a table that has `size` bytes of the region
pub record Sized (header size total remaining : ℕ) : Type 0 where
  pub holds : header ≤ total
  pub most : total ≤ 65536
  pub inside : total ≤ size
  pub left : remaining ≤ total - header

-- Total Size and Remaining Size as they stand in memory
abbrev pub total_in : List ℕ → ℕ → ℕ → ℕ
total_in region base address = word 4 (drop 16 (table_at region base address))

abbrev pub remaining_in : List ℕ → ℕ → ℕ → ℕ
remaining_in region base address = word 4 (drop 24 (table_at region base address))

-- `passes_only`. What passes is aligned, with its header in the region and its sizes in their bounds, has Version 1 and a used part that sums to 0; the answer is where
-- it stands, and how long that part is.
pub record Passing (header : ℕ) (region : List ℕ) (base address : ℕ) (table : Table) : Type 0 where
  pub aligned : address % 8 ≡ 0
  pub inside : Inside header (length region) base address
  pub sized : Sized header (length (table_at region base address)) (total_in region base address) (remaining_in region base address)
  pub one : word 1 (drop 20 (table_at region base address)) ≡ 1
  pub zero : sum 4 (take (total_in region base address - remaining_in region base address) (table_at region base address)) ≡ 0
  pub is : table ≡ record { at = address - base; used = total_in region base address - remaining_in region base address }

abbrev pub PassesOnly : Type 0
PassesOnly =
    (header : ℕ) (region : List ℕ) (base address : ℕ) (table : Table)
    → checked header region base address ≡ Ok table
    → Passing header region base address table

-- `root_passes_only`. What passes as a root passes as a table with a header of 40, is named `root_table`, and has at most 128 slots, all in its used part; the answer
-- has their number.
pub record Rooted (region : List ℕ) (base address : ℕ) (root : Root) : Type 0 where
  pub table : Passing 40 region base address root.table
  pub named : up_to_zero (take 16 (table_at region base address)) ≡ root_name
  pub few : root.count ≤ 128
  pub room : 40 + 8 * root.count ≤ root.table.used
  pub count : root.count ≡ word 2 (drop 32 (table_at region base address))

abbrev pub RootPassesOnly : Type 0
RootPassesOnly =
    (region : List ℕ) (base address : ℕ) (root : Root)
    → root_checked region base address ≡ Ok root
    → Rooted region base address root

-- `root_refusals`. A root is refused with 30 to 36 and no other number, so 37, 38 and 39 come of the look-up alone.
abbrev pub RootRefusals : Type 0
RootRefusals =
    (region : List ℕ) (base address : ℕ) (reason : Reason)
    → root_checked region base address ≡ Err reason
    → (30 ≤ number_of reason) × (number_of reason ≤ 36)

-- none of these slots leads to a passing table of the name
abbrev pub NoneLeads : List ℕ → ℕ → List ℕ → List ℕ → Type 0
NoneLeads region base name [] = Unit {0}
NoneLeads region base name (a ∷ slots) = (leads region base name a ≡ false) × NoneLeads region base name slots

-- one slot among all does, and its number and body are these
pub record OnlyOne (region : List ℕ) (base root : ℕ) (name : List ℕ) (b : Body) : Type 0 where
  pub before : List ℕ
  pub address : ℕ
  pub after : List ℕ
  pub slots : slots_of (table_at region base root) ≡ before ++ (address ∷ after)
  pub leads_there : leads region base name address ≡ true
  pub none_before : NoneLeads region base name before
  pub none_after : NoneLeads region base name after
  pub is : b ≡ body_at region base (length before) address

-- two among all do, at different places; their addresses may be the same
pub record TwoLead (region : List ℕ) (base root : ℕ) (name : List ℕ) : Type 0 where
  pub before : List ℕ
  pub first : ℕ
  pub between : List ℕ
  pub second : ℕ
  pub after : List ℕ
  pub slots : slots_of (table_at region base root) ≡ before ++ (first ∷ (between ++ (second ∷ after)))
  pub first_leads : leads region base name first ≡ true
  pub second_leads : leads region base name second ≡ true

-- the look-up comes to the slots: the name can be sought, and the root passes
pub record Walked (region : List ℕ) (base root : ℕ) (name : List ℕ) : Type 0 where
  pub sought : bad_name name ≡ false
  pub root_table : Root
  pub root_passes : root_checked region base root ≡ Ok root_table

-- `found_only`, `only_found`. A body is found exactly where the name can be sought, the root passes, and one slot among all leads to a passing table of the name,
-- wherever it stands; and it is that table's.
abbrev pub FoundOnly : Type 0
FoundOnly =
    (region : List ℕ) (base root : ℕ) (name : List ℕ) (b : Body)
    → found region base root name ≡ Ok b
    → Walked region base root name × OnlyOne region base root name b

abbrev pub OnlyFound : Type 0
OnlyFound =
    (region : List ℕ) (base root : ℕ) (name : List ℕ) (b : Body)
    → Walked region base root name
    → OnlyOne region base root name b
    → found region base root name ≡ Ok b

-- `found_none`, `none_found`. 37 is given exactly where the name can be sought, the root passes, and no slot leads to a passing table of the name.
abbrev pub FoundNone : Type 0
FoundNone =
    (region : List ℕ) (base root : ℕ) (name : List ℕ)
    → found region base root name ≡ Err NoTable
    → Walked region base root name × NoneLeads region base name (slots_of (table_at region base root))

abbrev pub NoneFound : Type 0
NoneFound =
    (region : List ℕ) (base root : ℕ) (name : List ℕ)
    → Walked region base root name
    → NoneLeads region base name (slots_of (table_at region base root))
    → found region base root name ≡ Err NoTable

-- `found_two`, `two_found`. 38 is given exactly where the name can be sought, the root passes, and two slots or more lead to passing tables of the name.
abbrev pub FoundTwo : Type 0
FoundTwo =
    (region : List ℕ) (base root : ℕ) (name : List ℕ)
    → found region base root name ≡ Err TwoTables
    → Walked region base root name × TwoLead region base root name

abbrev pub TwoFound : Type 0
TwoFound =
    (region : List ℕ) (base root : ℕ) (name : List ℕ)
    → Walked region base root name
    → TwoLead region base root name
    → found region base root name ≡ Err TwoTables

-- `behind_gap`. A table behind a gap is found, wherever the gap stands before it.
abbrev pub BehindGap : Type 0
BehindGap =
    (region : List ℕ) (base root : ℕ) (name : List ℕ) (r : Root) (before between : List ℕ) (address : ℕ) (after : List ℕ)
    → bad_name name ≡ false
    → root_checked region base root ≡ Ok r
    → slots_of (table_at region base root) ≡ before ++ (0 ∷ (between ++ (address ∷ after)))
    → leads region base name address ≡ true
    → NoneLeads region base name before
    → NoneLeads region base name between
    → NoneLeads region base name after
    → found region base root name ≡ Ok (body_at region base (length before + suc (length between)) address)

-- in two regions from the same address on, slots with these addresses lead to the same tables of the name, or to none
abbrev pub SameTables : List ℕ → List ℕ → ℕ → List ℕ → List ℕ → Type 0
SameTables region region' base name [] = Unit {0}
SameTables region region' base name (a ∷ slots) =
    (leads region' base name a ≡ leads region base name a)
    × (leads region base name a ≡ true → used_of (table_at region' base a) ≡ used_of (table_at region base a))
    × SameTables region region' base name slots

-- the answer with the number of each slot from k on one higher
abbrev pub moved_on : ℕ → Result Body Reason → Result Body Reason
moved_on k (Err reason) = Err reason
moved_on k (Ok b) = Ok (record { slot = cond (ltb b.slot k) b.slot (suc b.slot); at = b.at; length = b.length })

-- `gap_added`. A gap more, anywhere among the slots, changes no answer but the number of a slot behind it: of two passing roots, the second with a gap more, whose
-- slots lead to the same tables of the name.
abbrev pub GapAdded : Type 0
GapAdded =
    (region region' : List ℕ) (base root root' : ℕ) (name : List ℕ) (r r' : Root) (before after : List ℕ)
    → root_checked region base root ≡ Ok r
    → root_checked region' base root' ≡ Ok r'
    → slots_of (table_at region base root) ≡ before ++ after
    → slots_of (table_at region' base root') ≡ before ++ (0 ∷ after)
    → SameTables region region' base name (before ++ after)
    → found region' base root' name ≡ moved_on (length before) (found region base root name)

-- `body_inside`. The body that is found lies inside the region.
abbrev pub BodyInside : Type 0
BodyInside =
    (region : List ℕ) (base root : ℕ) (name : List ℕ) (b : Body)
    → found region base root name ≡ Ok b
    → b.at + b.length ≤ length region

-- `body_bytes`. The body of a slot is the used part, from byte 32 on, of the table at its address.
abbrev pub BodyBytes : Type 0
BodyBytes =
    (region : List ℕ) (base slot address : ℕ)
    → take (body_at region base slot address).length (drop (body_at region base slot address).at region)
    ≡ drop table_header (take (used_of (table_at region base address)) (table_at region base address))

-- a table as the rules lay it out: the name's 16 bytes, Total Size, Version, three bytes reserved, Remaining Size, Checksum, and the body
abbrev pub head_of : List ℕ → ℕ → List ℕ → ℕ → List ℕ
head_of field total reserved remaining = field ++ (bytes 4 total ++ ((version ∷ reserved) ++ bytes 4 remaining))

abbrev pub table_of : List ℕ → List ℕ → ℕ → List ℕ → List ℕ
table_of field reserved remaining body =
    head_of field (table_header + length body + remaining) reserved remaining
    ++ (bytes 4 (checksum_of 4 (head_of field (table_header + length body + remaining) reserved remaining) body) ++ body)

-- a memory with that table, at that address
pub record Laid (front field reserved : List ℕ) (remaining : ℕ) (body rest : List ℕ) (base : ℕ) : Type 0 where
  pub named : length field ≡ 16
  pub three : length reserved ≡ 3
  pub most : table_header + length body + remaining ≤ 65536
  pub left : remaining ≤ length rest
  pub aligned : (base + length front) % 8 ≡ 0
  pub top : base + length (front ++ (table_of field reserved remaining body ++ rest)) ≤ 2 ^ 64

-- `laid_passes`. Each table that is laid out by the rules passes its checks, at any aligned address of any memory: any name, any body, any Remaining Size.
abbrev pub LaidPasses : Type 0
LaidPasses =
    (header : ℕ) (front field reserved : List ℕ) (remaining : ℕ) (body rest : List ℕ) (base : ℕ)
    → header ≤ table_header + length body
    → Laid front field reserved remaining body rest base
    → checked header (front ++ (table_of field reserved remaining body ++ rest)) base (base + length front)
    ≡ Ok (record { at = length front; used = table_header + length body })

-- what may follow a name in its field: a zero and anything, or nothing where the name fills the field
abbrev pub EndsName : List ℕ → Type 0
EndsName [] = Unit {0}
EndsName (b ∷ junk) = b ≡ 0

-- `laid_name`. The name of a table is what stands in its field before the first zero, whatever follows, or all of its field.
abbrev pub LaidName : Type 0
LaidName =
    (front name end behind : List ℕ) (base : ℕ)
    → bad_name name ≡ false
    → EndsName end
    → length (name ++ end) ≡ 16
    → name_of (table_at (front ++ ((name ++ end) ++ behind)) base (base + length front)) ≡ name

-- the slots of a root, one after another
unfoldable pub slot_bytes : List ℕ → List ℕ
slot_bytes [] = []
slot_bytes (a ∷ slots) = bytes 8 a ++ slot_bytes slots

-- each address has 64 bits
abbrev pub Addresses : List ℕ → Type 0
Addresses [] = Unit {0}
Addresses (a ∷ slots) = (a < 2 ^ 64) × Addresses slots

-- a root's body: Count, six bytes reserved, the slots, and what else is used
abbrev pub root_body : List ℕ → List ℕ → List ℕ → List ℕ
root_body six slots more = bytes 2 (length slots) ++ (six ++ (slot_bytes slots ++ more))

-- `laid_root`. Each root that is laid out by the rules, with at most 128 slots, passes the checks of a root, and its slots are those that were laid out.
pub record RootLaid (region : List ℕ) (base root at used : ℕ) (slots : List ℕ) : Type 0 where
  pub passes : root_checked region base root ≡ Ok (record { table = record { at = at; used = used }; count = length slots })
  pub slots_are : slots_of (table_at region base root) ≡ slots

abbrev pub LaidRoot : Type 0
LaidRoot =
    (front junk reserved : List ℕ) (remaining : ℕ) (six slots more rest : List ℕ) (base : ℕ)
    → length six ≡ 6
    → length slots ≤ 128
    → Addresses slots
    → Laid front (root_name ++ (0 ∷ junk)) reserved remaining (root_body six slots more) rest base
    → RootLaid (front ++ (table_of (root_name ++ (0 ∷ junk)) reserved remaining (root_body six slots more) ++ rest)) base (base + length front) (length front)
    (table_header + length (root_body six slots more)) slots

-- in that memory a table of that name, with that body, is laid out by the rules at that address
pub record TableIn (region : List ℕ) (base address : ℕ) (name body : List ℕ) : Type 0 where
  pub front : List ℕ
  pub end : List ℕ
  pub reserved : List ℕ
  pub remaining : ℕ
  pub rest : List ℕ
  pub here : address ≡ base + length front
  pub memory : region ≡ front ++ (table_of (name ++ end) reserved remaining body ++ rest)
  pub good : bad_name name ≡ false
  pub ended : EndsName end
  pub laid : Laid front (name ++ end) reserved remaining body rest base

-- and a root with these slots
pub record RootIn (region : List ℕ) (base root : ℕ) (slots : List ℕ) : Type 0 where
  pub front : List ℕ
  pub junk : List ℕ
  pub reserved : List ℕ
  pub remaining : ℕ
  pub six : List ℕ
  pub more : List ℕ
  pub rest : List ℕ
  pub here : root ≡ base + length front
  pub memory : region ≡ front ++ (table_of (root_name ++ (0 ∷ junk)) reserved remaining (root_body six slots more) ++ rest)
  pub six_bytes : length six ≡ 6
  pub few : length slots ≤ 128
  pub fit : Addresses slots
  pub laid : Laid front (root_name ++ (0 ∷ junk)) reserved remaining (root_body six slots more) rest base

-- `laid_leads`. A slot with the address, not 0, of a table that is laid out by the rules leads to a passing table of a name exactly if the name is the table's.
abbrev pub LaidLeads : Type 0
LaidLeads =
    (region : List ℕ) (base address : ℕ) (own body name : List ℕ)
    → TableIn region base address own body
    → (address ≡ 0 → ⊥)
    → leads region base name address ≡ same own name

-- `laid_found`. In a memory with a root and a table, both laid out by the rules, the table is found by its name if one slot has its address, not 0, and no other slot
-- leads to a passing table of that name; the answer is that slot and the table's body.
abbrev pub LaidFound : Type 0
LaidFound =
    (region : List ℕ) (base root address : ℕ) (name body before after : List ℕ)
    → RootIn region base root (before ++ (address ∷ after))
    → TableIn region base address name body
    → (address ≡ 0 → ⊥)
    → NoneLeads region base name before
    → NoneLeads region base name after
    → found region base root name ≡ Ok (record { slot = length before; at = address - base + table_header; length = length body })
