-- What is proved of the tables, the search and the choice, under the names given here. The proofs are in `proofs/Theorems.antt`, that of `laid_passes` in
-- `proofs/Laid.antt`, those of `passes_only`, `older_refused` and `refused_older` in `proofs/Answers.antt`.
-- Assumes nothing.
use Rattle.std.specs.Prelude.{ℕ, ◌+◌, ◌*◌, ◌-◌, ◌/◌, ◌%◌, ◌≤◌, ◌<◌, true, false, ◌≡◌, List, [], ◌∷◌, ◌++◌, length, take, drop, None, Some, Ok, Err}
use Rattle.le.specs.Word.{word, bytes}
use Rattle.le.specs.Sum.{sum, checksum_of}
use Rattle.sfi.specs.Kinds.{syst, cpus, apic, mmap, freq, mrtc, devs, gpio, mtmr, wake, kind_of}
use Rattle.sfi.specs.Checks.{header_size, length_of_def, header_checked, checked, entry_of, passes_as_def}
use Rattle.sfi.specs.Search.{is_hit_def, located}
use Rattle.sfi.specs.Choice.{chosen, part_of}
use Rattle.sfi.specs.declared.kind.Kind.{Kind}
use Rattle.sfi.specs.declared.Table.{Table}
use Rattle.sfi.specs.declared.Reason.{Reason}
use Rattle.sfi.specs.declared.Reason.TheVariants.{UnknownSignature, WrongRevision, NoEntry, NoSyst, Neither}
use Rattle.sfi.specs.declared.choice.Source.TheVariants.{Board, BuiltIn}

-- `signatures_spell`. The signatures are the words of their letters.
abbrev pub SignaturesSpell : Type 0
SignaturesSpell =
    (syst.signature ≡ word 4 (0x53 ∷ 0x59 ∷ 0x53 ∷ 0x54 ∷ []))
    × (cpus.signature ≡ word 4 (0x43 ∷ 0x50 ∷ 0x55 ∷ 0x53 ∷ []))
    × (apic.signature ≡ word 4 (0x41 ∷ 0x50 ∷ 0x49 ∷ 0x43 ∷ []))
    × (mmap.signature ≡ word 4 (0x4D ∷ 0x4D ∷ 0x41 ∷ 0x50 ∷ []))
    × (freq.signature ≡ word 4 (0x46 ∷ 0x52 ∷ 0x45 ∷ 0x51 ∷ []))
    × (mrtc.signature ≡ word 4 (0x4D ∷ 0x52 ∷ 0x54 ∷ 0x43 ∷ []))
    × (devs.signature ≡ word 4 (0x44 ∷ 0x45 ∷ 0x56 ∷ 0x53 ∷ []))
    × (gpio.signature ≡ word 4 (0x47 ∷ 0x50 ∷ 0x49 ∷ 0x4F ∷ []))
    × (mtmr.signature ≡ word 4 (0x4D ∷ 0x54 ∷ 0x4D ∷ 0x52 ∷ []))
    × (wake.signature ≡ word 4 (0x57 ∷ 0x41 ∷ 0x4B ∷ 0x45 ∷ []))

-- `kinds_known`. Each of them is the signature of its kind.
abbrev pub KindsKnown : Type 0
KindsKnown =
    (kind_of syst.signature ≡ Some syst)
    × (kind_of cpus.signature ≡ Some cpus)
    × (kind_of apic.signature ≡ Some apic)
    × (kind_of mmap.signature ≡ Some mmap)
    × (kind_of freq.signature ≡ Some freq)
    × (kind_of mrtc.signature ≡ Some mrtc)
    × (kind_of devs.signature ≡ Some devs)
    × (kind_of gpio.signature ≡ Some gpio)
    × (kind_of mtmr.signature ≡ Some mtmr)
    × (kind_of wake.signature ≡ Some wake)

-- `revisions_fit`. A listed revision is a byte and not 0: so revision 0 never passes, and 255 is older than none.
abbrev pub RevisionsFit : Type 0
RevisionsFit = (signature : ℕ) (kind : Kind) → kind_of signature ≡ Some kind → (0 < kind.revision) × (kind.revision ≤ 255)

-- Length of a table in a slice of that size
pub record Sized (size total : ℕ) : Type 0 where
  pub slice : 24 ≤ size
  pub least : 24 ≤ total
  pub most : total ≤ 65536
  pub inside : total ≤ size

-- `passes_only`. What passes has a Length in its bounds and of whole entries, one of them in WAKE, the signature of its kind, a revision from that of its kind on, and
-- Length bytes that sum to 0; the answer is that kind, and Length.
pub record Passing (t : List ℕ) (table : Table) : Type 0 where
  pub sized : Sized (length t) (word 4 (drop 4 t))
  pub kind : kind_of (word 4 t) ≡ Some table.kind
  pub signed : word 4 t ≡ table.kind.signature
  pub revision : table.kind.revision ≤ word 1 (drop 8 t)
  pub entries : (word 4 (drop 4 t) - 24) % table.kind.entry ≡ 0
  pub one_entry : table.kind ≡ wake → word 4 (drop 4 t) ≡ 32
  pub zero : sum 1 (take (word 4 (drop 4 t)) t) ≡ 0
  pub length_is : table.length ≡ word 4 (drop 4 t)

abbrev pub PassesOnly : Type 0
PassesOnly = (t : List ℕ) (table : Table) → checked t ≡ Ok table → Passing t table

-- `older_refused`, `refused_older`. 44 exactly where 40 and 42 are not due and Revision is below that of the kind, also if 43 or 41 would be due.
pub record Older (t : List ℕ) : Type 0 where
  pub kind : Kind
  pub sized : Sized (length t) (word 4 (drop 4 t))
  pub known : kind_of (word 4 t) ≡ Some kind
  pub below : word 1 (drop 8 t) < kind.revision

abbrev pub OlderRefused : Type 0
OlderRefused = (t : List ℕ) → Older t → checked t ≡ Err WrongRevision

abbrev pub RefusedOlder : Type 0
RefusedOlder = (t : List ℕ) → checked t ≡ Err WrongRevision → Older t

-- `header_alone`. The header's check looks at no byte behind the first 24.
abbrev pub HeaderAlone : Type 0
HeaderAlone = (size n : ℕ) (t : List ℕ) → 24 ≤ n → header_checked size (take n t) ≡ header_checked size t

-- `hit_is`, `is_hit`. A hit is SYST that passes, with its first and its last byte in the same page of 4,096 bytes.
pub record Hit (memory : List ℕ) (offset : ℕ) : Type 0 where
  pub table : Table
  pub passes : checked (drop offset memory) ≡ Ok table
  pub kind : table.kind ≡ syst
  pub page : offset / 4096 ≡ (offset + table.length - 1) / 4096

abbrev pub HitIs : Type 0
HitIs = (memory : List ℕ) (offset : ℕ) → is_hit_def memory offset ≡ true → Hit memory offset

abbrev pub IsHit : Type 0
IsHit = (memory : List ℕ) (offset : ℕ) → Hit memory offset → is_hit_def memory offset ≡ true

-- the lowest hit at a 16th byte
pub record Lowest (memory : List ℕ) (offset : ℕ) : Type 0 where
  pub sixteenth : offset % 16 ≡ 0
  pub hit : is_hit_def memory offset ≡ true
  pub none_below : (o : ℕ) → o < offset → o % 16 ≡ 0 → is_hit_def memory o ≡ false

-- `found_lowest`, `lowest_found`. What is found is the first hit among the offsets 0, 16, 32 and on, and that is found.
abbrev pub FoundLowest : Type 0
FoundLowest = (memory : List ℕ) (offset : ℕ) → located memory ≡ Ok offset → Lowest memory offset

abbrev pub LowestFound : Type 0
LowestFound = (memory : List ℕ) (offset : ℕ) → length memory ≡ 131072 → Lowest memory offset → located memory ≡ Ok offset

-- `no_hit`, `none_found`. 47 exactly if none of these offsets is a hit.
abbrev pub NoHit : Type 0
NoHit = (memory : List ℕ) → located memory ≡ Err NoSyst → (o : ℕ) → o % 16 ≡ 0 → is_hit_def memory o ≡ false

abbrev pub NoneFound : Type 0
NoneFound = (memory : List ℕ) → length memory ≡ 131072 → ((o : ℕ) → o % 16 ≡ 0 → is_hit_def memory o ≡ false) → located memory ≡ Err NoSyst

-- `entry_inside`. An entry that is answered stands where it should, and lies inside the table.
pub record Inside (t : List ℕ) (table : Table) (k offset : ℕ) : Type 0 where
  pub place : offset ≡ header_size + k * table.kind.entry
  pub end : offset + table.kind.entry ≤ table.length
  pub in_slice : table.length ≤ length t

abbrev pub EntryInside : Type 0
EntryInside =
    (t : List ℕ) (table : Table) (k offset : ℕ)
    → checked t ≡ Ok table
    → entry_of t k ≡ Ok offset
    → Inside t table k offset

-- `entry_exactly`. And an entry is answered exactly where its last byte is within Length.
abbrev pub EntryExactly : Type 0
EntryExactly =
    (t : List ℕ) (table : Table) (k : ℕ)
    → checked t ≡ Ok table
    → (header_size + (k * table.kind.entry + table.kind.entry) ≤ table.length → entry_of t k ≡ Ok (header_size + k * table.kind.entry))
    × (table.length < header_size + (k * table.kind.entry + table.kind.entry) → entry_of t k ≡ Err NoEntry)

-- `chooses`. An unknown signature gets 42. Of a known one the board's table is chosen if it passes with it, else the built-in one if that does, else 48 is given.
abbrev pub Chooses : Type 0
Chooses =
    (signature : ℕ) (board built_in : List ℕ)
    → (kind_of signature ≡ None → chosen signature board built_in ≡ Err UnknownSignature)
    × ((kind : Kind)
    → kind_of signature ≡ Some kind
    → (passes_as_def signature (checked board) ≡ true → chosen signature board built_in ≡ Ok Board)
    × (passes_as_def signature (checked board) ≡ false → passes_as_def signature (checked built_in) ≡ true → chosen signature board built_in ≡ Ok BuiltIn)
    × (passes_as_def signature (checked board) ≡ false → passes_as_def signature (checked built_in) ≡ false → chosen signature board built_in ≡ Err Neither))

-- `part_passes`. The part that is chosen is a table as a whole: it passes with the signature that was asked for, and its Length is its length. Where the choice
-- refuses, it is no bytes.
pub record Whole (signature : ℕ) (t part : List ℕ) : Type 0 where
  pub passes : passes_as_def signature (checked part) ≡ true
  pub same_answer : checked part ≡ checked t
  pub all : length_of_def part ≡ length part

abbrev pub PartPasses : Type 0
PartPasses =
    (signature : ℕ) (board built_in : List ℕ)
    → (chosen signature board built_in ≡ Ok Board → Whole signature board (part_of (chosen signature board built_in) board built_in))
    × (chosen signature board built_in ≡ Ok BuiltIn → Whole signature built_in (part_of (chosen signature board built_in) board built_in))
    × ((reason : Reason) → chosen signature board built_in ≡ Err reason → part_of (chosen signature board built_in) board built_in ≡ [])

-- a table as the rules lay it out: signature, Length, Revision, Checksum, the two OEM strings, the entries
abbrev pub head_of : Kind → ℕ → ℕ → List ℕ
head_of kind revision total = bytes 4 kind.signature ++ (bytes 4 total ++ bytes 1 revision)

abbrev pub table_of : Kind → ℕ → List ℕ → List ℕ → List ℕ
table_of kind revision oem entries =
    head_of kind revision (header_size + length entries)
    ++ (bytes 1 (checksum_of 1 (head_of kind revision (header_size + length entries)) (oem ++ entries)) ++ (oem ++ entries))

-- `laid_passes`. Each table of a listed kind that is laid out by the rules passes, whatever stands behind it: any revision from that of the kind on, any OEM strings, any
-- entries of the kind's size, one entry for WAKE.
abbrev pub LaidPasses : Type 0
LaidPasses =
    (kind : Kind) (revision n : ℕ) (oem entries rest : List ℕ)
    → kind_of kind.signature ≡ Some kind
    → kind.revision ≤ revision
    → revision < 256
    → length oem ≡ 14
    → length entries ≡ n * kind.entry
    → (kind.signature ≡ wake.signature → n ≡ 1)
    → header_size + length entries ≤ 65536
    → checked (table_of kind revision oem entries ++ rest) ≡ Ok (record { kind = kind; length = header_size + length entries })
