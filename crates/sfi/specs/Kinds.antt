-- Document 01, "SFI tables": "Each table kind carries its own entry size and revision". One table of the kinds, which check, entry, search and choice all cite.
-- A revision is the oldest that is read (Q-1).
-- Assumes nothing.
use Rattle.std.specs.Prelude.{ℕ, cond, List, [], ◌∷◌, eqb, Option, None, Some}
use Rattle.sfi.specs.declared.kind.Kind.{Kind}

-- a signature is the little-endian word of its four letters (`signatures_spell`)
abbrev pub syst : Kind
syst = record { signature = 0x54535953; entry = 8; revision = 1 }

abbrev pub cpus : Kind
cpus = record { signature = 0x53555043; entry = 4; revision = 1 }

abbrev pub apic : Kind
apic = record { signature = 0x43495041; entry = 8; revision = 1 }

-- "MMAP entries are packed: u32 type, then four u64": 36 = 4 + 4 × 8, with no padding
abbrev pub mmap : Kind
mmap = record { signature = 0x50414D4D; entry = 36; revision = 1 }

abbrev pub freq : Kind
freq = record { signature = 0x51455246; entry = 12; revision = 1 }

abbrev pub mrtc : Kind
mrtc = record { signature = 0x4354524D; entry = 12; revision = 1 }

abbrev pub devs : Kind
devs = record { signature = 0x53564544; entry = 25; revision = 1 }

abbrev pub gpio : Kind
gpio = record { signature = 0x4F495047; entry = 34; revision = 1 }

abbrev pub mtmr : Kind
mtmr = record { signature = 0x524D544D; entry = 16; revision = 2 }

abbrev pub wake : Kind
wake = record { signature = 0x454B4157; entry = 8; revision = 2 }

abbrev pub kinds : List Kind
kinds = syst ∷ cpus ∷ apic ∷ mmap ∷ freq ∷ mrtc ∷ devs ∷ gpio ∷ mtmr ∷ wake ∷ []

-- the kind with a signature, of a list
unfoldable pub among : List Kind → ℕ → Option Kind
among [] signature = None
among (k ∷ ks) signature = cond (eqb signature k.signature) (Some k) (among ks signature)

abbrev pub kind_of : ℕ → Option Kind
kind_of signature = among kinds signature
