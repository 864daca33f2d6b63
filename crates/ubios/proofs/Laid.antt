-- A table that is laid out by the rules passes its checks, and is found by its name.
-- Assumes nothing.
use Rattle.std.specs.Prelude.{Ok}
use Prim.Native.Nat.{ℕ, suc, ◌+◌, ◌*◌, ◌-◌, ◌^◌, ◌≤◌, ◌<◌}
use mathlib.Core.Bool.{false, not}
use mathlib.Core.Path.{◌≡◌, refl, sym, ap, ap₂, ◌∙◌}
use mathlib.Core.List.{List, [], ◌∷◌, ◌++◌, append-nil, append_assoc}
use borrow.Author.Tests.{le-ltb, eq-eqb, ne_eqb}
use native.Mathlib.Omega.{arith}
use lib.Dec.{eqb}
use lib.ListN.{length, take, drop, length-append}
use lib.Seq.{take_at, drop_at, drop-drop, drop-append_seam}
use Rattle.le.specs.Word.{word, bytes}
use Rattle.le.specs.Sum.{sum, checksum_of}
use Rattle.le.proofs.Words.{word_bytes, word_one, length-bytes}
use Rattle.le.proofs.Sums.{checksum}
use Rattle.le.proofs.Comparing.{same_self, equal_same}
use Rattle.region.proofs.Answers.{is_inside}
use Rattle.ubios.specs.Layout.{table_header, root_header, count_max, name_max, version, up_to_zero, name_of, total_of, remaining_of, used_of, summed_part, root_name, count_of, addresses, slots_of}
use Rattle.ubios.specs.Checks.{table_at, bad_size, wrong_version, judged, checked, root_judged}
use Rattle.ubios.specs.Lookup.{no_name, leads_on, leads, body_of}
use Rattle.ubios.specs.Statements.{head_of, table_of, Laid, LaidPasses, EndsName, LaidName, slot_bytes, Addresses, root_body, RootLaid, LaidRoot, TableIn, LaidLeads, LaidFound}
use Rattle.ubios.specs.declared.Table.{Table}
use Rattle.ubios.proofs.Answers.{passes_only, good_size, judged_tested, checked_tested, count_tested, root_tested, root_after_lem}
use Rattle.ubios.proofs.Theorems.{only_found}
use Rattle.ubios.proofs.Names.{ends, joined, sought, whole as whole-name, root_name_good}

-- the words of a table with these, whatever stands behind its head
module _ (field : List ℕ) (total : ℕ) (reserved : List ℕ) (remaining : ℕ) (rest : List ℕ) (named : length field ≡ name_max) (three : length reserved ≡ 3) where
  abbrev t : List ℕ
  t = head_of field total reserved remaining ++ rest

  behind_name : drop 16 t ≡ bytes 4 total ++ ((version ∷ reserved) ++ (bytes 4 remaining ++ rest))
  behind_name = simp append_assoc (drop_at field _ 16 named)

  behind_total : drop 20 t ≡ (version ∷ reserved) ++ (bytes 4 remaining ++ rest)
  behind_total =
      sym (drop-drop 4 16 t)
      ∙ ap (drop 4) behind_name
      ∙ drop_at (bytes 4 total) ((version ∷ reserved) ++ (bytes 4 remaining ++ rest)) 4 (length-bytes 4 total)

  behind_version : drop 24 t ≡ bytes 4 remaining ++ rest
  behind_version = sym (drop-drop 4 20 t) ∙ ap (drop 4) behind_total ∙ drop_at (version ∷ reserved) (bytes 4 remaining ++ rest) 4 (ap suc three)

  total_is : total < 2 ^ 32 → total_of t ≡ total
  total_is h = ap (word 4) behind_name ∙ word_bytes 4 total ((version ∷ reserved) ++ (bytes 4 remaining ++ rest)) h

  version_is : wrong_version t ≡ false
  version_is = ap (λ (s : List ℕ). not (eqb (word 1 s) version)) behind_total ∙ ap (λ (n : ℕ). not (eqb n version)) (word_one ((version ∷ reserved) ++ (bytes 4 remaining ++ rest)))

  remaining_is : remaining < 2 ^ 32 → remaining_of t ≡ remaining
  remaining_is h = ap (word 4) behind_version ∙ word_bytes 4 remaining rest h

  head_length : length (head_of field total reserved remaining) ≡ 28
  head_length = simp (length-append, length-bytes) (omega arith)

-- a table in memory: what stands before it, and what behind it
module _ (header : ℕ) (front field reserved : List ℕ) (remaining : ℕ) (body rest : List ℕ) (base : ℕ)
    (long : header ≤ table_header + length body)
    (laid : Laid front field reserved remaining body rest base) where
  abbrev total : ℕ
  total = table_header + length body + remaining

  abbrev head : List ℕ
  head = head_of field total reserved remaining

  -- what follows the head
  abbrev tail : List ℕ
  tail = bytes 4 (checksum_of 4 head body) ++ body ++ rest

  abbrev table : List ℕ
  table = table_of field reserved remaining body ++ rest

  table_length : length (table_of field reserved remaining body) ≡ table_header + length body
  table_length = let named = laid.named in let three = laid.three in simp (length-append, length-bytes) (omega arith)

  here : table ≡ head ++ tail
  here = append_assoc head (bytes 4 (checksum_of 4 head body) ++ body) rest

  total_read : total_of table ≡ total
  total_read = ap (λ (s : List ℕ). total_of s) here ∙ total_is field total reserved remaining tail laid.named laid.three (omega (arith, laid.most))

  remaining_read : remaining_of table ≡ remaining
  remaining_read =
      ap (λ (s : List ℕ). remaining_of s) here ∙ remaining_is field total reserved remaining tail laid.named laid.three (omega (arith, laid.most))

  used_is : used_of table ≡ table_header + length body
  used_is = rw (total_read, remaining_read) (omega arith)

  sums : sum 4 (summed_part table) ≡ 0
  sums =
      ap (λ (n : ℕ). sum 4 (take n table)) used_is
      ∙ ap (sum 4) (take_at (table_of field reserved remaining body) rest (table_header + length body) table_length)
      ∙ checksum 4 7 head body (omega arith) (head_length field total reserved remaining [] laid.named laid.three)

  whole : length table ≡ table_header + length body + length rest
  whole = length-append (table_of field reserved remaining body) rest ∙ ap (λ (n : ℕ). n + length rest) table_length

  good : bad_size header (length table) (total_of table) (remaining_of table) ≡ false
  good =
      let left = laid.left in
      rw (whole, total_read, remaining_read) (good_size header _ total remaining (record { holds = omega arith; most = laid.most; inside = omega arith; left = omega arith }))

  judged_here : judged header (length front) table ≡ Ok (record { at = length front; used = table_header + length body })
  judged_here =
      judged_tested header (length front) table good (ap (λ (s : List ℕ). wrong_version s) here ∙ version_is field total reserved remaining tail laid.named laid.three) (ap (λ (n : ℕ). not (eqb n 0)) sums)
      ∙ ap (λ (n : ℕ). Ok (record { at = length front; used = n })) used_is

  region_length : length (front ++ table) ≡ length front + (table_header + length body + length rest)
  region_length = length-append front table ∙ ap (λ (n : ℕ). length front + n) whole

-- what stands at an address is what was laid there
at_address : (front table : List ℕ) (base : ℕ) → table_at (front ++ table) base (base + length front) ≡ table
at_address front table base =
    let place : base + length front - base ≡ length front = omega arith in
    ap (λ (n : ℕ). drop n (front ++ table)) place ∙ drop-append_seam front table

pub laid_passes : LaidPasses
laid_passes header front field reserved remaining body rest base long laid =
    let table = table_of field reserved remaining body ++ rest in
    let region = front ++ table in
    let address = base + length front in
    let size = region_length header front field reserved remaining body rest base long laid in
    let place : address - base ≡ length front = omega arith in
    let inside = is_inside header (length region) base address (record { top = laid.top; start = omega arith; end = omega arith }) in
    checked_tested header region base address (ap not (eq-eqb _ _ laid.aligned)) inside
    ∙ ap₂ (λ (n : ℕ) (s : List ℕ). judged header n s) place (at_address front table base)
    ∙ judged_here header front field reserved remaining body rest base long laid

-- the name in a field
nothing_more : (end : List ℕ) → EndsName end → up_to_zero end ≡ []
unfolding up_to_zero
nothing_more [] e = refl
nothing_more (b ∷ junk) e = ends b junk e

name_in : (name end behind : List ℕ) → no_name name ≡ false → EndsName end → length (name ++ end) ≡ name_max → name_of ((name ++ end) ++ behind) ≡ name
name_in name end behind good ended long =
    ap up_to_zero (take_at (name ++ end) behind name_max long)
    ∙ joined name end (whole-name name good)
    ∙ ap (λ (l : List ℕ). name ++ l) (nothing_more end ended)
    ∙ append-nil name

pub laid_name : LaidName
laid_name front name end behind base good ended long =
    ap (λ (t : List ℕ). name_of t) (at_address front ((name ++ end) ++ behind) base) ∙ name_in name end behind (sought name good) ended long

-- the name of a table as it is laid out
name_of_lem : (name end reserved : List ℕ) (remaining : ℕ) (body rest : List ℕ) → no_name name ≡ false → EndsName end → length (name ++ end) ≡ name_max
    → name_of (table_of (name ++ end) reserved remaining body ++ rest) ≡ name
name_of_lem name end reserved remaining body rest good ended long =
    let first = head_of (name ++ end) (table_header + length body + remaining) reserved remaining in
    let behind = bytes 4 (checksum_of 4 first body) ++ body in
    ap (λ (t : List ℕ). name_of t) (append_assoc first behind rest ∙ append_assoc (name ++ end) _ (behind ++ rest))
    ∙ name_in name end _ good ended long

-- addresses that were laid out are read back
read_slots : (slots behind : List ℕ) → Addresses slots → addresses (length slots) (slot_bytes slots ++ behind) ≡ slots
unfolding addresses slot_bytes
read_slots [] behind h = refl
read_slots (a ∷ slots) behind h =
    let here : (bytes 8 a ++ slot_bytes slots) ++ behind ≡ bytes 8 a ++ (slot_bytes slots ++ behind) = append_assoc (bytes 8 a) (slot_bytes slots) behind in
    rw (here, word_bytes 8 a (slot_bytes slots ++ behind) h.0, drop_at (bytes 8 a) (slot_bytes slots ++ behind) 8 (length-bytes 8 a), read_slots slots behind h.1)

slots_length : (slots : List ℕ) → length (slot_bytes slots) ≡ 8 * length slots
unfolding slot_bytes
slots_length [] = refl
slots_length (a ∷ slots) =
    let more = slots_length slots in
    length-append (bytes 8 a) (slot_bytes slots) ∙ ap₂ ◌+◌ (length-bytes 8 a) more ∙ omega arith

regroup : (a b c d : List ℕ) → (a ++ (b ++ c)) ++ d ≡ (a ++ b) ++ (c ++ d)
regroup a b c d = simp append_assoc

-- a root in memory
module _ (front junk reserved : List ℕ) (remaining : ℕ) (six slots more rest : List ℕ) (base : ℕ)
    (six_bytes : length six ≡ 6)
    (few : length slots ≤ count_max)
    (fit : Addresses slots)
    (laid : Laid front (root_name ++ (0 ∷ junk)) reserved remaining (root_body six slots more) rest base) where
  abbrev field : List ℕ
  field = root_name ++ (0 ∷ junk)

  abbrev body : List ℕ
  body = root_body six slots more

  abbrev first : List ℕ
  first = head_of field (table_header + length body + remaining) reserved remaining

  abbrev check : List ℕ
  check = bytes 4 (checksum_of 4 first body)

  abbrev root : List ℕ
  root = table_of field reserved remaining body ++ rest

  body_length : length body ≡ 8 + (8 * length slots + length more)
  body_length =
      let sized = slots_length slots in
      simp (length-append, length-bytes) (omega arith)

  root_fits : root_header ≤ table_header + length body
  root_fits = let long = body_length in omega arith

  named_root : name_of root ≡ root_name
  named_root = name_of_lem root_name (0 ∷ junk) reserved remaining body rest root_name_good refl laid.named

  behind_head : drop table_header root ≡ body ++ rest
  behind_head =
      let long : length (first ++ check) ≡ table_header =
      length-append first check ∙ ap₂ ◌+◌ (head_length field _ reserved remaining [] laid.named laid.three) (length-bytes 4 (checksum_of 4 first body)) in
      ap (drop table_header) (regroup first check body rest) ∙ drop_at (first ++ check) (body ++ rest) table_header long

  count_read : length slots ≡ count_of root
  count_read =
      sym
      (ap (word 2) (behind_head ∙ append_assoc (bytes 2 (length slots)) (six ++ (slot_bytes slots ++ more)) rest)
      ∙ word_bytes 2 (length slots) ((six ++ (slot_bytes slots ++ more)) ++ rest) (omega arith))

  behind_count : drop root_header root ≡ slot_bytes slots ++ (more ++ rest)
  behind_count =
      let long : length (bytes 2 (length slots) ++ six) ≡ 8 = length-append (bytes 2 (length slots)) six ∙ ap₂ ◌+◌ (length-bytes 2 (length slots)) six_bytes in
      let parts : body ++ rest ≡ (bytes 2 (length slots) ++ six) ++ (slot_bytes slots ++ (more ++ rest)) = simp append_assoc in
      sym (drop-drop 8 table_header root) ∙ ap (drop 8) (behind_head ∙ parts) ∙ drop_at (bytes 2 (length slots) ++ six) (slot_bytes slots ++ (more ++ rest)) 8 long

  slots_read : slots_of root ≡ slots
  slots_read = ap₂ addresses (sym count_read) behind_count ∙ read_slots slots (more ++ rest) fit

  root_laid : RootLaid (front ++ root) base (base + length front) (length front) (table_header + length body) slots
  root_laid =
      let table : Table = record { at = length front; used = table_header + length body } in
      let long = body_length in
      record {
        passes =
            root_after_lem (front ++ root) base (base + length front) (laid_passes root_header front field reserved remaining body rest base root_fits laid)
            ∙ ap (root_judged table) (at_address front root base)
            ∙ root_tested table root count_read (ap not (equal_same (name_of root) root_name named_root)) (count_tested table.used (length slots) (le-ltb _ _ few) (le-ltb table.used (root_header + 8 * length slots) (omega arith)));
        slots_are = ap (λ (t : List ℕ). slots_of t) (at_address front root base) ∙ slots_read;
      }

pub laid_root : LaidRoot
laid_root front junk reserved remaining six slots more rest base six_bytes few fit laid =
    root_laid front junk reserved remaining six slots more rest base six_bytes few fit laid

-- a table in a memory with others: it passes, and its slot leads there
module _ (region : List ℕ) (base address : ℕ) (own body : List ℕ) (t : TableIn region base address own body) where
  in_passes : checked table_header region base address ≡ Ok (record { at = address - base; used = table_header + length body })
  in_passes =
      let place : base + length t.front - base ≡ length t.front = omega arith in
      rw (t.here, t.memory, place) (laid_passes table_header t.front (own ++ t.end) t.reserved t.remaining body t.rest base (omega arith) t.laid)

  in_name : name_of (table_at region base address) ≡ own
  in_name =
      let table = table_of (own ++ t.end) t.reserved t.remaining body ++ t.rest in
      rw (t.here, t.memory)
      (ap (λ (s : List ℕ). name_of s) (at_address t.front table base) ∙ name_of_lem own t.end t.reserved t.remaining body t.rest (sought own t.good) t.ended t.laid.named)

pub laid_leads : LaidLeads
unfolding leads leads_on
laid_leads region base address own body name t ne =
    rw (ne_eqb address 0 ne, in_passes region base address own body t, in_name region base address own body t)

pub laid_found : LaidFound
laid_found region base root address name body before after r t ne hb ha =
    let slots = before ++ (address ∷ after) in
    let laid : RootLaid region base root (length r.front) (table_header + length (root_body r.six slots r.more)) slots =
    rw (r.here, r.memory) (laid_root r.front r.junk r.reserved r.remaining r.six slots r.more r.rest base r.six_bytes r.few r.fit r.laid) in
    let behind_header : table_header + length body - table_header ≡ length body = omega arith in
    let passing = passes_only table_header region base address _ (in_passes region base address name body t) in
    only_found region base root name _
    (record { sought = t.good; root_table = _; root_passes = laid.passes })
    (record {
      before = before;
      address = address;
      after = after;
      slots = laid.slots_are;
      leads_there = laid_leads region base address name body name t ne ∙ same_self name;
      none_before = hb;
      none_after = ha;
      is = ap (body_of (length before)) passing.is;
    })
    ∙ ap (λ (n : ℕ). Ok (record { slot = length before; at = address - base + table_header; length = n })) behind_header
