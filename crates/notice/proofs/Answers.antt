-- The laws of a post and a take: one for each answer, with what leads there.
-- Assumes nothing.
use Rattle.std.proofs.lemmas.Bool.{or_parts}
use Prim.Native.Nat.{ℕ, ◌+◌, ◌-◌, ◌≤◌, ◌<◌}
use mathlib.Core.Bool.{Bool, true, false, ◌||◌}
use mathlib.Core.Path.{◌≡◌, refl, sym, ap, ◌∙◌}
use mathlib.Core.List.{List}
use borrow.Author.Tests.{lt-ltb, le-ltb, lt-leb, le-leb, ltb-false, leb-false}
use native.Mathlib.Nat.{mod-eq_of_lt, mod-eq-sub-mod}
use native.Mathlib.Omega.{arith}
use lib.ListN.{length}
use Rattle.std.specs.Prelude.{Ok, Err}
use Rattle.le.proofs.Tests.{apart, past}
use Rattle.notice.specs.Ring.{header_size, ring_min, ring_max, is_small, is_large, is_uneven, is_outside, bad_ring, is_between, waiting, is_empty, free, is_long, is_full, moved, posted, id_at, length_at, lacks_header, lacks_data_def, damaged, is_short, got, taken_of}
use Rattle.notice.specs.declared.Positions.{Positions}
use Rattle.notice.specs.declared.Reason.TheVariants.{Empty, Damaged, OutputShort, DataLong, Full}
use Rattle.notice.specs.declared.Taken.{Taken}

-- what is known of a ring that is not bad
pub record Good (c : ℕ) (at : Positions) : Type 0 where
  pub least : ring_min ≤ c
  pub most : c ≤ ring_max
  pub read : at.read < c
  pub write : at.write < c

-- a ring of a legal capacity is bad by its positions
pub by_positions : (c : ℕ) (at : Positions) → is_small c ≡ false → is_large c ≡ false → is_uneven c ≡ false
    → bad_ring c at ≡ is_outside c at.read || is_outside c at.write
unfolding bad_ring
by_positions c at small large uneven = rw (small, large, uneven)

pub good : (c : ℕ) (at : Positions) → bad_ring c at ≡ false → Good c at
unfolding bad_ring
good c at e =
    let p = or_parts (is_small c) _ e in
    let q = or_parts (is_large c) _ p.1 in
    let r = or_parts (is_uneven c) _ q.1 in
    let s = or_parts (is_outside c at.read) _ r.1 in
    record {
      least = ltb-false _ _ p.0;
      most = ltb-false _ _ q.0;
      read = leb-false _ _ s.0;
      write = leb-false _ _ s.1;
    }

-- how many bytes wait: by which position is behind the other
pub between : (at : Positions) → at.read ≤ at.write → is_between at ≡ true
between at h = le-leb at.read at.write h

pub round : (at : Positions) → at.write < at.read → is_between at ≡ false
round at h = lt-leb at.read at.write h

module _ (c : ℕ) (at : Positions) where
  pub waits_between : is_between at ≡ true → waiting c at ≡ at.write - at.read
  unfolding waiting
  waits_between e = rw e

  pub waits_round : is_between at ≡ false → waiting c at ≡ c - at.read + at.write
  unfolding waiting
  waits_round e = rw e

  pub waits_less : at.read < c → at.write < c → waiting c at < c
  waits_less r w = go (is_between at) refl
    where
      go : (b : Bool) → is_between at ≡ b → waiting c at < c
      go true e = rw (waits_between e) (omega arith)
      go false e = let h = leb-false at.read at.write e in rw (waits_round e) (omega arith)

-- where a position moves to
module _ (c at n : ℕ) where
  pub moved_inside : at + n < c → moved c at n ≡ at + n
  unfolding moved
  moved_inside h = mod-eq_of_lt h

  pub moved_past : at < c → n ≤ c → c ≤ at + n → moved c at n ≡ at + n - c
  unfolding moved
  moved_past b l h = mod-eq-sub-mod h ∙ mod-eq_of_lt (omega arith)

-- whether a notice with n bytes of data fits what is free
module _ (c : ℕ) (at : Positions) (n : ℕ) where
  pub no_room : free c at < header_size + n → is_full c at n ≡ true
  no_room h = lt-ltb (free c at) (header_size + n) h

  pub has_room : header_size + n ≤ free c at → is_full c at n ≡ false
  has_room h = le-ltb (free c at) (header_size + n) h

  pub room_left : is_full c at n ≡ false → header_size + n ≤ free c at
  room_left e = ltb-false (free c at) (header_size + n) e

module _ (ring : List ℕ) (at : Positions) (id : ℕ) (body : List ℕ) where
  module _ (ok : bad_ring (length ring) at ≡ false) where
    pub post_long : is_long (length body) ≡ true → posted ring at id body ≡ Err DataLong
    unfolding posted
    post_long h = rw (ok, h)

    pub post_full : is_long (length body) ≡ false → is_full (length ring) at (length body) ≡ true → posted ring at id body ≡ Err Full
    unfolding posted
    post_full h f = rw (ok, h, f)

    pub post_stored : is_long (length body) ≡ false → is_full (length ring) at (length body) ≡ false
        → posted ring at id body ≡ Ok (record { read = at.read; write = moved (length ring) at.write (header_size + length body) })
    unfolding posted
    post_stored h f = rw (ok, h, f)

-- what is known where a post is accepted
pub record Accepted (ring : List ℕ) (at : Positions) (body : List ℕ) (next : Positions) : Type 0 where
  pub ok : bad_ring (length ring) at ≡ false
  pub small : is_long (length body) ≡ false
  pub fits : is_full (length ring) at (length body) ≡ false
  pub next_is : next ≡ record { read = at.read; write = moved (length ring) at.write (header_size + length body) }

pub accepted : (ring : List ℕ) (at : Positions) (id : ℕ) (body : List ℕ) (next : Positions) → posted ring at id body ≡ Ok next → Accepted ring at body next
unfolding posted
accepted ring at id body next e =
    let p = past (bad_ring (length ring) at) (λ z. apart (cc)) e in
    let q = past (is_long (length body)) (λ z. apart (cc)) p.1 in
    let r = past (is_full (length ring) at (length body)) (λ z. apart (cc)) q.1 in
    record { ok = p.0; small = q.0; fits = r.0; next_is = cc (r.1) }

-- where a header waits, and its Data Length is legal, a notice is damaged by what waits behind it
pub by_data : (ring : List ℕ) (at : Positions) → lacks_header ring at ≡ false → is_long (length_at ring at) ≡ false → damaged ring at ≡ lacks_data_def ring at
by_data ring at head small = rw (head, small)

pub within_waiting : (ring : List ℕ) (at : Positions) → damaged ring at ≡ false → header_size + length_at ring at ≤ waiting (length ring) at
within_waiting ring at e =
    let p = or_parts (lacks_header ring at) _ e in
    let q = or_parts (is_long (length_at ring at)) _ p.1 in
    let head = ltb-false (waiting (length ring) at) header_size p.0 in
    let whole = ltb-false (waiting (length ring) at - header_size) (length_at ring at) q.1 in
    omega arith

-- notices with the same parts are the same answer
pub notice_same : {id j n m read r : ℕ} (write : ℕ) → id ≡ j → n ≡ m → read ≡ r
    → got id n (record { read = read; write = write }) ≡ got j m (record { read = r; write = write })
notice_same write e f g = cc

-- and the other way round
got_same : {id j n m : ℕ} {p q : Positions} → got id n p ≡ got j m q → (id ≡ j) × (n ≡ m) × (p ≡ q)
got_same {id} {j} {n} {m} {p} {q} e =
    let one : Taken = record { id = id; length = n; positions = p } in
    let other : Taken = record { id = j; length = m; positions = q } in
    let same : one ≡ other = cc in
    (ap (λ (t : Taken). t.id) same, ap (λ (t : Taken). t.length) same, ap (λ (t : Taken). t.positions) same)

module _ (ring : List ℕ) (at : Positions) (out : List ℕ) where
  module _ (ok : bad_ring (length ring) at ≡ false) where
    pub take_empty : is_empty at ≡ true → taken_of ring at out ≡ Err Empty
    unfolding taken_of
    take_empty e = rw (ok, e)

    module _ (some : is_empty at ≡ false) where
      pub take_damaged : damaged ring at ≡ true → taken_of ring at out ≡ Err Damaged
      unfolding taken_of
      take_damaged h = rw (ok, some, h)

      module _ (sound : damaged ring at ≡ false) where
        pub take_short : is_short ring at out ≡ true → taken_of ring at out ≡ Err OutputShort
        unfolding taken_of
        take_short h = rw (ok, some, sound, h)

        pub take_notice : is_short ring at out ≡ false
            → taken_of ring at out
            ≡ got (id_at ring at) (length_at ring at)
            (record { read = moved (length ring) at.read (header_size + length_at ring at); write = at.write })
        unfolding taken_of
        take_notice h = rw (ok, some, sound, h)

-- what is known where a take answers a notice
pub record Answered (ring : List ℕ) (at : Positions) (out : List ℕ) (id n : ℕ) (next : Positions) : Type 0 where
  pub ok : bad_ring (length ring) at ≡ false
  pub sound : damaged ring at ≡ false
  pub room : is_short ring at out ≡ false
  pub id_is : id ≡ id_at ring at
  pub n_is : n ≡ length_at ring at
  pub next_is : next ≡ record { read = moved (length ring) at.read (header_size + length_at ring at); write = at.write }

pub answered : (ring : List ℕ) (at : Positions) (out : List ℕ) (id n : ℕ) (next : Positions) → taken_of ring at out ≡ got id n next → Answered ring at out id n next
unfolding taken_of
answered ring at out id n next e =
    let p = past (bad_ring (length ring) at) (λ z. apart (cc)) e in
    let q = past (is_empty at) (λ z. apart (cc)) p.1 in
    let r = past (damaged ring at) (λ z. apart (cc)) q.1 in
    let s = past (is_short ring at out) (λ z. apart (cc)) r.1 in
    let parts = got_same s.1 in
    record { ok = p.0; sound = r.0; room = s.0; id_is = sym parts.0; n_is = sym parts.1; next_is = sym parts.2 }
