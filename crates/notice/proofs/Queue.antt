-- The relation between a ring and the queue that it is, and that each operation keeps it.
--     Holds         the ring's bytes from the read position on, read round it, are the notices laid end to end
--     post_keeps    a post is seen alike on both, and keeps it
--     take_keeps    so is a take
-- Assumes nothing.
use Prim.Native.Nat.{ℕ, ◌+◌, ◌-◌, ◌%◌, ◌^◌, ◌≤◌, ◌<◌}
use mathlib.Core.Bool.{Bool, true, false, not, ◌||◌}
use mathlib.Core.Path.{◌≡◌, refl, sym, ap, ap₂, ◌∙◌}
use mathlib.Core.List.{List, [], ◌∷◌, ◌++◌, append_assoc, append-nil}
use native.Mathlib.Nat.{mod-add-mod}
use native.Mathlib.Omega.{arith}
use borrow.Author.Tests.{ltb-true, ltb-false, le-ltb, lt-leb, eq-eqb, ne_eqb}
use lib.Dec.{ltb}
use lib.ListN.{length, take, drop, length-append, length-take, take-append-drop}
use lib.Seq.{take_at, drop_at}
use Rattle.le.specs.Word.{word, bytes}
use Rattle.le.proofs.Words.{word_bytes, length-bytes}
use Rattle.notice.specs.Ring.{data_max, header_size, bad_ring, waiting, is_empty, moved, turned, stored, notice_of, posted, taken_of, id_at, length_at, damaged}
use Rattle.notice.specs.Queue.{Notice, accepted, given, nothing, Step, Ring, post_step, take_step, size, sizes, queue_post, queue_take, flat}
use Rattle.notice.specs.Statements.{Capacity}
use Rattle.notice.specs.declared.Positions.{Positions}
use Rattle.notice.specs.declared.Reason.TheVariants.{OutputShort}
use Rattle.notice.proofs.Turning.{length_turned, turned_back, turned_moved, turned_stored, length_stored, stored_join, moved_below}
use Rattle.notice.proofs.Answers.{by_positions, between, round, waits_between, waits_round, moved_inside, moved_past, no_room, has_room, post_long, post_full, post_stored, by_data, take_empty, notice_same, take_short, take_notice}

-- the lengths of notices
pub length_notice : (n : Notice) → length (notice_of n.id n.body) ≡ size n
length_notice n =
    length-append (bytes 4 n.id) (bytes 4 (length n.body) ++ n.body)
    ∙ ap₂ ◌+◌ (length-bytes 4 n.id) (length-append (bytes 4 (length n.body)) n.body ∙ ap (λ k. k + length n.body) (length-bytes 4 (length n.body)))
    ∙ omega arith

pub length_flat : (q : List Notice) → length (flat q) ≡ sizes q
unfolding flat sizes
length_flat [] = refl
length_flat (n ∷ q) = length-append (notice_of n.id n.body) (flat q) ∙ ap₂ ◌+◌ (length_notice n) (length_flat q)

flat_more : (q : List Notice) (n : Notice) → flat (q ++ (n ∷ [])) ≡ flat q ++ notice_of n.id n.body
unfolding flat
flat_more [] n = append-nil (notice_of n.id n.body)
flat_more (m ∷ q) n =
    ap (λ bs. notice_of m.id m.body ++ bs) (flat_more q n) ∙ sym (append_assoc (notice_of m.id m.body) (flat q) (notice_of n.id n.body))

sizes_more : (q : List Notice) (n : Notice) → sizes (q ++ (n ∷ [])) ≡ sizes q + size n
unfolding sizes
sizes_more [] n = omega arith
sizes_more (m ∷ q) n = let rest = sizes_more q n in omega arith

-- positions
pub moved_none : (c at : ℕ) → at < c → moved c at 0 ≡ at
moved_none c at h = moved_inside c at 0 (omega arith) ∙ omega arith

moved_moved : (c at a b : ℕ) → moved c (moved c at a) b ≡ moved c at (a + b)
unfolding moved
moved_moved c at a b = mod-add-mod (at + a) c b ∙ ap (λ n. n % c) (let e : at + a + b ≡ at + (a + b) = omega arith in e)

-- so many bytes wait as the write position is past the read position
pub waits_moved : (c : ℕ) (at : Positions) (s : ℕ) → at.read < c → s < c → at.write ≡ moved c at.read s → waiting c at ≡ s
waits_moved c at s h l e = go (ltb (at.read + s) c) refl
  where
    go : (x : Bool) → ltb (at.read + s) c ≡ x → waiting c at ≡ s
    go true f =
        let i = ltb-true (at.read + s) c f in
        let w = e ∙ moved_inside c at.read s i in
        waits_between c at (between at (omega arith)) ∙ omega arith
    go false f =
        let i = ltb-false (at.read + s) c f in
        let w = e ∙ moved_past c at.read s h (omega arith) i in
        waits_round c at (round at (omega arith)) ∙ omega arith

-- what is known of the notices that wait
pub record Fit (n : Notice) : Type 0 where
  pub id : n.id < 2 ^ 32
  pub short : length n.body ≤ data_max

abbrev pub AllFit : List Notice → Type 0
AllFit [] = Unit {0}
AllFit (n ∷ q) = Fit n × AllFit q

all_fit_more : (q : List Notice) (n : Notice) → AllFit q → Fit n → AllFit (q ++ (n ∷ []))
all_fit_more [] n a f = (f, tt)
all_fit_more (m ∷ q) n a f = (a.0, all_fit_more q n a.1 f)

pub record Holds (r : Ring) (q : List Notice) : Type 0 where
  pub legal : Capacity (length r.bytes)
  pub read : r.at.read < length r.bytes
  pub room : sizes q < length r.bytes
  pub write : r.at.write ≡ moved (length r.bytes) r.at.read (sizes q)
  pub stands : take (sizes q) (turned r.at.read r.bytes) ≡ flat q
  pub fit : AllFit q

-- what each operation owes: it is seen alike, the relation is kept, and so is the capacity
pub record Keeps (r : Ring) (on-ring : Step Ring) (on-queue : Step (List Notice)) : Type 0 where
  pub seen : on-ring.seen ≡ on-queue.seen
  pub holds : Holds on-ring.next on-queue.next
  pub length_kept : length on-ring.next.bytes ≡ length r.bytes

same_steps : {r : Ring} {a b : Step Ring} {c d : Step (List Notice)} → a ≡ b → c ≡ d → Keeps r b d → Keeps r a c
same_steps e f k = rw (e, f) k

-- what stands at a place, stored there, leaves the ring as it is
stored_same : (ring : List ℕ) (at s : ℕ) → at ≤ length ring → s ≤ length ring → stored at (take s (turned at ring)) ring ≡ ring
stored_same ring at s h l =
    let seen = turned at ring in
    let len : length (take s seen) ≡ s = length-take s seen ∙ rw (length_turned at ring) (omega arith) in
    ap (λ k. turned (length ring - at) (take s seen ++ drop k seen)) len ∙ ap (turned (length ring - at)) (take-append-drop s seen) ∙ turned_back at ring h

-- bytes stored behind what stands from a place on stand there too
pub post_stands : (ring standing bs : List ℕ) (read write : ℕ) → read < length ring → length standing + length bs < length ring
    → write ≡ moved (length ring) read (length standing)
    → take (length standing) (turned read ring) ≡ standing
    → take (length standing + length bs) (turned read (stored write bs ring)) ≡ standing ++ bs
post_stands ring standing bs read write h l write_is stands =
    let both = length-append standing bs in
    let as-stored : ring ≡ stored read standing ring =
    sym (stored_same ring read (length standing) (omega arith) (omega arith)) ∙ ap (λ a. stored read a ring) stands in
    let together : stored write bs ring ≡ stored read (standing ++ bs) ring =
    ap₂ (λ w x. stored w bs x) write_is as-stored ∙ stored_join standing bs read ring h (omega arith) in
    ap (λ x. take (length standing + length bs) (turned read x)) together
    ∙ ap (take (length standing + length bs)) (turned_stored (standing ++ bs) read ring (omega arith) (omega arith))
    ∙ take_at (standing ++ bs) (drop (length (standing ++ bs)) (turned read ring)) (length standing + length bs) both

module _ (r : Ring) (q : List Notice) (h : Holds r q) where
  abbrev c : ℕ
  c = length r.bytes

  written : r.at.write < c
  written = rw h.write (moved_below c r.at.read (sizes q) h.read)

  ok : bad_ring c r.at ≡ false
  ok =
      by_positions c r.at (le-ltb _ _ h.legal.least) (le-ltb _ _ h.legal.most) (ap not (eq-eqb _ _ h.legal.aligned))
      ∙ ap₂ ◌||◌ (lt-leb _ _ h.read) (lt-leb _ _ written)

  pub waits : waiting c r.at ≡ sizes q
  waits = waits_moved c r.at (sizes q) h.read h.room h.write

  module _ (n : Notice) (id : n.id < 2 ^ 32) where
    abbrev answer : Step Ring
    answer = post_step (posted r.bytes r.at n.id n.body) r n

    stored_keeps : length n.body ≤ data_max → size n ≤ c - 1 - sizes q → Keeps r answer (record { seen = accepted; next = q ++ (n ∷ []) })
    stored_keeps short fits =
        let bs = notice_of n.id n.body in
        let len-bs = length_notice n in
        let least = h.legal.least in
        let all = length_flat q in
        let len = length_stored bs r.at.write r.bytes (omega arith) in
        let more = sizes_more q n in
        let stand = post_stands r.bytes (flat q) bs r.at.read r.at.write h.read (omega arith) (h.write ∙ ap (moved c r.at.read) (sym all)) (ap (λ k. take k (turned r.at.read r.bytes)) all ∙ h.stands) in
        let count : sizes (q ++ (n ∷ [])) ≡ length (flat q) + length bs = omega arith in
        same_steps (ap (λ a. post_step a r n) (post_stored r.bytes r.at n.id n.body ok (le-ltb data_max (length n.body) short) (has_room c r.at (length n.body) (rw waits fits)))) refl
        (record {
          seen = refl;
          holds = record {
            legal = rw len h.legal;
            read = rw len h.read;
            room = rw (len, more) (omega arith);
            write = rw (len, more) (ap (λ w. moved c w (size n)) h.write ∙ moved_moved c r.at.read (sizes q) (size n));
            stands = ap (λ k. take k (turned r.at.read (stored r.at.write bs r.bytes))) count ∙ stand ∙ sym (flat_more q n);
            fit = all_fit_more q n h.fit (record { id = id; short = short });
          };
          length_kept = len;
        })

    pub post_keeps : Keeps r answer (queue_post c q n)
    post_keeps = go (ltb data_max (length n.body)) refl (ltb (c - 1 - sizes q) (size n)) refl
      where
        go : (x : Bool) → ltb data_max (length n.body) ≡ x → (y : Bool) → ltb (c - 1 - sizes q) (size n) ≡ y → Keeps r answer (queue_post c q n)
        go true e y f =
            same_steps (ap (λ a. post_step a r n) (post_long r.bytes r.at n.id n.body ok e)) (rw e)
            (record { seen = refl; holds = h; length_kept = refl })
        go false e true f =
            same_steps
            (ap (λ a. post_step a r n) (post_full r.bytes r.at n.id n.body ok e (no_room c r.at (length n.body) (rw waits (ltb-true (c - 1 - sizes q) (size n) f)))))
            (rw (e, f))
            (record { seen = refl; holds = h; length_kept = refl })
        go false e false f = same_steps refl (rw (e, f)) (stored_keeps (ltb-false data_max (length n.body) e) (ltb-false (c - 1 - sizes q) (size n) f))

-- a ring whose bytes, seen from the read position, start with a notice
module _ (seen rest : List ℕ) (n : Notice) (fit : Fit n) (starts : seen ≡ notice_of n.id n.body ++ rest) where
  abbrev words : List ℕ
  words = bytes 4 n.id ++ bytes 4 (length n.body)

  apart : seen ≡ bytes 4 n.id ++ (bytes 4 (length n.body) ++ (n.body ++ rest))
  apart =
      starts
      ∙ append_assoc (bytes 4 n.id) (bytes 4 (length n.body) ++ n.body) rest
      ∙ ap (λ l. bytes 4 n.id ++ l) (append_assoc (bytes 4 (length n.body)) n.body rest)

  id_read : word 4 seen ≡ n.id
  id_read = ap (word 4) apart ∙ word_bytes 4 n.id (bytes 4 (length n.body) ++ (n.body ++ rest)) fit.id

  length_read : word 4 (drop 4 seen) ≡ length n.body
  length_read =
      let short = fit.short in
      ap (λ l. word 4 (drop 4 l)) apart
      ∙ ap (word 4) (drop_at (bytes 4 n.id) (bytes 4 (length n.body) ++ (n.body ++ rest)) 4 (length-bytes 4 n.id))
      ∙ word_bytes 4 (length n.body) (n.body ++ rest) (omega arith)

  body_read : take (length n.body) (drop header_size seen) ≡ n.body
  body_read =
      let eight : length words ≡ header_size =
      length-append (bytes 4 n.id) (bytes 4 (length n.body)) ∙ ap₂ ◌+◌ (length-bytes 4 n.id) (length-bytes 4 (length n.body)) in
      ap (λ l. take (length n.body) (drop header_size l)) (apart ∙ sym (append_assoc (bytes 4 n.id) (bytes 4 (length n.body)) (n.body ++ rest)))
      ∙ ap (take (length n.body)) (drop_at words (n.body ++ rest) header_size eight)
      ∙ take_at n.body rest (length n.body) refl

  behind : drop (size n) seen ≡ rest
  behind = ap (drop (size n)) starts ∙ drop_at (notice_of n.id n.body) rest (size n) (length_notice n)

-- a take where a notice waits
module _ (r : Ring) (n : Notice) (q : List Notice) (h : Holds r (n ∷ q)) where
  abbrev capacity : ℕ
  capacity = length r.bytes

  abbrev seen : List ℕ
  seen = turned r.at.read r.bytes

  abbrev rest : List ℕ
  rest = flat q ++ drop (sizes (n ∷ q)) seen

  starts : seen ≡ notice_of n.id n.body ++ rest
  unfolding flat
  starts =
      sym (take-append-drop (sizes (n ∷ q)) seen)
      ∙ ap (λ l. l ++ drop (sizes (n ∷ q)) seen) h.stands
      ∙ append_assoc (notice_of n.id n.body) (flat q) (drop (sizes (n ∷ q)) seen)

  wait : waiting capacity r.at ≡ size n + sizes q
  unfolding sizes
  wait = waits r (n ∷ q) h

  fits : size n + sizes q < capacity
  unfolding sizes
  fits = h.room

  apart_by : r.at.read ≡ r.at.write → ⊥
  apart_by e =
      let equal = waits_between capacity r.at (between r.at (omega arith)) in
      let count = wait in
      omega arith

  not_empty : is_empty r.at ≡ false
  not_empty = ne_eqb r.at.read r.at.write apart_by

  module _ (out : List ℕ) where
    abbrev taken : Step Ring
    taken = take_step (taken_of r.bytes r.at out) r out

    id_is : id_at r.bytes r.at ≡ n.id
    id_is = id_read seen rest n h.fit.0 starts

    length_is : length_at r.bytes r.at ≡ length n.body
    length_is = length_read seen rest n h.fit.0 starts

    sound : damaged r.bytes r.at ≡ false
    sound =
        let count = wait in
        let long = length_is in
        let small = le-ltb data_max (length n.body) h.fit.0.short in
        by_data r.bytes r.at (le-ltb (waiting capacity r.at) header_size (omega arith)) (rw length_is small)
        ∙ le-ltb (waiting capacity r.at - header_size) (length_at r.bytes r.at) (omega arith)

    left_waiting : ltb (length out) (length n.body) ≡ true → Keeps r taken (record { seen = nothing OutputShort out; next = n ∷ q })
    left_waiting l =
        same_steps (ap (λ a. take_step a r out) (take_short r.bytes r.at out (ok r (n ∷ q) h) not_empty sound (rw length_is l))) refl
        (record { seen = refl; holds = h; length_kept = refl })

    handed_out : ltb (length out) (length n.body) ≡ false
        → Keeps r taken (record { seen = given n.id (length n.body) (n.body ++ drop (length n.body) out); next = q })
    unfolding sizes
    handed_out l =
        let answer = take_notice r.bytes r.at out (ok r (n ∷ q) h) not_empty sound (rw length_is l) in
        let as-posted = notice_same r.at.write id_is length_is (ap (λ k. moved capacity r.at.read (header_size + k)) length_is) in
        let room = fits in
        let on = turned_moved r.at.read (size n) r.bytes (let b = h.read in omega arith) (omega arith) in
        same_steps (ap (λ a. take_step a r out) (answer ∙ as-posted)) refl
        (record {
          seen = ap (λ bs. given n.id (length n.body) (bs ++ drop (length n.body) out)) (body_read seen rest n h.fit.0 starts);
          holds = record {
            legal = h.legal;
            read = moved_below capacity r.at.read (size n) h.read;
            room = omega arith;
            write = h.write ∙ sym (moved_moved capacity r.at.read (size n) (sizes q));
            stands =
                ap (take (sizes q)) (on ∙ ap (λ l. l ++ take (size n) seen) (behind seen rest n h.fit.0 starts) ∙ append_assoc (flat q) (drop (sizes (n ∷ q)) seen) (take (size n) seen))
                ∙ take_at (flat q) (drop (sizes (n ∷ q)) seen ++ take (size n) seen) (sizes q) (length_flat q);
            fit = h.fit.1;
          };
          length_kept = refl;
        })

pub take_keeps : (r : Ring) (q : List Notice) (h : Holds r q) (out : List ℕ) → Keeps r (take_step (taken_of r.bytes r.at out) r out) (queue_take q out)
unfolding sizes
take_keeps r [] h out =
    let equal = sym (h.write ∙ moved_none (length r.bytes) r.at.read h.read) in
    same_steps (ap (λ a. take_step a r out) (take_empty r.bytes r.at out (ok r [] h) (eq-eqb _ _ equal))) refl (record { seen = refl; holds = h; length_kept = refl })
take_keeps r (n ∷ q) h out = go (ltb (length out) (length n.body)) refl
  where
    go : (x : Bool) → ltb (length out) (length n.body) ≡ x → Keeps r (take_step (taken_of r.bytes r.at out) r out) (queue_take (n ∷ q) out)
    go true e = same_steps refl (rw e) (left_waiting r n q h out e)
    go false e = same_steps refl (rw e) (handed_out r n q h out e)
