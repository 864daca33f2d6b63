-- The ring is a queue, and what is posted is taken: whole lists of operations, by the relation that each operation keeps. What one post and one take change.
-- Assumes nothing.
use Prim.Native.Nat.{ℕ, ◌+◌, ◌-◌, ◌≤◌, ◌<◌}
use mathlib.Core.Bool.{Bool, true, false, cond}
use mathlib.Core.Path.{◌≡◌, refl, sym, ap, ap₂, subst, ◌∙◌}
use mathlib.Core.List.{List, [], ◌∷◌, ◌++◌, append_assoc, append-nil}
use borrow.Author.Tests.{ltb-false, leb-true, leb-false}
use native.Mathlib.Nat.{le_of_lt}
use native.Mathlib.Omega.{arith}
use lib.Dec.{ltb}
use lib.ListN.{length, drop, length-append, length-take, length-drop}
use lib.ListN as ListN
use lib.Seq.{take_at, drop_at, take-take}
use Rattle.std.specs.Prelude.{Err}
use Rattle.le.proofs.Tests.{apart, past}
use Rattle.notice.specs.Ring.{data_max, header_size, bad_ring, is_between, waiting, is_empty, moved, turned, stored, notice_of, id_at, length_at, damaged, is_short, got, taken_of}
use Rattle.notice.specs.Queue.{Notice, Operation, post_of, take_to, Words, run, end, Ring, ring_step, size, sizes, queue_step, flat, went_in, came_out, all_in, all_out}
use Rattle.notice.specs.Statements.{Capacity, empty, RingIsQueue, PostedIsTaken, AllTaken, PostChanges, TakeChanges, DamagedStays}
use Rattle.notice.specs.declared.Positions.{Positions}
use Rattle.notice.specs.declared.Reason.TheVariants.{Damaged, OutputShort}
use Rattle.notice.proofs.Turning.{length_turned, length_stored, turned_stored}
use Rattle.notice.proofs.Answers.{good, between, waits_between, waits_round, waits_less, moved_inside, moved_past, room_left, accepted, within_waiting, take_damaged, answered}
use Rattle.notice.proofs.Queue.{length_notice, length_flat, moved_none, post_stands, Holds, Keeps, waits, post_keeps, take_keeps}

first_word : (op : Operation) (ops : List Operation) → Words (op ∷ ops) → Words (op ∷ [])
first_word (post_of n) ops w = (w.0, tt)
first_word (take_to out) ops w = tt

other_words : (op : Operation) (ops : List Operation) → Words (op ∷ ops) → Words ops
other_words (post_of n) ops w = w.1
other_words (take_to out) ops w = w

keeps : (r : Ring) (q : List Notice) (op : Operation) → Holds r q → Words (op ∷ []) → Keeps r (ring_step r op) (queue_step (length r.bytes) q op)
keeps r q (post_of n) h w = post_keeps r q h n w.0
keeps r q (take_to out) h w = take_keeps r q h out

-- a list of operations is seen alike on both, and at the end the relation still holds
record Alike (r : Ring) (q : List Notice) (ops : List Operation) : Type 0 where
  seen : run ring_step r ops ≡ run (queue_step (length r.bytes)) q ops
  holds : Holds (end ring_step r ops) (end (queue_step (length r.bytes)) q ops)
  length_kept : length (end ring_step r ops).bytes ≡ length r.bytes

alike : (r : Ring) (q : List Notice) (ops : List Operation) → Holds r q → Words ops → Alike r q ops
unfolding run end
alike r q [] h w = record { seen = refl; holds = h; length_kept = refl }
alike r q (op ∷ ops) h w =
    let one = keeps r q op h (first_word op ops w) in
    let next = (queue_step (length r.bytes) q op).next in
    let others = alike (ring_step r op).next next ops one.holds (other_words op ops w) in
    record {
      seen = ap₂ ◌∷◌ one.seen (others.seen ∙ ap (λ c. run (queue_step c) next ops) one.length_kept);
      holds = subst (λ c. Holds (end ring_step (ring_step r op).next ops) (end (queue_step c) next ops)) one.length_kept others.holds;
      length_kept = others.length_kept ∙ one.length_kept;
    }

-- the queue alone: what waits and goes in is what comes out and what is left
one_in_order : (c : ℕ) (q : List Notice) (op : Operation)
    → q ++ went_in op (queue_step c q op).seen ≡ came_out (queue_step c q op).seen ++ (queue_step c q op).next
one_in_order c q (post_of n) = go (ltb data_max (length n.body)) refl (ltb (c - 1 - sizes q) (size n)) refl
  where
    go : (x : Bool) → ltb data_max (length n.body) ≡ x → (y : Bool) → ltb (c - 1 - sizes q) (size n) ≡ y
        → q ++ went_in (post_of n) (queue_step c q (post_of n)).seen ≡ came_out (queue_step c q (post_of n)).seen ++ (queue_step c q (post_of n)).next
    go true e y f = rw e (append-nil q)
    go false e true f = rw (e, f) (append-nil q)
    go false e false f = rw (e, f)
one_in_order c [] (take_to out) = refl
one_in_order c (n ∷ q) (take_to out) = go (ltb (length out) (length n.body)) refl
  where
    go : (x : Bool) → ltb (length out) (length n.body) ≡ x
        → (n ∷ q) ++ went_in (take_to out) (queue_step c (n ∷ q) (take_to out)).seen ≡ came_out (queue_step c (n ∷ q) (take_to out)).seen ++ (queue_step c (n ∷ q) (take_to out)).next
    go true e = rw e (append-nil (n ∷ q))
    go false e =
        let body_is = take_at n.body (drop (length n.body) out) (length n.body) refl in
        rw e (append-nil (n ∷ q) ∙ ap (λ (b : List ℕ). let m : Notice = record { id = n.id; body = b } in m ∷ q) (sym body_is))

in_order : (c : ℕ) (q : List Notice) (ops : List Operation)
    → q ++ all_in ops (run (queue_step c) q ops) ≡ all_out (run (queue_step c) q ops) ++ end (queue_step c) q ops
unfolding run end all_in all_out
in_order c q [] = append-nil q
in_order c q (op ∷ ops) =
    let seen = (queue_step c q op).seen in
    let next = (queue_step c q op).next in
    let others = run (queue_step c) next ops in
    sym (append_assoc q (went_in op seen) (all_in ops others))
    ∙ ap (λ l. l ++ all_in ops others) (one_in_order c q op)
    ∙ append_assoc (came_out seen) next (all_in ops others)
    ∙ ap (λ l. came_out seen ++ l) (in_order c next ops)
    ∙ sym (append_assoc (came_out seen) (all_out others) (end (queue_step c) next ops))

module _ (ring : List ℕ) (p : ℕ) (ops : List Operation) (legal : Capacity (length ring)) (below : p < length ring) (w : Words ops) where
  from_empty : Alike (empty p ring) [] ops
  unfolding sizes flat
  from_empty =
      alike (empty p ring) [] ops
      (record {
        legal = legal;
        read = below;
        room = omega arith;
        write = sym (moved_none (length ring) p below);
        stands = refl;
        fit = tt;
      })
      w

pub ring_is_queue : RingIsQueue
ring_is_queue ring p ops legal below w = (from_empty ring p ops legal below w).seen

pub posted_is_taken : PostedIsTaken
posted_is_taken ring p ops legal below w =
    let both = from_empty ring p ops legal below w in
    let left = end (queue_step (length ring)) [] ops in
    let final = end ring_step (empty p ring) ops in
    record {
      in_order = rw both.seen (in_order (length ring) [] ops);
      waits = ap (λ c. waiting c final.at) (sym both.length_kept) ∙ waits final left both.holds ∙ sym (length_flat left);
      stands = ap (λ k. ListN.take k (turned final.at.read final.bytes)) (length_flat left) ∙ both.holds.stands;
    }

none_left : (q : List Notice) → sizes q ≡ 0 → q ≡ []
unfolding sizes
none_left [] e = refl
none_left (n ∷ q) e = absurd (omega arith)

pub all_taken : AllTaken
all_taken ring p ops legal below w equal =
    let left = end (queue_step (length ring)) [] ops in
    let final = end ring_step (empty p ring) ops in
    let known = posted_is_taken ring p ops legal below w in
    let none = sym (length_flat left) ∙ sym known.waits ∙ waits_between (length ring) final.at (between final.at (omega arith)) ∙ (let e : final.at.write - final.at.read ≡ 0 = omega arith in e) in
    known.in_order
    ∙ ap (λ l. all_out (run ring_step (empty p ring) ops) ++ l) (none_left left none)
    ∙ append-nil (all_out (run ring_step (empty p ring) ops))

-- so far past the read position as bytes wait is the write position
moved_waiting : (c : ℕ) (at : Positions) → at.read < c → at.write < c → moved c at.read (waiting c at) ≡ at.write
moved_waiting c at r w = go (is_between at) refl
  where
    go : (b : Bool) → is_between at ≡ b → moved c at.read (waiting c at) ≡ at.write
    go true e =
        let h = leb-true at.read at.write e in
        ap (moved c at.read) (waits_between c at e) ∙ moved_inside c at.read (at.write - at.read) (omega arith) ∙ omega arith
    go false e =
        let h = leb-false at.read at.write e in
        ap (moved c at.read) (waits_round c at e) ∙ moved_past c at.read (c - at.read + at.write) r (omega arith) (omega arith) ∙ omega arith

pub post_changes : PostChanges
post_changes ring at id body next e =
    let c = length ring in
    let known = accepted ring at id body next e in
    let legal = good c at known.ok in
    let bs = notice_of id body in
    let len = length_notice (record { id = id; body = body }) in
    let room = room_left c at (length body) known.fits in
    let seen = turned at.read ring in
    let standing = ListN.take (waiting c at) seen in
    let some = waits_less c at legal.read legal.write in
    let whole : length bs ≤ c = omega arith in
    let count : length standing ≡ waiting c at = length-take (waiting c at) seen ∙ rw (length_turned at.read ring) (omega arith) in
    let stands = post_stands ring standing bs at.read at.write legal.read (omega arith) (sym (moved_waiting c at legal.read legal.write) ∙ ap (moved c at.read) (sym count)) (ap (λ k. ListN.take k seen) count) in
    record {
      same_length = rw e (length_stored bs at.write ring whole);
      places = rw e (turned_stored bs at.write ring (le_of_lt legal.write) whole ∙ ap (λ k. bs ++ drop k (turned at.write ring)) len);
      waited =
          rw e
          (ap (λ k. ListN.take k (turned at.read (stored at.write bs ring))) (sym count)
          ∙ sym (take-take (length standing) (length standing + length bs) (turned at.read (stored at.write bs ring)) (omega arith))
          ∙ ap (ListN.take (length standing)) stands
          ∙ take_at standing bs (length standing) refl);
      read_is = cc;
      write_is = cc;
    }

pub take_changes : TakeChanges
take_changes ring at out id n next e =
    let c = length ring in
    let known = answered ring at out id n next e in
    let legal = good c at known.ok in
    let n_is = known.n_is in
    let waits = within_waiting ring at known.sound in
    let some = waits_less c at legal.read legal.write in
    let inside = ltb-false (length out) (length_at ring at) known.room in
    let body = ListN.take n (drop header_size (turned at.read ring)) in
    let count : length body ≡ n = simp (length-take, length-drop, length-append) (omega arith) in
    record {
      id_is = known.id_is;
      n_is = n_is;
      inside = omega (arith, n_is);
      same_length = rw e (simp (length-append, length-drop) (omega arith));
      first = rw e (take_at body (drop n out) n count);
      rest = rw e (drop_at body (drop n out) n count);
      read_is = cc;
      write_is = cc;
    }

pub damaged_stays : DamagedStays
unfolding taken_of
damaged_stays ring at out other e =
    let legal = past (bad_ring (length ring) at) (λ q. apart (cc)) e in
    let some = past (is_empty at) (λ q. apart (cc)) legal.1 in
    take_damaged ring at other legal.0 some.0 (go (damaged ring at) some.1)
  where
    go : (d : Bool)
        → cond d (Err Damaged)
        (cond (is_short ring at out) (Err OutputShort)
        (got (id_at ring at) (length_at ring at) (record { read = moved (length ring) at.read (header_size + length_at ring at); write = at.write })))
        ≡ Err Damaged
        → d ≡ true
    go true q = refl
    go false q = let answers = (past (is_short ring at out) (λ z. apart (cc)) q).1 in apart (cc)
