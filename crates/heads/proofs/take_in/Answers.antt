-- The step of the crate `reassembly` in the bytes of place k.
use Rattle.std.proofs.Common.{◌≡◌, ◌≤◌, ℕ, ◌+◌, ◌-◌, ◌*◌, List, ◌++◌, length, take, drop, set, ap, ◌∙◌, arith}
use borrow.Rule.Slice.PartMut.{mid_of, Post-is}
use Rattle.frame.specs.declared.Header.{Header}
use Rattle.frame.specs.declared.read.Parsed.TheVariants as Parsed
use Rattle.reassembly.specs.Step.{consistent, received}
use Rattle.reassembly.specs.declared.Answer.{Answer}
use Rattle.reassembly.specs.declared.State.{State}
use Rattle.heads.specs.Places.{place_size, part, with_part}
use Rattle.heads.specs.Step.{placed}
use Rattle.heads.specs.Numbers.{places_in}
use Rattle.heads.specs.Helpers.{relaid}
use Rattle.heads.proofs.Seats.{length_part}
use Rattle.heads.proofs.take_in.Goals as goal

-- what is lent is the place's bytes
lent : (k : ℕ) (b : List ℕ) → mid_of (place_size * k) (place_size * k + place_size - place_size * k) b ≡ part k b
lent k b = ap (λ (n : ℕ). take n (drop (place_size * k) b)) (let n : place_size * k + place_size - place_size * k ≡ place_size = omega arith in n)

-- the answer is that of the step there
answer_is : (k : ℕ) (b : List ℕ) (h : Header) (piece : List ℕ) (state : State) (answer : Answer)
    → answer ≡ (received (Parsed.Header h) piece state (mid_of (place_size * k) (place_size * k + place_size - place_size * k) b)).answer
    → answer ≡ (received (Parsed.Header h) piece state (part k b)).answer
answer_is k b h piece state answer e = e ∙ ap (λ (p : List ℕ). (received (Parsed.Header h) piece state p).answer) (lent k b)

pub invariant_of-next : goal.invariant_of-next
invariant_of-next c =
    let k = c.args.seat.k in
    let b = c.args.buf.now in
    let fits : place_size * k + place_size ≤ length b = omega (arith, c.args.seat.in_range, c.requires.room_enough) in
    let ok = c.requires.keeps c.args.seat.state (part k b) (length_part k b fits) c.args.seat.fits in
    let is = answer_is k b c.args.h c.args.piece.now c.args.seat.state c.receive-answer.result c.receive-answer.ensures.value in
    record { in_range = omega (arith, c.args.seat.in_range); fits = ap (λ (a : Answer). consistent a.state place_size) is ∙ ok }

pub returns : goal.returns
returns c =
    let k = c.args.seat.k in
    let b = c.args.buf.now in
    let numbers = c.args.places.now in
    let is = answer_is k b c.args.h c.args.piece.now c.args.seat.state c.receive-answer.result c.receive-answer.ensures.value in
    let bytes = c.receive-answer.ensures.buf_after ∙ ap (λ (p : List ℕ). (received (Parsed.Header c.args.h) c.args.piece.now c.args.seat.state p).buffer) (lent k b) in
    record {
      value = c.place.ensures ∙ ap (λ (a : Answer). placed k a.verdict) is;
      places_after = c.put.ensures.places_after ∙ ap (λ (a : Answer). relaid k a.state numbers) is;
      read_back = c.put.ensures.read_back ∙ ap (λ (a : Answer). set (places_in numbers) k a.state) is;
      buf_after =
          ap (λ (l : List ℕ). take (place_size * k) b ++ (c.receive-answer.new.buf ++ l)) (Post-is (place_size * k) (place_size * k + place_size) b (omega (arith, c.args.seat.in_range, c.requires.room_enough)))
          ∙ ap (λ (l : List ℕ). with_part k l b) bytes;
    }
