-- Lists of posts and takes, on the ring and on the queue that it is: "From an empty ring, any sequence of posts and takes answers as a first-in first-out
-- queue of notices with that room." (document 01, "The notice ring")
-- Assumes nothing.
use Rattle.std.specs.Prelude.{ℕ, ◌+◌, ◌-◌, ◌^◌, ◌<◌, cond, List, [], ◌∷◌, ◌++◌, ltb, length, drop, Result, Ok, Err}
use Rattle.std.proofs.Math.ListN as ListN
use Rattle.notice.specs.Ring.{data_max, header_size, notice_of, posted, ring_after, taken_of, output_after}
use Rattle.notice.specs.declared.Positions.{Positions}
use Rattle.notice.specs.declared.Reason.{Reason}
use Rattle.notice.specs.declared.Reason.TheVariants.{Empty, OutputShort, DataLong, Full}
use Rattle.notice.specs.declared.Taken.{Taken}

pub record Notice : Type 0 where
  pub id : ℕ
  pub body : List ℕ

-- a post of a notice, or a take to this output
pub data Operation : Type 0 where
  post_of : Notice → Operation
  take_to : List ℕ → Operation

-- what the caller sees of one: of a take also the whole output as it stands then
pub data Seen : Type 0 where
  accepted : Seen
  rejected : Reason → Seen
  given : ℕ → ℕ → List ℕ → Seen
  nothing : Reason → List ℕ → Seen

-- the Notify IDs are of 32 bits, as each `u32` is
abbrev pub Words : List Operation → Type 0
Words [] = Unit {0}
Words (post_of n ∷ ops) = (n.id < 2 ^ 32) × Words ops
Words (take_to out ∷ ops) = Words ops

-- an operation on a state: what is seen, and the state after it
pub record Step (S : Type 0) : Type 0 where
  pub seen : Seen
  pub next : S

-- a list of operations, each on the state as the last one left it: what is seen, operation by operation, and the state at the end
unfoldable pub run : {S : Type 0} → (S → Operation → Step S) → S → List Operation → List Seen
run step s [] = []
run step s (op ∷ ops) = (step s op).seen ∷ run step (step s op).next ops

unfoldable pub end : {S : Type 0} → (S → Operation → Step S) → S → List Operation → S
end step s [] = s
end step s (op ∷ ops) = end step (step s op).next ops

-- The ring: its bytes and positions. `posted`, `ring_after`, `taken_of` and `output_after` are what `notice::post` and `notice::take` are proved to answer and
-- to leave; the caller takes over the positions that are answered, and keeps those it has on a refusal.
pub record Ring : Type 0 where
  pub bytes : List ℕ
  pub at : Positions

abbrev pub post_step : Result Positions Reason → Ring → Notice → Step Ring
post_step (Ok next) r n =
    record { seen = accepted; next = record { bytes = ring_after (Ok next) r.bytes r.at n.id n.body; at = next } }
post_step (Err reason) r n =
    record {
      seen = rejected reason;
      next = record { bytes = ring_after (Err reason) r.bytes r.at n.id n.body; at = r.at };
    }

abbrev pub take_step : Result Taken Reason → Ring → List ℕ → Step Ring
take_step (Ok taken) r out =
    record {
      seen = given taken.id taken.length (output_after (Ok taken) r.bytes r.at out);
      next = record { bytes = r.bytes; at = taken.positions };
    }
take_step (Err reason) r out = record { seen = nothing reason (output_after (Err reason) r.bytes r.at out); next = r }

abbrev pub ring_step : Ring → Operation → Step Ring
ring_step r (post_of n) = post_step (posted r.bytes r.at n.id n.body) r n
ring_step r (take_to out) = take_step (taken_of r.bytes r.at out) r out

-- The queue: notices, the oldest first, of which at most C − 1 bytes wait.
abbrev pub size : Notice → ℕ
size n = header_size + length n.body

unfoldable pub sizes : List Notice → ℕ
sizes [] = 0
sizes (n ∷ q) = size n + sizes q

abbrev pub queue_post : ℕ → List Notice → Notice → Step (List Notice)
queue_post c q n =
    cond (ltb data_max (length n.body)) (record { seen = rejected DataLong; next = q })
    (cond (ltb (c - 1 - sizes q) (size n)) (record { seen = rejected Full; next = q })
    (record { seen = accepted; next = q ++ (n ∷ []) }))

abbrev pub queue_take : List Notice → List ℕ → Step (List Notice)
queue_take [] out = record { seen = nothing Empty out; next = [] }
queue_take (n ∷ q) out =
    cond (ltb (length out) (length n.body)) (record { seen = nothing OutputShort out; next = n ∷ q })
    (record { seen = given n.id (length n.body) (n.body ++ drop (length n.body) out); next = q })

abbrev pub queue_step : ℕ → List Notice → Operation → Step (List Notice)
queue_step c q (post_of n) = queue_post c q n
queue_step c q (take_to out) = queue_take q out

-- notices laid end to end
unfoldable pub flat : List Notice → List ℕ
flat [] = []
flat (n ∷ q) = notice_of n.id n.body ++ flat q

-- the notices that went in, and those that came out: of a take, Notify ID and the output's first bytes
abbrev pub went_in : Operation → Seen → List Notice
went_in (post_of n) accepted = n ∷ []
went_in (post_of n) (rejected reason) = []
went_in (post_of n) (given id k out) = []
went_in (post_of n) (nothing reason out) = []
went_in (take_to out) seen = []

abbrev pub came_out : Seen → List Notice
came_out accepted = []
came_out (rejected reason) = []
came_out (given id n out) = record { id = id; body = ListN.take n out } ∷ []
came_out (nothing reason out) = []

unfoldable pub all_in : List Operation → List Seen → List Notice
all_in [] seen = []
all_in (op ∷ ops) [] = []
all_in (op ∷ ops) (s ∷ seen) = went_in op s ++ all_in ops seen

unfoldable pub all_out : List Seen → List Notice
all_out [] = []
all_out (s ∷ seen) = came_out s ++ all_out seen
