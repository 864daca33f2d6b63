-- The laws of the definitions that make up a call: one for each answer, with what leads there.
-- Assumes nothing.
use Prim.Native.Nat.{ℕ, ◌≤◌, ◌<◌}
use mathlib.Core.Bool.{Bool, true, false, cond}
use mathlib.Core.Path.{◌≡◌, refl, sym, ap, ◌∙◌}
use mathlib.Core.List.{List}
use borrow.Author.Tests.{lt-ltb, le-ltb}
use lib.ListN.{length, get_or}
use Rattle.le.proofs.Tests.{either}
use Rattle.frame.specs.Layout.{message_max}
use Rattle.frame.specs.Reading.{parsed, data_of}
use Rattle.frame.specs.declared.Header.{Header}
use Rattle.frame.specs.declared.read.Parsed.{Parsed}
use Rattle.frame.specs.declared.read.Reason.{Reason as ReadReason}
use Rattle.reassembly.specs.Step as One
use Rattle.reassembly.specs.Step.{lacks_data_def, is_first}
use Rattle.reassembly.specs.declared.State.{State}
use Rattle.reassembly.specs.declared.State.TheVariants.{Fresh}
use Rattle.reassembly.specs.declared.Reason.TheVariants.{Unread, NothingOpen, NoData, TooMuchData, MessageLong}
use Rattle.heads.specs.Places.{part, is_free_def, lowest, place_of, open_of_def, without, all_consistent, legal}
use Rattle.heads.specs.Step.{refused, cleared, settled, seated, crowded, begun, continued, routed, step_of}
use Rattle.heads.specs.Helpers.{seat_of, left_for, turned_away}
use Rattle.heads.specs.declared.Reason.TheVariants.{Step, NoPlace}
use Rattle.heads.proofs.Seats.{lowest_at, free_fresh, no_place_dropped, length_without, none_free_no_place, consistent_without}

-- 11, and places that are looked at
module _ (us : ℕ) (ps : List State) (b f : List ℕ) where
  pub bad_places : legal ps (length b) ≡ false → step_of us ps b f ≡ cleared ps b
  unfolding step_of
  bad_places h = rw h

  pub good_places : legal ps (length b) ≡ true → step_of us ps b f ≡ routed (parsed us f) (data_of f) ps b
  unfolding step_of
  good_places h = rw h

-- 1 to 4, and by the Index
module _ (r : Parsed) (p : List ℕ) (ps : List State) (b : List ℕ) where
  pub unread_frame : (reason : ReadReason) → r ≡ Parsed.Refused reason → routed r p ps b ≡ refused (Step (Unread reason)) ps b
  unfolding routed
  unread_frame reason e = rw e

  pub index_zero : (h : Header) → r ≡ Parsed.Header h → is_first h ≡ true → routed r p ps b ≡ begun h p ps b
  unfolding routed
  index_zero h e i = rw (e, i)

  pub index_more : (h : Header) → r ≡ Parsed.Header h → is_first h ≡ false → routed r p ps b ≡ continued h p ps b
  unfolding routed
  index_more h e i = rw (e, i)

module _ (h : Header) (p : List ℕ) (ps : List State) (b : List ℕ) where
  -- Index 0: the lowest free place without the sender's own message, or none
  pub takes_place : (k : ℕ) → lowest is_free_def (without h.words.sender ps) ≡ k → k < length ps
      → begun h p ps b ≡ seated k Fresh h p (without h.words.sender ps) b
  unfolding begun
  takes_place k e l = rw (e, lt-ltb k (length ps) l)

  pub none_free : length ps ≤ lowest is_free_def (without h.words.sender ps) → begun h p ps b ≡ refused (crowded (length p) h.words.total) ps b
  unfolding begun
  none_free l = rw (le-ltb (lowest is_free_def (without h.words.sender ps)) (length ps) l)

  -- any other Index: the sender's own place, or 5
  pub own_place : (k : ℕ) → place_of h.words.sender ps ≡ k → k < length ps → continued h p ps b ≡ seated k (open_of_def h.words.sender ps) h p ps b
  unfolding continued
  own_place k e l = rw (e, lt-ltb k (length ps) l)

  pub no_place : length ps ≤ place_of h.words.sender ps → continued h p ps b ≡ refused (Step NothingOpen) ps b
  unfolding continued
  no_place l = rw (le-ltb (place_of h.words.sender ps) (length ps) l)

-- 10, 8 and 9 before 15
module _ (size total : ℕ) where
  pub crowded_long : message_max < total → crowded size total ≡ Step MessageLong
  unfolding crowded
  crowded_long l = rw (lt-ltb message_max total l)

  module _ (bounded : total ≤ message_max) where
    pub crowded_lacking : lacks_data_def size total ≡ true → crowded size total ≡ Step NoData
    unfolding crowded
    crowded_lacking e = rw (le-ltb message_max total bounded, e)

    module _ (present : lacks_data_def size total ≡ false) where
      pub crowded_excess : total < size → crowded size total ≡ Step TooMuchData
      unfolding crowded
      crowded_excess l = rw (le-ltb message_max total bounded, present, lt-ltb total size l)

      pub crowded_out : size ≤ total → crowded size total ≡ NoPlace
      unfolding crowded
      crowded_out l = rw (le-ltb message_max total bounded, present, le-ltb total size l)

-- in its place a frame that is read gets the answer of the crate `reassembly`
pub in_place : (us k : ℕ) (st : State) (h : Header) (f : List ℕ) (ps : List State) (b : List ℕ) → parsed us f ≡ Parsed.Header h
    → seated k st h (data_of f) ps b ≡ settled k (One.step_of us st (part k b) f) ps b
in_place us k st h f ps b e = rw e

-- where the frame has its place, and where it has none
module _ (h : Header) (p : List ℕ) (ps : List State) (b : List ℕ) where
  pub has_place : (k : ℕ) → seat_of h ps ≡ k → k < length ps → routed (Parsed.Header h) p ps b ≡ seated k (get_or (left_for h ps) k Fresh) h p (left_for h ps) b
  unfolding routed
  has_place k is less = go (is_first h) is
    where
      s : ℕ
      s = h.words.sender

      go : (first : Bool) → cond first (lowest is_free_def (without s ps)) (place_of s ps) ≡ k
          → cond first (begun h p ps b) (continued h p ps b) ≡ seated k (get_or (cond first (without s ps) ps) k Fresh) h p (cond first (without s ps) ps) b
      go true e =
          let free : get_or (without s ps) k Fresh ≡ Fresh =
          free_fresh (get_or (without s ps) k Fresh) (rw (← e) (lowest_at is_free_def (without s ps) (rw (e, length_without s ps) less))) in
          takes_place h p ps b k e less ∙ ap (λ (st : State). seated k st h p (without s ps) b) (sym free)
      go false e = own_place h p ps b k e less ∙ ap (λ (n : ℕ). seated k (get_or ps n Fresh) h p ps b) e

  pub has_none : length ps ≤ seat_of h ps → (routed (Parsed.Header h) p ps b ≡ refused (turned_away h (length p)) ps b) × (left_for h ps ≡ ps)
  unfolding routed
  has_none none = go (is_first h) none
    where
      s : ℕ
      s = h.words.sender

      go : (first : Bool) → length ps ≤ cond first (lowest is_free_def (without s ps)) (place_of s ps)
          → (cond first (begun h p ps b) (continued h p ps b) ≡ refused (cond first (crowded (length p) h.words.total) (Step NothingOpen)) ps b) × (cond first (without s ps) ps ≡ ps)
      go true l = (none_free h p ps b l, no_place_dropped s ps (none_free_no_place s ps l))
      go false l = (no_place h p ps b l, refl)

-- by the Index
module _ (h : Header) where
  pub seat_first : (ps : List State) → is_first h ≡ true → (seat_of h ps ≡ lowest is_free_def (without h.words.sender ps)) × (left_for h ps ≡ without h.words.sender ps)
  seat_first ps e = rw e (refl, refl)

  pub seat_later : (ps : List State) → is_first h ≡ false → (seat_of h ps ≡ place_of h.words.sender ps) × (left_for h ps ≡ ps)
  seat_later ps e = rw e (refl, refl)

  -- without a message each place is consistent as before
  pub left_consistent : (ps : List State) → all_consistent ps ≡ true → all_consistent (left_for h ps) ≡ true
  left_consistent ps ok = either (λ (qs : List State). all_consistent qs ≡ true) (is_first h) (consistent_without h.words.sender ps ok) ok
