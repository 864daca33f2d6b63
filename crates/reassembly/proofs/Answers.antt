-- The laws of the definitions that make up a step: one for each answer, with what leads there.
-- Assumes nothing.
use Rattle.std.proofs.lemmas.Bool.{and_parts}
use Prim.Native.Nat.{ℕ, ◌+◌, ◌-◌, ◌≤◌, ◌<◌}
use mathlib.Core.Bool.{Bool, true, false, not, ◌&&◌}
use mathlib.Core.Path.{◌≡◌, refl, sym, ap, ◌∙◌}
use mathlib.Core.List.{List}
use borrow.Author.Tests.{lt-ltb, le-ltb, lt-leb, le-leb, eq-eqb, ne_eqb, leb-true, ltb-true, not-false}
use lib.Dec.{leb, ltb, eqb}
use lib.ListN.{length, get_or}
use Rattle.le.specs.Compare.{same}
use Rattle.le.proofs.Comparing.{same_true, other_list}
use Rattle.frame.specs.Layout.{message_max, words_of, words_at}
use Rattle.frame.specs.declared.Header.{Header}
use Rattle.frame.specs.declared.Words.{Words}
use Rattle.frame.specs.declared.read.Parsed.{Parsed}
use Rattle.frame.specs.declared.read.Reason.{Reason as ReadReason}
use Rattle.reassembly.specs.Step.{Stepped, consistent, same_words_def, refused, landed, delivered, wanting, taken, lacks_data_def, is_next, is_first, accept, begin, proceed, routed, received}
use Rattle.reassembly.specs.declared.Answer.{Answer}
use Rattle.reassembly.specs.declared.Progress.{Progress}
use Rattle.reassembly.specs.declared.State.{State}
use Rattle.reassembly.specs.declared.State.TheVariants.{Fresh, Open}
use Rattle.reassembly.specs.declared.Reason.TheVariants.{Unread, NothingOpen, OutOfOrder, OtherWords, NoData, TooMuchData, MessageLong, BadState}

-- an answer or a buffer that is that of a step's law is that of the step
pub answer_in : (st law : Stepped) (answer : Answer) → st ≡ law → answer ≡ law.answer → answer ≡ st.answer
answer_in st law answer e a = rw e a

pub buffer_in : (st law : Stepped) (buffer : List ℕ) → st ≡ law → buffer ≡ law.buffer → buffer ≡ st.buffer
buffer_in st law buffer e b = rw e b

-- which states are fresh or consistent
pub fresh : (room : ℕ) → consistent Fresh room ≡ true
unfolding consistent
fresh room = refl

module _ (s : State) (p : Progress) (room : ℕ) (is_open : s ≡ Open p) where
  pub no_next : p.next < 1 → consistent s room ≡ false
  unfolding consistent
  no_next h = rw (is_open, lt-leb 1 p.next h)

  module _ (next : 1 ≤ p.next) where
    module _ (order : p.next ≤ p.filled) where
      -- the message's length decides
      pub by_length : p.filled < p.words.total → consistent s room ≡ leb p.words.total message_max && leb p.words.total room
      unfolding consistent
      by_length less = rw (is_open, le-leb 1 p.next next, le-leb p.next p.filled order, lt-ltb p.filled p.words.total less)

      module _ (less : p.filled < p.words.total) where
        pub by_room : p.words.total ≤ message_max → consistent s room ≡ leb p.words.total room
        by_room h = by_length less ∙ rw (le-leb p.words.total message_max h)

-- what is known of a consistent open state
pub record Consistent (p : Progress) (room : ℕ) : Type 0 where
  pub positive : 1 ≤ p.next
  pub order : p.next ≤ p.filled
  pub less : p.filled < p.words.total
  pub bounded : p.words.total ≤ message_max
  pub held : p.words.total ≤ room

pub consistent_open : (p : Progress) (room : ℕ) → consistent (Open p) room ≡ true → Consistent p room
unfolding consistent
consistent_open p room e =
    let total = p.words.total in
    let a = and_parts (leb 1 p.next) _ e in
    let b = and_parts (leb p.next p.filled) _ a.1 in
    let c = and_parts (ltb p.filled total) _ b.1 in
    let d = and_parts (leb total message_max) _ c.1 in
    record {
      positive = leb-true 1 p.next a.0;
      order = leb-true p.next p.filled b.0;
      less = ltb-true p.filled total c.0;
      bounded = leb-true total message_max d.0;
      held = leb-true total room d.1;
    }

-- whether the carried words are the same: as the derived test compares them; one that differs decides, or else the last; where it holds, the records are equal
module _ (v w : Words) where
  pub words_equal : same_words_def v w ≡ true → w ≡ v
  words_equal e = ap (words_at 0) (sym (same_true (words_of v) (words_of w) e))

  pub word_differs : (i : ℕ) → (get_or (words_of v) i 0 ≡ get_or (words_of w) i 0 → ⊥) → same_words_def v w ≡ false
  word_differs i differ = other_list (words_of v) (words_of w) (λ e. differ (ap (λ (l : List ℕ). get_or l i 0) e))

  pub same_by_fields : same_words_def v w
      ≡ eqb v.sequence w.sequence && (eqb v.id w.id && (eqb v.sender w.sender && (eqb v.status w.status && eqb v.total w.total)))
  unfolding same
  same_by_fields = rw (alone (eqb v.total w.total))
    where
      alone : (t : Bool) → t && true ≡ t
      alone true = refl
      alone false = refl

  pub same_tested : (differ : Bool)
      → differ ≡ not (eqb v.sequence w.sequence && (eqb v.id w.id && (eqb v.sender w.sender && (eqb v.status w.status && eqb v.total w.total))))
      → differ ≡ false → same_words_def v w ≡ true
  same_tested differ tested is = same_by_fields ∙ not-false _ (sym tested ∙ is)

  pub last_decides : v.sequence ≡ w.sequence → v.id ≡ w.id → v.sender ≡ w.sender → v.status ≡ w.status
      → same_words_def v w ≡ eqb v.total w.total
  last_decides a b c d = same_by_fields ∙ rw (eq-eqb _ _ a, eq-eqb _ _ b, eq-eqb _ _ c, eq-eqb _ _ d)

-- 8, 9, and data that is taken
module _ (w : Words) (i filled : ℕ) (p b : List ℕ) where
  pub lacking : lacks_data_def (length p) w.total ≡ true → accept w i filled p b ≡ refused NoData Fresh b
  unfolding accept
  lacking h = rw h

  pub excess : lacks_data_def (length p) w.total ≡ false → w.total - filled < length p → accept w i filled p b ≡ refused TooMuchData Fresh b
  unfolding accept
  excess h l = rw (h, lt-ltb (w.total - filled) (length p) l)

  pub data_taken : lacks_data_def (length p) w.total ≡ false → length p ≤ w.total - filled → accept w i filled p b ≡ taken w i (filled + length p) (landed filled p b)
  unfolding accept
  data_taken h l = rw (h, le-ltb (w.total - filled) (length p) l)

-- all of it, or not yet
module _ (w : Words) (i filled : ℕ) (b : List ℕ) where
  pub whole : filled ≡ w.total → taken w i filled b ≡ delivered w b
  whole h = rw (eq-eqb filled w.total h)

  pub not_whole : (filled ≡ w.total → ⊥) → taken w i filled b ≡ wanting w i filled b
  not_whole h = rw (ne_eqb filled w.total h)

-- 10, and a message that begins
module _ (w : Words) (p b : List ℕ) where
  pub over_limit : message_max < w.total → begin w p b ≡ refused MessageLong Fresh b
  unfolding begin
  over_limit h = rw (lt-ltb message_max w.total h)

  pub over_buffer : w.total ≤ message_max → length b < w.total → begin w p b ≡ refused MessageLong Fresh b
  unfolding begin
  over_buffer h l = rw (le-ltb message_max w.total h, lt-ltb (length b) w.total l)

  pub begins : w.total ≤ message_max → w.total ≤ length b → begin w p b ≡ accept w 0 0 p b
  unfolding begin
  begins h l = rw (le-ltb message_max w.total h, le-ltb (length b) w.total l)

-- 5, 6, 7, and a message that goes on
module _ (h : Header) (p : List ℕ) (s : State) (b : List ℕ) where
  pub none_open : s ≡ Fresh → proceed h p s b ≡ refused NothingOpen s b
  unfolding proceed
  none_open e = rw e

  module _ (q : Progress) (is_open : s ≡ Open q) where
    pub other_index : is_next h q ≡ false → proceed h p s b ≡ refused OutOfOrder s b
    unfolding proceed
    other_index i = rw (is_open, i)

    pub other_words : is_next h q ≡ true → same_words_def h.words q.words ≡ false → proceed h p s b ≡ refused OtherWords s b
    unfolding proceed
    other_words i w = rw (is_open, i, w)

    pub goes_on : is_next h q ≡ true → same_words_def h.words q.words ≡ true → proceed h p s b ≡ accept q.words q.next q.filled p b
    unfolding proceed
    goes_on i w = rw (is_open, i, w)

    -- with the frame's words, which are the same
    pub goes_on_with_frame : is_next h q ≡ true → same_words_def h.words q.words ≡ true → proceed h p s b ≡ accept h.words q.next q.filled p b
    goes_on_with_frame i w = goes_on i w ∙ ap (λ (v : Words). accept v q.next q.filled p b) (words_equal h.words q.words w)

-- 1 to 4, by the Index, and 11 before all
module _ (r : Parsed) (p : List ℕ) (s : State) (b : List ℕ) where
  pub unread_frame : (reason : ReadReason) → r ≡ Parsed.Refused reason → routed r p s b ≡ refused (Unread reason) s b
  unfolding routed
  unread_frame reason e = rw e

  pub index_zero : (h : Header) → r ≡ Parsed.Header h → is_first h ≡ true → routed r p s b ≡ begin h.words p b
  unfolding routed
  index_zero h e i = rw (e, i)

  pub index_more : (h : Header) → r ≡ Parsed.Header h → is_first h ≡ false → routed r p s b ≡ proceed h p s b
  unfolding routed
  index_more h e i = rw (e, i)

  pub bad_state : consistent s (length b) ≡ false → received r p s b ≡ refused BadState s b
  unfolding received
  bad_state h = rw h

  pub good_state : consistent s (length b) ≡ true → received r p s b ≡ routed r p s b
  unfolding received
  good_state h = rw h

-- what the goals of a message that goes on want
pub ruleset continuing = (same_by_fields, words_equal, consistent_open)
