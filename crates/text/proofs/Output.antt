-- The laws of text that is put into an output.
--     not_put     text that does not fit
--     is_put      text that does
--     take_laid, drop_laid   what the output holds before and behind its end
--     lies        text for which there is room
--     lies_behind more behind it: it is both joined that lies there
--     adds, room_left, adds_both   the same of a writer
-- Assumes nothing.
use Prim.Native.Nat.{ℕ, ◌+◌, ◌≤◌}
use mathlib.Core.Bool.{true, false}
use mathlib.Core.Path.{◌≡◌, refl, sym, ap, ap₂, ◌∙◌}
use mathlib.Core.List.{List, ◌++◌, append_assoc}
use borrow.Author.Tests.{le-leb}
use native.Mathlib.Omega.{arith}
use lib.Dec.{leb}
use lib.ListN.{length, take, drop, length-append, length-drop}
use lib.Seq.{take_at, drop_at, drop-drop, length-take-le}
use Rattle.text.specs.Output.{laid, behind, put, Lies, Puts, HasRoom, Adds}
use Rattle.text.specs.declared.Writer.{Writer}

-- where the text's length is n
module _ (at : ℕ) (text out : List ℕ) (n : ℕ) (is : n ≡ length text) where
  pub not_put : leb (at + n) (length out) ≡ false → (at ≡ behind at text out) × (out ≡ put at text out)
  unfolding behind put
  not_put e = rw (← is, e) (refl, refl)

  pub is_put : leb (at + n) (length out) ≡ true → (at + n ≡ behind at text out) × (laid at text out ≡ put at text out)
  unfolding behind put
  is_put e = rw (← is, e) (refl, refl)

module _ (at : ℕ) (text out : List ℕ) where
  pub lies : (place : ℕ) (after : List ℕ)
      → at + length text ≤ length out
      → (place ≡ behind at text out) × (after ≡ put at text out)
      → Lies at text out place after
  lies place after room said =
      let law = is_put at text out (length text) refl (le-leb (at + length text) (length out) room) in
      record { place_is = said.0 ∙ sym law.0; after_is = said.1 ∙ sym law.1 }

  length_laid : at + length text ≤ length out → length (laid at text out) ≡ length out
  length_laid room = simp (length-append, length-drop, length-take-le at out (omega arith)) (omega arith)

-- what stands before and behind the text's end
module _ (at : ℕ) (text out : List ℕ) (room : at + length text ≤ length out) where
  abbrev front : List ℕ
  front = take at out ++ text

  parts : laid at text out ≡ front ++ drop (at + length text) out
  parts = sym (append_assoc (take at out) text (drop (at + length text) out))

  long : length front ≡ at + length text
  long = length-append (take at out) text ∙ ap (λ (n : ℕ). n + length text) (length-take-le at out (omega arith))

  pub take_laid : take (at + length text) (laid at text out) ≡ take at out ++ text
  take_laid = ap (take (at + length text)) parts ∙ take_at front (drop (at + length text) out) (at + length text) long

  pub drop_laid : drop (at + length text) (laid at text out) ≡ drop (at + length text) out
  drop_laid = ap (drop (at + length text)) parts ∙ drop_at front (drop (at + length text) out) (at + length text) long

put_behind : (at : ℕ) (a b out : List ℕ) → at + length a ≤ length out → laid (at + length a) b (laid at a out) ≡ laid at (a ++ b) out
put_behind at a b out room =
    let both : at + length a + length b ≡ at + length (a ++ b) = omega (arith, length-append a b) in
    let last : drop (at + length a + length b) (laid at a out) ≡ drop (at + length (a ++ b)) out =
    sym (drop-drop (length b) (at + length a) (laid at a out))
    ∙ ap (drop (length b)) (drop_laid at a out room)
    ∙ drop-drop (length b) (at + length a) out
    ∙ ap (λ (n : ℕ). drop n out) both in
    ap₂ (λ (x y : List ℕ). x ++ (b ++ y)) (take_laid at a out room) last ∙ simp append_assoc

pub lies_behind : (at : ℕ) (a b out : List ℕ) (middle place : ℕ) (between after : List ℕ)
    → at + length a ≤ length out
    → Lies at a out middle between
    → Lies middle b between place after
    → Lies at (a ++ b) out place after
lies_behind at a b out middle place between after room first second =
    let both : length (a ++ b) ≡ length a + length b = length-append a b in
    record {
      place_is = omega (arith, first.place_is, second.place_is);
      after_is =
          second.after_is
          ∙ ap₂ (λ (m : ℕ) (o : List ℕ). laid m b o) first.place_is first.after_is
          ∙ put_behind at a b out room;
    }

-- and the output is as long as before
pub lies_length : (at : ℕ) (text out : List ℕ) (place : ℕ) (after : List ℕ) → at + length text ≤ length out → Lies at text out place after → length after ≡ length out
lies_length at text out place after room l = ap length l.after_is ∙ length_laid at text out room

-- the same of a writer
pub adds : (n : ℕ) (text : List ℕ) (before after : Writer) → HasRoom n before → length text ≤ n → Puts text before after → Adds text before after
adds n text before after room short said =
    record {
      room = omega (arith, room, short);
      same_output = said.same_output;
      lies = lies before.at text before.out.now after.at after.out.now (omega (arith, room, short)) (said.place_is, said.out_is);
    }

module _ (a : List ℕ) (before between : Writer) (first : Adds a before between) where
  as_long : length between.out.now ≡ length before.out.now
  as_long = lies_length before.at a before.out.now between.at between.out.now first.room first.lies

  -- there is room for what there was room for behind the text
  pub room_left : (n m : ℕ) → HasRoom n before → length a + m ≤ n → HasRoom m between
  room_left n m room fits = omega (arith, room, first.lies.place_is, as_long)

  -- and of two texts both are put, joined
  pub adds_both : (b : List ℕ) (after : Writer) → Adds b between after → Adds (a ++ b) before after
  adds_both b after second =
      record {
        room = omega (arith, second.room, first.lies.place_is, as_long, length-append a b);
        same_output = second.same_output ∙ first.same_output;
        lies = lies_behind before.at a b before.out.now between.at after.at between.out.now after.out.now first.room first.lies second.lies;
      }
