-- Text that is put into an output from a place on: all of it, or nothing where it does not fit.
-- Assumes nothing.
use Rattle.std.specs.Prelude.{ℕ, ◌+◌, Bool, cond, ◌≡◌, List, ◌++◌, ◌≤◌, leb, length, take, drop}
use Rattle.text.specs.declared.Writer.{Writer}

-- the output with the text from that place on; no other byte changes
abbrev pub laid : ℕ → List ℕ → List ℕ → List ℕ
laid at text out = take at out ++ (text ++ drop (at + length text) out)

abbrev pub fits : ℕ → List ℕ → List ℕ → Bool
fits at text out = leb (at + length text) (length out)

-- the place behind the text, or the same place where nothing is put
unfoldable pub behind : ℕ → List ℕ → List ℕ → ℕ
behind at text out = cond (fits at text out) (at + length text) at

-- what the output holds then
unfoldable pub put : ℕ → List ℕ → List ℕ → List ℕ
put at text out = cond (fits at text out) (laid at text out) out

-- the text stands in the output from that place on, and `place` is behind it
pub record Lies (at : ℕ) (text before : List ℕ) (place : ℕ) (after : List ℕ) : Type 0 where
  pub place_is : place ≡ at + length text
  pub after_is : after ≡ laid at text before

-- what a writer does with text: it puts all of it, or nothing, into the same output
pub record Puts (text : List ℕ) (before after : Writer) : Type 0 where
  pub same_output : after.out.ghost_name ≡ before.out.ghost_name
  pub place_is : after.at ≡ behind before.at text before.out.now
  pub out_is : after.out.now ≡ put before.at text before.out.now

-- there is room for so many bytes from a writer's place on
abbrev pub HasRoom : ℕ → Writer → Type 0
HasRoom n w = w.at + n ≤ length w.out.now

-- text for which there was room is put: it lies in the same output
pub record Adds (text : List ℕ) (before after : Writer) : Type 0 where
  pub room : HasRoom (length text) before
  pub same_output : after.out.ghost_name ≡ before.out.ghost_name
  pub lies : Lies before.at text before.out.now after.at after.out.now
