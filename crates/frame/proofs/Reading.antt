-- The law of the reader at a frame that it takes.
-- Assumes nothing.
use Prim.Native.Nat.{ℕ, ◌≤◌}
use mathlib.Core.Path.{◌≡◌}
use mathlib.Core.List.{List}
use borrow.Author.Tests.{le-ltb, eq-eqb}
use lib.ListN.{length}
use Rattle.le.specs.Word.{word}
use Rattle.frame.specs.Layout.{header_size, frame_max, type_version, header_of}
use Rattle.frame.specs.Reading.{parsed}
use Rattle.frame.specs.declared.read.Parsed.TheVariants.{Header}

module _ (us : ℕ) (f : List ℕ) where
  pub header : header_size ≤ length f → length f ≤ frame_max → word 1 f ≡ type_version → (header_of f).receiver ≡ us → Header (header_of f) ≡ parsed us f
  unfolding parsed
  header l h t r =
      rw (le-ltb (length f) header_size l, le-ltb frame_max (length f) h, eq-eqb (word 1 f) type_version t, eq-eqb (header_of f).receiver us r)
