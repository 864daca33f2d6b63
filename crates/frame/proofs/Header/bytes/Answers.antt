-- Each word lands in its own bytes, and each part keeps the length.
use Rattle.std.proofs.Common.{◌≡◌, ℕ, ◌%◌, List, ◌∷◌, replicate, ◌∙◌, arith}
use borrow.Rule.Slice.PartMut.{put_mid}
use Rattle.le.specs.Word.{bytes}
use Rattle.frame.specs.Layout.{type_version, header_bytes}
use Rattle.frame.specs.declared.Header.{Header}
use Rattle.frame.proofs.Header.bytes.Goals as goal

joined : (h : Header) (i m s r o t : List ℕ)
    → h.words.sequence % 256 ≡ h.words.sequence
    → i ≡ bytes 2 h.index
    → m ≡ bytes 4 h.words.id
    → s ≡ bytes 4 h.words.sender
    → r ≡ bytes 4 h.receiver
    → o ≡ bytes 4 h.words.status
    → t ≡ bytes 4 h.words.total
    → put_mid 20 4 (put_mid 16 4 (put_mid 12 4 (put_mid 8 4 (put_mid 4 4 (put_mid 2 2 (type_version ∷ h.words.sequence ∷ replicate 22 0) i) m) s) r) o) t
    ≡ header_bytes h
unfolding bytes header_bytes
joined h i m s r o t en ei em es er eo et = rw (ei, em, es, er, eo, et, en)

pub returns : goal.returns
returns c =
    joined c.args.self _ _ _ _ _ _
    (omega arith)
    (c.copy_from_slice.ensures.after ∙ c.bytes.ensures)
    (c.copy_from_slice-2.ensures.after ∙ c.bytes-2.ensures)
    (c.copy_from_slice-3.ensures.after ∙ c.bytes-3.ensures)
    (c.copy_from_slice-4.ensures.after ∙ c.bytes-4.ensures)
    (c.copy_from_slice-5.ensures.after ∙ c.bytes-5.ensures)
    (c.copy_from_slice-6.ensures.after ∙ c.bytes-6.ensures)
