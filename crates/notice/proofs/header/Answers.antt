-- The bytes of a word of eight are those of its halves.
use Rattle.std.proofs.Common.{ℕ, ◌+◌, ◌*◌, ◌/◌, ◌%◌, ◌<◌, ◌≡◌, ◌++◌, ◌∙◌, arith}
use Rattle.le.specs.Word.{bytes}
use Rattle.notice.proofs.header.Goals as goal

halves : (low high : ℕ) → low < 4294967296 → bytes 8 (low + high * 4294967296) ≡ bytes 4 low ++ bytes 4 high
unfolding bytes
halves low high h =
    let x = low + high * 4294967296 in
    let first : x % 256 ≡ low % 256 = omega arith in
    let second : x / 256 % 256 ≡ low / 256 % 256 = omega arith in
    let third : x / 256 / 256 % 256 ≡ low / 256 / 256 % 256 = omega arith in
    let fourth : x / 256 / 256 / 256 % 256 ≡ low / 256 / 256 / 256 % 256 = omega arith in
    let others : x / 256 / 256 / 256 / 256 ≡ high = omega arith in
    rw (first, second, third, fourth, others)

pub returns : goal.returns
returns c = c.bytes.ensures ∙ rw (c.from.ensures, c.from-2.ensures) (halves c.args.id c.args.length (omega arith))
