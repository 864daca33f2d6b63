-- The numbers in chunks of eight.
use Rattle.std.proofs.Common.{ℕ, ◌/◌, sym, ap, ◌∙◌}
use Rattle.std.specs.Simd.{first_chunks}
use Rattle.heads.specs.Places.{place_count}
use Rattle.heads.specs.Numbers.{row_size}
use Rattle.heads.proofs.Rows.{rows_chunks}
use Rattle.heads.proofs.numbers.rows_of.Goals as goal

pub returns : goal.returns
returns c =
    let numbers = c.args.numbers.now in
    c.as_chunks.ensures.front
    ∙ ap (λ (n : ℕ). first_chunks row_size (n / row_size) numbers) c.told-numbers
    ∙ sym (rows_chunks place_count numbers)
