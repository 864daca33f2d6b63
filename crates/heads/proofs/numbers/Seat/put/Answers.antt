-- The numbers of place k are laid anew, and the others stay.
use Rattle.std.proofs.Common.{◌≡◌, ℕ, ◌+◌, ◌*◌, List, ◌++◌, length, take, set, ap, ◌∙◌, arith}
use borrow.Rule.Slice.PartMut.{Post-is}
use Rattle.heads.specs.Places.{place_count}
use Rattle.heads.specs.Numbers.{row_size, state_in_def, places_in}
use Rattle.heads.proofs.Rows.{length_row, places_laid}
use Rattle.heads.proofs.numbers.Seat.put.Goals as goal

pub returns-clause-read_back : goal.returns-clause-read_back
returns-clause-read_back c =
    let k = c.args.self.k in
    let numbers = c.args.numbers.now in
    let row = c.copy_from_slice.new.self in
    let kept = c.copy_from_slice.ensures.after in
    let len : length row ≡ row_size = ap length (kept ∙ c.row.ensures.row) ∙ length_row c.args.self.state in
    let is = ap (λ (l : List ℕ). take (row_size * k) numbers ++ (row ++ l)) (Post-is (row_size * k) (row_size * k + row_size) numbers (omega (arith, c.args.self.in_range))) in
    ap places_in is
    ∙ places_laid place_count k row numbers c.args.self.in_range (omega arith) len
    ∙ ap (set (places_in numbers) k) (ap state_in_def kept ∙ c.row.ensures.read_back)
