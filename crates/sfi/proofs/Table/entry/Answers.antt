-- What passes has a kind with entries, and a header.
use Rattle.std.proofs.Common.{sym, ◌∙◌, arith}
use Rattle.sfi.proofs.Listing.{listed}
use Rattle.sfi.proofs.Answers.{passes_only}
use Rattle.sfi.proofs.Table.entry.Goals as goal

pub find_entry-requires : goal.find_entry-requires
find_entry-requires c =
    let p = passes_only c.args.table.now _ (sym c.check.ensures ∙ c.in_ok-check.was) in
    ((listed _ _ p.kind).entries, omega (arith, p.length_is, p.sized.least))
