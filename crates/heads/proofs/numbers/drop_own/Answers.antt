-- Where the sender has no place, there is nothing to drop.
use Rattle.std.proofs.Common.{ℕ, set, sym, ap, ◌∙◌}
use Rattle.reassembly.specs.declared.State.TheVariants.{Fresh}
use Rattle.reassembly.proofs.Answers.{fresh}
use Rattle.heads.specs.Places.{place_count, place_size, is_of_def}
use Rattle.heads.specs.Numbers.{places_in, numbers_of}
use Rattle.heads.proofs.Seats.{no_place_dropped}
use Rattle.heads.proofs.Rows.{found_place, found_none, all_kept, kept_at}
use Rattle.heads.proofs.numbers.drop_own.Goals as goal

pub invariant_of-fresh : goal.invariant_of-fresh
invariant_of-fresh c =
    let known = found_place (is_of_def c.args.sender) c.args.numbers.now _ c.of.ensures _ c.place_of.ensures c.in-Some.k c.in-Some.is in
    record { in_range = known.1; fits = fresh place_size }

pub returns-in-Some : goal.returns-in-Some
returns-in-Some c =
    let numbers = c.args.numbers.now in
    let known = found_place (is_of_def c.args.sender) numbers _ c.of.ensures _ c.place_of.ensures c.in-Some.k c.in-Some.is in
    let to_own = ap (λ (n : ℕ). set (places_in numbers) n Fresh) known.0 in
    record {
      places_after = c.put.ensures.places_after ∙ kept_at numbers c.in-Some.k Fresh c.told-numbers c.requires known.1 ∙ ap numbers_of to_own;
      read_back = c.put.ensures.read_back ∙ to_own;
    }

pub returns-in_default : goal.returns-in_default
returns-in_default c =
    let numbers = c.args.numbers.now in
    let none = found_none (is_of_def c.args.sender) numbers _ c.of.ensures _ c.place_of.ensures c.in_default.is in
    let same = no_place_dropped c.args.sender (places_in numbers) none in
    record {
      places_after = sym (ap numbers_of same ∙ all_kept place_count numbers (sym c.told-numbers) c.requires);
      read_back = sym same;
    }
