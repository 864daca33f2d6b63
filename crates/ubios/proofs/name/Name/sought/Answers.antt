-- The three tests of 39.
use Rattle.std.proofs.Common.{refl, sym, ◌∙◌, lt-ltb, le-ltb}
use Rattle.ubios.proofs.Names.{name_tested, zero_among, sought as sought_lem}
use Rattle.ubios.proofs.name.Name.sought.Goals as goal
use Rattle.ubios.proofs.name.Name.sought.Goals.{then-is_empty-via-then-is_empty, then-is_empty-via-else-is_empty+then-bytes-gt-NAME_MAX, then-is_empty-via-else-is_empty+else-bytes-gt-NAME_MAX+then-contains}

pub returns-then-is_empty : goal.returns-then-is_empty
returns-then-is_empty c =
    elim c.then-is_empty.branch [
      | then-is_empty-via-then-is_empty w ↦ (name_tested _ (sym c.is_empty.ensures ∙ w.if-is_empty.true) refl refl, refl)
      | then-is_empty-via-else-is_empty+then-bytes-gt-NAME_MAX w ↦
          (name_tested _ (sym c.is_empty.ensures ∙ w.if-is_empty.false) (lt-ltb _ _ w.if-bytes-gt-NAME_MAX.true) refl, refl)
      | then-is_empty-via-else-is_empty+else-bytes-gt-NAME_MAX+then-contains w ↦
          (name_tested _ (sym c.is_empty.ensures ∙ w.if-is_empty.false) (le-ltb _ _ w.if-bytes-gt-NAME_MAX.false) (sym (zero_among _) ∙ sym w.contains.ensures.value ∙ w.if-contains.true), refl)
    ]

pub invariant_of-result : goal.invariant_of-result
invariant_of-result c =
    record {
      fits =
          sought_lem _ (name_tested _ (sym c.is_empty.ensures ∙ c.if-is_empty.false) (le-ltb _ _ c.if-bytes-gt-NAME_MAX.false) (sym (zero_among _) ∙ sym c.contains.ensures.value ∙ c.if-contains.false));
    }
