-- What each walk answers, and all three together.
use Rattle.std.proofs.Common.{rules, ◌≡◌, ◌∙◌, sym, ap, Bool}
use mathlib.Core.Bool.{◌&&◌}
use Rattle.std.specs.List.{list_all}
use Rattle.std.proofs.lemmas.Iterator.{YieldsList-from_slice}
use Rattle.std.proofs.lemmas.Iterator.Search.{all_from_yields_List}
use borrow.Author.Tests.{tests}
use Rattle.framelog.specs.Reading.{is_zero_def}
use Rattle.framelog.proofs.Zeros.{none_zero, no_word, no_half, no_byte, zero_parts}
use Rattle.framelog.proofs.is_zero.Goals as goal
use Rattle.framelog.proofs.is_zero.Goals.{Joined-all, then-all, else-all}

-- where the first two have joined
module _ (c : Joined-all) where
  both : c.if-all.value ≡ (list_all no_word c.as_chunks.result.0.now && list_all no_half c.as_chunks-2.result.0.now)
  both =
      let first = all_from_yields_List no_word _ _ c.all.result c.all.ensures.ran (YieldsList-from_slice c.as_chunks.result.0.now cc) (λ x b q k. search (rules, tests)) in
      let known = λ (a : Bool) (e : c.all.result ≡ a). ap (λ (b : Bool). b && list_all no_half c.as_chunks-2.result.0.now) (sym e ∙ first) in
      elim c.if-all.branch [
        | then-all w ↦
            w.value-is
            ∙ all_from_yields_List no_half _ _ w.all-then-all.result w.all-then-all.ensures.ran (YieldsList-from_slice c.as_chunks-2.result.0.now cc) (λ x b q k. search (rules, tests))
            ∙ known _ w.if-all.true
        | else-all w ↦ w.value-is ∙ w.if-all.false ∙ known _ w.if-all.false
      ]

  -- and the third is still to come
  with_bytes : (a : Bool) → c.if-all.value ≡ a → (a && list_all no_byte c.as_chunks-2.result.1.now) ≡ is_zero_def c.args.s.now
  with_bytes a e =
      ap (λ (b : Bool). b && list_all no_byte c.as_chunks-2.result.1.now) (sym e ∙ both)
      ∙ zero_parts _ _ _ _ _ c.as_chunks.ensures.front c.as_chunks.ensures.back c.as_chunks-2.ensures.front c.as_chunks-2.ensures.back

pub returns-then-all-2 : goal.returns-then-all-2
returns-then-all-2 c =
    all_from_yields_List no_byte _ _ c.all-then-all-2.result c.all-then-all-2.ensures.ran (YieldsList-from_slice c.as_chunks-2.result.1.now cc) (λ x b q k. search (rules, tests))
    ∙ with_bytes (goal.at.returns-then-all-2 c).Joined-all _ c.if-all-2.true

pub returns-else-all-2 : goal.returns-else-all-2
returns-else-all-2 c = c.if-all-2.false ∙ with_bytes (goal.at.returns-else-all-2 c).Joined-all _ c.if-all-2.false

pub returns-then-is_empty : goal.returns-then-is_empty
returns-then-is_empty c = none_zero c.args.s.now (search (rules, tests))
