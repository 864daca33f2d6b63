-- A slot leads nowhere if it is a gap, lies before the region, has another name or fails its checks.
use Rattle.std.proofs.Common.{◌≡◌, ℕ, List, Bool, Result, Ok, Err, Some, sym, ◌∙◌}
use Rattle.std.specs.Result.{result_ok}
use borrow.Author.Tests.{ne_eqb}
use Rattle.le.specs.Compare.{same}
use Rattle.ubios.specs.Layout.{name_of}
use Rattle.ubios.specs.Checks.{table_at}
use Rattle.ubios.specs.declared.Table.{Table}
use Rattle.ubios.specs.declared.Reason.{Reason}
use Rattle.ubios.proofs.Walking.{hit}
use Rattle.ubios.proofs.lookup.follow.Goals as goal

-- the test of the name
tested : (region : List ℕ) (base address : ℕ) (name : List ℕ) {t : List ℕ} {b v : Bool} → t ≡ table_at region base address → b ≡ same (name_of t) name → b ≡ v
    → same (name_of (table_at region base address)) name ≡ v
tested region base address name is said e = cc

-- what `ok` says of the check
passed : (r : Result Table Reason) (t : Table) → Some t ≡ result_ok r → r ≡ Ok t
passed (Ok u) t e = cc
passed (Err reason) t e = cc

pub returns : goal.returns
returns c =
    let a = c.args in
    let named = tested a.region.bytes.now a.region.base a.address a.name.bytes.now c.in_ok-bytes_from.ensures.1 c.is_of.ensures c.if-not-is_of.false in
    sym (hit _ _ _ _ _ _ (ne_eqb _ _ c.if-address-eq0.false) (sym c.check.ensures ∙ passed c.check.result _ c.in_ok-table.ensures.value) named)
