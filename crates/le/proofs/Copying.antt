-- Laws of a copy to the start of a list, one element a turn.
--     copy_suc     a turn
--     copy_all     after as many turns as the shorter list has elements, all that fits is copied
--     copy_held    by way of a list that is long enough, the same
-- Assumes nothing.
use Rattle.std.proofs.Common.{◌≡◌, ℕ, zero, suc, ◌+◌, ◌<◌, ◌≤◌, min, Bool, true, false, leb, List, [], ◌∷◌, ◌++◌, length, get_or, take, drop, set, refl, ap, add-one, arith, drop_of_length-le, length-take-le, take_all, take_at, leb-false, leb-true}
use Rattle.le.specs.Copy.{copied}
use Rattle.le.proofs.Parts.{copied_whole}

at_suc : (i : ℕ) (s d : List ℕ) → i < length s → i < length d → set (take i s ++ drop i d) i (get_or s i 0) ≡ take (suc i) s ++ drop (suc i) d
at_suc i [] d p q = absurd (omega arith)
at_suc i (x ∷ s) [] p q = absurd (omega arith)
at_suc zero (x ∷ s) (y ∷ d) p q = refl
at_suc (suc i) (x ∷ s) (y ∷ d) p q = ap (λ (l : List ℕ). x ∷ l) (at_suc i s d (omega arith) (omega arith))

pub copy_suc : (i : ℕ) (s d now : List ℕ) → i < length s → i < length d → now ≡ take i s ++ drop i d → set now i (get_or s i 0) ≡ take (i + 1) s ++ drop (i + 1) d
copy_suc i s d now p q e = rw (e, add-one i) (at_suc i s d p q)

pub copy_all : (n : ℕ) (s d : List ℕ) → n ≡ min (length s) (length d) → take n s ++ drop n d ≡ copied s d
copy_all n s d e = go (leb (length s) (length d)) refl
  where
    go : (b : Bool) → leb (length s) (length d) ≡ b → take n s ++ drop n d ≡ copied s d
    go true le =
        let fits = leb-true (length s) (length d) le in
        let n_is : n ≡ length s = omega arith in
        rw (n_is, take_all (length s) s (omega arith), take_all (length d) s (omega arith))
    go false gt =
        let longer = leb-false (length s) (length d) gt in
        let n_is : n ≡ length d = omega arith in
        rw (n_is, drop_of_length-le d {i = length d} (omega arith), drop_of_length-le d {i = length s} (omega arith))

pub copy_held : (n : ℕ) (s d held mid : List ℕ) → n ≡ min (length s) (length d) → mid ≡ copied (take n s) held → n ≤ length held → copied (take n mid) d ≡ copied s d
copy_held n s d held mid e mid-is room =
    let len : length (take n s) ≡ n = length-take-le n s (omega arith) in
    let first : take n mid ≡ take n s = rw (mid-is, copied_whole (take n s) held (omega arith)) (take_at (take n s) _ n len) in
    rw (first, copied_whole (take n s) d (omega arith), len) (copy_all n s d e)
