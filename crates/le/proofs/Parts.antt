-- Laws of parts of a slice, as the rules for `&s[a..]` and `&mut d[a..]` state them.
--     rest           the part from `at` on is all that `drop` leaves
--     put_rest       what is written to the part lent from `at` on follows what stands before it
--     copied_whole   a copy of what fits
--     copied_none    a copy of nothing, or to nothing
--     copied_at      a copy of what fits, to the part from `at` on
--     copied_behind  a copy to the start, then another to the part behind it
-- Assumes nothing.
use Rattle.std.proofs.Common.{◌≡◌, ℕ, ◌+◌, ◌-◌, ◌≤◌, min, List, [], ◌∷◌, ◌++◌, length, take, drop, refl, sym, ap, ◌∙◌, append_assoc, append-nil, arith, length-append, length-drop, drop_of_length-le, take_all, drop-drop, take_at, drop_at}
use borrow.Rule.Slice.PartMut.{mid_of, put_mid}
use Rattle.le.specs.Copy.{copied}

pub rest : (s : List ℕ) (at : ℕ) → take (length s - at) (drop at s) ≡ drop at s
rest s at = take_all (length s - at) (drop at s) (simp length-drop (omega arith))

pub put_rest : (d part : List ℕ) (at : ℕ) → put_mid at (length d - at) d part ≡ take at d ++ part
put_rest d part at =
    rw (drop_of_length-le (drop at d) {i = length d - at} (simp length-drop (omega arith)), append-nil part)

pub copied_whole : (src dst : List ℕ) → length src ≤ length dst → copied src dst ≡ src ++ drop (length src) dst
copied_whole src dst h = rw (take_all (length dst) src h)

pub copied_none : (src dst : List ℕ) → min (length src) (length dst) ≡ 0 → dst ≡ copied src dst
copied_none [] dst h = rw (take_all {A = ℕ} (length dst) [] (omega arith))
copied_none (x ∷ src) [] h = refl
copied_none (x ∷ src) (y ∷ dst) h = absurd (omega arith)

pub copied_at : (src d part : List ℕ) (at : ℕ)
    → at + length src ≤ length d
    → part ≡ copied src (mid_of at (length d - at) d)
    → put_mid at (length d - at) d part ≡ take at d ++ (src ++ drop (at + length src) d)
copied_at src d part at fits e =
    let fits-part : length src ≤ length (drop at d) = rw (length-drop at d) (omega arith) in
    rw (put_rest d part at, e, rest d at, copied_whole src (drop at d) fits-part, drop-drop (length src) at d)

pub copied_behind : (head tail d first second : List ℕ) (at : ℕ)
    → length head ≡ at
    → at + length tail ≤ length d
    → first ≡ copied head d
    → second ≡ copied tail (mid_of at (length first - at) first)
    → put_mid at (length first - at) first second ≡ head ++ tail ++ drop (at + length tail) d
copied_behind head tail d first second at len fits e-first e-second =
    let first-is : first ≡ head ++ drop at d = e-first ∙ rw (← len) (copied_whole head d (omega arith)) in
    let long : length first ≡ length d = ap length first-is ∙ simp (length-append, length-drop) (omega arith) in
    let behind : drop (at + length tail) first ≡ drop (at + length tail) d =
    sym (drop-drop (length tail) at first)
    ∙ ap (λ (l : List ℕ). drop (length tail) l) (ap (drop at) first-is ∙ drop_at head (drop at d) at len)
    ∙ drop-drop (length tail) at d in
    let start : take at first ≡ head = ap (take at) first-is ∙ take_at head (drop at d) at len in
    copied_at tail first second at (omega arith) e-second
    ∙ rw (start, behind) (sym (append_assoc head tail (drop (at + length tail) d)))
