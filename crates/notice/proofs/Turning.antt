-- The laws of `turned`, the ring as it is seen from a place, and of what is stored and read round it.
--     turned_turned    seen from a, and from there from b on: seen from a + b
--     turned_back      seen from `at`, and from there from the rest on: the ring itself
--     turned_moved     the same for a position that is moved on, past the last byte to the first
--     turned_stored    the ring with bytes stored, seen from their place
--     stored_join      bytes stored one behind the other are stored together
--     put_parts        a copy to the end and one to the start store round
--     get_end, get_parts     a copy in one part, and one from the end with one from the start, read round
-- Assumes nothing.
use Prim.Native.Nat.{ℕ, ◌+◌, ◌-◌, ◌%◌, ◌≤◌, ◌<◌}
use mathlib.Core.Bool.{Bool, true, false}
use mathlib.Core.Path.{◌≡◌, refl, sym, ap, ◌∙◌}
use mathlib.Core.List.{List, ◌++◌, append_assoc, append-nil}
use native.Mathlib.Nat.{mod-lt, mod_self, mod-eq_of_lt, mod-eq-sub-mod}
use native.Mathlib.Omega.{arith}
use borrow.Rule.Slice.PartMut.{mid_of}
use borrow.Author.Tests.{ltb-true, ltb-false, leb-true, leb-false}
use lib.Dec.{ltb, leb}
use lib.ListN.{length, take, drop, length-append, length-take, length-drop, drop_of_length-le}
use lib.Seq.{take_all, take-length, drop-length, take-add, drop-drop, take-append-le, drop-append-le, take_at, drop_at, take-append-add, drop-append-add, take-take, take-nil}
use Rattle.le.specs.Copy.{copied}
use Rattle.le.proofs.Parts.{copied_whole}
use Rattle.notice.specs.Ring.{turned, stored, moved}

pub length_turned : (k : ℕ) (xs : List ℕ) → length (turned k xs) ≡ length xs
length_turned k xs = simp (length-append, length-take, length-drop) (omega arith)

pub turned_turned : (a b : ℕ) (xs : List ℕ) → a + b ≤ length xs → turned b (turned a xs) ≡ turned (a + b) xs
turned_turned a b xs h =
    let fits : b ≤ length (drop a xs) = simp length-drop (omega arith) in
    rw (
      drop-append-le b (drop a xs) (take a xs) fits,
      take-append-le b (drop a xs) (take a xs) fits,
      take-add a b xs,
      ← drop-drop b a xs,
    )
    (append_assoc (drop b (drop a xs)) (take a xs) (take b (drop a xs)))

pub turned_whole : (xs : List ℕ) → turned (length xs) xs ≡ xs
turned_whole xs = rw (drop-length xs, take-length xs)

pub turned_back : (at : ℕ) (xs : List ℕ) → at ≤ length xs → turned (length xs - at) (turned at xs) ≡ xs
turned_back at xs h =
    turned_turned at (length xs - at) xs (omega arith) ∙ ap (λ n. turned n xs) (let e : at + (length xs - at) ≡ length xs = omega arith in e) ∙ turned_whole xs

-- a full turn shows the ring as it is
turned_mod : (k : ℕ) (xs : List ℕ) → k ≤ length xs → turned (k % length xs) xs ≡ turned k xs
turned_mod k xs h = go (ltb k (length xs)) refl
  where
    go : (b : Bool) → ltb k (length xs) ≡ b → turned (k % length xs) xs ≡ turned k xs
    go true e = ap (λ m. turned m xs) (mod-eq_of_lt (ltb-true k (length xs) e))
    go false e =
        let past = ltb-false k (length xs) e in
        let all : k ≡ length xs = omega arith in
        ap (λ m. turned m xs) (ap (λ m. m % length xs) all ∙ mod_self (length xs)) ∙ append-nil xs ∙ sym (turned_whole xs) ∙ ap (λ m. turned m xs) (sym all)

pub turned_moved : (at n : ℕ) (xs : List ℕ) → at ≤ length xs → n ≤ length xs → turned (moved (length xs) at n) xs ≡ turned n (turned at xs)
unfolding moved
turned_moved at n xs h l = go (leb (at + n) (length xs)) refl
  where
    go : (b : Bool) → leb (at + n) (length xs) ≡ b → turned (moved (length xs) at n) xs ≡ turned n (turned at xs)
    go true e = let inside = leb-true (at + n) (length xs) e in turned_mod (at + n) xs inside ∙ sym (turned_turned at n xs inside)
    go false e =
        let past = leb-false (at + n) (length xs) e in
        let k = at + n - length xs in
        let room = length xs - at in
        let n_is : room + k ≡ n = omega arith in
        let whole = turned_turned room k (turned at xs) (rw (length_turned at xs) (omega arith)) in
        ap (λ m. turned m xs) (mod-eq-sub-mod {n = at + n} {m = length xs} (omega arith))
        ∙ turned_mod k xs (omega arith)
        ∙ ap (turned k) (sym (turned_back at xs h))
        ∙ whole
        ∙ ap (λ m. turned m (turned at xs)) n_is

-- what stands from a place on after bytes were stored there
abbrev covered : List ℕ → ℕ → List ℕ → List ℕ
covered bs at ring = bs ++ drop (length bs) (turned at ring)

length_covered : (bs : List ℕ) (at : ℕ) (ring : List ℕ) → length bs ≤ length ring → length (covered bs at ring) ≡ length ring
length_covered bs at ring h = simp (length-append, length-drop, length-take) (omega arith)

pub length_stored : (bs : List ℕ) (at : ℕ) (ring : List ℕ) → length bs ≤ length ring → length (stored at bs ring) ≡ length ring
length_stored bs at ring h = length_turned (length ring - at) (covered bs at ring) ∙ length_covered bs at ring h

pub turned_stored : (bs : List ℕ) (at : ℕ) (ring : List ℕ) → at ≤ length ring → length bs ≤ length ring → turned at (stored at bs ring) ≡ covered bs at ring
turned_stored bs at ring h l =
    let c = length ring in
    let same = length_covered bs at ring l in
    let all : c - at + at ≡ length (covered bs at ring) = omega arith in
    turned_turned (c - at) at (covered bs at ring) (omega arith) ∙ ap (λ n. turned n (covered bs at ring)) all ∙ turned_whole (covered bs at ring)

-- two rings that look alike from one place are the same
turned_same : (at : ℕ) (xs ys : List ℕ) → at ≤ length xs → length xs ≡ length ys → turned at xs ≡ turned at ys → xs ≡ ys
turned_same at xs ys h len e =
    sym (turned_back at xs h) ∙ ap (λ n. turned (n - at) (turned at xs)) len ∙ ap (turned (length ys - at)) e ∙ turned_back at ys (omega arith)

pub moved_below : (c at n : ℕ) → at < c → moved c at n < c
unfolding moved
moved_below c at n h = mod-lt (at + n) (omega arith)

-- past bytes that stand at the start, what is behind them comes first
past : (first rest : List ℕ) → turned (length first) (first ++ rest) ≡ rest ++ first
past first rest = rw (drop_at first rest (length first) refl, take_at first rest (length first) refl)

-- a ring in which bytes were stored, seen from behind them
seen_behind : (bs : List ℕ) (at : ℕ) (ring : List ℕ) → at < length ring → length bs ≤ length ring
    → turned (moved (length ring) at (length bs)) (stored at bs ring) ≡ drop (length bs) (turned at ring) ++ bs
seen_behind bs at ring h l =
    let x = stored at bs ring in
    let len = length_stored bs at ring l in
    ap (λ n. turned (moved n at (length bs)) x) (sym len)
    ∙ turned_moved at (length bs) x (omega arith) (omega arith)
    ∙ ap (turned (length bs)) (turned_stored bs at ring (omega arith) l)
    ∙ past bs (drop (length bs) (turned at ring))

pub stored_join : (first second : List ℕ) (at : ℕ) (ring : List ℕ) → at < length ring → length first + length second ≤ length ring
    → stored (moved (length ring) at (length first)) second (stored at first ring) ≡ stored at (first ++ second) ring
stored_join first second at ring h l =
    let r = turned at ring in
    let x = stored at first ring in
    let y = stored at (first ++ second) ring in
    let behind = moved (length ring) at (length first) in
    let len-x = length_stored first at ring (omega arith) in
    let both = length-append first second in
    let len-y = length_stored (first ++ second) at ring (omega arith) in
    let below = moved_below (length ring) at (length first) h in
    let len-left = length_stored second behind x (omega arith) in
    let rest : drop (length (first ++ second)) r ≡ drop (length second) (drop (length first) r) =
    ap (λ n. drop n r) both ∙ sym (drop-drop (length second) (length first) r) in
    let room : length second ≤ length (drop (length first) r) = rw (length-drop (length first) r, length_turned at ring) (omega arith) in
    let left : turned behind (stored behind second x) ≡ second ++ (drop (length second) (drop (length first) r) ++ first) =
    turned_stored second behind x (omega arith) (omega arith)
    ∙ ap (λ z. second ++ drop (length second) z) (seen_behind first at ring h (omega arith))
    ∙ ap (λ z. second ++ z) (drop-append-le (length second) (drop (length first) r) first room) in
    let right : turned behind y ≡ second ++ (drop (length second) (drop (length first) r) ++ first) =
    ap (λ n. turned (moved n at (length first)) y) (sym len-y)
    ∙ turned_moved at (length first) y (omega arith) (omega arith)
    ∙ ap (turned (length first)) (turned_stored (first ++ second) at ring (omega arith) (omega arith) ∙ append_assoc first second (drop (length (first ++ second)) r))
    ∙ past first (second ++ drop (length (first ++ second)) r)
    ∙ ap (λ z. second ++ z ++ first) rest
    ∙ append_assoc second (drop (length second) (drop (length first) r)) first in
    turned_same behind (stored behind second x) y (omega arith) (omega arith) (left ∙ sym right)

-- a copy to the end of the ring, and one of what is left to its start: d is the ring's end, t its start
two_parts : (src d t : List ℕ) → length src ≤ length d + length t
    → copied (drop (length d) src) (t ++ copied src d) ≡ turned (length d) (src ++ drop (length src) (d ++ t))
two_parts src d t l = go (leb (length src) (length d)) refl
  where
    go : (b : Bool) → leb (length src) (length d) ≡ b → copied (drop (length d) src) (t ++ copied src d) ≡ turned (length d) (src ++ drop (length src) (d ++ t))
    go true e =
        let fits = leb-true (length src) (length d) e in
        let len : length (src ++ drop (length src) d) ≡ length d = simp (length-append, length-drop) (omega arith) in
        rw (
          drop_of_length-le src {i = length d} fits,
          take-nil (length (t ++ copied src d)),
          take_all (length d) src fits,
          drop-append-le (length src) d t fits,
          ← append_assoc src (drop (length src) d) t,
          drop_at (src ++ drop (length src) d) t (length d) len,
          take_at (src ++ drop (length src) d) t (length d) len,
        )
    go false e =
        let over = leb-false (length src) (length d) e in
        let s1 = take (length d) src in
        let s2 = drop (length d) src in
        let len2 : length s2 ≡ length src - length d = length-drop (length d) src in
        let long : length src ≡ length d + length s2 = omega arith in
        let inside : length s2 ≤ length (t ++ s1) = simp length-append (omega arith) in
        let left : copied s2 (t ++ copied src d) ≡ s2 ++ (drop (length s2) t ++ s1) =
        rw (drop_of_length-le d {i = length src} (omega arith), append-nil s1, take_all (length (t ++ s1)) s2 inside, drop-append-le (length s2) t s1 (omega arith)) in
        let behind : drop (length src) (d ++ t) ≡ drop (length s2) t = ap (λ n. drop n (d ++ t)) long ∙ drop-append-add d t (length s2) in
        left
        ∙ rw (behind, drop-append-le (length d) src (drop (length s2) t) (omega arith), take-append-le (length d) src (drop (length s2) t) (omega arith))
        (sym (append_assoc s2 (drop (length s2) t) s1))

pub put_parts : (src : List ℕ) (at : ℕ) (ring : List ℕ) → at ≤ length ring → length src ≤ length ring
    → copied (drop (length ring - at) src) (take at ring ++ copied src (drop at ring)) ≡ stored at src ring
put_parts src at ring h l =
    let fits : length src ≤ length (drop at ring) + length (take at ring) = simp (length-drop, length-take) (omega arith) in
    rw (← length-drop at ring) (two_parts src (drop at ring) (take at ring) fits)

-- bytes that stand before the ring's end, read in one part; else a copy from the end, and one from the start
pub get_end : (ring : List ℕ) (at : ℕ) (out : List ℕ) → at + length out ≤ length ring
    → copied (mid_of at (at + length out - at) ring) out ≡ take (length out) (turned at ring)
get_end ring at out l =
    let n_is : at + length out - at ≡ length out = omega arith in
    let enough : length out ≤ length (drop at ring) = simp length-drop (omega arith) in
    let all : length (take (length out) (drop at ring)) ≡ length out = simp length-take (omega arith) in
    rw (
      n_is,
      copied_whole (take (length out) (drop at ring)) out (omega arith),
      all,
      drop-length out,
      take-append-le (length out) (drop at ring) (take at ring) enough,
    )
    (append-nil (take (length out) (drop at ring)))

pub get_parts : (ring : List ℕ) (at : ℕ) (out first : List ℕ) → at ≤ length ring → length ring - at < length out → length out ≤ length ring
    → first ≡ copied (drop at ring) out
    → take (length ring - at) first ++ copied ring (drop (length ring - at) first) ≡ take (length out) (turned at ring)
get_parts ring at out first h more l e =
    let d = drop at ring in
    let room : length d ≡ length ring - at = length-drop at ring in
    let left = length out - length d in
    let long : length out ≡ length d + left = omega arith in
    let first-is : first ≡ d ++ drop (length d) out = e ∙ rw (take_all (length out) d (omega arith)) in
    let rest-length : length (drop (length d) out) ≡ left = length-drop (length d) out in
    let tail : copied ring (drop (length d) out) ≡ take left ring =
    rw (rest-length, drop_of_length-le (drop (length d) out) {i = length ring} (omega arith)) (append-nil (take left ring)) in
    let right : take (length out) (turned at ring) ≡ d ++ take left ring =
    ap (λ n. take n (turned at ring)) long ∙ take-append-add d (take at ring) left ∙ ap (λ z. d ++ z) (take-take left at ring (omega arith)) in
    rw (← room, first-is, take_at d (drop (length d) out) (length d) refl, drop_at d (drop (length d) out) (length d) refl, tail) (sym right)
