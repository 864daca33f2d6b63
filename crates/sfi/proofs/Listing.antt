-- The laws of the kinds.
-- Assumes nothing.
use Rattle.std.proofs.lemmas.Bool.{and_parts}
use Prim.Native.Nat.{ℕ, ◌^◌, ◌<◌}
use mathlib.Core.Bool.{Bool, true, false, ◌&&◌}
use mathlib.Core.Path.{◌≡◌, refl, sym, subst, ◌∙◌}
use mathlib.Core.List.{List, [], ◌∷◌}
use borrow.Author.Tests.{ltb-true, eq-eqb, ne_eqb, eqb-true, eqb-false}
use lib.Dec.{ltb, eqb}
use Rattle.std.specs.Prelude.{None, Some}
use Rattle.std.specs.List.{list_all}
use Rattle.le.proofs.Tests.{apart}
use Rattle.sfi.specs.Kinds.{kinds, among, kind_of}
use Rattle.sfi.specs.declared.kind.Kind.{Kind}

-- the search among kinds: at the one with the signature, at another, and at the end
pub here : (k : Kind) (ks : List Kind) (signature : ℕ) → signature ≡ k.signature → among (k ∷ ks) signature ≡ Some k
unfolding among
here k ks signature e = rw (eq-eqb signature k.signature e)

pub further : (k : Kind) (ks : List Kind) (signature : ℕ) → (signature ≡ k.signature → ⊥) → among (k ∷ ks) signature ≡ among ks signature
unfolding among
further k ks signature ne = rw (ne_eqb signature k.signature ne)

pub nowhere : (signature : ℕ) → among [] signature ≡ None
unfolding among
nowhere signature = refl

-- what is known of a kind that is listed
pub record Listed (signature : ℕ) (k : Kind) : Type 0 where
  pub signed : signature ≡ k.signature
  pub entries : 0 < k.entry
  pub word : k.signature < 2 ^ 32
  pub not_zero : 0 < k.revision
  pub byte : k.revision < 2 ^ 8

-- each of them has entries, a signature and a revision that fit their places, and no revision 0
abbrev fits : Kind → Bool
fits k = ltb 0 k.entry && (ltb k.signature (2 ^ 32) && (ltb 0 k.revision && ltb k.revision (2 ^ 8)))

known : (signature : ℕ) (k : Kind) → signature ≡ k.signature → fits k ≡ true → Listed signature k
known signature k signed h =
    let p = and_parts (ltb 0 k.entry) _ h in
    let q = and_parts (ltb k.signature (2 ^ 32)) _ p.1 in
    let r = and_parts (ltb 0 k.revision) _ q.1 in
    record { signed = signed; entries = ltb-true _ _ p.0; word = ltb-true _ _ q.0; not_zero = ltb-true _ _ r.0; byte = ltb-true _ _ r.1 }

listed_among : (ks : List Kind) (signature : ℕ) (k : Kind) → list_all fits ks ≡ true → among ks signature ≡ Some k → Listed signature k
listed_among [] signature k h e = let z = sym (nowhere signature) ∙ e in apart (cc)
listed_among (j ∷ ks) signature k h e = let p = and_parts (fits j) (list_all fits ks) h in go (eqb signature j.signature) refl p.0 (listed_among ks signature k p.1)
  where
    go : (t : Bool) → eqb signature j.signature ≡ t → fits j ≡ true → (among ks signature ≡ Some k → Listed signature k) → Listed signature k
    go true q h later =
        let signed = eqb-true signature j.signature q in
        let z = sym (here j ks signature signed) ∙ e in
        let is : j ≡ k = cc in
        subst (Listed signature) is (known signature j signed h)
    go false q h later = later (sym (further j ks signature (eqb-false signature j.signature q)) ∙ e)

pub listed : (signature : ℕ) (k : Kind) → kind_of signature ≡ Some k → Listed signature k
listed signature k e = listed_among kinds signature k refl e
