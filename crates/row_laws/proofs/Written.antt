-- What a call writes to its buffers, place by place.
use Rattle.std.proofs.Common.{◌≡◌, ℕ, zero, suc, ◌<◌, ◌≤◌, List, [], ◌∷◌, ◌++◌, length, get_or, drop, Some, sym, refl, ap, ◌∙◌, subst, arith}
use Rattle.std.specs.List.{AllByRecursion, slice_get}
use Rattle.row_laws.specs.Calls.{Shown, Limits, Fitting, at_front, one_at, picked, positions}
use Rattle.row_laws.specs.Written.{Written, PlaceByPlace}
use Rattle.row_laws.proofs.Writing.{length_picked, length_positions, get_or_positions, position_below}

drop_nil : {X : Type 0} (n : ℕ) → ◌≡◌ {A = List X} (drop n []) []
drop_nil zero = refl
drop_nil (suc n) = refl

in_front : {X : Type 0} (xs ys : List X) (k : ℕ) → k < length xs → slice_get (xs ++ ys) k ≡ slice_get xs k
in_front [] ys k l = absurd (omega arith)
in_front (x ∷ xs) ys zero l = refl
in_front (x ∷ xs) ys (suc k) l = in_front xs ys k (omega arith)

behind_front : {X : Type 0} (xs buffer : List X) (k : ℕ) → length xs ≤ k → slice_get (xs ++ drop (length xs) buffer) k ≡ slice_get buffer k
behind_front [] buffer k l = refl
behind_front (x ∷ xs) buffer zero l = absurd (omega arith)
behind_front (x ∷ xs) [] (suc k) l = ap (λ z. slice_get (xs ++ z) k) (sym (drop_nil (length xs))) ∙ behind_front xs [] k (omega arith)
behind_front (x ∷ xs) (b ∷ bs) (suc k) l = behind_front xs bs k (omega arith)

one_is : {T : Type 0} (pool : List T) (p : ℕ) → p < length pool → (x : T) × (one_at pool p ≡ x ∷ []) × (slice_get pool p ≡ Some x)
one_is [] p l = absurd (omega arith)
one_is (x ∷ xs) zero l = (x, refl, refl)
one_is (x ∷ xs) (suc p) l = one_is xs p (omega arith)

picked_at : {T : Type 0} (pool : List T) (ps : List ℕ) → AllByRecursion (λ p. p < length pool) ps → (k : ℕ) → k < length ps → slice_get (picked pool ps) k ≡ slice_get pool (get_or ps k 0)
picked_at pool [] h k l = absurd (omega arith)
picked_at pool (p ∷ ps) h zero l =
    let one = one_is pool p h.0 in
    ap (λ z. slice_get (z ++ picked pool ps) 0) one.1 ∙ sym one.2
picked_at pool (p ∷ ps) h (suc k) l =
    let one = one_is pool p h.0 in
    ap (λ z. slice_get (z ++ picked pool ps) (suc k)) one.1 ∙ picked_at pool ps h.1 k (omega arith)

written : {X : Type 0} (xs buffer : List X) (width : ℕ) → length xs ≡ width → Written width (slice_get xs) buffer (at_front xs buffer)
written xs buffer width long = record {
  front = λ k l. in_front xs (drop (length xs) buffer) k (omega arith);
  behind = λ k l. behind_front xs buffer k (omega arith);
}

pub place_by_place : {S T : Type 0} (limits : Limits) (shown : S → Shown) → ((s : S) → Fitting limits (shown s)) → PlaceByPlace shown T
place_by_place limits shown fitting s row rows pool elements places first lent =
    let v = shown s in
    let long : length row ≡ v.width = (subst (AllByRecursion (λ y. length y ≡ v.width)) first (fitting s).uniform).0 in
    let inside : AllByRecursion (λ p. p < v.size) (positions v.starts row) =
    (subst (AllByRecursion (λ y. AllByRecursion (λ p. p < v.size) (positions v.starts y))) first (fitting s).within).0 in
    let lying : AllByRecursion (λ p. p < length pool) (positions v.starts row) = subst (λ n. AllByRecursion (λ p. p < n) (positions v.starts row)) (sym lent) inside in
    let count : length (positions v.starts row) ≡ length row = length_positions v.starts row in
    let all = written (picked pool (positions v.starts row)) elements v.width (length_picked pool (positions v.starts row) lying ∙ count ∙ long) in (
      written row places v.width long,
      record {
        front = λ k l. all.front k l ∙ picked_at pool (positions v.starts row) lying k (omega arith)
            ∙ ap (slice_get pool) (get_or_positions v.starts row k (omega arith));
        behind = all.behind;
      },
      λ k l. position_below (length pool) v.starts row k (omega arith) lying,
    )
