-- Every list with a key for each item divides into runs, and in one way.
use Rattle.std.proofs.Common.{◌≡◌, ℕ, zero, suc, ◌+◌, Bool, true, false, List, [], ◌∷◌, ◌++◌, length, Some, Ok, Result, sym, refl, ap, ◌∙◌, subst, ⊎_elim, arith}
use Rattle.std.specs.List.{slice_get}
use Rattle.std.proofs.lemmas.Bool.{cases_Bool, both_ways}
use Rattle.steps.specs.declared.fault.Fault.{Fault}
use Rattle.laws.specs.Runs.{Run, members, Equals, Differs, AllEqual, Stops, Runs, HasKeys, OneDivision, place}

pub not_both : {A Q : Type 0} (key : A → Result Q Fault) (same : Q → Q → Bool) (q : Q) (a : A) → Equals key same q a → Differs key same q a → ⊥
not_both key same q a e d = let k : e.its ≡ d.its = let x = e.is in let y = d.is in cc in both_ways (same d.its q) d.unequal (subst (λ z. same z q ≡ true) k e.equal)

split_same : {A Q : Type 0} (key : A → Result Q Fault) (same : Q → Q → Bool) (q : Q) (l m after before : List A) → l ++ after ≡ m ++ before → AllEqual key same q l → AllEqual key same q m → Stops key same q after → Stops key same q before
    → (l ≡ m) × (after ≡ before)
split_same key same q [] [] after before e al am sa sb = (refl, e)
split_same key same q [] (x ∷ m) after before e al am sa sb = absurd (not_both key same q x am.0 (subst (Stops key same q) e sa))
split_same key same q (x ∷ l) [] after before e al am sa sb = absurd (not_both key same q x al.0 (subst (Stops key same q) (sym e) sb))
split_same key same q (x ∷ l) (y ∷ m) after before e al am sa sb =
    let h : x ≡ y = cc in
    let t : l ++ after ≡ m ++ before = cc in
    let i = split_same key same q l m after before t al.1 am.1 sa sb in
    let i0 = i.0 in (cc, i.1)

same_run : {A Q : Type 0} (r s : Run A Q) → r.key ≡ s.key → r.first ≡ s.first → r.more ≡ s.more → r ≡ s
same_run r s k f m =
    ap (λ z. record { key = z; first = r.first; more = r.more }) k ∙ ap (λ z. record { key = s.key; first = z; more = r.more }) f ∙ ap (λ z. record { key = s.key; first = s.first; more = z }) m

pub only_one : {A Q : Type 0} (key : A → Result Q Fault) (same : Q → Q → Bool) (xs : List A) (rs ts : List (Run A Q)) → Runs key same xs rs → Runs key same xs ts → ts ≡ rs
only_one key same xs [] [] a b = refl
only_one key same xs [] (t ∷ ts) a b = let e = b.1 in let z : ◌≡◌ {A = ℕ} 0 1 = cc in absurd (omega arith)
only_one key same xs (r ∷ rs) [] a b = let e = a.1 in let z : ◌≡◌ {A = ℕ} 0 1 = cc in absurd (omega arith)
only_one key same xs (r ∷ rs) (t ∷ ts) (after, e, is, rn) (before, f, it, sn) =
    let h : t.first ≡ r.first = cc in
    let m : t.more ++ before ≡ r.more ++ after = cc in
    let ka = is.first_key in
    let kb = it.first_key in
    let k : t.key ≡ r.key = cc in
    let s = split_same key same r.key t.more r.more before after m (subst (λ z. AllEqual key same z t.more) k it.equal) is.equal (subst (λ z. Stops key same z before) k it.longest) is.longest in
    let u : ts ≡ rs = only_one key same after rs ts rn (subst (λ z. Runs key same z ts) s.1 sn) in
    let w : t ≡ r = same_run t r k h s.0 in (cc)

module _ {A Q : Type 0} (key : A → Result Q Fault) (same : Q → Q → Bool) (symmetric : (p q : Q) → same p q ≡ true → same q p ≡ true) (transitive : (p q r : Q) → same p q ≡ true → same q r ≡ true → same p r ≡ true) where
  equal_like : (p q : Q) → same p q ≡ true → (xs : List A) → AllEqual key same p xs → AllEqual key same q xs
  equal_like p q e [] al = tt
  equal_like p q e (x ∷ xs) al = (record { its = al.0.its; is = al.0.is; equal = transitive al.0.its p q al.0.equal e }, equal_like p q e xs al.1)

  stops_like : (p q : Q) → same p q ≡ true → (xs : List A) → Stops key same p xs → Stops key same q xs
  stops_like p q e [] sp = tt
  stops_like p q e (x ∷ xs) sp = record {
    its = sp.its;
    is = sp.is;
    unequal = ⊎_elim (λ (t : same sp.its q ≡ true). absurd (both_ways (same sp.its p) sp.unequal (transitive sp.its q p t (symmetric p q e)))) (λ (f : same sp.its q ≡ false). f) (cases_Bool (same sp.its q));
  }

  put : (x : A) (q : Q) → key x ≡ Ok q → (xs : List A) (rs : List (Run A Q)) → Runs key same xs rs → (ts : List (Run A Q)) × Runs key same (x ∷ xs) ts
  put x q k xs [] e = (record { key = q; first = x; more = [] } ∷ [], ([], ap (λ ys. x ∷ ys) e, record { first_key = k; equal = tt; longest = tt }, refl))
  put x q k xs (r ∷ rs) (after, e, is, rn) =
      ⊎_elim
      (λ (t : same r.key q ≡ true).
      (record { key = q; first = x; more = r.first ∷ r.more } ∷ rs, (after, ap (λ ys. x ∷ ys) e, record { first_key = k; equal = (record { its = r.key; is = is.first_key; equal = t }, equal_like r.key q t r.more is.equal); longest = stops_like r.key q t after is.longest }, rn)))
      (λ (f : same r.key q ≡ false).
      (record { key = q; first = x; more = [] } ∷ (r ∷ rs), (xs, refl, record { first_key = k; equal = tt; longest = subst (Stops key same q) (sym e) (record { its = r.key; is = is.first_key; unequal = f }) }, (after, e, is, rn))))
      (cases_Bool (same r.key q))

  has_runs : (xs : List A) → HasKeys key xs → (rs : List (Run A Q)) × Runs key same xs rs
  has_runs [] h = ([], refl)
  has_runs (x ∷ xs) h = let i = has_runs xs h.1 in put x h.0.0 h.0.1 xs i.0 i.1

  pub one_division : (xs : List A) → HasKeys key xs → OneDivision key same xs
  one_division xs h = let i = has_runs xs h in record { runs = i.0; divided = i.1; only = λ others r. only_one key same xs i.0 others i.1 r }

pub place_next : {A Q : Type 0} (rs : List (Run A Q)) (i : ℕ) (r : Run A Q) → slice_get rs i ≡ Some r → place (suc i) rs ≡ place i rs + length (members r)
place_next [] i r e = let z : ◌≡◌ {A = ℕ} 0 1 = cc in absurd (omega arith)
place_next (s ∷ rs) zero r e = let z : s ≡ r = cc in ap (λ t. length (members t) + 0) z ∙ (let y : length (members r) + 0 ≡ 0 + length (members r) = omega arith in y)
place_next (s ∷ rs) (suc i) r e = let h = place_next rs i r e in let y : length (members s) + place (suc i) rs ≡ (length (members s) + place i rs) + length (members r) = omega arith in y
