-- The numbers of a range, one by one.
use Rattle.std.proofs.Common.{◌≡◌, ℕ, zero, suc, ◌+◌, ◌-◌, ◌<◌, cond, ltb, ◌∷◌, map, Some, None, Option, MatchOption, sym, ap, ◌∙◌, arith}
use Rattle.std.specs.List.{slice_get}
use Rattle.std.proofs.lemmas.Bool.Decides.{nat_tests}
use Rattle.steps.specs.Steps.{item, rest}
use Rattle.sources.specs.Range.{count_up, numbers, EachBelow}

pub numbers_more : (start stop : ℕ) → start < stop → numbers start stop ≡ item start ∷ numbers (start + 1) stop
numbers_more start stop h =
    let e : stop - start ≡ suc (stop - (start + 1)) = omega arith in
    ap (λ n. map item (count_up n start)) e

pub counted : (n start k : ℕ) → slice_get (map item (count_up n start)) k ≡ cond (ltb k n) (Some (item (start + k))) None
counted zero start k = grind (arith, nat_tests)
counted (suc n) start zero = let e : start + 0 ≡ start = omega arith in grind (arith, nat_tests)
counted (suc n) start (suc k) =
    let e : start + 1 + k ≡ start + suc k = omega arith in
    counted n (start + 1) k ∙ grind (arith, nat_tests)

pub each_below : (start stop : ℕ) → EachBelow start stop (numbers start stop)
each_below start stop k =
    let e : ltb k (stop - start) ≡ ltb (start + k) stop = grind (arith, nat_tests) in
    counted (stop - start) start k ∙ ap (λ b. cond b (Some (item (start + k))) None) e

-- what is left of a range once its first number was drawn, or none was there
pub numbers_left : (start stop next end : ℕ) (r : Option ℕ) → (end ≡ stop) × MatchOption r ((stop - start ≡ 0) × (next ≡ start)) (λ x. (0 < stop - start) × (x ≡ start) × (next ≡ start + 1))
    → numbers next end ≡ rest (numbers start stop)
numbers_left start stop next end None h =
    let none : stop - start ≡ 0 = h.1.0 in
    let gone : end - next ≡ 0 = omega (arith, h.0, h.1.0, h.1.1) in
    ap (λ n. map item (count_up n next)) gone ∙ ap (λ n. rest (map item (count_up n start))) (sym none)
numbers_left start stop next end (Some x) h =
    let lt : start < stop = omega (arith, h.1.0) in
    ap (λ n. numbers n end) h.1.2 ∙ ap (numbers (start + 1)) h.0 ∙ sym (ap rest (numbers_more start stop lt))
