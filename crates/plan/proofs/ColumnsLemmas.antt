-- What the library pads is what the account says.
use Rattle.std.proofs.Common.{◌≡◌, ℕ, ◌+◌, ◌-◌, ◌/◌, ◌%◌, ◌<◌, ◌^◌, false, [], ◌++◌, length, replicate, codes, decimal, sym, refl, ap, ◌∙◌, ⊎_elim, arith}
use Rattle.std.proofs.Padding.{padded_integral_right, padded_integral_zeros}
use Rattle.std.specs.Fmt.{padded_integral, format_spec}
use Rattle.std.proofs.lemmas.Fmt.{decimal_digit, decimal_step, decimal_nonempty}
use Rattle.std.proofs.lemmas.List.{length_push}
use Rattle.std.proofs.lemmas.Bool.{cond-true, cond-false, cases_lt, lt-ltb, le-ltb}
use Rattle.plan.specs.Columns.{padded, two_digits}

pub in_column : (width n : ℕ) → padded_integral (format_spec 32 3 0 width (2 ^ 64 - 1)) false [] (decimal n) ≡ padded width n
unfolding padded
in_column width n = padded_integral_right (format_spec 32 3 0 width (2 ^ 64 - 1)) (decimal n) refl refl (λ e. omega (arith, e)) (λ e. omega (arith, e)) (omega arith)

pub with_zero : (n : ℕ) → n < 2 ^ 64 → padded_integral (format_spec 32 0 4 2 (2 ^ 64 - 1)) false [] (decimal n) ≡ two_digits n
with_zero n small =
    let zeros = padded_integral_zeros (format_spec 32 0 4 2 (2 ^ 64 - 1)) (decimal n) refl refl in
    zeros ∙ ⊎_elim
    (λ one.
    let width : 2 - length (decimal n) ≡ 1 = omega (arith, ap length (decimal_digit n one)) in
    ap (λ k. replicate k 48 ++ decimal n) width ∙ sym (cond-true _ (codes "0" ++ decimal n) (decimal n) (lt-ltb n 10 one)))
    (λ more.
    let front : 0 < length (decimal (n / 10)) = decimal_nonempty (n / 10) (omega arith) in
    let width : 2 - length (decimal n) ≡ 0 = omega (arith, front, ap length (decimal_step n more small) ∙ length_push (decimal (n / 10)) (48 + n % 10)) in
    ap (λ k. replicate k 48 ++ decimal n) width ∙ sym (cond-false _ (codes "0" ++ decimal n) (decimal n) (le-ltb n 10 more)))
    (cases_lt n 10)
