-- Faults that differ are told by different texts, since each of the three numbers can be read back.
use Rattle.std.proofs.Common.{◌≡◌, ℕ, ◌<◌, ◌≤◌, ◌^◌, Bool, true, false, cond, ltb, List, [], ◌∷◌, ◌++◌, get_or, drop, sym, refl, ap, ◌∙◌, arith}
use Rattle.std.specs.Prelude.{codes, decimal, ◌==◌, ⊤, nat_lt}
use Rattle.std.specs.Char.{digit_value}
use Rattle.std.specs.Str.Parse.{AllDigits, digits_value}
use Rattle.std.proofs.lemmas.Fmt.{decimal_is_IsNumeral, decimal_injective}
use Rattle.std.proofs.lemmas.Bool.{cond-true, cond-false, lt-ltb, le-ltb, eqb-true}
use Rattle.std.proofs.lemmas.List.{append_cancel_left}
use Rattle.steps.specs.declared.fault.Fault.{Fault}
use Rattle.steps.specs.Fault.{origin_text, place_text, ToldApart}

-- no digit stands at the front
Stops : List ℕ → Type 0
Stops [] = ⊤
Stops (c ∷ cs) = 10 ≤ digit_value c

-- the digits at the front, and their number
digits_at : List ℕ → List ℕ
digits_at [] = []
digits_at (c ∷ cs) = cond (nat_lt (digit_value c) 10) (c ∷ digits_at cs) []

number_at : List ℕ → ℕ
number_at cs = digits_value 10 (digits_at cs)

digits_told : (ds us : List ℕ) → AllDigits 10 ds → Stops us → digits_at (ds ++ us) ≡ ds
unfolding digits_at Stops
digits_told [] [] p s = refl
digits_told [] (u ∷ us) p s = cond-false (ltb (digit_value u) 10) _ _ (le-ltb (digit_value u) 10 s)
digits_told (d ∷ ds) us p s =
    cond-true (ltb (digit_value d) 10) _ _ (lt-ltb (digit_value d) 10 p.0) ∙ ap (λ xs. d ∷ xs) (digits_told ds us p.1 s)

number_told : (n : ℕ) (us : List ℕ) → n < 2 ^ 64 → Stops us → number_at (decimal n ++ us) ≡ n
unfolding number_at digits_at
number_told n us h s =
    let d = decimal_is_IsNumeral n h in
    ap (digits_value 10) (digits_told (decimal n) us d.0.1 s) ∙ d.1

-- the third letter tells who met a fault
third : List ℕ → ℕ
third cs = get_or cs 2 0

origin_at : List ℕ → ℕ
origin_at cs =
    cond (third cs == 115) 1
    (cond (third cs == 112) 2
    (cond (third cs == 107) 3
    (cond (third cs == 106) 4 (number_at (drop 7 cs)))))

origin_told : (n : ℕ) (us : List ℕ) → n < 2 ^ 64 → Stops us → origin_at (origin_text n ++ us) ≡ n
unfolding origin_at number_at third digits_at
origin_told n us h s = by (n == 1) (n == 2) (n == 3) (n == 4) refl refl refl refl
  where
    by : (a b c d : Bool) → (n == 1) ≡ a → (n == 2) ≡ b → (n == 3) ≡ c → (n == 4) ≡ d
        → origin_at (cond a (codes "a source") (cond b (codes "a predicate") (cond c (codes "a key kind") (cond d (codes "a joining") (codes "origin " ++ decimal n)))) ++ us) ≡ n
    by true b c d p q r t = sym (eqb-true n 1 p)
    by false true c d p q r t = sym (eqb-true n 2 q)
    by false false true d p q r t = sym (eqb-true n 3 r)
    by false false false true p q r t = sym (eqb-true n 4 t)
    by false false false false p q r t = number_told n us h s

told_place : ℕ → List ℕ
told_place n = codes ", at byte " ++ decimal n

place_stops : (a b : Bool) (n : ℕ) → Stops (cond a (told_place n) (cond b [] (told_place n)))
unfolding Stops told_place
place_stops true b n = let h : 10 ≤ 36 = omega arith in h
place_stops false true n = tt
place_stops false false n = let h : 10 ≤ 36 = omega arith in h

place_told : (a b c : Bool) (m n : ℕ) → (m == 0) ≡ b → (n == 0) ≡ c → m < 2 ^ 64 → n < 2 ^ 64
    → cond a (told_place m) (cond b [] (told_place m)) ≡ cond a (told_place n) (cond c [] (told_place n)) → m ≡ n
unfolding told_place
place_told true b c m n p q h k e = decimal_injective m n h k (append_cancel_left (codes ", at byte ") _ _ e)
place_told false true true m n p q h k e = eqb-true m 0 p ∙ sym (eqb-true n 0 q)
place_told false true false m n p q h k e = absurd cc
place_told false false true m n p q h k e = absurd cc
place_told false false false m n p q h k e = decimal_injective m n h k (append_cancel_left (codes ", at byte ") _ _ e)

same_fault : (f g : Fault) → f.origin ≡ g.origin → f.cause ≡ g.cause → f.place ≡ g.place → f ≡ g
same_fault f g o c p =
    ap (λ n. record { origin = n; cause = f.cause; place = f.place }) o
    ∙ ap (λ n. record { origin = g.origin; cause = n; place = f.place }) c
    ∙ ap (λ n. record { origin = g.origin; cause = g.cause; place = n }) p

pub told_apart : ToldApart
unfolding Stops told_place
told_apart f g p q e =
    let us = codes ", cause " ++ (decimal f.cause ++ place_text f.origin f.place) in
    let vs = codes ", cause " ++ (decimal g.cause ++ place_text g.origin g.place) in
    let comma : 10 ≤ 36 = omega arith in
    let behind : origin_text f.origin ++ us ≡ origin_text g.origin ++ vs = append_cancel_left (codes "fault of ") _ _ e in
    let o : f.origin ≡ g.origin =
    sym (origin_told f.origin us (omega (arith, p.0)) comma) ∙ ap origin_at behind ∙ origin_told g.origin vs (omega (arith, q.0)) comma in
    let on : us ≡ vs = append_cancel_left (origin_text f.origin) us vs (behind ∙ ap (λ n. origin_text n ++ vs) (sym o)) in
    let causes : decimal f.cause ++ place_text f.origin f.place ≡ decimal g.cause ++ place_text g.origin g.place = append_cancel_left (codes ", cause ") _ _ on in
    let c : f.cause ≡ g.cause =
    sym (number_told f.cause _ (omega (arith, p.1)) (place_stops (f.origin == 1) (f.place == 0) f.place)) ∙ ap number_at causes
    ∙ number_told g.cause _ (omega (arith, q.1)) (place_stops (g.origin == 1) (g.place == 0) g.place) in
    let places : place_text f.origin f.place ≡ place_text g.origin g.place =
    append_cancel_left (decimal f.cause) _ _ (causes ∙ ap (λ n. decimal n ++ place_text g.origin g.place) (sym c)) in
    let w : f.place ≡ g.place =
    place_told (f.origin == 1) (f.place == 0) (g.place == 0) f.place g.place refl refl p.2 q.2 (places ∙ ap (λ n. place_text n g.place) (sym o)) in
    same_fault f g o c w
