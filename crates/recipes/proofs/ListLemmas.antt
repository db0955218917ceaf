-- Lists of items in front of the steps that are still ahead, and what recipes make of them.
use Rattle.std.proofs.Common.{◌≡◌, ℕ, zero, suc, ◌+◌, ◌-◌, ◌/◌, ◌%◌, ◌*◌, ◌<◌, ◌≤◌, List, [], ◌∷◌, ◌++◌, map, length, replicate, Ok, Err, Result, refl, sym, ap, ◌∙◌, subst, arith, Bool, true, false, not, cond}
use Rattle.std.proofs.lemmas.List.{append_assoc, length-append, length-replicate}
use Rattle.std.proofs.Math.Nat.{mod-add-div', add-mod_left, mul-mod_left}
use Rattle.std.specs.declared.alloc.AllocError.{AllocError}
use Rattle.steps.specs.Steps.{Step, first, rest}
use Rattle.steps.specs.declared.fault.Fault.{Fault}
use Rattle.laws.specs.Items.{items, faults}
use Rattle.laws.specs.Pairwise.{paired, unpaired}
use Rattle.laws.proofs.Pairwise.{pairwise_faults}
use Rattle.recipes.specs.declared.rule_error.RuleError.{RuleError}
use Rattle.recipes.specs.declared.rule_error.RuleError.TheVariants.{Broken, Refused, Memory}
use Rattle.recipes.specs.Lists.{OverItems, OnFault, FirstOf, triples_of, times, InRuns, differing}

pub listed_more : {A : Type 0} (xs : List A) (a : A) (ss : List (Step A)) → map Ok xs ++ Ok a ∷ ss ≡ map Ok (xs ++ a ∷ []) ++ ss
listed_more [] a ss = refl
listed_more (x ∷ xs) a ss = ap (λ us. Ok x ∷ us) (listed_more xs a ss)

pub listed_all : {A : Type 0} (xs : List A) → map {B = Step A} Ok xs ++ [] ≡ map Ok xs
listed_all [] = refl
listed_all (x ∷ xs) = ap (λ us. Ok x ∷ us) (listed_all xs)

pub kept_more : {A : Type 0} (xs : List A) (a : A) (ys : List A) → xs ++ a ∷ ys ≡ (xs ++ a ∷ []) ++ ys
kept_more [] a ys = refl
kept_more (x ∷ xs) a ys = ap (λ us. x ∷ us) (kept_more xs a ys)

pub kept_all : {A : Type 0} (xs : List A) → xs ++ [] ≡ xs
kept_all [] = refl
kept_all (x ∷ xs) = ap (λ us. x ∷ us) (kept_all xs)

pub all_items : {A : Type 0} (ss : List (Step A)) → faults ss ≡ [] → ss ≡ map Ok (items ss)
all_items [] e = refl
all_items (Ok a ∷ ss) e = ap (λ us. Ok a ∷ us) (all_items ss e)
all_items (Err f ∷ ss) e = cc

-- steps without a fault are items
pub over_items : {A : Type 0} (ss : List (Step A)) (P : List A → Type 0) → faults ss ≡ [] → P (items ss) → OverItems ss P
over_items ss P e h = (items ss, all_items ss e, h)

times_more : {A : Type 0} (n : ℕ) (xs : List A) → times n xs ++ xs ≡ xs ++ times n xs
times_more zero xs = sym (kept_all xs)
times_more (suc n) xs = append_assoc xs (times n xs) xs ∙ ap (λ us. xs ++ us) (times_more n xs)

pub once_more : {A : Type 0} (n : ℕ) (xs : List A) → times n xs ++ xs ≡ times (n + 1) xs
once_more n xs = let e : n + 1 ≡ suc n = omega arith in times_more n xs ∙ ap (λ m. times m xs) (sym e)

-- a pair of neighbouring pairs as three in a row
abbrev pub in_a_row : {A : Type 0} → (A × A) × (A × A) → A × A × A
in_a_row p = (p.0.0, p.1.0, p.1.1)

row_paired : {A : Type 0} (a b : A) (xs : List A) → map in_a_row (items (paired (a, b) (paired b (map Ok xs)))) ≡ triples_of (a ∷ (b ∷ xs))
row_paired a b [] = refl
row_paired a b (c ∷ xs) = ap (λ us. (a, b, c) ∷ us) (row_paired b c xs)

row_unpaired : {A : Type 0} (xs : List A) → map in_a_row (items (unpaired (unpaired (map Ok xs)))) ≡ triples_of xs
row_unpaired [] = refl
row_unpaired (a ∷ []) = refl
row_unpaired (a ∷ (b ∷ [])) = refl
row_unpaired (a ∷ (b ∷ (c ∷ xs))) = ap (λ us. (a, b, c) ∷ us) (row_paired b c xs)

pub over_triples : {A : Type 0} (ss : List (Step A)) (ts : List (A × A × A)) → map in_a_row (items (unpaired (unpaired ss))) ≡ ts → faults (unpaired (unpaired ss)) ≡ [] →
    OverItems ss (λ xs. ts ≡ triples_of xs)
over_triples ss ts e f =
    let w : faults ss ≡ [] = sym (pairwise_faults ss) ∙ sym (pairwise_faults (unpaired ss)) ∙ f in
    over_items ss (λ xs. ts ≡ triples_of xs) w (sym e ∙ ap (λ us. map in_a_row (items (unpaired (unpaired us)))) (all_items ss w) ∙ row_unpaired (items ss))

pub fewer : {A : Type 0} (s : Step A) (ss left : List (Step A)) → ss ≡ s ∷ rest ss → left ≡ rest ss → suc (length left) ≤ length ss
fewer s ss left e f = let a : length ss ≡ suc (length (rest ss)) = ap length e in let b : length left ≡ length (rest ss) = ap length f in omega (arith, a, b)

pub row_on : {A : Type 0} (all ts more : List (A × A × A)) (fs : List Fault) (p : (A × A) × (A × A)) (ss left : List (Step ((A × A) × (A × A)))) →
    ss ≡ Ok p ∷ rest ss → left ≡ rest ss → (all ≡ ts ++ map in_a_row (items ss)) × (fs ≡ faults ss) → more ≡ ts ++ in_a_row p ∷ [] →
    (all ≡ more ++ map in_a_row (items left)) × (fs ≡ faults left)
row_on all ts more fs p ss left e f inv m =
    let w : ss ≡ Ok p ∷ left = e ∙ ap (λ us. Ok p ∷ us) (sym f) in (
      inv.0 ∙ ap (λ us. ts ++ map in_a_row (items us)) w ∙ kept_more ts (in_a_row p) (map in_a_row (items left)) ∙ ap (λ us. us ++ map in_a_row (items left)) (sym m),
      inv.1 ∙ ap faults w,
    )

fill_more : {A : Type 0} (k : ℕ) (fill : A) → replicate k fill ++ fill ∷ [] ≡ fill ∷ replicate k fill
fill_more zero fill = refl
fill_more (suc k) fill = ap (λ us. fill ∷ us) (fill_more k fill)

pub filled_more : {A : Type 0} (xs ys more : List A) (k o : ℕ) (fill : A) → o ≤ k → ys ≡ xs ++ replicate (k - o) fill → more ≡ ys ++ fill ∷ [] → more ≡ xs ++ replicate (k + 1 - o) fill
filled_more xs ys more k o fill h e m =
    let n : suc (k - o) ≡ k + 1 - o = omega (arith, h) in
    m ∙ ap (λ us. us ++ fill ∷ []) e ∙ append_assoc xs (replicate (k - o) fill) (fill ∷ []) ∙ ap (λ us. xs ++ us) (fill_more (k - o) fill) ∙ ap (λ u. xs ++ replicate u fill) n

pub in_runs_whole : {A : Type 0} (n o : ℕ) (fill : A) (xs : List A) → 0 < n → length xs % n ≡ o → o ≤ 0 → InRuns n fill xs xs
in_runs_whole n o fill xs h e z = (0, sym (kept_all xs), h, omega (arith, e, z))

pub in_runs_filled : {A : Type 0} (n o k : ℕ) (fill : A) (xs ys : List A) → 0 < n → length xs % n ≡ o → 0 < o → o ≤ n → k ≡ n → ys ≡ xs ++ replicate (k - o) fill → InRuns n fill xs ys
in_runs_filled n o k fill xs ys h m z u q e =
    let l : length ys ≡ length xs + (k - o) = ap length e ∙ length-append xs (replicate (k - o) fill) ∙ ap (λ i. length xs + i) (length-replicate (k - o) fill) in
    let d : length xs % n + length xs / n * n ≡ length xs = mod-add-div' (length xs) n in
    let w : length ys ≡ n + length xs / n * n = omega (arith, l, d, u, m, q) in
    (k - o, e, omega (arith, h, z, q), ap (λ i. i % n) w ∙ add-mod_left n (length xs / n * n) ∙ mul-mod_left (length xs / n) n)

differ_by : {A : Type 0} (b : Bool) (ds : List (A × A)) (x y : A) (more : List (A × A)) → ds ++ cond b more ((x, y) ∷ more) ≡ cond (not b) (ds ++ (x, y) ∷ []) ds ++ more
differ_by true ds x y more = refl
differ_by false ds x y more = kept_more ds (x, y) more

pub differ_on : {A : Type 0} (equal : A → A → Bool) (all ds more : List (A × A)) (fs : List Fault) (a b : A) (ss left : List (Step (A × A))) (d : Bool) →
    ss ≡ Ok (a, b) ∷ rest ss → left ≡ rest ss → d ≡ not (equal a b) → (fs ≡ faults ss) × (all ≡ ds ++ differing equal (items ss)) →
    more ≡ cond d (ds ++ (a, b) ∷ []) ds → (fs ≡ faults left) × (all ≡ more ++ differing equal (items left))
differ_on equal all ds more fs a b ss left d e f n inv m =
    let w : ss ≡ Ok (a, b) ∷ left = e ∙ ap (λ us. Ok (a, b) ∷ us) (sym f) in (
      inv.0 ∙ ap faults w,
      inv.1 ∙ ap (λ us. ds ++ differing equal (items us)) w ∙ differ_by (equal a b) ds a b (differing equal (items left)) ∙ ap (λ us. us ++ differing equal (items left)) (ap (λ c. cond c (ds ++ (a, b) ∷ []) ds) (sym n) ∙ sym m),
    )

-- ---- the fault that ended a list is the first of those ahead

behind_items : {A : Type 0} (xs : List A) (ss : List (Step A)) → faults (map Ok xs ++ ss) ≡ faults ss
behind_items [] ss = refl
behind_items (x ∷ xs) ss = behind_items xs ss

pub on_fault : {X : Type 0} {r : Result X RuleError} {e : RuleError} {f : Fault} (P : Fault → Type 0) → r ≡ Err e → e ≡ Broken f → P f → OnFault r P
on_fault P r e h = subst (λ u. OnFault u P) (sym (r ∙ ap Err e)) h

pub on_memory : {X : Type 0} {r : Result X RuleError} {e : RuleError} {m : AllocError} (P : Fault → Type 0) → r ≡ Err e → e ≡ Memory m → OnFault r P
on_memory P r e = subst (λ u. OnFault u P) (sym (r ∙ ap Err e)) tt

-- what holds of the fault of an error, whatever kind of list was wanted
abbrev pub OfError : RuleError → (Fault → Type 0) → Type 0
OfError e P = OnFault {A = Unit {0}} (Err e) P

for_any : (X : Type 0) (e : RuleError) (P : Fault → Type 0) → OfError e P → OnFault {A = X} (Err e) P
for_any X (Broken f) P h = h
for_any X (Refused n) P h = h
for_any X (Memory m) P h = h

pub on_error : {X : Type 0} {r : Result X RuleError} {e d : RuleError} (P : Fault → Type 0) → r ≡ Err e → e ≡ d → OfError d P → OnFault r P
on_error {X} {r} {e} {d} P w i h = subst (λ u. OnFault u P) (sym (w ∙ ap Err i)) (for_any X d P h)

-- a call met it
pub met_fault : {A : Type 0} (ss : List (Step A)) (f : Fault) → Err f ≡ first ss → FirstOf (faults ss) f
met_fault [] f e = cc
met_fault (Ok a ∷ ss) f e = cc
met_fault (Err g ∷ ss) f e = (faults ss, cc)

pub met_behind : {A : Type 0} (all ss : List (Step A)) (xs : List A) (f : Fault) → all ≡ map Ok xs ++ ss → Err f ≡ first ss → FirstOf (faults all) f
met_behind all ss xs f e m = let h = met_fault ss f m in (h.0, ap faults e ∙ behind_items xs ss ∙ h.1)

pub met_first : {A : Type 0} (all : List Fault) (ss : List (Step A)) (f : Fault) → all ≡ faults ss → Err f ≡ first ss → FirstOf all f
met_first all ss f e m = let h = met_fault ss f m in (h.0, e ∙ h.1)

pub first_of_both : (fs gs all : List Fault) (f : Fault) → fs ++ gs ≡ all → FirstOf fs f → FirstOf all f
first_of_both fs gs all f e h = (h.0 ++ gs, sym e ∙ ap (λ us. us ++ gs) h.1)

pub OnFault-weaker : {X : Type 0} (r : Result X RuleError) (P Q : Fault → Type 0) → ((f : Fault) → P f → Q f) → OnFault r P → OnFault r Q
OnFault-weaker (Ok v) P Q w h = tt
OnFault-weaker (Err (Broken f)) P Q w h = w f h
OnFault-weaker (Err (Refused n)) P Q w h = tt
OnFault-weaker (Err (Memory e)) P Q w h = tt
