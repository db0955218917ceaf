-- The k-th pair of pairwise.
use Rattle.std.proofs.Common.{◌≡◌, ℕ, zero, suc, ◌+◌, List, [], ◌∷◌, ◌++◌, map, length, Option, Some, None, Result, sym, refl, ap, ◌∙◌, add-one, arith, Ok, Err}
use Rattle.std.specs.List.{slice_get}
use Rattle.std.proofs.lemmas.List.{append_assoc}
use Rattle.steps.specs.Steps.{Step, first}
use Rattle.steps.specs.declared.fault.Fault.{Fault}
use Rattle.steps.specs.declared.answer.Answer.{Answer}
use Rattle.laws.specs.Items.{items, faults}
use Rattle.laws.specs.Run.{Follows, Call, given_by, CallOf}
use Rattle.laws.specs.Pairwise.{paired, unpaired, pairs, pairs_left, pairs_old, paired_run, unpaired_run, pairs_run, from_pair, PairsDrawn, pair_of, Neighbours}
use Rattle.laws.proofs.Run.{not_over, follows_at}

pub paired_at : {A : Type 0} (old : A) (xs : List A) (k : ℕ) → slice_get (paired old (map Ok xs)) k ≡ pair_of (slice_get (old ∷ xs) k) (slice_get xs k)
paired_at old [] zero = refl
paired_at old [] (suc k) = refl
paired_at old (x ∷ xs) zero = refl
paired_at old (x ∷ xs) (suc k) = paired_at x xs k

pub unpaired_at : {A : Type 0} (xs : List A) (k : ℕ) → slice_get (unpaired (map Ok xs)) k ≡ pair_of (slice_get xs k) (slice_get xs (suc k))
unpaired_at [] k = refl
unpaired_at (x ∷ []) zero = refl
unpaired_at (x ∷ []) (suc k) = refl
unpaired_at (x ∷ (y ∷ xs)) zero = refl
unpaired_at (x ∷ (y ∷ xs)) (suc k) = paired_at y xs k

pub neighbours : {A : Type 0} (ss : List (Step A)) → Neighbours ss (unpaired ss)
neighbours ss xs e k = ap (λ us. slice_get (unpaired us) k) e ∙ unpaired_at xs k ∙ ap (λ n. pair_of (slice_get xs k) (slice_get xs n)) (sym (add-one k))

-- one call of a run
pub pairs_follows : {A : Type 0} (old : Option A) (ss : List (Step A)) →
    CallOf (pairs_run old ss) [] (first (pairs old ss)) (pairs_left old ss) (pairs_run (pairs_old old ss) (pairs_left old ss)) []
pairs_follows (Some old) [] = (refl, refl, refl, refl)
pairs_follows (Some old) (Ok a ∷ ss) = (refl, refl, refl, refl)
pairs_follows (Some old) (Err f ∷ ss) = (refl, refl, refl, refl)
pairs_follows None [] = (refl, refl, refl, refl)
pairs_follows None (Err f ∷ ss) = (refl, refl, refl, refl)
pairs_follows None (Ok a ∷ []) = (refl, refl, refl, refl)
pairs_follows None (Ok a ∷ (Err f ∷ ss)) = (refl, refl, refl, refl)
pairs_follows None (Ok a ∷ (Ok b ∷ ss)) = (refl, refl, refl, refl)

-- how many items are drawn when a pair is given
abbrev Pairs : Type 0 → Type 0
Pairs A = List (Call (A × A) (List (Step A)))

abbrev pairs_in : {A : Type 0} → Pairs A → ℕ
pairs_in run = length (items (given_by run))

abbrev ItemEach : {A : Type 0} → List (Step A) → Pairs A → Type 0
ItemEach {A} ss run = (before after : Pairs A) (c : Call (A × A) (List (Step A))) → run ≡ before ++ c ∷ after →
    (drawn : List (Step A)) × (ss ≡ drawn ++ c.left) × (length (items drawn) ≡ pairs_in (before ++ c ∷ []))

each_item : {A : Type 0} (p : A × A) (a : A) (ss : List (Step A)) (run : Pairs A) → ItemEach ss run → ItemEach (Ok a ∷ ss) (record { step = Ok p; left = ss } ∷ run)
each_item {A} p a ss run h [] after c e =
    let same : record { step = Ok p; left = ss } ≡ c = cc in
    (Ok a ∷ [], ap (λ (d : Call (A × A) (List (Step A))). Ok a ∷ d.left) same, ap (λ (d : Call (A × A) (List (Step A))). pairs_in (d ∷ [])) same)
each_item {A} p a ss run h (b ∷ before) after c e =
    let same : record { step = Ok p; left = ss } ≡ b = cc in
    let more : run ≡ before ++ c ∷ after = cc in
    let r = h before after c more in
    (Ok a ∷ r.0, ap (λ us. Ok a ∷ us) r.1, ap suc r.2 ∙ ap (λ (d : Call (A × A) (List (Step A))). pairs_in (d ∷ (before ++ c ∷ []))) same)

each_fault : {A : Type 0} (f : Fault) (ss : List (Step A)) (run : Pairs A) → ItemEach ss run → ItemEach (Err f ∷ ss) (record { step = Err f; left = ss } ∷ run)
each_fault {A} f ss run h [] after c e =
    let same : record { step = Err f; left = ss } ≡ c = cc in
    (Err f ∷ [], ap (λ (d : Call (A × A) (List (Step A))). Err f ∷ d.left) same, ap (λ (d : Call (A × A) (List (Step A))). pairs_in (d ∷ [])) same)
each_fault {A} f ss run h (b ∷ before) after c e =
    let same : record { step = Err f; left = ss } ≡ b = cc in
    let more : run ≡ before ++ c ∷ after = cc in
    let r = h before after c more in
    (Err f ∷ r.0, ap (λ us. Err f ∷ us) r.1, r.2 ∙ ap (λ (d : Call (A × A) (List (Step A))). pairs_in (d ∷ (before ++ c ∷ []))) same)

paired_each : {A : Type 0} (old : A) (ss : List (Step A)) → ItemEach ss (paired_run old ss)
paired_each old [] = λ before after c e. absurd (not_over before c after e)
paired_each old (Ok a ∷ ss) = each_item (old, a) a ss (paired_run a ss) (paired_each a ss)
paired_each old (Err f ∷ ss) = each_fault f ss (paired_run old ss) (paired_each old ss)

none_suc : (n : ℕ) → 0 ≡ suc n → ⊥
none_suc n e = omega arith

-- before the first pair: a fault, behind items that it loses
drawn_lost : {A : Type 0} (lost : List (Step A)) (f : Fault) (ss : List (Step A)) (run : Pairs A) → length (items (lost ++ Err f ∷ ss)) ≡ length (items lost) + length (items ss) →
    ((xs : List (Step A)) → length (items (lost ++ Err f ∷ xs)) ≡ length (items lost) + length (items xs)) →
    from_pair (lost ++ Err f ∷ ss) ≡ from_pair ss → PairsDrawn ss run → PairsDrawn (lost ++ Err f ∷ ss) (record { step = Err f; left = ss } ∷ run)
drawn_lost {A} lost f ss run n0 n p h [] after c k e g =
    let same : record { step = Err f; left = ss } ≡ c = cc in
    absurd (none_suc k (ap (λ (d : Call (A × A) (List (Step A))). pairs_in (d ∷ [])) same ∙ g))
drawn_lost {A} lost f ss run n0 n p h (b ∷ before) after c k e g =
    let same : record { step = Err f; left = ss } ≡ b = cc in
    let more : run ≡ before ++ c ∷ after = cc in
    let fewer : pairs_in (before ++ c ∷ []) ≡ suc k = ap (λ (d : Call (A × A) (List (Step A))). pairs_in (d ∷ (before ++ c ∷ []))) same ∙ g in
    let r = h before after c k more fewer in
    let at = ap (λ us. length (items us)) p in
    (lost ++ Err f ∷ r.0, ap (λ us. lost ++ Err f ∷ us) r.1 ∙ sym (append_assoc lost (Err f ∷ r.0) c.left), omega (arith, n r.0, r.2, at, n0))

pub pairs_drawn : {A : Type 0} (ss : List (Step A)) → PairsDrawn ss (unpaired_run ss)
pairs_drawn [] = λ before after c n e g. absurd (not_over before c after e)
pairs_drawn (Err f ∷ ss) = drawn_lost [] f ss (unpaired_run ss) (omega arith) (λ xs. omega arith) refl (pairs_drawn ss)
pairs_drawn (Ok a ∷ []) = λ before after c n e g. absurd (not_over before c after e)
pairs_drawn (Ok a ∷ (Err f ∷ ss)) = drawn_lost (Ok a ∷ []) f ss (unpaired_run ss) (omega arith) (λ xs. omega arith) refl (pairs_drawn ss)
pairs_drawn (Ok a ∷ (Ok b ∷ ss)) = λ before after c n e g.
    let r = each_item (a, b) b ss (paired_run b ss) (paired_each b ss) before after c e in
    (Ok a ∷ r.0, ap (λ us. Ok a ∷ us) r.1, omega (arith, r.2, g))

pub pairs_call : {A : Type 0} (old new : Option A) (ss left : List (Step A)) (r : Result (Answer (A × A)) Fault) →
    r ≡ first (pairs old ss) → left ≡ pairs_left old ss → new ≡ pairs_old old ss →
    Follows (pairs_run old ss) [] r left (pairs_run new left) []
pairs_call old new ss left r e f g =
    let later : pairs_run new left ≡ pairs_run (pairs_old old ss) (pairs_left old ss) = cc in
    follows_at _ _ _ r _ left _ _ _ _ (pairs_follows old ss) e f later refl

-- pairwise: its faults are those of the source
paired_faults : {A : Type 0} (old : A) (ss : List (Step A)) → faults (paired old ss) ≡ faults ss
paired_faults old [] = refl
paired_faults old (Ok a ∷ ss) = paired_faults a ss
paired_faults old (Err f ∷ ss) = ap (λ fs. f ∷ fs) (paired_faults old ss)

pub pairwise_faults : {A : Type 0} (ss : List (Step A)) → faults (unpaired ss) ≡ faults ss
pairwise_faults [] = refl
pairwise_faults (Err f ∷ ss) = ap (λ fs. f ∷ fs) (pairwise_faults ss)
pairwise_faults (Ok a ∷ []) = refl
pairwise_faults (Ok a ∷ (Err f ∷ ss)) = ap (λ fs. f ∷ fs) (pairwise_faults ss)
pairwise_faults (Ok a ∷ (Ok b ∷ ss)) = paired_faults b ss

-- pairwise
paired_items : {A : Type 0} (old : A) (ss : List (Step A)) → items (paired old ss) ≡ items (paired old (map Ok (items ss)))
paired_items old [] = refl
paired_items old (Ok a ∷ ss) = ap (λ xs. (old, a) ∷ xs) (paired_items a ss)
paired_items old (Err f ∷ ss) = paired_items old ss

pub pairwise_items : {A : Type 0} (ss : List (Step A)) → items (unpaired ss) ≡ items (unpaired (map Ok (items (from_pair ss))))
pairwise_items [] = refl
pairwise_items (Err f ∷ ss) = pairwise_items ss
pairwise_items (Ok a ∷ []) = refl
pairwise_items (Ok a ∷ (Err f ∷ ss)) = pairwise_items ss
pairwise_items (Ok a ∷ (Ok b ∷ ss)) = ap (λ xs. (a, b) ∷ xs) (paired_items b ss)
