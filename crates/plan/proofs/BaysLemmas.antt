-- What is laid side by side in one pass is what each bay's blocks are by themselves.
use Rattle.std.proofs.Common.{◌≡◌, ℕ, zero, suc, ◌+◌, ◌-◌, true, false, cond, eqb, List, [], ◌∷◌, take, length, Some, None, Option, sym, refl, ap, ◌∙◌, ⊎_elim, add-one, max, arith}
use Rattle.std.proofs.lemmas.Bool.{cases_Bool, cond-true, cond-false, eqb-true}
use Rattle.std.proofs.lemmas.Bool.Decides.{nat_tests}
use Rattle.std.specs.List.{slice_get}
use Rattle.sources.specs.declared.block.Block.{Block}
use Rattle.plan.specs.declared.seam.Joint.{Joint}
use Rattle.plan.specs.declared.bays.Standing.{Standing}
use Rattle.plan.specs.Seam.{seam_from}
use Rattle.plan.specs.Bays.{later, after, beside, descent, with_one, nothing_yet, one_further, pairs, joints, of_bay, latest}

-- the joints of one bay, in the order of the plan
abbrev pub joints_at : ℕ → List Joint → List Joint
joints_at bay [] = []
joints_at bay (j ∷ js) = cond (eqb j.second.bay bay) (j ∷ joints_at bay js) (joints_at bay js)

-- two blocks of a bay, and the latest end of the bay's blocks up to the first of them
abbrev pub pair_at : ℕ → Option Block → Option Block → Option Joint
pair_at until None o = None
pair_at until (Some a) None = None
pair_at until (Some a) (Some b) = Some (record { first = a; second = b; until = until; seam = seam_from until b })

-- the joints of one bay from how it stands
abbrev pub in_bay : Option Standing → List Block → List Joint
in_bay o [] = []
in_bay o (b ∷ bs) = with_one (beside o b) (in_bay (Some (after o b)) bs)

before_here : (bay : ℕ) (o : Option Standing) (b : Block) (js : List Joint) → eqb b.bay bay ≡ true → joints_at bay (with_one (beside o b) js) ≡ with_one (beside o b) (joints_at bay js)
before_here bay None b js t = refl
before_here bay (Some s) b js t = cond-true _ _ _ t

before_elsewhere : (bay : ℕ) (o : Option Standing) (b : Block) (js : List Joint) → eqb b.bay bay ≡ false → joints_at bay (with_one (beside o b) js) ≡ joints_at bay js
before_elsewhere bay None b js t = refl
before_elsewhere bay (Some s) b js t = cond-false _ _ _ t

pub by_bay : (bay : ℕ) (bays : ℕ → Option Standing) (bs : List Block) → joints_at bay (pairs bays bs) ≡ in_bay (bays bay) (of_bay bay bs)
by_bay bay bays [] = refl
by_bay bay bays (b ∷ bs) =
    let more = pairs (one_further bays b) bs in
    let rest = by_bay bay (one_further bays b) bs in
    ⊎_elim
    (λ t.
    let same : bays b.bay ≡ bays bay = ap bays (eqb-true b.bay bay t) in
    before_here bay (bays b.bay) b more t
    ∙ ap (with_one (beside (bays b.bay) b)) (rest ∙ ap (λ o. in_bay o (of_bay bay bs)) (cond-true (eqb b.bay bay) _ _ t))
    ∙ ap (λ o. with_one (beside o b) (in_bay (Some (after o b)) (of_bay bay bs))) same
    ∙ ap (in_bay (bays bay)) (sym (cond-true (eqb b.bay bay) (b ∷ of_bay bay bs) (of_bay bay bs) t)))
    (λ t.
    before_elsewhere bay (bays b.bay) b more t ∙ rest
    ∙ ap (λ o. in_bay o (of_bay bay bs)) (cond-false (eqb b.bay bay) _ _ t)
    ∙ ap (in_bay (bays bay)) (sym (cond-false (eqb b.bay bay) (b ∷ of_bay bay bs) (of_bay bay bs) t)))
    (cases_Bool (eqb b.bay bay))

later_max : (a b : ℕ) → later a b ≡ max a b
later_max a b = grind (arith, nat_tests)

later_later : (a b c : ℕ) → later (later a b) c ≡ later a (max b c)
later_later a b c = grind (arith, nat_tests)

later_zero : (a : ℕ) → later a 0 ≡ a
later_zero a = grind (arith, nat_tests)

kth : (s : Standing) (bs : List Block) (k : ℕ) → slice_get (in_bay (Some s) bs) k ≡ pair_at (later s.until (latest (take k bs))) (slice_get (s.last ∷ bs) k) (slice_get bs k)
kth s [] zero = refl
kth s [] (suc k) = refl
kth s (b ∷ bs) zero = ap (λ n. Some (record { first = s.last; second = b; until = n; seam = seam_from n b })) (sym (later_zero s.until))
kth s (b ∷ bs) (suc k) =
    kth (after (Some s) b) bs k
    ∙ ap (λ n. pair_at n (slice_get (b ∷ bs) k) (slice_get bs k)) (later_later s.until b.end (latest (take k bs)))

first_kth : (bs : List Block) (k : ℕ) → slice_get (in_bay None bs) k ≡ pair_at (latest (take (suc k) bs)) (slice_get bs k) (slice_get bs (suc k))
first_kth [] k = refl
first_kth (b ∷ bs) k =
    kth (after None b) bs k
    ∙ ap (λ n. pair_at n (slice_get (b ∷ bs) k) (slice_get bs k)) (later_max b.end (latest (take k bs)))

-- In every bay the k-th joint is of the k-th block and the next one, with the minutes counted from the latest end of the blocks
-- up to the k-th; and there are no more.
pub each_bay : (bs : List Block) (bay k : ℕ) → slice_get (joints_at bay (pairs nothing_yet bs)) k ≡ pair_at (latest (take (k + 1) (of_bay bay bs))) (slice_get (of_bay bay bs) k) (slice_get (of_bay bay bs) (k + 1))
each_bay bs bay k =
    let us = of_bay bay bs in
    ap (λ js. slice_get js k) (by_bay bay nothing_yet bs) ∙ first_kth us k ∙ ap (λ n. pair_at (latest (take n us)) (slice_get us k) (slice_get us n)) (sym (add-one k))

-- what is laid hangs on how each bay stands alone
further_same : (bays others : ℕ → Option Standing) → ((q : ℕ) → bays q ≡ others q) → (b : Block) (q : ℕ) → one_further bays b q ≡ one_further others b q
further_same bays others h b q = ap (λ o. cond (eqb b.bay q) (Some (after o b)) (bays q)) (h b.bay) ∙ ap (cond (eqb b.bay q) (Some (after (others b.bay) b))) (h q)

pub same_pairs : (bays others : ℕ → Option Standing) → ((q : ℕ) → bays q ≡ others q) → (bs : List Block) → pairs bays bs ≡ pairs others bs
same_pairs bays others h [] = refl
same_pairs bays others h (b ∷ bs) =
    ap (λ o. with_one (beside o b) (pairs (one_further bays b) bs)) (h b.bay)
    ∙ ap (with_one (beside (others b.bay) b)) (same_pairs (one_further bays b) (one_further others b) (further_same bays others h b) bs)

pub same_joints : (last : Option Block) (bays others : ℕ → Option Standing) → ((q : ℕ) → bays q ≡ others q) → (bs : List Block) → joints last bays bs ≡ joints last others bs
same_joints last bays others h [] = refl
same_joints last bays others h (b ∷ bs) =
    ap (λ o. with_one (descent last b) (with_one (beside o b) (joints (Some b) (one_further bays b) bs))) (h b.bay)
    ∙ ap (λ js. with_one (descent last b) (with_one (beside (others b.bay) b) js)) (same_joints (Some b) (one_further bays b) (one_further others b) (further_same bays others h b) bs)

-- how many
pairs_behind : (s : Standing) (bs : List Block) → length (in_bay (Some s) bs) ≡ length bs
pairs_behind s [] = refl
pairs_behind s (b ∷ bs) = ap suc (pairs_behind (after (Some s) b) bs)

pairs_in : (bs : List Block) → length (in_bay None bs) ≡ length bs - 1
pairs_in [] = refl
pairs_in (b ∷ bs) = pairs_behind (after None b) bs ∙ omega arith

-- a bay has one joint fewer than blocks
pub one_fewer : (bs : List Block) (bay : ℕ) → length (joints_at bay (pairs nothing_yet bs)) ≡ length (of_bay bay bs) - 1
one_fewer bs bay = ap length (by_bay bay nothing_yet bs) ∙ pairs_in (of_bay bay bs)
