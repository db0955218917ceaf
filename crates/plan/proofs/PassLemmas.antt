-- Steps that all follow are those of a sound plan, and no others.
use Rattle.std.proofs.Common.{◌≡◌, ◌↔◌, IsTrue, ◌&&◌, ℕ, zero, suc, ◌+◌, ◌<◌, ◌≤◌, Bool, true, false, cond, eqb, List, [], ◌∷◌, Some, None, Option, Ok, Err, sym, refl, ap, ◌∙◌, subst, ⊎_elim, add-one, arith}
use Rattle.std.specs.List.{slice_get}
use Rattle.std.proofs.lemmas.Bool.{eqb-true, eq-eqb, ne_eqb, cond-true, cond-false, cond_both, cases_Bool, cases_lt, and_parts, and_from, both_ways}
use Rattle.std.proofs.lemmas.Bool.Decides.{nat_tests}
use Rattle.steps.specs.Steps.{Step, first}
use Rattle.steps.specs.declared.answer.Answer.TheVariants.{Item, End}
use Rattle.steps.specs.declared.fault.Fault.{Fault}
use Rattle.laws.specs.Items.{items, faults}
use Rattle.sources.specs.declared.block.Block.{Block}
use Rattle.plan.specs.Bays.{of_bay}
use Rattle.plan.specs.Pass.{EveryTwo, Close, Sound, goes_on, may_follow, all_follow}

-- a fact of every two neighbours, by recursion
abbrev pub Adjacent : {A : Type 0} → (A → A → Type 0) → List A → Type 0
Adjacent P [] = Unit {0}
Adjacent P (a ∷ []) = Unit {0}
Adjacent P (a ∷ (b ∷ xs)) = P a b × Adjacent P (b ∷ xs)

adjacent_at : {A : Type 0} (P : A → A → Type 0) (xs : List A) → Adjacent P xs → (k : ℕ) (a b : A) → slice_get xs k ≡ Some a → slice_get xs (suc k) ≡ Some b → P a b
adjacent_at P [] h k a b e f = absurd (cc)
adjacent_at P (x ∷ []) h k a b e f = absurd (cc)
adjacent_at P (x ∷ (y ∷ xs)) h zero a b e f = subst (λ u. P u b) (cc) (subst (P x) (cc) h.0)
adjacent_at P (x ∷ (y ∷ xs)) h (suc k) a b e f = adjacent_at P (y ∷ xs) h.1 k a b e f

pub every_two : {A : Type 0} (P : A → A → Type 0) (xs : List A) → Adjacent P xs → EveryTwo P xs
every_two P xs h k a b e f = adjacent_at P xs h k a b e (ap (slice_get xs) (sym (add-one k)) ∙ f)

pub adjacent : {A : Type 0} (P : A → A → Type 0) (xs : List A) → EveryTwo P xs → Adjacent P xs
adjacent P [] h = tt
adjacent P (x ∷ []) h = tt
adjacent P (x ∷ (y ∷ xs)) h = (
  h 0 x y refl refl,
  adjacent P (y ∷ xs) (λ k a b e f. h (k + 1) a b (ap (slice_get (x ∷ (y ∷ xs))) (add-one k) ∙ e) (ap (slice_get (x ∷ (y ∷ xs))) (add-one (k + 1)) ∙ f)),
)

adjacent_rest : {A : Type 0} (P : A → A → Type 0) (x : A) (xs : List A) → Adjacent P (x ∷ xs) → Adjacent P xs
adjacent_rest P x [] h = tt
adjacent_rest P x (y ∷ xs) h = h.1

-- the second block may follow the first
abbrev pub Follows : Block → Block → Type 0
Follows a b = (a.bay ≤ b.bay) × (a.bay ≡ b.bay → Close a b)

-- neighbours in the plan, and neighbours in a bay
none_after : (bay : ℕ) (c : Block) (bs : List Block) → Adjacent Follows (c ∷ bs) → bay < c.bay → of_bay bay (c ∷ bs) ≡ []
none_after bay c [] h lt = cond-false _ _ _ (ne_eqb c.bay bay (λ e. omega arith))
none_after bay c (d ∷ bs) h lt =
    cond-false _ _ _ (ne_eqb c.bay bay (λ e. omega arith)) ∙ none_after bay d bs h.1 (omega (arith, h.0.0))

in_bay : (bay : ℕ) (bs : List Block) → Adjacent Follows bs → Adjacent Close (of_bay bay bs)
in_bay bay [] h = tt
in_bay bay (a ∷ []) h = cond_both (eqb a.bay bay) (a ∷ []) [] (Adjacent Close) (λ e. tt) (λ e. tt)
in_bay bay (a ∷ (b ∷ bs)) h =
    let more = of_bay bay (b ∷ bs) in
    let rest = in_bay bay (b ∷ bs) h.1 in
    cond_both (eqb a.bay bay) (a ∷ more) more (Adjacent Close)
    (λ e.
    let at : a.bay ≡ bay = eqb-true a.bay bay e in
    ⊎_elim
    (λ lt. subst (λ us. Adjacent Close (a ∷ us)) (sym (none_after bay b bs h.1 (omega (arith, at)))) tt)
    (λ ge.
    let same : a.bay ≡ b.bay = omega (arith, h.0.0) in
    let first : more ≡ b ∷ of_bay bay bs = cond-true _ _ _ (eq-eqb b.bay bay (sym same ∙ at)) in
    subst (λ us. Adjacent Close (a ∷ us)) (sym first) (h.0.1 same, subst (Adjacent Close) first rest))
    (cases_lt a.bay b.bay))
    (λ e. rest)

in_plan : (bs : List Block) → Adjacent (λ a b. a.bay ≤ b.bay) bs → ((bay : ℕ) → Adjacent Close (of_bay bay bs)) → Adjacent Follows bs
in_plan [] r c = tt
in_plan (a ∷ []) r c = tt
in_plan (a ∷ (b ∷ bs)) r c = (
  (
    r.0,
    λ same.
        let first : of_bay a.bay (a ∷ (b ∷ bs)) ≡ a ∷ (b ∷ of_bay a.bay bs) =
        cond-true _ _ _ (eq-eqb a.bay a.bay refl) ∙ ap (λ us. a ∷ us) (cond-true _ _ _ (eq-eqb b.bay a.bay (sym same))) in
        (subst (Adjacent Close) first (c a.bay)).0,
  ),
  in_plan (b ∷ bs) r.1 (λ bay.
      let more = of_bay bay (b ∷ bs) in
      let whole : Adjacent Close (cond (eqb a.bay bay) (a ∷ more) more) = c bay in
      ⊎_elim
      (λ e. adjacent_rest Close a more (subst (Adjacent Close) (cond-true (eqb a.bay bay) (a ∷ more) more e) whole))
      (λ e. subst (Adjacent Close) (cond-false (eqb a.bay bay) (a ∷ more) more e) whole)
      (cases_Bool (eqb a.bay bay))),
)

pub rising : (bs : List Block) → Adjacent Follows bs → Adjacent (λ a b. a.bay ≤ b.bay) bs
rising [] h = tt
rising (a ∷ []) h = tt
rising (a ∷ (b ∷ bs)) h = (h.0.0, rising (b ∷ bs) h.1)

-- a sound plan, by recursion
pub follows_sound : (bs : List Block) → Adjacent Follows bs → Sound bs
follows_sound bs h = (every_two _ bs (rising bs h), λ bay. every_two Close (of_bay bay bs) (in_bay bay bs h))

pub sound_follows : (bs : List Block) → Sound bs → Adjacent Follows bs
sound_follows bs s = in_plan bs (adjacent _ bs s.0) (λ bay. adjacent Close (of_bay bay bs) (s.1 bay))

follows_from : (a b : Block) → goes_on a b ≡ true → Follows a b
follows_from a b e = (grind (arith, nat_tests), λ same. (grind (arith, nat_tests), grind (arith, nat_tests)))

goes_from : (a b : Block) → Follows a b → goes_on a b ≡ true
goes_from a b h = let r = h.0 in let c = h.1 in grind (arith, nat_tests)

no : {X : Type 0} → false ≡ true → X
no e = absurd (both_ways true (sym e) refl)

no_fault : {X : Type 0} (f : Fault) (fs : List Fault) → ◌≡◌ {A = List Fault} (f ∷ fs) [] → X
no_fault f fs e = absurd (cc)

-- the block before, if there is one, in front
abbrev pub behind : Option Block → List Block → List Block
behind None bs = bs
behind (Some a) bs = a ∷ bs

all_adjacent : (o : Option Block) (ss : List (Step Block)) → all_follow o ss ≡ true → (faults ss ≡ []) × Adjacent Follows (behind o (items ss))
all_adjacent None [] e = (refl, tt)
all_adjacent (Some a) [] e = (refl, tt)
all_adjacent o (Err f ∷ ss) e = no e
all_adjacent None (Ok b ∷ ss) e = all_adjacent (Some b) ss e
all_adjacent (Some a) (Ok b ∷ ss) e =
    let p = and_parts (goes_on a b) _ e in
    let r = all_adjacent (Some b) ss p.1 in
    (r.0, (follows_from a b p.0, r.1))

adjacent_all : (o : Option Block) (ss : List (Step Block)) → faults ss ≡ [] → Adjacent Follows (behind o (items ss)) → all_follow o ss ≡ true
adjacent_all o [] f h = refl
adjacent_all o (Err g ∷ ss) f h = no_fault g (faults ss) f
adjacent_all None (Ok b ∷ ss) f h = adjacent_all (Some b) ss f h
adjacent_all (Some a) (Ok b ∷ ss) f h = and_from _ _ (goes_from a b h.0) (adjacent_all (Some b) ss f h.1)

pub all_sound : (ss : List (Step Block)) → all_follow None ss ≡ true → (faults ss ≡ []) × Sound (items ss)
all_sound ss e = let h = all_adjacent None ss e in (h.0, follows_sound (items ss) h.1)

pub sound_all : (ss : List (Step Block)) → faults ss ≡ [] → Sound (items ss) → all_follow None ss ≡ true
sound_all ss f s = adjacent_all None ss f (sound_follows (items ss) s)

-- what a call's answer says of all that follow
pub at_end : (o : Option Block) (ss : List (Step Block)) → first ss ≡ Ok End → all_follow o ss ≡ true
at_end o [] e = refl
at_end o (Ok b ∷ ss) e = absurd (cc)
at_end o (Err f ∷ ss) e = absurd (cc)

pub at_fault : (o : Option Block) (f : Fault) (ss : List (Step Block)) → first ss ≡ Err f → all_follow o ss ≡ false
at_fault o f [] e = absurd (cc)
at_fault o f (Ok b ∷ ss) e = absurd (cc)
at_fault o f (Err g ∷ ss) e = refl

pub at_denied : (o : Option Block) (b : Block) (ss : List (Step Block)) → first ss ≡ Ok (Item b) → may_follow o b ≡ false → all_follow o ss ≡ false
at_denied o b [] e h = absurd (cc)
at_denied o b (Ok c ∷ ss) e h = let same : b ≡ c = cc in ap (λ t. t && all_follow (Some c) ss) (ap (may_follow o) (sym same) ∙ h)
at_denied o b (Err g ∷ ss) e h = absurd (cc)

pub told : (t : Bool) (ss : List (Step Block)) → all_follow None ss ≡ t → IsTrue t ↔ ((faults ss ≡ []) × Sound (items ss))
told true ss e = (λ h. all_sound ss e, λ h. refl)
told false ss e = (λ h. no h, λ h. absurd (both_ways (all_follow None ss) e (sound_all ss h.0 h.1)))
