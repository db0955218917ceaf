-- Where the blocks of every bay are laid beside one another by the latest end so far, the plan is sound just when bays rise, none
-- overlaps and no gap is long.
use Rattle.std.proofs.lemmas.List.{nil_from_length}
use Rattle.steps.specs.declared.fault.Fault.{Fault}
use Rattle.std.proofs.Common.{◌≡◌, ◌↔◌, IsTrue, ◌^◌, length, ℕ, zero, suc, ◌+◌, ◌-◌, ◌<◌, ◌≤◌, Bool, true, false, eqb, ltb, List, [], ◌∷◌, drop, take, Some, None, Option, Ok, Err, sym, refl, ap, ◌∙◌, subst, ⊎_elim, arith, length-drop}
use Rattle.std.proofs.lemmas.Bool.{cases_Bool, cond_both, cond-true, cond-false, eqb-true, eq-eqb, ltb-false, leb-false, lt-ltb, le-ltb, lt-leb, both_ways, and_parts, and_from}
use Rattle.steps.specs.Steps.{Step, first, rest}
use Rattle.steps.specs.declared.answer.Answer.TheVariants.{Item, End}
use Rattle.laws.specs.Items.{items, faults}
use Rattle.sources.specs.declared.cause.Cause.TheVariants.{CutPayload}
use Rattle.sources.specs.Cause.{cause_number}
use Rattle.sources.specs.Frame.{word, stepped, reading}
use Rattle.sources.specs.Records.{record_step, records_from}
use Rattle.sources.specs.declared.block.Block.{Block}
use Rattle.plan.specs.declared.seam.Seam.{Seam}
use Rattle.plan.specs.declared.seam.Seam.TheVariants.{BayOutOfOrder, Overlap, Gap}
use Rattle.plan.specs.declared.seam.Joint.{Joint}
use Rattle.plan.specs.declared.bays.Standing.{Standing}
use Rattle.plan.specs.declared.bays.Laid.{Laid}
use Rattle.plan.specs.declared.account.Account.{Account}
use Rattle.plan.specs.Seam.{seam_from, is_overlap, is_long_gap, one_if, count}
use Rattle.plan.specs.Pass.{Close, Sound, Passes}
use Rattle.plan.specs.Bays.{later, beside, descent, with_one, nothing_yet, one_further, pairs, descents, of_bay, laid_of}
use Rattle.plan.specs.Account.{account_of, all_clear, nothing_counted, is_there, is_there_with, one_block, HasRoom}
use Rattle.plan.proofs.PassLemmas.{Adjacent, every_two, adjacent, behind}
use Rattle.plan.proofs.BaysLemmas.{joints_at, in_bay, by_bay, same_pairs}
use Rattle.plan.proofs.MinutesLemmas.{Lasting, from_bay, lasting_records}

-- the joints of a bay without a finding
abbrev Clear : Seam → Type 0
Clear s = (is_overlap s ≡ false) × (is_long_gap s ≡ false)

abbrev AllClear : List Joint → Type 0
AllClear [] = Unit {0}
AllClear (j ∷ js) = Clear j.seam × AllClear js

zero_if : (t : Bool) (n : ℕ) → one_if t + n ≡ 0 → (t ≡ false) × (n ≡ 0)
zero_if true n e = absurd (omega arith)
zero_if false n e = (refl, omega arith)

both_zero : (t : Bool) (n : ℕ) → t ≡ false → n ≡ 0 → one_if t + n ≡ 0
both_zero t n e f = ap (λ b. one_if b + n) e ∙ omega arith

counts_clear : (js : List Joint) → count is_overlap js ≡ 0 → count is_long_gap js ≡ 0 → AllClear js
counts_clear [] o g = tt
counts_clear (j ∷ js) o g =
    let p = zero_if (is_overlap j.seam) (count is_overlap js) o in
    let q = zero_if (is_long_gap j.seam) (count is_long_gap js) g in
    ((p.0, q.0), counts_clear js p.1 q.1)

clear_counts : (js : List Joint) → AllClear js → (count is_overlap js ≡ 0) × (count is_long_gap js ≡ 0)
clear_counts [] h = (refl, refl)
clear_counts (j ∷ js) h = let r = clear_counts js h.1 in (both_zero _ _ h.0.0 r.0, both_zero _ _ h.0.1 r.1)

clear_at : (bay : ℕ) (js : List Joint) → AllClear js → AllClear (joints_at bay js)
clear_at bay [] h = tt
clear_at bay (j ∷ js) h = cond_both (eqb j.second.bay bay) (j ∷ joints_at bay js) (joints_at bay js) AllClear (λ t. (h.0, clear_at bay js h.1)) (λ t. clear_at bay js h.1)

clear_from : (js : List Joint) → ((bay : ℕ) → AllClear (joints_at bay js)) → AllClear js
clear_from [] h = tt
clear_from (j ∷ js) h = (
  (subst AllClear (cond-true (eqb j.second.bay j.second.bay) (j ∷ joints_at j.second.bay js) (joints_at j.second.bay js) (eq-eqb j.second.bay j.second.bay refl)) (h j.second.bay)).0,
  clear_from js (λ bay.
      ⊎_elim
      (λ t. (subst AllClear (cond-true (eqb j.second.bay bay) (j ∷ joints_at bay js) (joints_at bay js) t) (h bay)).1)
      (λ t. subst AllClear (cond-false (eqb j.second.bay bay) (j ∷ joints_at bay js) (joints_at bay js) t) (h bay))
      (cases_Bool (eqb j.second.bay bay))),
)

-- one pair
clear_close : (until : ℕ) (b : Block) → Clear (seam_from until b) → (until ≤ b.start) × (b.start < until + 10)
clear_close until b h =
    ⊎_elim
    (λ t. absurd (both_ways true (sym (ap is_overlap (cond-true (ltb b.start until) (Overlap (until - b.start)) (Gap (b.start - until)) t)) ∙ h.0) refl))
    (λ t.
    let le = ltb-false b.start until t in
    let short = leb-false 10 (b.start - until) (sym (ap is_long_gap (cond-false (ltb b.start until) (Overlap (until - b.start)) (Gap (b.start - until)) t)) ∙ h.1) in
    (le, omega (arith, short, le)))
    (cases_Bool (ltb b.start until))

close_clear : (until : ℕ) (b : Block) → until ≤ b.start → b.start < until + 10 → Clear (seam_from until b)
close_clear until b le lt =
    let e = cond-false (ltb b.start until) (Overlap (until - b.start)) (Gap (b.start - until)) (le-ltb b.start until le) in
    let short : b.start - until < 10 = omega (arith, le, lt) in
    (ap is_overlap e, ap is_long_gap e ∙ lt-leb 10 (b.start - until) short)

-- where nothing overlapped the latest end is the last one
last_is_latest : (until : ℕ) (b : Block) → until ≤ b.start → b.start < b.end → later until b.end ≡ b.end
last_is_latest until b le lt = cond-true (ltb until b.end) b.end until (lt-ltb until b.end (omega (arith, le, lt)))

bay_close : (a : Block) (until : ℕ) (bs : List Block) → until ≡ a.end → Lasting bs → AllClear (in_bay (Some (record { last = a; until = until })) bs) → Adjacent Close (a ∷ bs)
bay_close a until [] e l h = tt
bay_close a until (b ∷ bs) e l h =
    let c = clear_close until b h.0 in
    ((omega (arith, e, c.0), omega (arith, e, c.1)), bay_close b (later until b.end) bs (last_is_latest until b c.0 (l 0 b refl)) (λ k d f. l (suc k) d f) h.1)

close_bay : (a : Block) (until : ℕ) (bs : List Block) → until ≡ a.end → Lasting bs → Adjacent Close (a ∷ bs) → AllClear (in_bay (Some (record { last = a; until = until })) bs)
close_bay a until [] e l h = tt
close_bay a until (b ∷ bs) e l h =
    let le : until ≤ b.start = omega (arith, e, h.0.0) in
    (close_clear until b le (omega (arith, e, h.0.1)), close_bay b (later until b.end) bs (last_is_latest until b le (l 0 b refl)) (λ k d f. l (suc k) d f) h.1)

all_close : (us : List Block) → Lasting us → AllClear (in_bay None us) → Adjacent Close us
all_close [] l h = tt
all_close (a ∷ us) l h = bay_close a a.end us refl (λ k d f. l (suc k) d f) h

close_all : (us : List Block) → Lasting us → Adjacent Close us → AllClear (in_bay None us)
close_all [] l h = tt
close_all (a ∷ us) l h = close_bay a a.end us refl (λ k d f. l (suc k) d f) h

lasting_bay : (bay : ℕ) (bs : List Block) → Lasting bs → Lasting (of_bay bay bs)
lasting_bay bay bs l k b e = let r = from_bay bay bs k b e in l r.0 b r.1

-- bays rise
abbrev Rises : Block → Block → Type 0
Rises a b = a.bay ≤ b.bay

fewer : (o : Option Joint) (js : List Joint) → length (with_one o js) ≡ one_if (is_there o) + length js
fewer None js = omega arith
fewer (Some j) js = omega arith

descends : (a b : Block) → is_there (descent (Some a) b) ≡ ltb b.bay a.bay
descends a b =
    ⊎_elim
    (λ t. ap is_there (cond-true (ltb b.bay a.bay) (Some (record { first = a; second = b; until = a.end; seam = BayOutOfOrder })) None t) ∙ sym t)
    (λ t. ap is_there (cond-false (ltb b.bay a.bay) (Some (record { first = a; second = b; until = a.end; seam = BayOutOfOrder })) None t) ∙ sym t)
    (cases_Bool (ltb b.bay a.bay))

order_rises : (last : Option Block) (bs : List Block) → length (descents last bs) ≡ 0 → Adjacent Rises (behind last bs)
order_rises None [] e = tt
order_rises (Some a) [] e = tt
order_rises None (b ∷ bs) e = order_rises (Some b) bs e
order_rises (Some a) (b ∷ bs) e =
    let p = zero_if (is_there (descent (Some a) b)) (length (descents (Some b) bs)) (sym (fewer (descent (Some a) b) (descents (Some b) bs)) ∙ e) in
    (ltb-false b.bay a.bay (sym (descends a b) ∙ p.0), order_rises (Some b) bs p.1)

rises_order : (last : Option Block) (bs : List Block) → Adjacent Rises (behind last bs) → length (descents last bs) ≡ 0
rises_order None [] h = refl
rises_order (Some a) [] h = refl
rises_order None (b ∷ bs) h = rises_order (Some b) bs h
rises_order (Some a) (b ∷ bs) h =
    fewer (descent (Some a) b) (descents (Some b) bs)
    ∙ both_zero _ _ (descends a b ∙ le-ltb b.bay a.bay h.0) (rises_order (Some b) bs h.1)

counts_sound : (bs : List Block) → Lasting bs → length (descents None bs) ≡ 0 → count is_overlap (pairs nothing_yet bs) ≡ 0 → count is_long_gap (pairs nothing_yet bs) ≡ 0 → Sound bs
counts_sound bs l r o g =
    let h = counts_clear (pairs nothing_yet bs) o g in (
      every_two Rises bs (order_rises None bs r),
      λ bay. every_two Close (of_bay bay bs) (all_close (of_bay bay bs) (lasting_bay bay bs l) (subst AllClear (by_bay bay nothing_yet bs) (clear_at bay (pairs nothing_yet bs) h))),
    )

sound_counts : (bs : List Block) → Lasting bs → Sound bs → (length (descents None bs) ≡ 0) × (count is_overlap (pairs nothing_yet bs) ≡ 0) × (count is_long_gap (pairs nothing_yet bs) ≡ 0)
sound_counts bs l s =
    let c = clear_counts (pairs nothing_yet bs) (clear_from (pairs nothing_yet bs) (λ bay.
    subst AllClear (sym (by_bay bay nothing_yet bs)) (close_all (of_bay bay bs) (lasting_bay bay bs l) (adjacent Close (of_bay bay bs) (s.1 bay))))) in
    (rises_order None bs (adjacent Rises bs s.0), c.0, c.1)

pub clear_passes : (bytes : List ℕ) → IsTrue (all_clear (account_of (records_from bytes 0))) ↔ Passes (records_from bytes 0)
clear_passes bytes =
    let steps = records_from bytes 0 in
    let bs = items steps in
    let l = lasting_records bytes 0 in (
      λ e.
          let p = and_parts (eqb (length (faults steps)) 0) _ e in
          let q = and_parts (eqb (count is_overlap (pairs nothing_yet bs)) 0) _ p.1 in
          let r = and_parts (eqb (length (descents None bs)) 0) _ q.1 in (
            nil_from_length (faults steps) (eqb-true _ 0 p.0),
            counts_sound bs l (eqb-true _ 0 r.0) (eqb-true _ 0 q.0) (eqb-true _ 0 r.1),
          ),
      λ h.
          let z = sound_counts bs l h.1 in
          and_from _ _ (eq-eqb (length (faults steps)) 0 (ap length h.0))
          (and_from _ _ (eq-eqb _ 0 z.1) (and_from _ _ (eq-eqb _ 0 z.0) (eq-eqb _ 0 z.2))),
    )

-- one block further
pub record Counted (all : List (Step Block)) (a : Account) (last : Option Block) (bays : ℕ → Option Standing) (ss : List (Step Block)) : Type 0 where
  pub blocks_are : a.blocks + length (items ss) ≡ length (items all)
  pub faults_are : a.faults + length (faults ss) ≡ length (faults all)
  pub pairs_are : a.pairs + length (pairs bays (items ss)) ≡ length (pairs nothing_yet (items all))
  pub overlaps_are : a.overlaps + count is_overlap (pairs bays (items ss)) ≡ count is_overlap (pairs nothing_yet (items all))
  pub out_of_order_are : a.out_of_order + length (descents last (items ss)) ≡ length (descents None (items all))
  pub long_gaps_are : a.long_gaps + count is_long_gap (pairs bays (items ss)) ≡ count is_long_gap (pairs nothing_yet (items all))

count_one : (p : Seam → Bool) (o : Option Joint) (js : List Joint) → count p (with_one o js) ≡ one_if (is_there_with p o) + count p js
count_one p None js = omega arith
count_one p (Some j) js = refl

pub nothing_so_far : (all : List (Step Block)) (bays : ℕ → Option Standing) → ((q : ℕ) → bays q ≡ nothing_yet q) → Counted all nothing_counted None bays all
nothing_so_far all bays h =
    let same = same_pairs bays nothing_yet h (items all) in
    record {
      blocks_are = omega arith;
      faults_are = omega arith;
      pairs_are = omega (arith, ap length same);
      overlaps_are = omega (arith, ap (count is_overlap) same);
      out_of_order_are = omega arith;
      long_gaps_are = omega (arith, ap (count is_long_gap) same);
    }

-- what a call answers tells the first step
pub at_item : (b : Block) (ss : List (Step Block)) → first ss ≡ Ok (Item b) → ss ≡ Ok b ∷ rest ss
at_item b [] e = absurd (cc)
at_item b (Ok c ∷ ss) e = cc
at_item b (Err f ∷ ss) e = absurd (cc)

pub at_fault : (f : Fault) (ss : List (Step Block)) → first ss ≡ Err f → ss ≡ Err f ∷ rest ss
at_fault f [] e = absurd (cc)
at_fault f (Ok c ∷ ss) e = absurd (cc)
at_fault f (Err g ∷ ss) e = cc

pub at_end : (ss : List (Step Block)) → first ss ≡ Ok End → ss ≡ []
at_end [] e = refl
at_end (Ok c ∷ ss) e = absurd (cc)
at_end (Err g ∷ ss) e = absurd (cc)

pub counted_block : (all : List (Step Block)) (a new : Account) (last : Option Block) (bays news : ℕ → Option Standing) (b : Block) (ss : List (Step Block)) (l : Laid) →
    Counted all a last bays (Ok b ∷ ss) → l ≡ laid_of last (bays b.bay) b → ((q : ℕ) → news q ≡ one_further bays b q) → new ≡ one_block a l → Counted all new (Some b) news ss
counted_block all a new last bays news b ss l c laid further e =
    let more = pairs (one_further bays b) (items ss) in
    let same : pairs news (items ss) ≡ more = same_pairs news (one_further bays b) further (items ss) in
    let is : new ≡ one_block a (laid_of last (bays b.bay) b) = e ∙ ap (one_block a) laid in
    record {
      blocks_are = omega (arith, c.blocks_are, ap (λ (x : Account). x.blocks) is);
      faults_are = omega (arith, c.faults_are, ap (λ (x : Account). x.faults) is);
      pairs_are = omega (arith, c.pairs_are, ap (λ (x : Account). x.pairs) is, fewer (beside (bays b.bay) b) more, ap length same);
      overlaps_are = omega (arith, c.overlaps_are, ap (λ (x : Account). x.overlaps) is, count_one is_overlap (beside (bays b.bay) b) more, ap (count is_overlap) same);
      out_of_order_are = omega (arith, c.out_of_order_are, ap (λ (x : Account). x.out_of_order) is, fewer (descent last b) (descents (Some b) (items ss)));
      long_gaps_are = omega (arith, c.long_gaps_are, ap (λ (x : Account). x.long_gaps) is, count_one is_long_gap (beside (bays b.bay) b) more, ap (count is_long_gap) same);
    }

pub all_counted : (all : List (Step Block)) (a : Account) (last : Option Block) (bays : ℕ → Option Standing) → Counted all a last bays [] → a ≡ account_of all
all_counted all a last bays c =
    let p : a.blocks ≡ length (items all) = omega (arith, c.blocks_are) in
    let q : a.faults ≡ length (faults all) = omega (arith, c.faults_are) in
    let r : a.pairs ≡ length (pairs nothing_yet (items all)) = omega (arith, c.pairs_are) in
    let s : a.overlaps ≡ count is_overlap (pairs nothing_yet (items all)) = omega (arith, c.overlaps_are) in
    let t : a.out_of_order ≡ length (descents None (items all)) = omega (arith, c.out_of_order_are) in
    let u : a.long_gaps ≡ count is_long_gap (pairs nothing_yet (items all)) = omega (arith, c.long_gaps_are) in
    λ i. record { blocks = p i; faults = q i; pairs = r i; overlaps = s i; out_of_order = t i; long_gaps = u i }

-- every count fits
pairs_few : (bays : ℕ → Option Standing) (bs : List Block) → length (pairs bays bs) ≤ length bs
pairs_few bays [] = omega arith
pairs_few bays (b ∷ bs) = few (bays b.bay) (pairs (one_further bays b) bs) (pairs_few (one_further bays b) bs)
  where
    few : (o : Option Standing) (js : List Joint) → length js ≤ length bs → length (with_one (beside o b) js) ≤ suc (length bs)
    few None js e = omega arith
    few (Some s) js e = omega arith

pairs_fewer : (bs : List Block) → length (pairs nothing_yet bs) ≤ length bs - 1
pairs_fewer [] = omega arith
pairs_fewer (b ∷ bs) = omega (arith, pairs_few (one_further nothing_yet b) bs)

descents_few : (last : Option Block) (bs : List Block) → length (descents last bs) ≤ length bs
descents_few last [] = omega arith
descents_few None (b ∷ bs) = omega (arith, descents_few (Some b) bs)
descents_few (Some a) (b ∷ bs) =
    cond_both (ltb b.bay a.bay) (Some (record { first = a; second = b; until = a.end; seam = BayOutOfOrder })) None
    (λ o. length (with_one o (descents (Some b) bs)) ≤ suc (length bs))
    (λ t. omega (arith, descents_few (Some b) bs))
    (λ t. omega (arith, descents_few (Some b) bs))

descents_fewer : (bs : List Block) → length (descents None bs) ≤ length bs - 1
descents_fewer [] = omega arith
descents_fewer (b ∷ bs) = omega (arith, descents_few (Some b) bs)

count_few : (p : Seam → Bool) (js : List Joint) → count p js ≤ length js
count_few p [] = omega arith
count_few p (j ∷ js) = few (p j.seam) (count p js) (count_few p js)
  where
    few : (t : Bool) (n : ℕ) → n ≤ length js → one_if t + n ≤ suc (length js)
    few true n e = omega arith
    few false n e = omega arith

items_few : (ss : List (Step Block)) → length (items ss) + length (faults ss) ≤ length ss
items_few [] = omega arith
items_few (Ok b ∷ ss) = omega (arith, items_few ss)
items_few (Err f ∷ ss) = omega (arith, items_few ss)

reading_few : (n p : ℕ) (bytes : List ℕ) → length (reading record_step n p bytes) ≤ n
reading_few zero p bytes = omega arith
reading_few (suc n) p [] = omega arith
reading_few (suc n) p (a ∷ []) = omega arith
reading_few (suc n) p (a ∷ (b ∷ [])) = omega arith
reading_few (suc n) p (a ∷ (b ∷ (c ∷ []))) = omega arith
reading_few (suc n) p (l0 ∷ (l1 ∷ (k0 ∷ (k1 ∷ bytes)))) =
    let w = word l0 l1 in
    let payload = take w bytes in
    cond_both (ltb (length bytes) w) (Err (cause_number CutPayload))
    (Ok (record { kind = word k0 k1; payload = payload; behind = drop w bytes }))
    (λ r. length (stepped record_step p (reading record_step n) r) ≤ suc n)
    (λ t. omega arith)
    (λ t. omega (arith, reading_few n (p + 4 + length payload) (drop w bytes)))

pub records_few : (bytes : List ℕ) → length (records_from bytes 0) ≤ length bytes
records_few bytes = omega (arith, reading_few (length (drop 0 bytes)) 0 (drop 0 bytes), length-drop 0 bytes)

pub block_fits : (all : List (Step Block)) (a : Account) (last : Option Block) (bays : ℕ → Option Standing) (b : Block) (ss : List (Step Block)) →
    Counted all a last bays (Ok b ∷ ss) → length all < 2 ^ 64 → HasRoom a
block_fits all a last bays b ss c small =
    let few = items_few all in
    let p = pairs_fewer (items all) in
    let d = descents_fewer (items all) in
    record {
      blocks = omega (arith, c.blocks_are, few, small);
      pairs = omega (arith, c.blocks_are, c.pairs_are, p, few, small);
      overlaps = omega (arith, c.blocks_are, c.overlaps_are, count_few is_overlap (pairs nothing_yet (items all)), p, few, small);
      out_of_order = omega (arith, c.blocks_are, c.out_of_order_are, d, few, small);
      long_gaps = omega (arith, c.blocks_are, c.long_gaps_are, count_few is_long_gap (pairs nothing_yet (items all)), p, few, small);
    }

pub fault_fits : (all : List (Step Block)) (a : Account) (last : Option Block) (bays : ℕ → Option Standing) (f : Fault) (ss : List (Step Block)) →
    Counted all a last bays (Err f ∷ ss) → length all < 2 ^ 64 → a.faults + 1 < 2 ^ 64
fault_fits all a last bays f ss c small = omega (arith, c.faults_are, items_few all, small)

pub counted_fault : (all : List (Step Block)) (a new : Account) (last : Option Block) (bays : ℕ → Option Standing) (f : Fault) (ss : List (Step Block)) →
    Counted all a last bays (Err f ∷ ss) → new ≡ record a { faults = a.faults + 1 } → Counted all new last bays ss
counted_fault all a new last bays f ss c is = record {
  blocks_are = omega (arith, c.blocks_are, ap (λ (x : Account). x.blocks) is);
  faults_are = omega (arith, c.faults_are, ap (λ (x : Account). x.faults) is);
  pairs_are = omega (arith, c.pairs_are, ap (λ (x : Account). x.pairs) is);
  overlaps_are = omega (arith, c.overlaps_are, ap (λ (x : Account). x.overlaps) is);
  out_of_order_are = omega (arith, c.out_of_order_are, ap (λ (x : Account). x.out_of_order) is);
  long_gaps_are = omega (arith, c.long_gaps_are, ap (λ (x : Account). x.long_gaps) is);
}
