-- The lines of the report, and the last one.
use Rattle.std.proofs.Common.{◌≡◌, ℕ, zero, suc, ◌+◌, ◌-◌, ◌^◌, ◌<◌, ◌≤◌, true, false, cond, eqb, ltb, take, replicate, get_or, List, [], ◌∷◌, ◌++◌, length, length-append, Some, None, Option, codes, decimal, sym, refl, ap, ◌∙◌, subst, ⊎_elim, add-one, arith}
use Rattle.std.specs.List.{list_all, slice_get, flat_map}
use Rattle.std.proofs.lemmas.List.{append_assoc, append-nil, append_cancel_right}
use Rattle.std.proofs.lemmas.List.Folds.{list_all-append}
use Rattle.std.proofs.lemmas.Bool.{and_parts, and_from, both_ways, cases_lt, cases_Bool, cond_both, cond-true, cond-false, eq-eqb, ne_eqb, lt-ltb, le-ltb}
use Rattle.std.specs.Io.KnownBytes.{Appends}
use Rattle.std.proofs.KnownBytes.{Appends-trans}
use Rattle.std.proofs.lemmas.Fmt.{decimal_by_steps}
use Rattle.steps.specs.declared.fault.Fault.{Fault}
use Rattle.laws.specs.Items.{items, faults}
use Rattle.sources.specs.Records.{records_from}
use Rattle.sources.specs.declared.block.Block.{Block}
use Rattle.sources.specs.Cause.{number_text}
use Rattle.plan.specs.declared.seam.Seam.{Seam}
use Rattle.plan.specs.declared.seam.Seam.TheVariants.{BayOutOfOrder, Overlap, Gap}
use Rattle.plan.specs.declared.seam.Joint.{Joint}
use Rattle.plan.specs.declared.bays.Standing.{Standing}
use Rattle.plan.specs.declared.account.Account.{Account}
use Rattle.plan.specs.Seam.{seam_from}
use Rattle.plan.specs.Bays.{beside, descent, with_one, nothing_yet, one_further, pairs, joints, of_bay, latest}
use Rattle.plan.specs.Pass.{Passes}
use Rattle.plan.specs.Account.{account_of, all_clear}
use Rattle.plan.specs.Columns.{padded, bay_text, stay, taken_text}
use Rattle.plan.specs.Text.{block_line, fault_line, seam_line, joint_line, count_line, blocks_line, blocks_text, faults_text, joints_text, account_text}
use Rattle.plan.specs.Outcome.{mark, with_reason, failed_line, verdict_line, name_line, report_text, in_line, OneLine, WholeLines, LastLine, HasLine, front, TellsPairs, TellsOrder, over_bays, Tells}
use Rattle.plan.proofs.PassLemmas.{behind}
use Rattle.plan.proofs.BaysLemmas.{joints_at, pair_at, each_bay, one_fewer}
use Rattle.plan.proofs.AccountLemmas.{clear_passes}
use Rattle.plan.proofs.MinutesLemmas.{no_ten_minutes, lasting_records}

-- a failed verdict begins with its two words
abbrev Grows : List ℕ → List ℕ → Type 0
Grows line longer = (why : List ℕ) × (longer ≡ line ++ why)

one_more : (line : List ℕ) (n : ℕ) (reason : List ℕ) → Grows line (with_reason line n reason)
one_more line n reason =
    cond_both (eqb n 0) line (line ++ (mark line ++ (reason ++ (codes " " ++ decimal n)))) (Grows line)
    (λ e. ([], sym (append-nil line)))
    (λ e. (mark line ++ (reason ++ (codes " " ++ decimal n)), refl))

grows_on : (a b c : List ℕ) → Grows a b → Grows b c → Grows a c
grows_on a b c p q = (p.0 ++ q.0, q.1 ∙ ap (λ us. us ++ q.0) p.1 ∙ append_assoc a p.0 q.0)

pub begins_failed : (t : Account) → (why : List ℕ) × (failed_line t ≡ codes "plan failed" ++ why)
unfolding failed_line
begins_failed t =
    let start = codes "plan failed" in
    let first = with_reason start t.faults (codes "faulty records") in
    let second = with_reason first t.overlaps (codes "overlaps") in
    let third = with_reason second t.out_of_order (codes "bays out of order") in
    let fourth = with_reason third t.long_gaps (codes "gaps of ten minutes or more") in
    grows_on start third fourth
    (grows_on start second third
    (grows_on start first second (one_more start t.faults (codes "faulty records")) (one_more first t.overlaps (codes "overlaps")))
    (one_more second t.out_of_order (codes "bays out of order")))
    (one_more third t.long_gaps (codes "gaps of ten minutes or more"))

-- behind one reason the next one has a comma
pub comma_after : (line m reason : List ℕ) (n : ℕ) → 11 ≤ length line → mark (line ++ (m ++ (reason ++ (codes " " ++ decimal n)))) ≡ codes ", "
comma_after line m reason n long =
    let longer : length (line ++ (m ++ (reason ++ (codes " " ++ decimal n)))) ≡ length line + (length m + (length reason + (1 + length (decimal n)))) = simp length-append in
    cond-false _ (codes ": ") (codes ", ") (ne_eqb _ 11 (λ e. omega (arith, longer, long, e)))

pub with_more : (line m reason new : List ℕ) (n : ℕ) → (n ≡ 0 → ⊥) → m ≡ mark line → new ≡ line ++ (m ++ (reason ++ (codes " " ++ decimal n))) → new ≡ with_reason line n reason
with_more line m reason new n some is e =
    e ∙ ap (λ s. line ++ (s ++ (reason ++ (codes " " ++ decimal n)))) is ∙ sym (cond-false _ line (line ++ (mark line ++ (reason ++ (codes " " ++ decimal n)))) (ne_eqb n 0 some))

pub with_none : (line reason : List ℕ) (n : ℕ) → n ≡ 0 → line ≡ with_reason line n reason
with_none line reason n none = sym (cond-true _ line (line ++ (mark line ++ (reason ++ (codes " " ++ decimal n)))) (eq-eqb n 0 none))

-- no line feed
pub both_one_line : (xs bs : List ℕ) → OneLine xs → OneLine bs → OneLine (xs ++ bs)
both_one_line xs bs p q = list_all-append in_line xs bs ∙ and_from _ _ p q

left_one_line : (xs bs : List ℕ) → OneLine (xs ++ bs) → OneLine xs
left_one_line xs bs p = (and_parts _ _ (sym (list_all-append in_line xs bs) ∙ p)).0

right_one_line : (xs bs : List ℕ) → OneLine (xs ++ bs) → OneLine bs
right_one_line xs bs p = (and_parts _ _ (sym (list_all-append in_line xs bs) ∙ p)).1

digit_in_line : (c : ℕ) → 48 ≤ c → OneLine (c ∷ [])
digit_in_line c h = and_from _ _ (cond-false _ false true (ne_eqb c 10 (λ e. omega (arith, h, e)))) refl

pub decimal_one_line : (n : ℕ) → n < 2 ^ 64 → OneLine (decimal n)
decimal_one_line = decimal_by_steps (λ n ds. OneLine ds)
    (λ n h. digit_in_line (48 + n) (omega arith))
    (λ n ds h p. both_one_line ds ((48 + _) ∷ []) p (digit_in_line (48 + _) (omega arith)))

reason_one_line : (line : List ℕ) (n : ℕ) (reason : List ℕ) → n < 2 ^ 64 → OneLine line → OneLine reason → OneLine (with_reason line n reason)
reason_one_line line n reason small p q =
    cond_both (eqb n 0) line (line ++ (mark line ++ (reason ++ (codes " " ++ decimal n)))) OneLine
    (λ e. p)
    (λ e. both_one_line line (mark line ++ (reason ++ (codes " " ++ decimal n))) p
    (both_one_line (mark line) (reason ++ (codes " " ++ decimal n)) (cond_both (eqb (length line) 11) (codes ": ") (codes ", ") OneLine (λ f. refl) (λ f. refl))
    (both_one_line reason (codes " " ++ decimal n) q (both_one_line (codes " ") (decimal n) refl (decimal_one_line n small)))))

pub record Fits (t : Account) : Type 0 where
  pub faults : t.faults < 2 ^ 64
  pub overlaps : t.overlaps < 2 ^ 64
  pub out_of_order : t.out_of_order < 2 ^ 64
  pub long_gaps : t.long_gaps < 2 ^ 64

pub failed_one_line : (t : Account) → Fits t → OneLine (failed_line t)
unfolding failed_line
failed_one_line t f =
    reason_one_line _ t.long_gaps (codes "gaps of ten minutes or more") f.long_gaps
    (reason_one_line _ t.out_of_order (codes "bays out of order") f.out_of_order
    (reason_one_line _ t.overlaps (codes "overlaps") f.overlaps
    (reason_one_line (codes "plan failed") t.faults (codes "faulty records") f.faults refl refl) refl) refl) refl

-- whole lines
pub behind_whole : (xs bs : List ℕ) → WholeLines bs → 0 < length bs → WholeLines (xs ++ bs)
behind_whole [] bs p h = p
behind_whole (a ∷ []) [] p h = absurd (omega arith)
behind_whole (a ∷ []) (b ∷ bs) p h = p
behind_whole (a ∷ (c ∷ xs)) bs p h = behind_whole (c ∷ xs) bs p h

fewer_whole : (a : ℕ) (xs : List ℕ) → WholeLines (a ∷ xs) → WholeLines xs
fewer_whole a [] p = tt
fewer_whole a (b ∷ xs) p = p

-- a text that is whole lines, and not empty, has a line feed
feed_inside : {X : Type 0} (a : ℕ) (xs : List ℕ) → WholeLines (a ∷ xs) → OneLine (a ∷ xs) → X
feed_inside a [] p q = absurd (both_ways _ (cond-true (eqb a 10) false true (eq-eqb a 10 p)) (and_parts _ _ q).0)
feed_inside a (b ∷ xs) p q = feed_inside b xs p (and_parts _ _ q).1

-- a text has one last line
one_last : (before line before' line' : List ℕ) → WholeLines before → WholeLines before' → OneLine line → OneLine line' → before ++ line ≡ before' ++ line' → line ≡ line'
one_last [] l [] l' w w' s s' e = e
one_last [] l (b ∷ bs) l' w w' s s' e = feed_inside b bs w' (left_one_line (b ∷ bs) l' (ap (list_all in_line) (sym e) ∙ s))
one_last (a ∷ xs) l [] l' w w' s s' e = feed_inside a xs w (left_one_line (a ∷ xs) l (ap (list_all in_line) e ∙ s'))
one_last (a ∷ xs) l (b ∷ bs) l' w w' s s' e = one_last xs l bs l' (fewer_whole a xs w) (fewer_whole b bs w') s s' (cc)

pub last_line_is : (text line line' : List ℕ) → LastLine text line → LastLine text line' → line ≡ line'
last_line_is text line line' p q =
    one_last p.before line q.before line' p.begins q.begins p.single q.single
    (append_cancel_right (p.before ++ line) (q.before ++ line') (codes "\n")
    (append_assoc p.before line (codes "\n") ∙ sym p.parts ∙ q.parts ∙ sym (append_assoc q.before line' (codes "\n"))))

-- a text that ends in a line feed is whole lines
both_whole : (xs ys : List ℕ) → WholeLines xs → WholeLines ys → WholeLines (xs ++ ys)
both_whole xs [] p q = subst WholeLines (sym (append-nil xs)) p
both_whole xs (y ∷ ys) p q = behind_whole xs (y ∷ ys) q (omega arith)

abbrev Ended : List ℕ → Type 0
Ended xs = (zs : List ℕ) × (xs ≡ zs ++ codes "\n")

ended_behind : (xs ys : List ℕ) → Ended ys → Ended (xs ++ ys)
ended_behind xs ys p = (xs ++ p.0, ap (λ us. xs ++ us) p.1 ∙ sym (append_assoc xs p.0 (codes "\n")))

ended_whole : (xs : List ℕ) → Ended xs → WholeLines xs
ended_whole xs p = subst WholeLines (sym p.1) (behind_whole p.0 (codes "\n") refl (omega arith))

all_whole : {A : Type 0} (line : A → List ℕ) → ((x : A) → Ended (line x)) → (xs : List A) → WholeLines (flat_map line xs)
all_whole line h [] = tt
all_whole line h (x ∷ xs) = both_whole (line x) (flat_map line xs) (ended_whole (line x) (h x)) (all_whole line h xs)

no_item : {A : Type 0} {X : Type 0} (k : ℕ) (x : A) → slice_get {X = A} [] k ≡ Some x → X
no_item k x e = let z : ◌≡◌ {A = ℕ} 0 1 = cc in absurd (omega arith)

-- the line of an element stands in the lines of the list
line_at : {A : Type 0} (line : A → List ℕ) → ((x : A) → Ended (line x)) → (xs : List A) (i : ℕ) (x : A) (said : List ℕ) → slice_get xs i ≡ Some x → line x ≡ said ++ codes "\n" → HasLine (flat_map line xs) said
line_at line h [] i x said e f = no_item i x e
line_at line h (y ∷ xs) zero x said e f =
    let same : y ≡ x = cc in
    ([], flat_map line xs, ap (λ z. line z ++ flat_map line xs) same ∙ ap (λ us. us ++ flat_map line xs) f ∙ append_assoc said (codes "\n") (flat_map line xs), tt)
line_at line h (y ∷ xs) (suc i) x said e f =
    let r = line_at line h xs i x said e f in
    (line y ++ r.0, r.1, ap (λ us. line y ++ us) r.2 ∙ sym (append_assoc (line y) r.0 (said ++ (codes "\n" ++ r.1))), both_whole (line y) r.0 (ended_whole (line y) (h y)) r.3)

around : (pre b said feed more post : List ℕ) → pre ++ ((b ++ (said ++ (feed ++ more))) ++ post) ≡ (pre ++ b) ++ (said ++ (feed ++ (more ++ post)))
around pre b said feed more post = simp append_assoc

-- a line of a part is a line of the whole
within : (text pre part post said : List ℕ) → HasLine part said → text ≡ pre ++ (part ++ post) → WholeLines pre → HasLine text said
within text pre part post said p e w = (
  pre ++ p.0,
  p.1 ++ post,
  e ∙ ap (λ us. pre ++ (us ++ post)) p.2 ∙ around pre p.0 said (codes "\n") p.1 post,
  both_whole pre p.0 w p.3,
)

only : (part said : List ℕ) → part ≡ said ++ codes "\n" → HasLine part said
only part said e = ([], [], e, tt)

-- each line, and its line feed
block_split : (u a v s f : List ℕ) → u ++ (a ++ (v ++ (s ++ f))) ≡ (u ++ (a ++ (v ++ s))) ++ f
block_split u a v s f = simp append_assoc

block_said : (b : Block) → block_line b ≡ (codes "  " ++ (bay_text b.bay ++ (codes "  " ++ stay b))) ++ codes "\n"
block_said b = block_split (codes "  ") (bay_text b.bay) (codes "  ") (stay b) (codes "\n")

fault_split : (u p d v c w r f : List ℕ) → u ++ ((p ++ d) ++ (v ++ (c ++ (w ++ (r ++ f))))) ≡ (u ++ (p ++ (d ++ (v ++ (c ++ (w ++ r)))))) ++ f
fault_split u p d v c w r f = simp append_assoc

fault_said : (f : Fault) → fault_line f ≡ (codes "  byte " ++ (replicate (7 - length (decimal f.place)) 32 ++ (decimal f.place ++ (codes "  cause " ++ (decimal f.cause ++ (codes ": " ++ number_text f.cause)))))) ++ codes "\n"
unfolding padded
fault_said f = fault_split (codes "  byte ") (replicate (7 - length (decimal f.place)) 32) (decimal f.place) (codes "  cause ") (decimal f.cause) (codes ": ") (number_text f.cause) (codes "\n")

overlap_split : (u a v s w t x d y k f : List ℕ) → u ++ (a ++ (v ++ (s ++ (w ++ (t ++ (x ++ (d ++ (y ++ (k ++ f))))))))) ≡ ((u ++ (a ++ (v ++ (s ++ (w ++ t))))) ++ (x ++ (d ++ (y ++ k)))) ++ f
overlap_split u a v s w t x d y k f = simp append_assoc

overlap_said : (a b : Block) (until m : ℕ) → seam_line a b until (Overlap m) ≡ (front a b ++ (codes "  starts " ++ (decimal m ++ (codes " min too early" ++ taken_text a.end until)))) ++ codes "\n"
overlap_said a b until m = overlap_split (codes "  ") (bay_text a.bay) (codes "  ") (stay a) (codes "  then ") (stay b) (codes "  starts ") (decimal m) (codes " min too early") (taken_text a.end until) (codes "\n")

gap_split : (u a v s w t x p d y k f : List ℕ) → u ++ (a ++ (v ++ (s ++ (w ++ (t ++ (x ++ ((p ++ d) ++ (y ++ (k ++ f))))))))) ≡ ((u ++ (a ++ (v ++ (s ++ (w ++ t))))) ++ (x ++ (p ++ (d ++ (y ++ k))))) ++ f
gap_split u a v s w t x p d y k f = simp append_assoc

gap_said : (a b : Block) (until m : ℕ) → seam_line a b until (Gap m) ≡ (front a b ++ (codes "  " ++ (replicate (4 - length (decimal m)) 32 ++ (decimal m ++ (codes " min unassigned" ++ taken_text a.end until))))) ++ codes "\n"
unfolding padded
gap_said a b until m = gap_split (codes "  ") (bay_text a.bay) (codes "  ") (stay a) (codes "  then ") (stay b) (codes "  ") (replicate (4 - length (decimal m)) 32) (decimal m) (codes " min unassigned") (taken_text a.end until) (codes "\n")

order_split : (u a v d y f : List ℕ) → u ++ (a ++ (v ++ (d ++ (y ++ f)))) ≡ (u ++ (a ++ (v ++ (d ++ y)))) ++ f
order_split u a v d y f = simp append_assoc

order_said : (a b : Block) (until : ℕ) → seam_line a b until BayOutOfOrder ≡ (codes "  " ++ (bay_text a.bay ++ (codes "  is followed by bay " ++ (decimal b.bay ++ codes ": out of order")))) ++ codes "\n"
order_said a b until = order_split (codes "  ") (bay_text a.bay) (codes "  is followed by bay ") (decimal b.bay) (codes ": out of order") (codes "\n")

block_ended : (b : Block) → Ended (block_line b)
block_ended b = (codes "  " ++ (bay_text b.bay ++ (codes "  " ++ stay b)), block_said b)

fault_ended : (f : Fault) → Ended (fault_line f)
fault_ended f = (codes "  byte " ++ (replicate (7 - length (decimal f.place)) 32 ++ (decimal f.place ++ (codes "  cause " ++ (decimal f.cause ++ (codes ": " ++ number_text f.cause))))), fault_said f)

seam_ended : (a b : Block) (until : ℕ) (s : Seam) → Ended (seam_line a b until s)
seam_ended a b until BayOutOfOrder = (codes "  " ++ (bay_text a.bay ++ (codes "  is followed by bay " ++ (decimal b.bay ++ codes ": out of order"))), order_said a b until)
seam_ended a b until (Overlap m) = (front a b ++ (codes "  starts " ++ (decimal m ++ (codes " min too early" ++ taken_text a.end until))), overlap_said a b until m)
seam_ended a b until (Gap m) = (front a b ++ (codes "  " ++ (replicate (4 - length (decimal m)) 32 ++ (decimal m ++ (codes " min unassigned" ++ taken_text a.end until)))), gap_said a b until m)

joint_ended : (j : Joint) → Ended (joint_line j)
joint_ended j = seam_ended j.first j.second j.until j.seam

-- what is laid stands among the joints
abbrev Stands : List Joint → Joint → Type 0
Stands js j = (i : ℕ) × (slice_get js i ≡ Some j)

later_in : (o : Option Joint) (js : List Joint) (j : Joint) → Stands js j → Stands (with_one o js) j
later_in None js j s = s
later_in (Some x) js j s = (suc s.0, s.1)

pick : (o : Option Joint) (ps js : List Joint) (j : Joint) → ((i : ℕ) → slice_get ps i ≡ Some j → Stands js j) → (i : ℕ) → slice_get (with_one o ps) i ≡ Some j → Stands (with_one o js) j
pick None ps js j h i e = h i e
pick (Some x) ps js j h zero e = (0, e)
pick (Some x) ps js j h (suc i) e = let r = h i e in (suc r.0, r.1)

pairs_stand : (last : Option Block) (bays : ℕ → Option Standing) (bs : List Block) (j : Joint) (i : ℕ) → slice_get (pairs bays bs) i ≡ Some j → Stands (joints last bays bs) j
pairs_stand last bays [] j i e = no_item i j e
pairs_stand last bays (b ∷ bs) j i e =
    later_in (descent last b) (with_one (beside (bays b.bay) b) (joints (Some b) (one_further bays b) bs)) j
    (pick (beside (bays b.bay) b) (pairs (one_further bays b) bs) (joints (Some b) (one_further bays b) bs) j (λ n f. pairs_stand (Some b) (one_further bays b) bs j n f) i e)

in_front : (x : Joint) (js us : List Joint) (j : Joint) → ((n : ℕ) → slice_get us n ≡ Some j → Stands js j) → (k : ℕ) → slice_get (x ∷ us) k ≡ Some j → Stands (x ∷ js) j
in_front x js us j more zero e = (0, e)
in_front x js us j more (suc k) e = let r = more k e in (suc r.0, r.1)

from_at : (bay : ℕ) (js : List Joint) (k : ℕ) (j : Joint) → slice_get (joints_at bay js) k ≡ Some j → Stands js j
from_at bay [] k j e = no_item k j e
from_at bay (x ∷ js) k j e =
    ⊎_elim
    (λ t. in_front x js (joints_at bay js) j (λ n f. from_at bay js n j f) k (ap (λ us. slice_get us k) (sym (cond-true (eqb x.second.bay bay) (x ∷ joints_at bay js) (joints_at bay js) t)) ∙ e))
    (λ t. let r = from_at bay js k j (ap (λ us. slice_get us k) (sym (cond-false (eqb x.second.bay bay) (x ∷ joints_at bay js) (joints_at bay js) t)) ∙ e) in (suc r.0, r.1))
    (cases_Bool (eqb x.second.bay bay))

down : Block → Block → Joint
down a b = record { first = a; second = b; until = a.end; seam = BayOutOfOrder }

order_in : (last : Option Block) (bays : ℕ → Option Standing) (bs : List Block) (k : ℕ) (a b : Block) → slice_get (behind last bs) k ≡ Some a → slice_get (behind last bs) (suc k) ≡ Some b → b.bay < a.bay → Stands (joints last bays bs) (down a b)
order_in None bays [] k a b e f lt = no_item k a e
order_in None bays (x ∷ bs) k a b e f lt =
    later_in (beside (bays x.bay) x) (joints (Some x) (one_further bays x) bs) (down a b) (order_in (Some x) (one_further bays x) bs k a b e f lt)
order_in (Some y) bays [] k a b e f lt = no_item k b f
order_in (Some y) bays (x ∷ bs) zero a b e f lt =
    let first : y ≡ a = cc in
    let second : x ≡ b = cc in
    let more = with_one (beside (bays x.bay) x) (joints (Some x) (one_further bays x) bs) in
    let at : descent (Some a) b ≡ Some (down a b) = unfold down in cond-true (ltb b.bay a.bay) (Some (record { first = a; second = b; until = a.end; seam = BayOutOfOrder })) None (lt-ltb b.bay a.bay lt) in
    let here : descent (Some y) x ≡ Some (down a b) = ap (λ (u : Block). descent (Some u) x) first ∙ ap (descent (Some a)) second ∙ at in
    (0, ap (λ o. slice_get (with_one o more) 0) here)
order_in (Some y) bays (x ∷ bs) (suc k) a b e f lt =
    later_in (descent (Some y) x) (with_one (beside (bays x.bay) x) (joints (Some x) (one_further bays x) bs)) (down a b)
    (later_in (beside (bays x.bay) x) (joints (Some x) (one_further bays x) bs) (down a b) (order_in (Some x) (one_further bays x) bs k a b e f lt))

tells_pairs : (blocks : List Block) → TellsPairs blocks (joints_text blocks)
tells_pairs blocks bay k a b f g =
    let us = of_bay bay blocks in
    let until = latest (take (k + 1) us) in
    let js = joints None nothing_yet blocks in
    let j : Joint = record { first = a; second = b; until = until; seam = seam_from until b } in
    let at : slice_get (joints_at bay (pairs nothing_yet blocks)) k ≡ Some j = each_bay blocks bay k ∙ ap (λ o. pair_at until o (slice_get us (k + 1))) f ∙ ap (pair_at until (Some a)) g in
    let p = from_at bay (pairs nothing_yet blocks) k j at in
    let s = pairs_stand None nothing_yet blocks j p.0 p.1 in (
      λ lt. line_at joint_line joint_ended js s.0 j (front a b ++ (codes "  starts " ++ (decimal (until - b.start) ++ (codes " min too early" ++ taken_text a.end until)))) s.1
          (ap (seam_line a b until) (cond-true (ltb b.start until) (Overlap (until - b.start)) (Gap (b.start - until)) (lt-ltb b.start until lt)) ∙ overlap_said a b until (until - b.start)),
      λ le. (
        4 - length (decimal (b.start - until)),
        line_at joint_line joint_ended js s.0 j (front a b ++ (codes "  " ++ (replicate (4 - length (decimal (b.start - until))) 32 ++ (decimal (b.start - until) ++ (codes " min unassigned" ++ taken_text a.end until))))) s.1
            (ap (seam_line a b until) (cond-false (ltb b.start until) (Overlap (until - b.start)) (Gap (b.start - until)) (le-ltb b.start until le)) ∙ gap_said a b until (b.start - until)),
      ),
    )

tells_order : (blocks : List Block) → TellsOrder blocks (joints_text blocks)
unfolding down
tells_order blocks k a b e f lt =
    let s = order_in None nothing_yet blocks k a b e (ap (slice_get blocks) (sym (add-one k)) ∙ f) lt in
    line_at joint_line joint_ended (joints None nothing_yet blocks) s.0 (down a b) (codes "  " ++ (bay_text a.bay ++ (codes "  is followed by bay " ++ (decimal b.bay ++ codes ": out of order")))) s.1 (order_said a b a.end)

-- how many pairs
over_same : (f g : ℕ → ℕ) (n : ℕ) → ((q : ℕ) → q < n → f q ≡ g q) → over_bays f n ≡ over_bays g n
over_same f g zero h = refl
over_same f g (suc n) h = ap (λ m. m + over_bays f n) (h n (omega arith)) ∙ ap (λ m. g n + m) (over_same f g n (λ q lt. h q (omega (arith, lt))))

over_none : (n : ℕ) → 0 ≡ over_bays (λ q. 0) n
over_none zero = refl
over_none (suc n) = over_none n ∙ omega arith

over_one : (bay : ℕ) (j : Joint) (js : ℕ → List Joint) (n : ℕ) → bay < n → over_bays (λ q. length (cond (eqb bay q) (j ∷ js q) (js q))) n ≡ suc (over_bays (λ q. length (js q)) n)
over_one bay j js zero lt = absurd (omega (arith, lt))
over_one bay j js (suc n) lt =
    let f : ℕ → ℕ = λ q. length (cond (eqb bay q) (j ∷ js q) (js q)) in
    let g : ℕ → ℕ = λ q. length (js q) in
    ⊎_elim
    (λ less.
    let at : f n ≡ g n = ap length (cond-false (eqb bay n) (j ∷ js n) (js n) (ne_eqb bay n (λ e. omega (arith, e, less)))) in
    omega (arith, at, over_one bay j js n less))
    (λ more.
    let at : f n ≡ suc (g n) = ap length (cond-true (eqb bay n) (j ∷ js n) (js n) (eq-eqb bay n (omega (arith, lt, more)))) in
    let others : over_bays f n ≡ over_bays g n = over_same f g n (λ q small. ap length (cond-false (eqb bay q) (j ∷ js q) (js q) (ne_eqb bay q (λ e. omega (arith, e, small, more))))) in
    omega (arith, at, others))
    (cases_lt bay n)

abbrev Below : ℕ → List Joint → Type 0
Below n [] = Unit {0}
Below n (j ∷ js) = (j.second.bay < n) × Below n js

below_one : (n : ℕ) (o : Option Standing) (b : Block) (js : List Joint) → b.bay < n → Below n js → Below n (with_one (beside o b) js)
below_one n None b js lt h = h
below_one n (Some s) b js lt h = (lt, h)

below_pairs : (n : ℕ) (bays : ℕ → Option Standing) (bs : List Block) → ((k : ℕ) (b : Block) → slice_get bs k ≡ Some b → b.bay < n) → Below n (pairs bays bs)
below_pairs n bays [] h = tt
below_pairs n bays (b ∷ bs) h = below_one n (bays b.bay) b (pairs (one_further bays b) bs) (h 0 b refl) (below_pairs n (one_further bays b) bs (λ k d e. h (suc k) d e))

by_bays : (n : ℕ) (js : List Joint) → Below n js → length js ≡ over_bays (λ bay. length (joints_at bay js)) n
by_bays n [] h = over_none n
by_bays n (j ∷ js) h = ap suc (by_bays n js h.1) ∙ sym (over_one j.second.bay j (λ bay. joints_at bay js) n h.0)

pair_total : (blocks : List Block) (n : ℕ) → ((k : ℕ) (b : Block) → slice_get blocks k ≡ Some b → b.bay < n) → length (pairs nothing_yet blocks) ≡ over_bays (λ bay. length (of_bay bay blocks) - 1) n
pair_total blocks n h =
    by_bays n (pairs nothing_yet blocks) (below_pairs n nothing_yet blocks h)
    ∙ over_same (λ bay. length (joints_at bay (pairs nothing_yet blocks))) (λ bay. length (of_bay bay blocks) - 1) n (λ q lt. one_fewer blocks q)

-- the parts of the report
module _ (l a b c d e f g v : List ℕ) where
  pos_a : l ++ ((a ++ (b ++ (c ++ (d ++ (e ++ (f ++ g)))))) ++ v) ≡ l ++ (a ++ ((b ++ (c ++ (d ++ (e ++ (f ++ g))))) ++ v))
  pos_a = simp append_assoc

  pos_b : l ++ ((a ++ (b ++ (c ++ (d ++ (e ++ (f ++ g)))))) ++ v) ≡ (l ++ a) ++ (b ++ ((c ++ (d ++ (e ++ (f ++ g)))) ++ v))
  pos_b = simp append_assoc

  pos_c : l ++ ((a ++ (b ++ (c ++ (d ++ (e ++ (f ++ g)))))) ++ v) ≡ (l ++ (a ++ b)) ++ (c ++ ((d ++ (e ++ (f ++ g))) ++ v))
  pos_c = simp append_assoc

  pos_d : l ++ ((a ++ (b ++ (c ++ (d ++ (e ++ (f ++ g)))))) ++ v) ≡ (l ++ (a ++ (b ++ c))) ++ (d ++ ((e ++ (f ++ g)) ++ v))
  pos_d = simp append_assoc

  pos_f : l ++ ((a ++ (b ++ (c ++ (d ++ (e ++ (f ++ g)))))) ++ v) ≡ (l ++ (a ++ (b ++ (c ++ (d ++ e))))) ++ (f ++ (g ++ v))
  pos_f = simp append_assoc

  pos_g : l ++ ((a ++ (b ++ (c ++ (d ++ (e ++ (f ++ g)))))) ++ v) ≡ (l ++ (a ++ (b ++ (c ++ (d ++ (e ++ f)))))) ++ (g ++ v)
  pos_g = simp append_assoc

count_ended : (what : List ℕ) (n : ℕ) → Ended (count_line what n)
count_ended what n = ended_behind what (decimal n ++ codes "\n") (ended_behind (decimal n) (codes "\n") ([], refl))

count_said : (what : List ℕ) (n : ℕ) → count_line what n ≡ (what ++ decimal n) ++ codes "\n"
count_said what n = sym (append_assoc what (decimal n) (codes "\n"))

blocks_ended : (n : ℕ) → Ended (blocks_line n)
blocks_ended n = cond_both (eqb n 0) (codes "no blocks\n") (count_line (codes "blocks: ") n) Ended (λ t. (codes "no blocks", refl)) (λ t. count_ended (codes "blocks: ") n)

name_split : (u n c d y f : List ℕ) → u ++ (n ++ (c ++ (d ++ (y ++ f)))) ≡ (u ++ (n ++ (c ++ (d ++ y)))) ++ f
name_split u n c d y f = simp append_assoc

name_said : (name : List ℕ) (n : ℕ) → name_line name n ≡ (codes "plan: " ++ (name ++ (codes ", " ++ (decimal n ++ codes " bytes")))) ++ codes "\n"
name_said name n = name_split (codes "plan: ") name (codes ", ") (decimal n) (codes " bytes") (codes "\n")

not_both : {X : Type 0} (why : List ℕ) → codes "plan passed" ≡ codes "plan failed" ++ why → X
not_both why e = let z : ◌≡◌ {A = ℕ} 112 102 = ap (λ us. get_or us 5 0) e in absurd (omega (arith, z))

when_clear : (a : Account) → all_clear a ≡ true → verdict_line a ≡ codes "plan passed"
when_clear a e = cond-true (all_clear a) (codes "plan passed") (failed_line a) e

when_not : (a : Account) → all_clear a ≡ false → (why : List ℕ) × (verdict_line a ≡ codes "plan failed" ++ why)
when_not a e = let w = begins_failed a in (w.0, cond-false (all_clear a) (codes "plan passed") (failed_line a) e ∙ w.1)

pub tells : (name bytes text : List ℕ) → text ≡ report_text name bytes → OneLine (verdict_line (account_of (records_from bytes 0))) → Tells name bytes text
unfolding report_text
tells name bytes text is single =
    let steps = records_from bytes 0 in
    let account = account_of steps in
    let bs = items steps in
    let fs = faults steps in
    let l = name_line name (length bytes) in
    let a = blocks_line (length bs) in
    let b = blocks_text bs in
    let c = count_line (codes "faulty records: ") (length fs) in
    let d = faults_text fs in
    let e = codes "neighbours\n" in
    let f = joints_text bs in
    let g = count_line (codes "pairs: ") (length (pairs nothing_yet bs)) in
    let v = verdict_line account ++ codes "\n" in
    let wl : WholeLines l = ended_whole l (codes "plan: " ++ (name ++ (codes ", " ++ (decimal (length bytes) ++ codes " bytes"))), name_said name (length bytes)) in
    let wa : WholeLines a = ended_whole a (blocks_ended (length bs)) in
    let wb : WholeLines b = all_whole block_line block_ended bs in
    let wc : WholeLines c = ended_whole c (count_ended (codes "faulty records: ") (length fs)) in
    let wd : WholeLines d = all_whole fault_line fault_ended fs in
    let we : WholeLines e = refl in
    let wf : WholeLines f = all_whole joint_line joint_ended (joints None nothing_yet bs) in
    let wg : WholeLines g = ended_whole g (count_ended (codes "pairs: ") (length (pairs nothing_yet bs))) in
    let to_b : WholeLines (l ++ a) = both_whole l a wl wa in
    let to_c : WholeLines (l ++ (a ++ b)) = both_whole l (a ++ b) wl (both_whole a b wa wb) in
    let to_d : WholeLines (l ++ (a ++ (b ++ c))) = both_whole l (a ++ (b ++ c)) wl (both_whole a (b ++ c) wa (both_whole b c wb wc)) in
    let to_f : WholeLines (l ++ (a ++ (b ++ (c ++ (d ++ e))))) =
    both_whole l (a ++ (b ++ (c ++ (d ++ e)))) wl (both_whole a (b ++ (c ++ (d ++ e))) wa (both_whole b (c ++ (d ++ e)) wb (both_whole c (d ++ e) wc (both_whole d e wd we)))) in
    let to_g : WholeLines (l ++ (a ++ (b ++ (c ++ (d ++ (e ++ f)))))) =
    both_whole l (a ++ (b ++ (c ++ (d ++ (e ++ f))))) wl (both_whole a (b ++ (c ++ (d ++ (e ++ f)))) wa (both_whole b (c ++ (d ++ (e ++ f))) wb (both_whole c (d ++ (e ++ f)) wc (both_whole d (e ++ f) wd (both_whole e f we wf))))) in
    let to_v : WholeLines (l ++ (a ++ (b ++ (c ++ (d ++ (e ++ (f ++ g))))))) =
    both_whole l (a ++ (b ++ (c ++ (d ++ (e ++ (f ++ g)))))) wl (both_whole a (b ++ (c ++ (d ++ (e ++ (f ++ g))))) wa (both_whole b (c ++ (d ++ (e ++ (f ++ g)))) wb (both_whole c (d ++ (e ++ (f ++ g))) wc (both_whole d (e ++ (f ++ g)) wd (both_whole e (f ++ g) we (both_whole f g wf wg)))))) in
    let in_a : (said : List ℕ) → a ≡ said ++ codes "\n" → HasLine text said =
    λ said h. within text l a ((b ++ (c ++ (d ++ (e ++ (f ++ g))))) ++ v) said (only a said h) (is ∙ pos_a l a b c d e f g v) wl in
    let in_b : (said : List ℕ) → HasLine b said → HasLine text said =
    λ said h. within text (l ++ a) b ((c ++ (d ++ (e ++ (f ++ g)))) ++ v) said h (is ∙ pos_b l a b c d e f g v) to_b in
    let in_d : (said : List ℕ) → HasLine d said → HasLine text said =
    λ said h. within text (l ++ (a ++ (b ++ c))) d ((e ++ (f ++ g)) ++ v) said h (is ∙ pos_d l a b c d e f g v) to_d in
    let in_f : (said : List ℕ) → HasLine f said → HasLine text said =
    λ said h. within text (l ++ (a ++ (b ++ (c ++ (d ++ e))))) f (g ++ v) said h (is ∙ pos_f l a b c d e f g v) to_f in
    let last : LastLine text (verdict_line account) = record {
      before = l ++ (a ++ (b ++ (c ++ (d ++ (e ++ (f ++ g))))));
      parts = is ∙ sym (append_assoc l (a ++ (b ++ (c ++ (d ++ (e ++ (f ++ g)))))) v);
      begins = to_v;
      single = single;
    } in
    let clear = clear_passes bytes in
    let clear_line : all_clear account ≡ true → LastLine text (codes "plan passed") = λ t. subst (LastLine text) (when_clear account t) last in
    let other_line : all_clear account ≡ false → (why : List ℕ) × LastLine text (codes "plan failed" ++ why) = λ t. let w = when_not account t in (w.0, subst (LastLine text) w.1 last) in
    let passes : LastLine text (codes "plan passed") → Passes steps = λ line.
    ⊎_elim
    (λ t. clear.0 t)
    (λ t. let w = other_line t in not_both w.0 (last_line_is text (codes "plan passed") (codes "plan failed" ++ w.0) line w.1))
    (cases_Bool (all_clear account)) in
    record {
      named = (
        (a ++ (b ++ (c ++ (d ++ (e ++ (f ++ g)))))) ++ v,
        is ∙ ap (λ us. us ++ ((a ++ (b ++ (c ++ (d ++ (e ++ (f ++ g)))))) ++ v)) (name_said name (length bytes))
            ∙ append_assoc (codes "plan: " ++ (name ++ (codes ", " ++ (decimal (length bytes) ++ codes " bytes")))) (codes "\n") ((a ++ (b ++ (c ++ (d ++ (e ++ (f ++ g)))))) ++ v),
      );
      no_blocks = λ none. in_a (codes "no blocks") (cond-true (eqb (length bs) 0) (codes "no blocks\n") (count_line (codes "blocks: ") (length bs)) (eq-eqb (length bs) 0 (ap length none)));
      block_count = λ some. in_a (codes "blocks: " ++ decimal (length bs)) (
          cond-false (eqb (length bs) 0) (codes "no blocks\n") (count_line (codes "blocks: ") (length bs)) (ne_eqb (length bs) 0 (λ h. omega (arith, h, some))) ∙ count_said (codes "blocks: ") (length bs));
      blocks = λ k x h. in_b (codes "  " ++ (bay_text x.bay ++ (codes "  " ++ stay x))) (line_at block_line block_ended bs k x (codes "  " ++ (bay_text x.bay ++ (codes "  " ++ stay x))) h (block_said x));
      fault_count = within text (l ++ (a ++ b)) c ((d ++ (e ++ (f ++ g))) ++ v) (codes "faulty records: " ++ decimal (length fs)) (only c (codes "faulty records: " ++ decimal (length fs)) (count_said (codes "faulty records: ") (length fs))) (is ∙ pos_c l a b c d e f g v) to_c;
      broken = λ k x h.
          let said = codes "  byte " ++ (replicate (7 - length (decimal x.place)) 32 ++ (decimal x.place ++ (codes "  cause " ++ (decimal x.cause ++ (codes ": " ++ number_text x.cause))))) in
          (7 - length (decimal x.place), in_d said (line_at fault_line fault_ended fs k x said h (fault_said x)));
      pairs = λ bay k x y h i.
          let t = tells_pairs bs bay k x y h i in
          let until = latest (take (k + 1) (of_bay bay bs)) in (
            λ lt. in_f (front x y ++ (codes "  starts " ++ (decimal (until - y.start) ++ (codes " min too early" ++ taken_text x.end until)))) (t.0 lt),
            λ le. let r = t.1 le in (r.0, in_f (front x y ++ (codes "  " ++ (replicate r.0 32 ++ (decimal (y.start - until) ++ (codes " min unassigned" ++ taken_text x.end until))))) r.1),
          );
      order = λ k x y h i lt. in_f (codes "  " ++ (bay_text x.bay ++ (codes "  is followed by bay " ++ (decimal y.bay ++ codes ": out of order")))) (tells_order bs k x y h i lt);
      pair_count = λ bays h.
          let n = over_bays (λ bay. length (of_bay bay bs) - 1) bays in
          within text (l ++ (a ++ (b ++ (c ++ (d ++ (e ++ f)))))) g v (codes "pairs: " ++ decimal n)
          (only g (codes "pairs: " ++ decimal n) (ap (count_line (codes "pairs: ")) (pair_total bs bays h) ∙ count_said (codes "pairs: ") n)) (is ∙ pos_g l a b c d e f g v) to_g;
      passed = (passes, λ s. clear_line (clear.1 s));
      failed = (
        λ w s. not_both w.0 (last_line_is text (codes "plan passed") (codes "plan failed" ++ w.0) (clear_line (clear.1 s)) w.1),
        λ n.
            ⊎_elim
            (λ t. absurd (n (clear.0 t)))
            (λ t. other_line t)
            (cases_Bool (all_clear account)),
      );
      one = λ line other p q. last_line_is text line other p q;
      minutes = λ line. no_ten_minutes bs (lasting_records bytes 0) (passes line).1;
    }

-- the report, from what was written one after another
pub reported : (old named told new : Option (List ℕ)) (name bytes line : List ℕ) (account : Account) →
    Appends old named (name_line name (length bytes)) → Appends named told (account_text (records_from bytes 0) account) → Appends told new (line ++ codes "\n") →
    account ≡ account_of (records_from bytes 0) → line ≡ verdict_line account → Appends old new (report_text name bytes)
unfolding report_text
reported old named told new name bytes line account p q r counts said =
    let steps = records_from bytes 0 in
    let whole = Appends-trans old named new (name_line name (length bytes)) (account_text steps account ++ (line ++ codes "\n")) p (Appends-trans named told new (account_text steps account) (line ++ codes "\n") q r) in
    subst (λ us. Appends old new (name_line name (length bytes) ++ us))
    (ap (λ us. account_text steps account ++ (us ++ codes "\n")) said ∙ ap (λ (a : Account). account_text steps a ++ (verdict_line a ++ codes "\n")) counts)
    whole
