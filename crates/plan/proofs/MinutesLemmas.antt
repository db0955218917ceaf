-- No ten minutes of a bay stay unassigned between its blocks.
use Rattle.std.proofs.Common.{◌≡◌, ℕ, zero, suc, ◌+◌, ◌<◌, ◌≤◌, ⊎_elim, true, eqb, ltb, take, drop, length, List, [], ◌∷◌, Some, refl, arith, subst, sym, ap, ◌∙◌, add-one, Ok, Err}
use Rattle.std.proofs.lemmas.Bool.{cases_lt, cases_Bool, cond_both, cond-true, cond-false, eqb-true, eq-eqb, ltb-true, and_parts}
use Rattle.std.specs.List.{slice_get}
use Rattle.steps.specs.Steps.{Step}
use Rattle.laws.specs.Items.{items}
use Rattle.sources.specs.declared.block.Block.{Block}
use Rattle.sources.specs.declared.cause.Cause.TheVariants.{CutPayload}
use Rattle.sources.specs.Cause.{cause_number}
use Rattle.sources.specs.Block.{right_minutes}
use Rattle.sources.specs.Frame.{word, stepped, reading}
use Rattle.sources.specs.Records.{block_of, payload_step, record_step, records_from}
use Rattle.plan.specs.Bays.{of_bay}
use Rattle.plan.specs.Pass.{EveryTwo, Close, Sound, Meets, NoTenMinutes}

abbrev pub SomeMeets : ℕ → List Block → Type 0
SomeMeets m bs = (k : ℕ) × (b : Block) × (slice_get bs k ≡ Some b) × Meets m b

abbrev pub Lasting : List Block → Type 0
Lasting bs = (k : ℕ) (b : Block) → slice_get bs k ≡ Some b → b.start < b.end

later : (m : ℕ) (a : Block) (bs : List Block) → SomeMeets m bs → SomeMeets m (a ∷ bs)
later m a bs s = (suc s.0, s.1, s.2, s.3)

no_block : (k : ℕ) (b : Block) → slice_get {X = Block} [] k ≡ Some b → ⊥
no_block k b e = let z : ◌≡◌ {A = ℕ} 0 1 = cc in omega arith

tail_close : (a b : Block) (bs : List Block) → EveryTwo Close (a ∷ (b ∷ bs)) → EveryTwo Close (b ∷ bs)
tail_close a b bs close k d q f g = close (k + 1) d q (ap (slice_get (a ∷ (b ∷ bs))) (add-one k) ∙ f) (ap (slice_get (a ∷ (b ∷ bs))) (add-one (k + 1)) ∙ g)

pub ten_minutes : (m : ℕ) (a : Block) (bs : List Block) → Lasting (a ∷ bs) → EveryTwo Close (a ∷ bs) → a.start ≤ m →
    (j : ℕ) (z : Block) → slice_get (a ∷ bs) j ≡ Some z → m + 10 ≤ z.end → SomeMeets m (a ∷ bs)
ten_minutes m a bs lasts close h zero z e end =
    let same : a ≡ z = cc in
    (0, a, refl, (omega arith, subst (λ (b : Block). m < b.end) (sym same) (omega arith)))
ten_minutes m a [] lasts close h (suc j) z e end = absurd (no_block j z e)
ten_minutes m a (b ∷ bs) lasts close h (suc j) z e end =
    ⊎_elim
    (λ l. (0, a, refl, (omega arith, l)))
    (λ l.
    let c = close 0 a b refl refl in
    ⊎_elim
    (λ i. (1, b, refl, (omega (arith, c), omega (arith, lasts 1 b refl))))
    (λ i. later m a (b ∷ bs) (ten_minutes m b bs (λ k d f. lasts (suc k) d f) (tail_close a b bs close) i j z e end))
    (cases_lt m b.start))
    (cases_lt m a.end)

-- the first block of a bay starts first
starts_first : (a : Block) (bs : List Block) → Lasting (a ∷ bs) → EveryTwo Close (a ∷ bs) → (i : ℕ) (b : Block) → slice_get (a ∷ bs) i ≡ Some b → a.start ≤ b.start
starts_first a bs lasts close zero b e = let same : a ≡ b = cc in subst (λ (u : Block). a.start ≤ u.start) same (omega arith)
starts_first a [] lasts close (suc i) b e = absurd (no_block i b e)
starts_first a (c ∷ bs) lasts close (suc i) b e =
    omega (arith, lasts 0 a refl, close 0 a c refl refl, starts_first c bs (λ k d f. lasts (suc k) d f) (tail_close a c bs close) i b e)

from_first : (bs : List Block) → Lasting bs → EveryTwo Close bs → (m i j : ℕ) (a z : Block) → slice_get bs i ≡ Some a → slice_get bs j ≡ Some z → a.start ≤ m → m + 10 ≤ z.end → SomeMeets m bs
from_first [] lasts close m i j a z e f h end = absurd (no_block i a e)
from_first (b ∷ bs) lasts close m i j a z e f h end =
    ten_minutes m b bs lasts close (omega (arith, starts_first b bs lasts close i a e)) j z f end

-- a block of a plan among those of its bay, and back
into_bay : (bay : ℕ) (bs : List Block) (i : ℕ) (a : Block) → slice_get bs i ≡ Some a → a.bay ≡ bay → (k : ℕ) × (slice_get (of_bay bay bs) k ≡ Some a)
into_bay bay [] i a e at = absurd (no_block i a e)
into_bay bay (b ∷ bs) zero a e at =
    let same : a ≡ b = cc in
    let here : of_bay bay (b ∷ bs) ≡ b ∷ of_bay bay bs = cond-true _ _ _ (eq-eqb b.bay bay (sym (ap (λ (u : Block). u.bay) same) ∙ at)) in
    (0, ap (λ us. slice_get us 0) here ∙ e)
into_bay bay (b ∷ bs) (suc i) a e at =
    let r = into_bay bay bs i a e at in
    ⊎_elim
    (λ t. (suc r.0, ap (λ us. slice_get us (suc r.0)) (cond-true (eqb b.bay bay) (b ∷ of_bay bay bs) (of_bay bay bs) t) ∙ r.1))
    (λ t. (r.0, ap (λ us. slice_get us r.0) (cond-false (eqb b.bay bay) (b ∷ of_bay bay bs) (of_bay bay bs) t) ∙ r.1))
    (cases_Bool (eqb b.bay bay))

abbrev pub OfBay : ℕ → List Block → Block → Type 0
OfBay bay bs a = (i : ℕ) × (slice_get bs i ≡ Some a) × (a.bay ≡ bay)

in_front : (bay : ℕ) (b : Block) (bs us : List Block) (a : Block) → eqb b.bay bay ≡ true → ((k : ℕ) → slice_get us k ≡ Some a → OfBay bay bs a) → (k : ℕ) → slice_get (b ∷ us) k ≡ Some a → OfBay bay (b ∷ bs) a
in_front bay b bs us a t more zero f = let same : b ≡ a = cc in (0, f, ap (λ (u : Block). u.bay) (sym same) ∙ eqb-true b.bay bay t)
in_front bay b bs us a t more (suc n) f = let r = more n f in (suc r.0, r.1, r.2)

pub from_bay : (bay : ℕ) (bs : List Block) (k : ℕ) (a : Block) → slice_get (of_bay bay bs) k ≡ Some a → OfBay bay bs a
from_bay bay [] k a e = absurd (no_block k a e)
from_bay bay (b ∷ bs) k a e =
    ⊎_elim
    (λ t. in_front bay b bs (of_bay bay bs) a t (λ n f. from_bay bay bs n a f) k (ap (λ us. slice_get us k) (sym (cond-true (eqb b.bay bay) (b ∷ of_bay bay bs) (of_bay bay bs) t)) ∙ e))
    (λ t.
    let r = from_bay bay bs k a (ap (λ us. slice_get us k) (sym (cond-false (eqb b.bay bay) (b ∷ of_bay bay bs) (of_bay bay bs) t)) ∙ e) in
    (suc r.0, r.1, r.2))
    (cases_Bool (eqb b.bay bay))

pub no_ten_minutes : (bs : List Block) → Lasting bs → Sound bs → NoTenMinutes bs
no_ten_minutes bs lasts sound i j m a z e f same h end =
    let p = into_bay a.bay bs i a e refl in
    let q = into_bay a.bay bs j z f (sym same) in
    let s = from_first (of_bay a.bay bs) (λ k b g. let r = from_bay a.bay bs k b g in lasts r.0 b r.1) (sound.1 a.bay) m p.0 q.0 a z p.1 q.1 h end in
    let r = from_bay a.bay bs s.0 s.1 s.2 in
    (r.0, s.1, r.1, r.2, s.3)

-- what is read from a record ends after its start
lasting_block : (p : ℕ) (c b : Block) → block_of p c ≡ Ok b → b.start < b.end
lasting_block p c b e =
    ⊎_elim
    (λ t.
    let same : c ≡ b = cc in
    subst (λ (u : Block). u.start < u.end) same (ltb-true c.start c.end (and_parts (ltb c.start c.end) _ t).0))
    (λ t. absurd (cc))
    (cases_Bool (right_minutes c))

lasting_payload : (p : ℕ) (bytes : List ℕ) (b : Block) → payload_step p bytes ≡ Ok b → b.start < b.end
lasting_payload p [] x q = absurd (cc)
lasting_payload p (a ∷ []) x q = absurd (cc)
lasting_payload p (a ∷ (b ∷ [])) x q = absurd (cc)
lasting_payload p (a ∷ (b ∷ (c ∷ []))) x q = absurd (cc)
lasting_payload p (a ∷ (b ∷ (c ∷ (d ∷ [])))) x q = absurd (cc)
lasting_payload p (a ∷ (b ∷ (c ∷ (d ∷ (e ∷ []))))) x q = absurd (cc)
lasting_payload p (a ∷ (b ∷ (c ∷ (d ∷ (e ∷ (f ∷ [])))))) x q = absurd (cc)
lasting_payload p (a ∷ (b ∷ (c ∷ (d ∷ (e ∷ (f ∷ (g ∷ []))))))) x q = absurd (cc)
lasting_payload p (a ∷ (b ∷ (c ∷ (d ∷ (e ∷ (f ∷ (g ∷ (h ∷ [])))))))) x q = lasting_block p (record { bus = word a b; bay = word c d; start = word e f; end = word g h }) x q
lasting_payload p (a ∷ (b ∷ (c ∷ (d ∷ (e ∷ (f ∷ (g ∷ (h ∷ (i ∷ more))))))))) x q = absurd (cc)

abbrev LastingStep : Step Block → Type 0
LastingStep s = (b : Block) → s ≡ Ok b → b.start < b.end

lasting_step : (p kind : ℕ) (bytes : List ℕ) → LastingStep (record_step p kind bytes)
lasting_step p kind bytes b e =
    ⊎_elim
    (λ t. lasting_payload p bytes b (sym (cond-true (eqb kind 16) _ _ t) ∙ e))
    (λ t. absurd (cc))
    (cases_Bool (eqb kind 16))

one_more : (s : Step Block) (ss : List (Step Block)) → LastingStep s → Lasting (items ss) → Lasting (items (s ∷ ss))
one_more (Ok a) ss h k zero b e = h b (cc)
one_more (Ok a) ss h k (suc i) b e = k i b e
one_more (Err f) ss h k i b e = k i b e

none : Lasting []
none k b e = absurd (no_block k b e)

lasting_reading : (n p : ℕ) (bytes : List ℕ) → Lasting (items (reading record_step n p bytes))
lasting_reading zero p bytes = none
lasting_reading (suc n) p [] = none
lasting_reading (suc n) p (a ∷ []) = none
lasting_reading (suc n) p (a ∷ (b ∷ [])) = none
lasting_reading (suc n) p (a ∷ (b ∷ (c ∷ []))) = none
lasting_reading (suc n) p (l0 ∷ (l1 ∷ (k0 ∷ (k1 ∷ bytes)))) =
    let w = word l0 l1 in
    let payload = take w bytes in
    let ss = reading record_step n (p + 4 + length payload) (drop w bytes) in
    cond_both (ltb (length bytes) w) (Err (cause_number CutPayload))
    (Ok (record { kind = word k0 k1; payload = payload; behind = drop w bytes }))
    (λ r. Lasting (items (stepped record_step p (reading record_step n) r)))
    (λ t. none)
    (λ t. one_more (record_step p (word k0 k1) payload) ss (lasting_step p (word k0 k1) payload)
    (lasting_reading n (p + 4 + length payload) (drop w bytes)))

pub lasting_records : (bytes : List ℕ) (at : ℕ) → Lasting (items (records_from bytes at))
lasting_records bytes at = lasting_reading (length (drop at bytes)) at (drop at bytes)
