-- What compress keeps, and what it has drawn by its end.
use Rattle.std.proofs.Common.{◌++◌, inl, inr, subst, ◌≡◌, ℕ, zero, suc, ◌+◌, Bool, true, false, ◌⊎◌, List, [], ◌∷◌, map, length, drop, Some, Ok, Err, Result, sym, refl, ap, ◌∙◌, ⊎_elim, zero-add, add-one, one-add, arith}
use Rattle.std.specs.List.{slice_get}
use Rattle.steps.specs.Steps.{Step, first}
use Rattle.steps.specs.declared.fault.Fault.{Fault}
use Rattle.steps.specs.declared.answer.Answer.{Answer}
use Rattle.laws.specs.Items.{Decided, items}
use Rattle.laws.specs.Run.{Follows, Call, CallOf, ItemsDrawn}
use Rattle.laws.specs.Compress.{keep_call, compressed_run, compress_run, DatumForEach, EachDatum, CompressLeft, keep_on, compressed, compresses, CompressAfter, compress_go, compressing, compress_after, compress_end, compress_ends, one_if, accepted, KeepsAccepted, CompressDraws}
use Rattle.laws.specs.Faults.{HandedTwo, unlost}
use Rattle.laws.proofs.Steps.{no_cons}
use Rattle.laws.proofs.Run.{none_drawn, item_drawn, fault_drawn, not_over, follows_at}

-- the n-th of what is kept, one pair further: behind the datum if its selector is accepted
kept_on : {A : Type 0} (r : Result Bool Fault) (x : A) (more : List (Step A)) (n : ℕ) → (r ≡ Ok true) ⊎ (r ≡ Ok false) → slice_get (keep_on r x more) (one_if r + n) ≡ slice_get more n
kept_on r x more n d =
    ⊎_elim
    (λ y. ap (λ q. slice_get (keep_on q x more) (one_if q + n)) y ∙ ap (slice_get (Ok x ∷ more)) (one-add n))
    (λ y. ap (λ q. slice_get (keep_on q x more) (one_if q + n)) y ∙ ap (slice_get more) (zero-add n))
    d

pub keeps_each : {A B : Type 0} (p : B → Result Bool Fault) (xs : List A) (bs : List B) → Decided p bs → (k : ℕ) (a : A) (b : B) →
    slice_get xs k ≡ Some a → slice_get bs k ≡ Some b → p b ≡ Ok true → slice_get (compressed p (map Ok xs) (map Ok bs)) (accepted p k bs) ≡ Some (Ok a)
keeps_each p [] bs d k a b x y t = let z : ◌≡◌ {A = ℕ} 0 1 = cc in absurd (omega arith)
keeps_each p (x ∷ xs) [] d k a b ex ey t = let z : ◌≡◌ {A = ℕ} 0 1 = cc in absurd (omega arith)
keeps_each p (x ∷ xs) (y ∷ ys) d zero a b ex ey t =
    let same : y ≡ b = cc in
    let is : x ≡ a = cc in
    ap (λ r. slice_get (keep_on r x (compressed p (map Ok xs) (map Ok ys))) 0) (ap p same ∙ t) ∙ ap (λ u. Some (Ok u)) is
keeps_each p (x ∷ xs) (y ∷ ys) d (suc k) a b ex ey t =
    kept_on (p y) x (compressed p (map Ok xs) (map Ok ys)) (accepted p k ys) d.0 ∙ keeps_each p xs ys d.1 k a b ex ey t

kept_length : {A : Type 0} (r : Result Bool Fault) (x : A) (more : List (Step A)) → (r ≡ Ok true) ⊎ (r ≡ Ok false) → length (keep_on r x more) ≡ one_if r + length more
kept_length r x more d =
    ⊎_elim
    (λ y. ap (λ q. length (keep_on q x more)) y ∙ sym (one-add (length more)) ∙ ap (λ q. one_if q + length more) (sym y))
    (λ y. ap (λ q. length (keep_on q x more)) y ∙ sym (zero-add (length more)) ∙ ap (λ q. one_if q + length more) (sym y))
    d

pub keeps_count : {A B : Type 0} (p : B → Result Bool Fault) (xs : List A) (bs : List B) → Decided p bs → length (compressed p (map Ok xs) (map Ok bs)) ≡ accepted p (length xs) bs
keeps_count p [] bs d = refl
keeps_count p (x ∷ xs) [] d = refl
keeps_count p (x ∷ xs) (y ∷ ys) d =
    kept_length (p y) x (compressed p (map Ok xs) (map Ok ys)) d.0 ∙ ap (λ n. one_if (p y) + n) (keeps_count p xs ys d.1)

pub keeps_accepted : {A B : Type 0} (p : B → Result Bool Fault) (ds : List (Step A)) (ts : List (Step B)) → KeepsAccepted p ds ts (compressed p ds ts)
keeps_accepted p ds ts = record {
  each = λ xs bs e f d k a b x y t. ap (λ us. slice_get (compressed p us ts) (accepted p k bs)) e ∙ ap (λ us. slice_get (compressed p (map Ok xs) us) (accepted p k bs)) f ∙ keeps_each p xs bs d k a b x y t;
  count = λ xs bs e f d. ap (λ us. length (compressed p us ts)) e ∙ ap (λ us. length (compressed p (map Ok xs) us)) f ∙ keeps_count p xs bs d;
}

ends_data : {A B : Type 0} (xs : List A) (bs : List B) → (compress_end (map Ok xs) (map Ok bs)).data_left ≡ map Ok (drop (suc (length bs)) xs)
ends_data [] bs = refl
ends_data (x ∷ xs) [] = refl
ends_data (x ∷ xs) (b ∷ bs) = ends_data xs bs

ends_selectors : {A B : Type 0} (xs : List A) (bs : List B) → (compress_end (map Ok xs) (map Ok bs)).selectors_left ≡ map Ok (drop (length xs) bs)
ends_selectors [] bs = refl
ends_selectors (x ∷ xs) [] = refl
ends_selectors (x ∷ xs) (b ∷ bs) = ends_selectors xs bs

pub compress_draws : {A B : Type 0} (ds : List (Step A)) (ts : List (Step B)) → CompressDraws ds ts (compress_end ds ts).data_left (compress_end ds ts).selectors_left
compress_draws ds ts xs bs e f = (
  ap (λ us. (compress_end us ts).data_left) e ∙ ap (λ us. (compress_end (map Ok xs) us).data_left) f ∙ ends_data xs bs ∙ ap (λ n. map Ok (drop n xs)) (sym (add-one (length bs))),
  ap (λ us. (compress_end us ts).selectors_left) e ∙ ap (λ us. (compress_end (map Ok xs) us).selectors_left) f ∙ ends_selectors xs bs,
)

-- one call of a run to the end: what is left at the end is the same before it and after it
abbrev EndsAs : {A B : Type 0} → CompressAfter A B → CompressLeft A B → Type 0
EndsAs r left = compress_ends r.ended r.data_left r.selectors_left ≡ left

go_stays : {A B : Type 0} (r : Result Bool Fault) (ds : List (Step A)) (ts : List (Step B)) (more : CompressAfter A B) → EndsAs more (compress_end ds ts) → EndsAs (compress_go r ds ts more) (compress_end ds ts)
go_stays (Ok true) ds ts more h = refl
go_stays (Ok false) ds ts more h = h
go_stays (Err f) ds ts more h = refl

compressing_stays : {A B : Type 0} (p : B → Result Bool Fault) (ds : List (Step A)) (ts : List (Step B)) → EndsAs (compressing p ds ts) (compress_end ds ts)
compressing_stays p [] ts = refl
compressing_stays p (Err f ∷ ds) ts = refl
compressing_stays p (Ok a ∷ ds) [] = refl
compressing_stays p (Ok a ∷ ds) (Err f ∷ ts) = refl
compressing_stays p (Ok a ∷ ds) (Ok b ∷ ts) = go_stays (p b) ds ts (compressing p ds ts) (compressing_stays p ds ts)

pub compress_stays : {A B : Type 0} (p : B → Result Bool Fault) (ended : Bool) (ds : List (Step A)) (ts : List (Step B)) → EndsAs (compress_after p ended ds ts) (compress_ends ended ds ts)
compress_stays p true ds ts = refl
compress_stays p false ds ts = compressing_stays p ds ts

-- a call that says end is the last that draws
go_ended : {A B : Type 0} (r : Result Bool Fault) (a : A) (gives : List (Step A)) (ds : List (Step A)) (ts : List (Step B)) (more : CompressAfter A B) →
    (gives ≡ [] → more.ended ≡ true) → keep_on r a gives ≡ [] → (compress_go r ds ts more).ended ≡ true
go_ended (Ok true) a gives ds ts more h e = absurd (no_cons (Ok a) gives e)
go_ended (Ok false) a gives ds ts more h e = h e
go_ended (Err f) a gives ds ts more h e = absurd (no_cons (Err f) gives e)

compressing_ended : {A B : Type 0} (p : B → Result Bool Fault) (ds : List (Step A)) (ts : List (Step B)) → compressed p ds ts ≡ [] → (compressing p ds ts).ended ≡ true
compressing_ended p [] ts e = refl
compressing_ended p (Err f ∷ ds) ts e = absurd (no_cons (Err f) (compressed p ds ts) e)
compressing_ended p (Ok a ∷ ds) [] e = refl
compressing_ended p (Ok a ∷ ds) (Err f ∷ ts) e = absurd (no_cons (Err f) (compressed p ds ts) e)
compressing_ended p (Ok a ∷ ds) (Ok b ∷ ts) e = go_ended (p b) a (compressed p ds ts) ds ts (compressing p ds ts) (compressing_ended p ds ts) e

pub compress_ended : {A B : Type 0} (p : B → Result Bool Fault) (ended : Bool) (ds : List (Step A)) (ts : List (Step B)) → compresses p ended ds ts ≡ [] → (compress_after p ended ds ts).ended ≡ true
compress_ended p true ds ts e = refl
compress_ended p false ds ts e = compressing_ended p ds ts e

-- one call of a run
abbrev CallFollows : {A B : Type 0} → (B → Result Bool Fault) → List (Call A (CompressLeft A B)) → CompressLeft A B → List (Step A) → CompressAfter A B → Type 0
CallFollows p run end gives after =
    CallOf run end (first gives) (record { data_left = after.data_left; selectors_left = after.selectors_left })
    (compress_run p after.ended after.data_left after.selectors_left) (compress_ends after.ended after.data_left after.selectors_left)

keep_follows : {A B : Type 0} (p : B → Result Bool Fault) (r : Result Bool Fault) (a : A) (ds : List (Step A)) (ts : List (Step B)) →
    CallFollows p (compressed_run p ds ts) (compress_end ds ts) (compressed p ds ts) (compressing p ds ts) →
    CallFollows p (keep_call r a ds ts (compressed_run p ds ts)) (compress_end ds ts) (keep_on r a (compressed p ds ts)) (compress_go r ds ts (compressing p ds ts))
keep_follows p (Ok true) a ds ts h = (refl, refl, refl, refl)
keep_follows p (Ok false) a ds ts h = h
keep_follows p (Err f) a ds ts h = (refl, refl, refl, refl)

compressing_follows : {A B : Type 0} (p : B → Result Bool Fault) (ds : List (Step A)) (ts : List (Step B)) →
    CallFollows p (compressed_run p ds ts) (compress_end ds ts) (compressed p ds ts) (compressing p ds ts)
compressing_follows p [] ts = (refl, refl, refl, refl)
compressing_follows p (Err f ∷ ds) ts = (refl, refl, refl, refl)
compressing_follows p (Ok a ∷ ds) [] = (refl, refl, refl, refl)
compressing_follows p (Ok a ∷ ds) (Err f ∷ ts) = (refl, refl, refl, refl)
compressing_follows p (Ok a ∷ ds) (Ok b ∷ ts) = keep_follows p (p b) a ds ts (compressing_follows p ds ts)

pub compress_follows : {A B : Type 0} (p : B → Result Bool Fault) (ended : Bool) (ds : List (Step A)) (ts : List (Step B)) →
    CallFollows p (compress_run p ended ds ts) (compress_ends ended ds ts) (compresses p ended ds ts) (compress_after p ended ds ts)
compress_follows p true ds ts = (refl, refl, refl, refl)
compress_follows p false ds ts = compressing_follows p ds ts

-- a datum for each selector
data_fault : {A B : Type 0} (n : ℕ) (f : Fault) (ds : List (Step A)) (ts : List (Step B)) (left : CompressLeft A B) → DatumForEach n ds ts left → DatumForEach n (Err f ∷ ds) ts left
data_fault n f ds ts left d = record { asked = d.asked; selectors = d.selectors; items = fault_drawn (n + length d.asked) f ds left.data_left d.items }

data_pair : {A B : Type 0} (n : ℕ) (a : A) (s : Step B) (ds : List (Step A)) (ts : List (Step B)) (left : CompressLeft A B) → DatumForEach n ds ts left → DatumForEach n (Ok a ∷ ds) (s ∷ ts) left
data_pair n a s ds ts left d =
    let e : suc (n + length d.asked) ≡ n + suc (length d.asked) = omega arith in
    record { asked = s ∷ d.asked; selectors = ap (λ us. s ∷ us) d.selectors; items = subst (λ k. ItemsDrawn k (Ok a ∷ ds) left.data_left) e (item_drawn (n + length d.asked) a ds left.data_left d.items) }

data_none : {A B : Type 0} (ds : List (Step A)) (ts : List (Step B)) → DatumForEach 0 ds ts (record { data_left = ds; selectors_left = ts })
data_none ds ts = record { asked = []; selectors = refl; items = none_drawn ds }

abbrev OnTheWay : {A B : Type 0} → List (Step A) → List (Step B) → List (Call A (CompressLeft A B)) → Type 0
OnTheWay {A} {B} ds ts run = (before after : List (Call A (CompressLeft A B))) (c : Call A (CompressLeft A B)) → run ≡ before ++ c ∷ after → DatumForEach 0 ds ts c.left

way_more : {A B : Type 0} (ds : List (Step A)) (ts : List (Step B)) (c : Call A (CompressLeft A B)) (run : List (Call A (CompressLeft A B))) →
    DatumForEach 0 ds ts c.left → OnTheWay ds ts run → OnTheWay ds ts (c ∷ run)
way_more {A} {B} ds ts c run d w [] after e f =
    let same : c ≡ e = cc in subst (λ (u : Call A (CompressLeft A B)). DatumForEach 0 ds ts u.left) same d
way_more ds ts c run d w (b ∷ before) after e f = let more : run ≡ before ++ e ∷ after = cc in w before after e more

way_fault : {A B : Type 0} (f : Fault) (ds : List (Step A)) (ts : List (Step B)) (run : List (Call A (CompressLeft A B))) → OnTheWay ds ts run → OnTheWay (Err f ∷ ds) ts run
way_fault f ds ts run w before after c e = data_fault 0 f ds ts c.left (w before after c e)

way_pair : {A B : Type 0} (a : A) (s : Step B) (ds : List (Step A)) (ts : List (Step B)) (run : List (Call A (CompressLeft A B))) → OnTheWay ds ts run → OnTheWay (Ok a ∷ ds) (s ∷ ts) run
way_pair a s ds ts run w before after c e = data_pair 0 a s ds ts c.left (w before after c e)

way_kept : {A B : Type 0} (r : Result Bool Fault) (a : A) (b : B) (ds : List (Step A)) (ts : List (Step B)) (run : List (Call A (CompressLeft A B))) →
    OnTheWay ds ts run → OnTheWay (Ok a ∷ ds) (Ok b ∷ ts) (keep_call r a ds ts run)
way_kept (Ok true) a b ds ts run w = way_more (Ok a ∷ ds) (Ok b ∷ ts) _ run (data_pair 0 a (Ok b) ds ts _ (data_none ds ts)) (way_pair a (Ok b) ds ts run w)
way_kept (Ok false) a b ds ts run w = way_pair a (Ok b) ds ts run w
way_kept (Err f) a b ds ts run w = way_more (Ok a ∷ ds) (Ok b ∷ ts) _ run (data_pair 0 a (Ok b) ds ts _ (data_none ds ts)) (way_pair a (Ok b) ds ts run w)

way_none : {A B : Type 0} (ds : List (Step A)) (ts : List (Step B)) → OnTheWay ds ts []
way_none ds ts before after c e = absurd (not_over before c after e)

on_the_way : {A B : Type 0} (p : B → Result Bool Fault) (ds : List (Step A)) (ts : List (Step B)) → OnTheWay ds ts (compressed_run p ds ts)
on_the_way p [] ts = way_none [] ts
on_the_way p (Err f ∷ ds) ts = way_more (Err f ∷ ds) ts _ (compressed_run p ds ts) (data_fault 0 f ds ts _ (data_none ds ts)) (way_fault f ds ts (compressed_run p ds ts) (on_the_way p ds ts))
on_the_way p (Ok a ∷ ds) [] = way_none (Ok a ∷ ds) []
on_the_way p (Ok a ∷ ds) (Err f ∷ ts) =
    way_more (Ok a ∷ ds) (Err f ∷ ts) _ (compressed_run p ds ts) (data_pair 0 a (Err f) ds ts _ (data_none ds ts)) (way_pair a (Err f) ds ts (compressed_run p ds ts) (on_the_way p ds ts))
on_the_way p (Ok a ∷ ds) (Ok b ∷ ts) = way_kept (p b) a b ds ts (compressed_run p ds ts) (on_the_way p ds ts)

abbrev AtEnd : {A B : Type 0} → List (Step A) → List (Step B) → CompressLeft A B → Type 0
AtEnd ds ts end = (DatumForEach 0 ds ts end × (end.data_left ≡ [])) ⊎ (DatumForEach 1 ds ts end × (end.selectors_left ≡ []))

end_fault : {A B : Type 0} (f : Fault) (ds : List (Step A)) (ts : List (Step B)) (end : CompressLeft A B) → AtEnd ds ts end → AtEnd (Err f ∷ ds) ts end
end_fault f ds ts end h =
    ⊎_elim (λ (d : DatumForEach 0 ds ts end × (end.data_left ≡ [])). inl (data_fault 0 f ds ts end d.0, d.1))
    (λ (d : DatumForEach 1 ds ts end × (end.selectors_left ≡ [])). inr (data_fault 1 f ds ts end d.0, d.1)) h

end_pair : {A B : Type 0} (a : A) (s : Step B) (ds : List (Step A)) (ts : List (Step B)) (end : CompressLeft A B) → AtEnd ds ts end → AtEnd (Ok a ∷ ds) (s ∷ ts) end
end_pair a s ds ts end h =
    ⊎_elim (λ (d : DatumForEach 0 ds ts end × (end.data_left ≡ [])). inl (data_pair 0 a s ds ts end d.0, d.1))
    (λ (d : DatumForEach 1 ds ts end × (end.selectors_left ≡ [])). inr (data_pair 1 a s ds ts end d.0, d.1)) h

by_the_end : {A B : Type 0} (ds : List (Step A)) (ts : List (Step B)) → AtEnd ds ts (compress_end ds ts)
by_the_end [] ts = inl (data_none [] ts, refl)
by_the_end (Err f ∷ ds) ts = end_fault f ds ts (compress_end ds ts) (by_the_end ds ts)
by_the_end (Ok a ∷ ds) [] = inr (record { asked = []; selectors = refl; items = item_drawn 0 a ds ds (none_drawn ds) }, refl)
by_the_end (Ok a ∷ ds) (s ∷ ts) = end_pair a s ds ts (compress_end ds ts) (by_the_end ds ts)

pub each_datum : {A B : Type 0} (p : B → Result Bool Fault) (ds : List (Step A)) (ts : List (Step B)) → EachDatum ds ts (compressed_run p ds ts) (compress_end ds ts)
each_datum p ds ts = record { on_the_way = on_the_way p ds ts; by_the_end = by_the_end ds ts }

pub compress_call : {A B : Type 0} (p q : B → Result Bool Fault) (ended ends : Bool) (ds left : List (Step A)) (ts also : List (Step B)) (r : Result (Answer A) Fault) →
    r ≡ first (compresses p ended ds ts) → left ≡ (compress_after p ended ds ts).data_left → also ≡ (compress_after p ended ds ts).selectors_left →
    ends ≡ (compress_after p ended ds ts).ended → q ≡ p →
    Follows (compress_run p ended ds ts) (compress_ends ended ds ts) r (record { data_left = left; selectors_left = also }) (compress_run q ends left also) (compress_ends ends left also)
compress_call p q ended ends ds left ts also r e f g h i =
    let after = compress_after p ended ds ts in
    let both : record { data_left = left; selectors_left = also } ≡ record { data_left = after.data_left; selectors_left = after.selectors_left } = cc in
    let later : compress_run q ends left also ≡ compress_run p after.ended after.data_left after.selectors_left = cc in
    let at : compress_ends ends left also ≡ compress_ends after.ended after.data_left after.selectors_left = cc in
    follows_at _ _ _ r _ _ _ _ _ _ (compress_follows p ended ds ts) e both later at

-- compress
keep_on_handed : {A B : Type 0} (O : Fault → Type 0) (q : Result Bool Fault) (a : A) (ds ds' : List (Step A)) (ts ts' : List (Step B)) (more : List (Step A)) →
    ((f : Fault) → q ≡ Err f → O f) → HandedTwo O ds ts ds' ts' more → HandedTwo O ds ts ds' ts' (keep_on q a more)
keep_on_handed O (Ok true) a ds ds' ts ts' more own h = h
keep_on_handed O (Ok false) a ds ds' ts ts' more own h = h
keep_on_handed O (Err f) a ds ds' ts ts' more own h = (h.0, h.1, h.2, h.3, inl (own f refl, h.4))

pub compress_handed : {A B : Type 0} (O : Fault → Type 0) (p : B → Result Bool Fault) (own : (b : B) (f : Fault) → p b ≡ Err f → O f) (ds : List (Step A)) (ts : List (Step B)) →
    HandedTwo O ds ts (compress_end ds ts).data_left (compress_end ds ts).selectors_left (compressed p ds ts)
compress_handed O p own [] ts = ([], [], refl, refl, (refl, refl))
compress_handed O p own (Err f ∷ ds) ts =
    let h = compress_handed O p own ds ts in
    (f ∷ h.0, h.1, ap (λ fs. f ∷ fs) h.2, h.3, inr (inl (h.0, refl, h.4)))
compress_handed O p own (Ok a ∷ ds) [] = ([], [], refl, refl, (refl, refl))
compress_handed O p own (Ok a ∷ ds) (Err f ∷ ts) =
    let h = compress_handed O p own ds ts in
    (h.0, f ∷ h.1, h.2, ap (λ fs. f ∷ fs) h.3, inr (inr (h.1, refl, h.4)))
compress_handed O p own (Ok a ∷ ds) (Ok b ∷ ts) = keep_on_handed O (p b) a ds (compress_end ds ts).data_left ts (compress_end ds ts).selectors_left (compressed p ds ts) (own b) (compress_handed O p own ds ts)

keep_on_same : {A : Type 0} (q : Result Bool Fault) (a : A) (more less : List (Step A)) → items more ≡ items less → items (keep_on q a more) ≡ items (keep_on q a less)
keep_on_same (Ok true) a more less e = ap (λ xs. a ∷ xs) e
keep_on_same (Ok false) a more less e = e
keep_on_same (Err f) a more less e = e

compress_none : {A B : Type 0} (p : B → Result Bool Fault) (ds : List (Step A)) → items (compressed p ds []) ≡ []
compress_none p [] = refl
compress_none p (Err f ∷ ds) = compress_none p ds
compress_none p (Ok a ∷ ds) = refl

pub compress_unlost : {A B : Type 0} (p : B → Result Bool Fault) (ds : List (Step A)) (ts : List (Step B)) →
    items (compressed p ds ts) ≡ items (compressed p (map Ok (unlost (items ds) ts)) (map Ok (items ts)))
compress_unlost p [] ts = refl
compress_unlost p (Err f ∷ ds) ts = compress_unlost p ds ts
compress_unlost p (Ok a ∷ ds) [] = refl
compress_unlost p (Ok a ∷ ds) (Err f ∷ ts) = compress_unlost p ds ts
compress_unlost p (Ok a ∷ ds) (Ok b ∷ ts) = keep_on_same (p b) a _ _ (compress_unlost p ds ts)
