-- What holds of every history of calls, and the loop of a runner that makes them.
use Rattle.std.proofs.Common.{◌≡◌, ℕ, zero, suc, ◌+◌, ◌<◌, ◌≤◌, Bool, true, false, List, [], ◌∷◌, ◌++◌, map, length, get_or, take, drop, set, filter, Some, sym, refl, ap, ◌∙◌, subst, arith}
use Rattle.std.specs.List.{slice_get}
use Rattle.std.proofs.lemmas.List.{get_or-drop, drop-drop, take_more, take_more_set, map_push, drop-set-lt, take_all}
use Rattle.steps.specs.Trace.{Trace, total, gathered, kept}

pub total_append : {C : Type 0} (counts : C → ℕ) (bs cs : List C) → total counts (bs ++ cs) ≡ total counts bs + total counts cs
total_append counts [] cs = omega arith
total_append counts (b ∷ bs) cs = let ih = total_append counts bs cs in omega (arith, ih)

module _ {S B A : Type 0} (R : S → B → A → S → Type 0) where
  -- every call was made
  pub trace_lengths : (s t : S) (bs : List B) (cs : List A) → Trace R s bs cs t → length cs ≡ length bs
  trace_lengths s t [] [] l = refl
  trace_lengths s t [] (a ∷ cs) l = absurd l
  trace_lengths s t (b ∷ bs) [] l = absurd l
  trace_lengths s t (b ∷ bs) (a ∷ cs) l = ap suc (trace_lengths l.0 t bs cs l.2)

  -- one more call at the end
  pub trace_push : (s u t : S) (bs : List B) (cs : List A) (b : B) (a : A) → Trace R s bs cs u → R u b a t → Trace R s (bs ++ b ∷ []) (cs ++ a ∷ []) t
  trace_push s u t [] [] b a l h = (t, subst (λ z. R z b a t) l h, refl)
  trace_push s u t [] (x ∷ cs) b a l h = absurd l
  trace_push s u t (x ∷ bs) [] b a l h = absurd l
  trace_push s u t (x ∷ bs) (y ∷ cs) b a l h = (l.0, l.1, trace_push l.0 u t bs cs b a l.2 h)

  -- one history after another
  pub trace_append : (s u t : S) (bs : List B) (cs : List A) (bs2 : List B) (cs2 : List A) → Trace R s bs cs u → Trace R u bs2 cs2 t → Trace R s (bs ++ bs2) (cs ++ cs2) t
  trace_append s u t [] [] bs2 cs2 l h = subst (λ z. Trace R z bs2 cs2 t) l h
  trace_append s u t [] (x ∷ cs) bs2 cs2 l h = absurd l
  trace_append s u t (x ∷ bs) [] bs2 cs2 l h = absurd l
  trace_append s u t (x ∷ bs) (y ∷ cs) bs2 cs2 l h = (l.0, l.1, trace_append l.0 u t bs cs bs2 cs2 l.2 h)

  -- the call numbered j, between the states that the calls before it and those after it link
  pub record CallAt (s : S) (bs : List B) (cs : List A) (j : ℕ) (b : B) (a : A) (t : S) : Type 0 where
    pub found : S
    pub left : S
    pub earlier : Trace R s (take j bs) (take j cs) found
    pub call : R found b a left
    pub later : Trace R left (drop (suc j) bs) (drop (suc j) cs) t

  pub trace_at : (s t : S) (bs : List B) (cs : List A) → Trace R s bs cs t → (j : ℕ) (b : B) (a : A) → slice_get bs j ≡ Some b → slice_get cs j ≡ Some a → CallAt s bs cs j b a t
  trace_at s t [] [] l j b a p q = let z : ◌≡◌ {A = ℕ} 0 1 = cc in absurd (omega arith)
  trace_at s t [] (x ∷ cs) l j b a p q = absurd l
  trace_at s t (x ∷ bs) [] l j b a p q = absurd l
  trace_at s t (x ∷ bs) (y ∷ cs) l zero b a p q =
      let bx : x ≡ b = cc in
      let ay : y ≡ a = cc in
      record { found = s; left = l.0; earlier = refl; call = subst (λ z. R s z a l.0) bx (subst (λ z. R s x z l.0) ay l.1); later = l.2 }
  trace_at s t (x ∷ bs) (y ∷ cs) l (suc j) b a p q =
      let h = trace_at l.0 t bs cs l.2 j b a p q in
      record { found = h.found; left = h.left; earlier = (l.0, l.1, h.earlier); call = h.call; later = h.later }

  -- what every call keeps, a history keeps
  pub trace_keeps : (P : S → Type 0) → ((s t : S) (b : B) (a : A) → P s → R s b a t → P t) → (s t : S) (bs : List B) (cs : List A) → P s → Trace R s bs cs t → P t
  trace_keeps P keeps s t [] [] p l = subst P (sym l) p
  trace_keeps P keeps s t [] (x ∷ cs) p l = absurd l
  trace_keeps P keeps s t (x ∷ bs) [] p l = absurd l
  trace_keeps P keeps s t (x ∷ bs) (y ∷ cs) p l = trace_keeps P keeps l.0 t bs cs (keeps s l.0 x y p l.1) l.2

  -- a fact of a number and a state that goes up with each call by what the call counts holds of the whole history's count
  pub trace_counts : (counts : B → ℕ) (P : ℕ → S → Type 0) → ((n : ℕ) (s t : S) (b : B) (a : A) → P n s → R s b a t → P (counts b + n) t)
      → (n : ℕ) (s t : S) (bs : List B) (cs : List A) → P n s → Trace R s bs cs t → P (total counts bs + n) t
  trace_counts counts P step n s t [] [] p l = subst (λ z. P z t) (omega arith) (subst (P n) (sym l) p)
  trace_counts counts P step n s t [] (x ∷ cs) p l = absurd l
  trace_counts counts P step n s t (x ∷ bs) [] p l = absurd l
  trace_counts counts P step n s t (x ∷ bs) (y ∷ cs) p l =
      subst (λ z. P z t) (omega arith) (trace_counts counts P step (counts x + n) l.0 t bs cs (step n s l.0 x y p l.1) l.2)

  -- a fact of what was gathered so far and a state that each call takes on holds of all that a history gathers
  pub trace_gathers : {X : Type 0} (adds : X → B → A → X) (P : X → S → Type 0) → ((x : X) (s t : S) (b : B) (a : A) → P x s → R s b a t → P (adds x b a) t)
      → (x : X) (s t : S) (bs : List B) (cs : List A) → P x s → Trace R s bs cs t → P (gathered adds x bs cs) t
  trace_gathers adds P step x s t [] [] p l = subst (P x) (sym l) p
  trace_gathers adds P step x s t [] (y ∷ cs) p l = absurd l
  trace_gathers adds P step x s t (y ∷ bs) [] p l = absurd l
  trace_gathers adds P step x s t (y ∷ bs) (z ∷ cs) p l = trace_gathers adds P step (adds x y z) l.0 t bs cs (step x s l.0 y z p l.1) l.2

  -- calls that leave the state as it was might as well not have been made
  pub trace_without : (keeps : A → Bool) → ((s t : S) (b : B) (a : A) → keeps a ≡ false → R s b a t → t ≡ s)
      → (s t : S) (bs : List B) (cs : List A) → Trace R s bs cs t → Trace R s (kept keeps bs cs) (filter keeps cs) t
  trace_without keeps rests s t [] [] l = l
  trace_without keeps rests s t [] (x ∷ cs) l = absurd l
  trace_without keeps rests s t (x ∷ bs) [] l = absurd l
  trace_without keeps rests s t (x ∷ bs) (y ∷ cs) l =
      kept_or_not keeps s t x y bs cs l.0 l.1 (λ e. rests s l.0 x y e l.1) (trace_without keeps rests l.0 t bs cs l.2) (keeps y) refl
    where
      kept_or_not : (keeps : A → Bool) (s t : S) (x : B) (y : A) (bs : List B) (cs : List A) (u : S) → R s x y u → (keeps y ≡ false → u ≡ s) → Trace R u (kept keeps bs cs) (filter keeps cs) t
          → (k : Bool) → keeps y ≡ k → Trace R s (kept keeps (x ∷ bs) (y ∷ cs)) (filter keeps (y ∷ cs)) t
      kept_or_not keeps s t x y bs cs u h rests later true e = rw e (u, h, later)
      kept_or_not keeps s t x y bs cs u h rests later false e = rw e (subst (λ z. Trace R z (kept keeps bs cs) (filter keeps cs) t) (rests e) later)

-- two relations, the one of which follows from the other
pub trace_weaker : {S B A : Type 0} (R Q : S → B → A → S → Type 0) → ((s t : S) (b : B) (a : A) → R s b a t → Q s b a t) → (s t : S) (bs : List B) (cs : List A) → Trace R s bs cs t → Trace Q s bs cs t
trace_weaker R Q f s t [] [] l = l
trace_weaker R Q f s t [] (x ∷ cs) l = absurd l
trace_weaker R Q f s t (x ∷ bs) [] l = absurd l
trace_weaker R Q f s t (x ∷ bs) (y ∷ cs) l = (l.0, f s l.0 x y l.1, trace_weaker R Q f l.0 t bs cs l.2)

-- calls seen in another way
pub trace_map : {S B A D E : Type 0} (before : B → D) (after : A → E) (R : S → B → A → S → Type 0) (Q : S → D → E → S → Type 0) → ((s t : S) (b : B) (a : A) → R s b a t → Q s (before b) (after a) t)
    → (s t : S) (bs : List B) (cs : List A) → Trace R s bs cs t → Trace Q s (map before bs) (map after cs) t
trace_map before after R Q f s t [] [] l = l
trace_map before after R Q f s t [] (x ∷ cs) l = absurd l
trace_map before after R Q f s t (x ∷ bs) [] l = absurd l
trace_map before after R Q f s t (x ∷ bs) (y ∷ cs) l = (l.0, f s l.0 x y l.1, trace_map before after R Q f l.0 t bs cs l.2)

-- ---- the loop of a runner

-- two lists that are the same from i on
same_at : {X : Type 0} (xs ys : List X) (i : ℕ) (x : X) → i < length xs → x ≡ get_or xs i x → drop i xs ≡ drop i ys → get_or ys i x ≡ x
same_at xs ys i x l e h =
    let zero_more : i + 0 ≡ i = omega arith in
    sym (e ∙ ap (λ k. get_or xs k x) (sym zero_more) ∙ sym (get_or-drop i xs 0 x) ∙ ap (λ zs. get_or zs 0 x) h ∙ get_or-drop i ys 0 x ∙ ap (λ k. get_or ys k x) zero_more)

same_behind : {X : Type 0} (xs ys : List X) (i : ℕ) → drop i xs ≡ drop i ys → drop (i + 1) xs ≡ drop (i + 1) ys
same_behind xs ys i h = sym (drop-drop 1 i xs) ∙ ap (drop 1) h ∙ drop-drop 1 i ys

-- a list of calls that were made up to i, and the state that they lead to: the invariant of a loop that makes them
pub record Logged {S C M : Type 0} (R : S → M → M → S → Type 0) (memory : C → M) (s : S) (was calls : List C) (i : ℕ) (t : S) : Type 0 where
  pub unmade : drop i calls ≡ drop i was
  pub made : Trace R s (map memory (take i was)) (map memory (take i calls)) t

module _ {S C M : Type 0} (R : S → M → M → S → Type 0) (memory : C → M) where
  -- one more call
  pub logged_more : (s u t : S) (was calls : List C) (i : ℕ) (call made : C) → i < length calls → length calls ≡ length was → Logged R memory s was calls i u → call ≡ get_or calls i call
      → R u (memory call) (memory made) t → Logged R memory s was (set calls i made) (i + 1) t
  logged_more s u t was calls i call made l len old is h =
      let unseen : get_or was i call ≡ call = same_at calls was i call l is old.unmade in
      let befores : map memory (take (i + 1) was) ≡ map memory (take i was) ++ memory call ∷ [] =
      ap (map memory) (take_more was i call (omega arith)) ∙ map_push memory (take i was) (get_or was i call) ∙ ap (λ z. map memory (take i was) ++ memory z ∷ []) unseen in
      let afters : map memory (take (i + 1) (set calls i made)) ≡ map memory (take i calls) ++ memory made ∷ [] =
      ap (map memory) (take_more_set calls i made l) ∙ map_push memory (take i calls) made in
      record {
        unmade = drop-set-lt (i + 1) calls i made (omega arith) ∙ same_behind calls was i old.unmade;
        made = rw (befores, afters) (trace_push R s u t (map memory (take i was)) (map memory (take i calls)) (memory call) (memory made) old.made h);
      }

  -- all of them
  pub logged_all : (s t : S) (was calls : List C) (i : ℕ) → length was ≤ i → length calls ≡ length was → Logged R memory s was calls i t → Trace R s (map memory was) (map memory calls) t
  logged_all s t was calls i l len h =
      let all_was : take i was ≡ was = take_all i was (omega arith) in
      let all_calls : take i calls ≡ calls = take_all i calls (omega arith) in
      subst (λ z. Trace R s (map memory was) (map memory z) t) all_calls (subst (λ z. Trace R s (map memory z) (map memory (take i calls)) t) all_was h.made)
