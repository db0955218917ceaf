-- What record bytes mean does not hang on the bound that the reading counts down, and is what the relation says, whatever a payload means.
use Rattle.std.proofs.Common.{◌≡◌, ℕ, zero, suc, ◌+◌, ◌-◌, ◌<◌, ◌≤◌, Bool, true, false, cond, ltb, List, [], ◌∷◌, length, get_or, take, drop, sym, refl, ap, ◌∙◌, subst, arith, length-drop, Ok, Err, Result}
use Rattle.std.proofs.lemmas.List.{take-append-drop, length-take-le, take_rest, drop_all, drop-drop}
use Rattle.std.proofs.lemmas.Bool.{ltb-true, ltb-false, lt-ltb, le-ltb, cond-true, cond-false}
use Rattle.steps.specs.Steps.{Step}
use Rattle.sources.specs.Frame.{word, broken, Framed, framed, stepped, reading, steps_from, Reads, no_bytes, cut_header, cut_payload, one_record}

-- the bytes behind a record are no more than those behind its header
taken_short : (w kind : ℕ) (bs : List ℕ) (r : Framed) (t : Bool) → cond {A = Result Framed ℕ} t (Err 2) (Ok (record { kind = kind; payload = take w bs; behind = drop w bs })) ≡ Ok r → length r.behind ≤ length bs
taken_short w kind bs r true f = cc
taken_short w kind bs r false f =
    let one : Framed = record { kind = kind; payload = take w bs; behind = drop w bs } in
    let same : one ≡ r = cc in
    omega (arith, ap (λ z. length z.behind) same, length-drop w bs)

-- the bytes behind the first n, as a slice cuts them
abbrev pub behind : ℕ → List ℕ → List ℕ
behind n ys = take (length ys - n) (drop n ys)

pub header_cut : (ys : List ℕ) → length ys < 4 → framed ys ≡ Err 1
header_cut [] k = refl
header_cut (a ∷ []) k = refl
header_cut (a ∷ (b ∷ [])) k = refl
header_cut (a ∷ (b ∷ (c ∷ []))) k = refl
header_cut (a ∷ (b ∷ (c ∷ (d ∷ ys)))) k = absurd (omega arith)

pub payload_cut : (w : ℕ) (ys : List ℕ) → 4 ≤ length ys → w ≡ word (get_or ys 0 0) (get_or ys 1 0) → length (behind 4 ys) < w → framed ys ≡ Err 2
payload_cut w [] h e k = absurd (omega arith)
payload_cut w (a ∷ []) h e k = absurd (omega arith)
payload_cut w (a ∷ (b ∷ [])) h e k = absurd (omega arith)
payload_cut w (a ∷ (b ∷ (c ∷ []))) h e k = absurd (omega arith)
payload_cut w (l0 ∷ (l1 ∷ (k0 ∷ (k1 ∷ bs)))) h e k =
    let ys = l0 ∷ (l1 ∷ (k0 ∷ (k1 ∷ bs))) in
    let t : length bs < word l0 l1 = omega (arith, e, k, ap length (take_rest ys 4)) in
    cond-true (ltb (length bs) (word l0 l1)) _ _ (lt-ltb (length bs) (word l0 l1) t)

pub whole_record : (w : ℕ) (ys : List ℕ) → 4 ≤ length ys → w ≡ word (get_or ys 0 0) (get_or ys 1 0) → w ≤ length (behind 4 ys)
    → framed ys ≡ Ok (record { kind = word (get_or ys 2 0) (get_or ys 3 0); payload = take (w - 0) (behind 4 ys); behind = drop (4 + w) ys })
whole_record w [] h e k = absurd (omega arith)
whole_record w (a ∷ []) h e k = absurd (omega arith)
whole_record w (a ∷ (b ∷ [])) h e k = absurd (omega arith)
whole_record w (a ∷ (b ∷ (c ∷ []))) h e k = absurd (omega arith)
whole_record w (l0 ∷ (l1 ∷ (k0 ∷ (k1 ∷ bs)))) h e k =
    let ys = l0 ∷ (l1 ∷ (k0 ∷ (k1 ∷ bs))) in
    let same : behind 4 ys ≡ bs = take_rest ys 4 in
    let t : word l0 l1 ≤ length bs = omega (arith, e, k, ap length same) in
    let z : word l0 l1 ≡ w - 0 = omega (arith, e) in
    let cut : drop (word l0 l1) bs ≡ drop (4 + w) ys = drop-drop (word l0 l1) 4 ys ∙ ap (λ n. drop (4 + n) ys) (sym e) in
    cond-false (ltb (length bs) (word l0 l1)) _ _ (le-ltb (length bs) (word l0 l1) t)
    ∙ ap (λ p. Ok (record { kind = word k0 k1; payload = p; behind = drop (word l0 l1) bs })) (ap (λ n. take n bs) z ∙ ap (take (w - 0)) (sym same))
    ∙ ap (λ b. Ok (record { kind = word k0 k1; payload = take (w - 0) (behind 4 ys); behind = b })) cut

module _ {A : Type 0} (step : ℕ → ℕ → List ℕ → Step A) where
  pub fuel : (n m place : ℕ) (bytes : List ℕ) → length bytes ≤ n → length bytes ≤ m → reading step n place bytes ≡ reading step m place bytes
  fuel zero zero p bs h k = refl
  fuel zero (suc m) p [] h k = refl
  fuel zero (suc m) p (b ∷ bs) h k = absurd (omega arith)
  fuel (suc n) zero p [] h k = refl
  fuel (suc n) zero p (b ∷ bs) h k = absurd (omega arith)
  fuel (suc n) (suc m) p [] h k = refl
  fuel (suc n) (suc m) p (a ∷ []) h k = refl
  fuel (suc n) (suc m) p (a ∷ (b ∷ [])) h k = refl
  fuel (suc n) (suc m) p (a ∷ (b ∷ (c ∷ []))) h k = refl
  fuel (suc n) (suc m) p (l0 ∷ (l1 ∷ (k0 ∷ (k1 ∷ bs)))) h k =
      let w = word l0 l1 in
      let r : Framed = record { kind = word k0 k1; payload = take w bs; behind = drop w bs } in
      let at : Bool → Type 0 = λ t. stepped step p (reading step n) (cond t (Err 2) (Ok r)) ≡ stepped step p (reading step m) (cond t (Err 2) (Ok r)) in
      elim (ltb (length bs) w) as at [
        | true ↦ refl
        | false ↦ ap (λ more. step p (word k0 k1) (take w bs) ∷ more) (fuel n m (p + 4 + length (take w bs)) (drop w bs) (simp length-drop (omega arith)) (simp length-drop (omega arith)))
      ]

  pub reads : (n place : ℕ) (bytes : List ℕ) → length bytes ≤ n → Reads step place bytes (reading step n place bytes)
  reads zero p [] h = no_bytes
  reads zero p (b ∷ bs) h = absurd (omega arith)
  reads (suc n) p [] h = no_bytes
  reads (suc n) p (a ∷ []) h = cut_header _ (omega arith) (omega arith)
  reads (suc n) p (a ∷ (b ∷ [])) h = cut_header _ (omega arith) (omega arith)
  reads (suc n) p (a ∷ (b ∷ (c ∷ []))) h = cut_header _ (omega arith) (omega arith)
  reads (suc n) p (l0 ∷ (l1 ∷ (k0 ∷ (k1 ∷ bs)))) h =
      let w = word l0 l1 in
      let r : Framed = record { kind = word k0 k1; payload = take w bs; behind = drop w bs } in
      let all = l0 ∷ (l1 ∷ (k0 ∷ (k1 ∷ bs))) in
      let at : Bool → Type 0 = λ t. ltb (length bs) w ≡ t → Reads step p all (stepped step p (reading step n) (cond t (Err 2) (Ok r))) in
      let yes : at true = λ e. cut_payload (ltb-true (length bs) w e) in
      let no : at false = λ e.
      let long : length (take w bs) ≡ w = length-take-le w bs (ltb-false (length bs) w e) in
      let more : Reads step (p + 4 + w) (drop w bs) (reading step n (p + 4 + length (take w bs)) (drop w bs)) =
      subst (λ z. Reads step (p + 4 + z) (drop w bs) (reading step n (p + 4 + length (take w bs)) (drop w bs))) long
      (reads n (p + 4 + length (take w bs)) (drop w bs) (simp length-drop (omega arith))) in
      subst (λ ys. Reads step p (l0 ∷ (l1 ∷ (k0 ∷ (k1 ∷ ys)))) (step p (word k0 k1) (take w bs) ∷ reading step n (p + 4 + length (take w bs)) (drop w bs))) (take-append-drop w bs)
      (one_record (take w bs) (drop w bs) long more) in
      elim (ltb (length bs) w) as at [ true ↦ yes | false ↦ no ] refl

  -- nothing is ahead behind the bytes
  pub nothing_left : (bytes : List ℕ) (at : ℕ) → length bytes ≤ at → steps_from step bytes at ≡ []
  nothing_left bytes at h = ap (λ ys. reading step (length ys) at ys) (drop_all at bytes h)

  -- a cause at a place is the only step ahead there
  pub cause_ahead : (bytes : List ℕ) (at cause : ℕ) → at < length bytes → framed (drop at bytes) ≡ Err cause → steps_from step bytes at ≡ Err (broken cause at) ∷ []
  cause_ahead bytes at cause h e = at_front (drop at bytes) (simp length-drop (omega arith)) e
    where
      at_front : (ys : List ℕ) → 0 < length ys → framed ys ≡ Err cause → reading step (length ys) at ys ≡ Err (broken cause at) ∷ []
      at_front [] l f = absurd (omega arith)
      at_front (y ∷ ys) l f = ap (stepped step at (reading step (length ys))) f

  -- the step of a record at a place comes first there, and then what is ahead behind it
  pub record_ahead : (bytes : List ℕ) (at next : ℕ) (r : Framed) → at < length bytes → framed (drop at bytes) ≡ Ok r → r.behind ≡ drop next bytes → next ≡ at + 4 + length r.payload
      → steps_from step bytes at ≡ step at r.kind r.payload ∷ steps_from step bytes next
  record_ahead bytes at next r h e left n = at_front (drop at bytes) (simp length-drop (omega arith)) e (shorter (drop at bytes) r e)
    where
      shorter : (ys : List ℕ) (r : Framed) → framed ys ≡ Ok r → length r.behind + 4 ≤ length ys
      shorter [] r f = cc
      shorter (a ∷ []) r f = cc
      shorter (a ∷ (b ∷ [])) r f = cc
      shorter (a ∷ (b ∷ (c ∷ []))) r f = cc
      shorter (l0 ∷ (l1 ∷ (k0 ∷ (k1 ∷ bs)))) r f =
          omega (arith, taken_short (word l0 l1) (word k0 k1) bs r (ltb (length bs) (word l0 l1)) f)

      at_front : (ys : List ℕ) → 0 < length ys → framed ys ≡ Ok r → length r.behind + 4 ≤ length ys → reading step (length ys) at ys ≡ step at r.kind r.payload ∷ steps_from step bytes next
      at_front [] l f s = absurd (omega arith)
      at_front (y ∷ ys) l f s =
          ap (stepped step at (reading step (length ys))) f
          ∙ ap (λ more. step at r.kind r.payload ∷ more)
          (fuel (length ys) (length r.behind) (at + 4 + length r.payload) r.behind (omega arith) (omega arith)
          ∙ ap (λ zs. reading step (length zs) (at + 4 + length r.payload) zs) left
          ∙ ap (λ z. reading step (length (drop next bytes)) z (drop next bytes)) (sym n))
