-- What is written at the front of a lent buffer: the places of a row, and the elements that lie there.
use Rattle.std.proofs.Common.{◌≡◌, ℕ, zero, suc, ◌+◌, ◌<◌, ◌≤◌, List, [], ◌∷◌, ◌++◌, length, get_or, take, drop, set, replicate, sym, refl, ap, ◌∙◌, subst, append_assoc, arith, length-append, length-drop, length-take, length-take-le, drop-cons, drop-drop, take-add}
use lib.Seq.{set_at}
use Rattle.std.specs.List.{AllByRecursion}
use Rattle.std.proofs.lemmas.List.{take_more, drop_more, append-nil}
use Rattle.std.proofs.ByRecursion.{All-get_or, All-take, All-drop}
use Rattle.std.proofs.Math.Seq.{take-append_seam, drop-append_seam, drop-length}
use Rattle.row_laws.specs.Calls.{at_front, one_at, picked, positions}

picked_append : {T : Type 0} (pool : List T) (ps qs : List ℕ) → picked pool (ps ++ qs) ≡ picked pool ps ++ picked pool qs
picked_append pool [] qs = refl
picked_append pool (p ∷ ps) qs = ap (λ zs. one_at pool p ++ zs) (picked_append pool ps qs) ∙ sym (append_assoc (one_at pool p) (picked pool ps) (picked pool qs))

pub length_picked : {T : Type 0} (pool : List T) (ps : List ℕ) → AllByRecursion (λ p. p < length pool) ps → length (picked pool ps) ≡ length ps
length_picked pool [] h = refl
length_picked pool (p ∷ ps) h =
    let one : length (one_at pool p) ≡ 1 = simp (length-take, length-drop) (omega (arith, h.0)) in
    length-append (one_at pool p) (picked pool ps) ∙ (let ih = length_picked pool ps h.1 in omega arith)

-- one more element written
pub copied_more : {T : Type 0} (pool es ws : List T) (ps : List ℕ) (i : ℕ) (x : T)
    → i < length ps → length ps ≤ length es → AllByRecursion (λ p. p < length pool) ps
    → x ≡ get_or pool (get_or ps i 0) x
    → ws ≡ picked pool (take i ps) ++ drop i es
    → set ws i x ≡ picked pool (take (i + 1) ps) ++ drop (i + 1) es
copied_more {T} pool es ws ps i x l room within read e =
    let front : List T = picked pool (take i ps) in
    let len : length front ≡ i = length_picked pool (take i ps) (All-take (λ p. p < length pool) i ps within) ∙ length-take-le i ps (omega arith) in
    let seen : drop i es ≡ get_or es i x ∷ drop (i + 1) es = drop_more es i x (omega arith) in
    let left : set ws i x ≡ front ++ x ∷ drop (i + 1) es =
    ap (λ zs. set zs i x) (e ∙ ap (λ zs. front ++ zs) seen) ∙ set_at front (get_or es i x) (drop (i + 1) es) x i len in
    let here : get_or ps i 0 < length pool = All-get_or (λ p. p < length pool) ps i 0 l within in
    let one : one_at pool (get_or ps i 0) ≡ x ∷ [] = rw (drop-cons pool (get_or ps i 0) x here) (ap (λ y. y ∷ []) (sym read)) in
    let right : picked pool (take (i + 1) ps) ≡ front ++ x ∷ [] =
    ap (picked pool) (take_more ps i 0 l) ∙ picked_append pool (take i ps) (get_or ps i 0 ∷ []) ∙ ap (λ zs. front ++ zs) (append-nil (one_at pool (get_or ps i 0)) ∙ one) in
    left ∙ sym (ap (λ zs. zs ++ drop (i + 1) es) right ∙ append_assoc front (x ∷ []) (drop (i + 1) es))

-- ---- positions

pub length_positions : (starts : ℕ → ℕ) (row : List ℕ) → length (positions starts row) ≡ length row
length_positions starts [] = refl
length_positions starts (p ∷ ps) = ap suc (length_positions (λ k. starts (suc k)) ps)

pub get_or_positions : (starts : ℕ → ℕ) (row : List ℕ) (k : ℕ) → k < length row → get_or (positions starts row) k 0 ≡ starts k + get_or row k 0
get_or_positions starts [] k l = absurd (omega arith)
get_or_positions starts (p ∷ ps) zero l = refl
get_or_positions starts (p ∷ ps) (suc k) l = get_or_positions (λ z. starts (suc z)) ps k (omega arith)

pub position_below : (limit : ℕ) (starts : ℕ → ℕ) (row : List ℕ) (k : ℕ) → k < length row → AllByRecursion (λ p. p < limit) (positions starts row) → starts k + get_or row k 0 < limit
position_below limit starts row k l h =
    subst (λ z. z < limit) (get_or_positions starts row k l) (All-get_or (λ p. p < limit) (positions starts row) k 0 (omega (arith, length_positions starts row)) h)

-- two ways to say where the pools start, the same up to the row's length
pub same_positions : (starts others : ℕ → ℕ) (row : List ℕ) → ((k : ℕ) → k < length row → starts k ≡ others k) → positions starts row ≡ positions others row
same_positions starts others [] h = refl
same_positions starts others (p ∷ ps) h =
    ap (λ z. (z + p) ∷ positions (λ k. starts (suc k)) ps) (h 0 (omega arith))
    ∙ ap (λ zs. (others 0 + p) ∷ zs) (same_positions (λ k. starts (suc k)) (λ k. others (suc k)) ps (λ k l. h (suc k) (omega arith)))

-- the first positions are those of the first places
positions_take : (starts : ℕ → ℕ) (row : List ℕ) (n : ℕ) → positions starts (take n row) ≡ take n (positions starts row)
positions_take starts [] zero = refl
positions_take starts [] (suc n) = refl
positions_take starts (p ∷ ps) zero = refl
positions_take starts (p ∷ ps) (suc n) = ap (λ zs. (starts 0 + p) ∷ zs) (positions_take (λ k. starts (suc k)) ps n)

-- the others are those of the other places, whose pools are counted on
positions_drop : (starts : ℕ → ℕ) (row : List ℕ) (n : ℕ) → positions (λ k. starts (n + k)) (drop n row) ≡ drop n (positions starts row)
positions_drop starts row zero = same_positions (λ k. starts (0 + k)) starts row (λ k l. ap starts (omega arith))
positions_drop starts [] (suc n) = refl
positions_drop starts (p ∷ ps) (suc n) =
    same_positions (λ k. starts (suc n + k)) (λ k. starts (suc (n + k))) (drop n ps) (λ k l. ap starts (omega arith))
    ∙ positions_drop (λ k. starts (suc k)) ps n

-- the positions of the places from `first` on, so many of them
positions_part : (starts : ℕ → ℕ) (row : List ℕ) (first n : ℕ)
    → positions (λ k. starts (first + k)) (take n (drop first row)) ≡ take n (drop first (positions starts row))
positions_part starts row first n =
    positions_take (λ k. starts (first + k)) (drop first row) n ∙ ap (take n) (positions_drop starts row first)

pub part_within : (limit : ℕ) (starts : ℕ → ℕ) (row : List ℕ) (first n : ℕ) → AllByRecursion (λ p. p < limit) (positions starts row)
    → AllByRecursion (λ p. p < limit) (positions (λ k. starts (first + k)) (take n (drop first row)))
part_within limit starts row first n within =
    let P : ℕ → Type 0 = λ p. p < limit in
    let ps : List ℕ = positions starts row in
    subst (AllByRecursion P) (sym (positions_part starts row first n)) (All-take P n (drop first ps) (All-drop P first ps within))

-- the elements before `first` were written, and now those of so many places more
pub copied_part : {T : Type 0} (pool es ws part : List T) (starts : ℕ → ℕ) (row : List ℕ) (first n : ℕ)
    → first + n ≤ length row → length row ≤ length es → AllByRecursion (λ p. p < length pool) (positions starts row)
    → ws ≡ picked pool (take first (positions starts row)) ++ drop first es
    → part ≡ at_front (picked pool (positions (λ k. starts (first + k)) (take n (drop first row)))) (take n (drop first ws))
    → take first ws ++ (part ++ drop n (drop first ws)) ≡ picked pool (take (first + n) (positions starts row)) ++ drop (first + n) es
copied_part {T} pool es ws part starts row first n l room within e p =
    let P : ℕ → Type 0 = λ q. q < length pool in
    let ps : List ℕ = positions starts row in
    let qs : List ℕ = drop first ps in
    let len-ps : length ps ≡ length row = length_positions starts row in
    let xs : List T = picked pool (take first ps) in
    let ys : List T = picked pool (take n qs) in
    let old : List T = drop first es in
    let len-xs : length xs ≡ first = length_picked pool (take first ps) (All-take P first ps within) ∙ length-take-le first ps (omega (arith, len-ps)) in
    let len-qs : n ≤ length qs = omega (arith, length-drop first ps, len-ps) in
    let len-ys : length ys ≡ n = length_picked pool (take n qs) (All-take P n qs (All-drop P first ps within)) ∙ length-take-le n qs len-qs in
    let before : take first ws ≡ xs =
    ap (take first) e ∙ ap (λ k. take k (xs ++ old)) (sym len-xs) ∙ take-append_seam xs old in
    let behind : drop first ws ≡ old =
    ap (drop first) e ∙ ap (λ k. drop k (xs ++ old)) (sym len-xs) ∙ drop-append_seam xs old in
    let long : n ≤ length (drop first ws) = omega (arith, ap length behind, length-drop first es) in
    let nothing : drop (length ys) (take n (drop first ws)) ≡ [] =
    ap (λ k. drop k (take n (drop first ws))) (len-ys ∙ sym (length-take-le n (drop first ws) long)) ∙ drop-length (take n (drop first ws)) in
    let written : part ≡ ys =
    p ∙ ap (λ zs. at_front (picked pool zs) (take n (drop first ws))) (positions_part starts row first n) ∙ ap (λ zs. ys ++ zs) nothing ∙ append-nil ys in
    let left : drop n (drop first ws) ≡ drop (first + n) es = ap (drop n) behind ∙ drop-drop n first es in
    let all : picked pool (take (first + n) ps) ≡ xs ++ ys =
    ap (picked pool) (take-add first n ps) ∙ picked_append pool (take first ps) (take n qs) in
    ap (λ zs. zs ++ (part ++ drop n (drop first ws))) before
    ∙ ap (λ zs. xs ++ (zs ++ drop n (drop first ws))) written
    ∙ ap (λ zs. xs ++ (ys ++ zs)) left
    ∙ sym (append_assoc xs ys (drop (first + n) es))
    ∙ ap (λ zs. zs ++ drop (first + n) es) (sym all)

pub zeros_at : (n k : ℕ) → ◌≡◌ {A = ℕ} (get_or (replicate n 0) k 0) 0
zeros_at zero k = refl
zeros_at (suc n) zero = refl
zeros_at (suc n) (suc k) = zeros_at n k
