-- compress: the data whose selectors a predicate accepts.
use Rattle.std.specs.Prelude.{◌≡◌, ℕ, zero, suc, ◌+◌, Bool, true, false, cond, ◌⊎◌, List, [], ◌∷◌, ◌++◌, map, length, drop, Some, Ok, Err, Result}
use Rattle.steps.specs.Steps.{Step}
use Rattle.std.specs.List.{slice_get}
use Rattle.steps.specs.declared.fault.Fault.{Fault}
use Rattle.laws.specs.Items.{Decided}
use Rattle.laws.specs.Run.{Call, ItemsDrawn}

-- a selector that is denied loses its datum, and so does a predicate's fault, which takes the pair's place
abbrev pub keep_on : {A : Type 0} → Result Bool Fault → A → List (Step A) → List (Step A)
keep_on (Ok true) a more = Ok a ∷ more
keep_on (Ok false) a more = more
keep_on (Err f) a more = Err f ∷ more

-- a data fault draws no selector, a selector's fault loses the datum
abbrev pub compressed : {A B : Type 0} → (B → Result Bool Fault) → List (Step A) → List (Step B) → List (Step A)
compressed p [] ts = []
compressed p (Err f ∷ ds) ts = Err f ∷ compressed p ds ts
compressed p (Ok a ∷ ds) [] = []
compressed p (Ok a ∷ ds) (Err f ∷ ts) = Err f ∷ compressed p ds ts
compressed p (Ok a ∷ ds) (Ok b ∷ ts) = keep_on (p b) a (compressed p ds ts)

-- what a compress has ahead: nothing after its first end
abbrev pub compresses : {A B : Type 0} → (B → Result Bool Fault) → Bool → List (Step A) → List (Step B) → List (Step A)
compresses p ended ds ts = cond ended [] (compressed p ds ts)

-- where a call leaves the two sources, and whether it said end
pub record CompressAfter (A B : Type 0) : Type 0 where
  pub data_left : List (Step A)
  pub selectors_left : List (Step B)
  pub ended : Bool

abbrev pub compress_go : {A B : Type 0} → Result Bool Fault → List (Step A) → List (Step B) → CompressAfter A B → CompressAfter A B
compress_go (Ok true) ds ts more = record { data_left = ds; selectors_left = ts; ended = false }
compress_go (Ok false) ds ts more = more
compress_go (Err f) ds ts more = record { data_left = ds; selectors_left = ts; ended = false }

abbrev pub compressing : {A B : Type 0} → (B → Result Bool Fault) → List (Step A) → List (Step B) → CompressAfter A B
compressing p [] ts = record { data_left = []; selectors_left = ts; ended = true }
compressing p (Err f ∷ ds) ts = record { data_left = ds; selectors_left = ts; ended = false }
compressing p (Ok a ∷ ds) [] = record { data_left = ds; selectors_left = []; ended = true }
compressing p (Ok a ∷ ds) (Err f ∷ ts) = record { data_left = ds; selectors_left = ts; ended = false }
compressing p (Ok a ∷ ds) (Ok b ∷ ts) = compress_go (p b) ds ts (compressing p ds ts)

abbrev pub compress_after : {A B : Type 0} → (B → Result Bool Fault) → Bool → List (Step A) → List (Step B) → CompressAfter A B
compress_after p ended ds ts = cond ended (record { data_left = ds; selectors_left = ts; ended = true }) (compressing p ds ts)

-- what the two sources have left once the compress has said end: a datum is drawn before its selector,
-- so one more datum than selectors goes where the selectors end first
pub record CompressLeft (A B : Type 0) : Type 0 where
  pub data_left : List (Step A)
  pub selectors_left : List (Step B)

abbrev pub compress_end : {A B : Type 0} → List (Step A) → List (Step B) → CompressLeft A B
compress_end [] ts = record { data_left = []; selectors_left = ts }
compress_end (Err f ∷ ds) ts = compress_end ds ts
compress_end (Ok a ∷ ds) [] = record { data_left = ds; selectors_left = [] }
compress_end (Ok a ∷ ds) (s ∷ ts) = compress_end ds ts

abbrev pub compress_ends : {A B : Type 0} → Bool → List (Step A) → List (Step B) → CompressLeft A B
compress_ends ended ds ts = cond ended (record { data_left = ds; selectors_left = ts }) (compress_end ds ts)

-- the calls of a run, with what each leaves of the two sources
abbrev pub keep_call : {A B : Type 0} → Result Bool Fault → A → List (Step A) → List (Step B) → List (Call A (CompressLeft A B)) → List (Call A (CompressLeft A B))
keep_call (Ok true) a ds ts more = record { step = Ok a; left = record { data_left = ds; selectors_left = ts } } ∷ more
keep_call (Ok false) a ds ts more = more
keep_call (Err f) a ds ts more = record { step = Err f; left = record { data_left = ds; selectors_left = ts } } ∷ more

abbrev pub compressed_run : {A B : Type 0} → (B → Result Bool Fault) → List (Step A) → List (Step B) → List (Call A (CompressLeft A B))
compressed_run p [] ts = []
compressed_run p (Err f ∷ ds) ts = record { step = Err f; left = record { data_left = ds; selectors_left = ts } } ∷ compressed_run p ds ts
compressed_run p (Ok a ∷ ds) [] = []
compressed_run p (Ok a ∷ ds) (Err f ∷ ts) = record { step = Err f; left = record { data_left = ds; selectors_left = ts } } ∷ compressed_run p ds ts
compressed_run p (Ok a ∷ ds) (Ok b ∷ ts) = keep_call (p b) a ds ts (compressed_run p ds ts)

abbrev pub compress_run : {A B : Type 0} → (B → Result Bool Fault) → Bool → List (Step A) → List (Step B) → List (Call A (CompressLeft A B))
compress_run p ended ds ts = cond ended [] (compressed_run p ds ts)

-- how many of the first k selectors are accepted
abbrev pub one_if : Result Bool Fault → ℕ
one_if (Ok true) = 1
one_if (Ok false) = 0
one_if (Err f) = 0

abbrev pub accepted : {B : Type 0} → (B → Result Bool Fault) → ℕ → List B → ℕ
accepted p zero bs = 0
accepted p (suc k) [] = 0
accepted p (suc k) (b ∷ bs) = one_if (p b) + accepted p k bs

-- Over sources without faults and a predicate that answers yes or no: the datum at k whose selector is
-- accepted is given, behind the data kept before it; and as many are given as selectors with a datum are accepted.
pub record KeepsAccepted {A B : Type 0} (p : B → Result Bool Fault) (ds : List (Step A)) (ts : List (Step B)) (gives : List (Step A)) : Type 0 where
  pub each : (xs : List A) (bs : List B) → ds ≡ map Ok xs → ts ≡ map Ok bs → Decided p bs → (k : ℕ) (a : A) (b : B) →
      slice_get xs k ≡ Some a → slice_get bs k ≡ Some b → p b ≡ Ok true → slice_get gives (accepted p k bs) ≡ Some (Ok a)
  pub count : (xs : List A) (bs : List B) → ds ≡ map Ok xs → ts ≡ map Ok bs → Decided p bs → length gives ≡ accepted p (length xs) bs

-- Over sources without faults: by its end it has drawn one datum more than there are selectors, or all, and as many selectors as data.
abbrev pub CompressDraws : {A B : Type 0} → List (Step A) → List (Step B) → List (Step A) → List (Step B) → Type 0
CompressDraws {A} {B} ds ts ds' ts' = (xs : List A) (bs : List B) → ds ≡ map Ok xs → ts ≡ map Ok bs →
    (ds' ≡ map Ok (drop (length bs + 1) xs)) × (ts' ≡ map Ok (drop (length xs) bs))

-- With and without faults: whenever it gives a step, as many data are drawn as steps of the selectors. By its end they are as many
-- where the data have ended, and one datum more where the selectors have.
pub record DatumForEach {A B : Type 0} (more : ℕ) (ds : List (Step A)) (ts : List (Step B)) (left : CompressLeft A B) : Type 0 where
  pub asked : List (Step B)
  pub selectors : ts ≡ asked ++ left.selectors_left
  pub items : ItemsDrawn (more + length asked) ds left.data_left

pub record EachDatum {A B : Type 0} (ds : List (Step A)) (ts : List (Step B)) (run : List (Call A (CompressLeft A B))) (end : CompressLeft A B) : Type 0 where
  pub on_the_way : (before after : List (Call A (CompressLeft A B))) (c : Call A (CompressLeft A B)) → run ≡ before ++ c ∷ after → DatumForEach 0 ds ts c.left
  pub by_the_end : (DatumForEach 0 ds ts end × (end.data_left ≡ [])) ⊎ (DatumForEach 1 ds ts end × (end.selectors_left ≡ []))
