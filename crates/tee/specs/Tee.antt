-- What callers see of a tee: its plain state, and the source that it draws from.
use Rattle.std.specs.Prelude.{ℕ, List}
use Rattle.steps.specs.Steps.{Step}
use Rattle.laws.specs.Tee.{Marks, After, stepped}
use Rattle.tee.specs.declared.tee.Marks.{Marks as TheMarks}
use Rattle.tee.specs.declared.tee.Tee.{Tee}

abbrev pub standing : TheMarks → Marks
standing m = record {
  positions = m.positions;
  branches = m.branches;
  stored = m.stored;
  places = m.places;
}

abbrev pub marks_of : {S : Type 0} → Tee S → Marks
marks_of t = standing t.marks

abbrev pub source_of : {S : Type 0} → Tee S → S
source_of t = t.source

-- what a step of the branch b answers and leaves, which is lent this store
abbrev pub step_of : {S A : Type 0} → (S → List (Step A)) → Tee S → ℕ → List A → After A
step_of ahead t b store = stepped (marks_of t) b (ahead (source_of t)) store
