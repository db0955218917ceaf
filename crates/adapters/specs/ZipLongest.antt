-- A zip_longest in words: its parts, what it has ahead, and its run.
use Rattle.std.specs.Prelude.{List, []}
use Rattle.steps.specs.Steps.{Step}
use Rattle.laws.specs.Run.{Call, Both}
use Rattle.laws.specs.ZipLongest.{zipped, zipped_run}
use Rattle.adapters.specs.declared.zip_longest.ZipLongest.{ZipLongest}

abbrev pub zip_left : {L R A B : Type 0} → ZipLongest L R A B → L
zip_left s = s.left

abbrev pub zip_right : {L R A B : Type 0} → ZipLongest L R A B → R
zip_right s = s.right

abbrev pub zip_left_fill : {L R A B : Type 0} → ZipLongest L R A B → A
zip_left_fill s = s.left_fill

abbrev pub zip_right_fill : {L R A B : Type 0} → ZipLongest L R A B → B
zip_right_fill s = s.right_fill

-- by what its sources have ahead
abbrev pub zip_ahead : {L R A B : Type 0} → (L → List (Step A)) → (R → List (Step B)) → ZipLongest L R A B → List (Step (A × B))
zip_ahead left right s = zipped s.left_fill s.right_fill (left s.left) (right s.right)

abbrev pub zip_run : {L R A B : Type 0} → (L → List (Step A)) → (R → List (Step B)) → ZipLongest L R A B → List (Call (A × B) (Both A B))
zip_run left right s = zipped_run s.left_fill s.right_fill (left s.left) (right s.right)

-- what its sources have left now, and once it has said end
abbrev pub zip_below : {L R A B : Type 0} → (L → List (Step A)) → (R → List (Step B)) → ZipLongest L R A B → Both A B
zip_below left right s = record { first = left s.left; second = right s.right }

abbrev pub zip_end : {A B : Type 0} → Both A B
zip_end = record { first = []; second = [] }
