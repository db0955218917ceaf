-- What was written so far, and what is still to be written.
use Rattle.std.proofs.Common.{◌≡◌, ℕ, List, [], ◌∷◌, ◌++◌, Option, Some, None, sym, ap, ◌∙◌, subst, refl}
use Rattle.std.specs.Io.KnownBytes.{Appends}
use Rattle.std.proofs.KnownBytes.{Appends-nil, Appends-trans}
use Rattle.std.proofs.lemmas.List.{append_assoc, append-nil}
use Rattle.std.specs.List.{flat_map}
use Rattle.sources.specs.declared.block.Block.{Block}
use Rattle.plan.specs.declared.seam.Joint.{Joint}
use Rattle.plan.specs.declared.bays.Standing.{Standing}
use Rattle.plan.specs.declared.bays.Laid.{Laid}
use Rattle.plan.specs.Bays.{beside, descent, with_one, one_further, joints, laid_of}
use Rattle.plan.specs.Text.{joint_line, line_if, laid_lines}
use Rattle.plan.proofs.BaysLemmas.{same_joints}

-- what was written so far and what is still to be written make up the whole
pub record Told (old new : Option (List ℕ)) (whole ahead : List ℕ) : Type 0 where
  pub so_far : List ℕ
  pub appended : Appends old new so_far
  pub makes : so_far ++ ahead ≡ whole

pub told_none : (old : Option (List ℕ)) (whole ahead : List ℕ) → ahead ≡ whole → Told old old whole ahead
told_none old whole ahead e = record { so_far = []; appended = Appends-nil old; makes = e }

pub told_more : (old mid new : Option (List ℕ)) (whole ahead line more : List ℕ) → Told old mid whole ahead → Appends mid new line → ahead ≡ line ++ more → Told old new whole more
told_more old mid new whole ahead line more t a e = record {
  so_far = t.so_far ++ line;
  appended = Appends-trans old mid new t.so_far line t.appended a;
  makes = append_assoc t.so_far line more ∙ ap (λ us. t.so_far ++ us) (sym e) ∙ t.makes;
}

pub told_on : (old new : Option (List ℕ)) (whole ahead more : List ℕ) → Told old new whole ahead → ahead ≡ more → Told old new whole more
told_on old new whole ahead more t e = record { so_far = t.so_far; appended = t.appended; makes = ap (λ us. t.so_far ++ us) (sym e) ∙ t.makes }

pub told_all : (old new : Option (List ℕ)) (whole ahead : List ℕ) → Told old new whole ahead → ahead ≡ [] → Appends old new whole
told_all old new whole ahead t e =
    let all : t.so_far ≡ whole = sym (append-nil t.so_far) ∙ ap (λ us. t.so_far ++ us) (sym e) ∙ t.makes in
    subst (Appends old new) all t.appended

-- the lines of one more block stand in front of those of the others
lines_with : (o : Option Joint) (js : List Joint) → flat_map joint_line (with_one o js) ≡ line_if o ++ flat_map joint_line js
lines_with None js = refl
lines_with (Some j) js = refl

pub laid_more : (last now : Option Block) (bays news : ℕ → Option Standing) (b : Block) (bs : List Block) (l : Laid) →
    l ≡ laid_of last (bays b.bay) b → now ≡ Some b → ((q : ℕ) → news q ≡ one_further bays b q) →
    flat_map joint_line (joints last bays (b ∷ bs)) ≡ laid_lines l ++ flat_map joint_line (joints now news bs)
laid_more last now bays news b bs l laid at further =
    let more = joints (Some b) (one_further bays b) bs in
    lines_with (descent last b) (with_one (beside (bays b.bay) b) more)
    ∙ ap (λ us. line_if (descent last b) ++ us) (lines_with (beside (bays b.bay) b) more)
    ∙ sym (append_assoc (line_if (descent last b)) (line_if (beside (bays b.bay) b)) (flat_map joint_line more))
    ∙ ap (λ (x : Laid). laid_lines x ++ flat_map joint_line more) (sym laid)
    ∙ ap (λ js. laid_lines l ++ flat_map joint_line js) (sym (same_joints (Some b) news (one_further bays b) further bs) ∙ ap (λ o. joints o news bs) (sym at))
