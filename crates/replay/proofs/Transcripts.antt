-- The end of a turn: the line of an end moves from what is to be written to what is written.
use Rattle.std.proofs.Common.{◌≡◌, ℕ, ◌+◌, ◌-◌, ◌<◌, true, List, [], ◌∷◌, ◌++◌, sym, refl, ap, ◌∙◌, append_assoc, add-one, arith, Ok, Err}
use Rattle.steps.specs.Steps.{Step, first, rest}
use Rattle.replay.specs.Lines.{answer_line, says_end, end_lines, transcript}

-- after an end nothing is ahead
pub end_last : {A : Type 0} (ss : List (Step A)) → says_end (first ss) ≡ true → rest ss ≡ []
end_last [] e = refl
end_last (Ok a ∷ ss) e = absurd (cc)
end_last (Err f ∷ ss) e = absurd (cc)

end_told : {A : Type 0} (line : A → List ℕ) (ends : ℕ) (ss : List (Step A)) → ends < 3 → says_end (first ss) ≡ true → transcript line (3 - ends) ss ≡ answer_line line (first ss) ++ transcript line (3 - (ends + 1)) (rest ss)
end_told line ends [] few e =
    let more : 3 - ends ≡ 3 - (ends + 1) + 1 = omega arith in
    ap end_lines (more ∙ add-one (3 - (ends + 1)))
end_told line ends (Ok a ∷ ss) few e = absurd (cc)
end_told line ends (Err f ∷ ss) few e = absurd (cc)

moved : (old line before after new whole : List ℕ) → before ≡ line ++ after → new ≡ old ++ line → old ++ before ≡ whole → new ++ after ≡ whole
moved old line before after new whole told shown h =
    ap (λ text. text ++ after) shown ∙ append_assoc old line after ∙ sym (ap (λ text. old ++ text) told) ∙ h

pub end_turn : {A : Type 0} (line : A → List ℕ) (ends : ℕ) (ss ts : List (Step A)) (old new whole : List ℕ) → ends < 3 → says_end (first ss) ≡ true → ts ≡ rest ss → new ≡ old ++ answer_line line (first ss) → old ++ transcript line (3 - ends) ss ≡ whole → new ++ transcript line (3 - (ends + 1)) ts ≡ whole
end_turn line ends ss ts old new whole few stops leaves shown h =
    moved old (answer_line line (first ss)) (transcript line (3 - ends) ss) (transcript line (3 - (ends + 1)) ts) new whole (end_told line ends ss few stops ∙ ap (λ us. answer_line line (first ss) ++ transcript line (3 - (ends + 1)) us) (sym leaves)) shown h
