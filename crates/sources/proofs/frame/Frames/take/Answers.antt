use Rattle.std.proofs.Common.{refl, ◌-◌, ◌≤◌, ◌+◌, ◌≡◌, length, take, drop, Ok, sym, ap, ◌∙◌, arith, rules}
use Rattle.std.proofs.lemmas.List.{take_rest, length-take-le, drop-drop}
use Rattle.sources.specs.Frame.{framed}
use Rattle.sources.proofs.FrameLemmas.{behind, whole_record}
use Rattle.sources.proofs.frame.Frames.take.Goals as goal

pub returns-clause-taken : goal.returns-clause-taken
returns-clause-taken c =
    let bs = c.args.self.now.bytes.now in
    let at = c.args.self.now.at in
    let w = c.word_of-len.result in
    let ys = take (length bs - at) (drop at bs) in
    let lo : 4 ≤ length ys = search rules in
    let whole = whole_record w ys lo c.word_of-len.ensures c.if-rest-len.false in
    let left : drop (4 + w) ys ≡ drop (at + 4 + w) bs =
    ap (drop (4 + w)) (take_rest bs at) ∙ drop-drop (4 + w) at bs ∙ ap (λ n. drop n bs) (omega arith) in
    let long : length (take (w - 0) (behind 4 ys)) ≡ w - 0 = length-take-le (w - 0) (behind 4 ys) (omega (arith, c.if-rest-len.false)) in
    let sized : at + 4 + w ≡ at + 4 + length (take (w - 0) (behind 4 ys)) = omega (arith, long) in (
      refl,
      ap framed (sym (take_rest bs at)) ∙ whole
          ∙ ap (λ k. Ok (record { kind = k; payload = take (w - 0) (behind 4 ys); behind = drop (4 + w) ys })) (sym c.word_of.ensures)
          ∙ ap (λ b. Ok (record { kind = c.word_of.result; payload = take (w - 0) (behind 4 ys); behind = b })) left,
      sized,
    )
