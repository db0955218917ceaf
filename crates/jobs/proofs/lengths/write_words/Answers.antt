use Rattle.std.proofs.Common.{◌≡◌, ◌-◌, ◌<◌, ◌≤◌, ◌∷◌, length, take, drop, sym, ap, ◌∙◌, arith, length-drop}
use Rattle.std.proofs.lemmas.List.{take_rest}
use Rattle.jobs.specs.Job.{words}
use Rattle.jobs.proofs.JobLemmas.{first_word, no_word, left_more, front_more, behind_more, all_written}
use Rattle.jobs.proofs.lengths.write_words.Goals as goal

pub loop-rest-preserved : goal.loop-rest-preserved
loop-rest-preserved c =
    let all = words c.args.bytes.now in
    let rest = c.loop-rest.rest.now in
    let i = c.loop-rest.count in
    let x = c.from.result in
    let two : 2 ≤ length rest = c.in-len2-up.len_at_least in
    let others : take (length rest - 2) (drop 2 rest) ≡ drop 2 rest = take_rest rest 2 in
    let read : words rest ≡ x ∷ words (drop 2 rest) = first_word rest two ∙ ap (λ y. y ∷ words (drop 2 rest)) (sym (c.from.ensures ∙ c.word_of.ensures)) in
    let ahead : drop i all ≡ x ∷ words (drop 2 rest) = sym c.loop-rest.invariant.left ∙ read in
    let within : i < length c.loop-rest.numbers = omega (arith, c.requires.room, c.loop-rest.invariant.sized, c.loop-rest.auto.numbers) in
    record {
      left = ap words others ∙ left_more i all (words (drop 2 rest)) x ahead;
      counted = omega (arith, ap length (ap words others), ap length read, c.loop-rest.invariant.counted);
      sized = omega (arith, length-drop 2 rest, ap length others, c.loop-rest.invariant.sized);
      front = front_more i all c.loop-rest.numbers (words (drop 2 rest)) x within ahead c.loop-rest.invariant.front;
      behind = behind_more i c.loop-rest.numbers c.args.numbers.now x c.loop-rest.invariant.behind;
    }

pub returns-clause-writes : goal.returns-clause-writes
returns-clause-writes c =
    let all = words c.args.bytes.now in
    let i = c.loop-rest.count in
    let done : i ≡ length all = omega (arith, ap length (no_word c.loop-rest.rest.now c.in_default.len_below), c.loop-rest.invariant.counted) in
    all_written i all c.loop-rest.numbers c.args.numbers.now done c.loop-rest.invariant.front c.loop-rest.invariant.behind
