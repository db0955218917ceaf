-- The end of a turn moves its line from what is to be written to what is written.
use Rattle.std.proofs.Common.{◌≡◌, ◌<◌, true, ◌++◌, string_bytes, sym, ◌∙◌, arith}
use Rattle.steps.specs.Steps.{first}
use Rattle.replay.specs.Lines.{says_end, transcript}
use Rattle.replay.proofs.Transcripts.{end_last, end_turn}
use Rattle.replay.proofs.play.play.Goals as goal

pub loop-preserved : goal.loop-preserved
loop-preserved g c =
    let line = g.S.Item.Show.line in
    let ss = g.S.Source.ahead c.loop-2.source in
    let ts = g.S.Source.ahead c.call.new.source in
    let whole = string_bytes c.args.out.now ++ transcript line 3 (g.S.Source.ahead c.args.source.now) in
    let few : c.loop.counter < 3 = omega (arith, c.loop-test.true) in
    let wrote = c.in_ok-call.ensures.unless_out_of_memory in
    let stops : says_end (first ss) ≡ true = sym wrote.0 ∙ c.if-not-branch.false in
    let leaves = c.call.ensures.leaves in
    record {
      ended = λ _. leaves ∙ end_last ss stops;
      told = end_turn line c.loop.counter ss ts (string_bytes c.loop-2.out) (string_bytes c.call.new.out) whole few stops leaves wrote.1 c.loop-2.invariant.told;
    }
