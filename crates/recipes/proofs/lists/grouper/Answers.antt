use Rattle.std.proofs.Common.{rules, ◌≡◌, ◌≤◌, ◌%◌, length, ap, ◌∙◌, arith}
use Rattle.std.proofs.Math.Nat.{mod-lt}
use Rattle.recipes.proofs.ListLemmas.{filled_more, in_runs_whole, in_runs_filled}
use Rattle.recipes.proofs.lists.grouper.Goals.{then-over-gt0+else-loop-test, else-over-gt0}
use Rattle.recipes.proofs.lists.grouper.Goals as goal

pub loop-preserved : goal.loop-preserved
loop-preserved g c = filled_more c.in_ok-items.items.items c.loop.items.items _ c.loop.counter _ c.args.fill c.loop.auto.counter c.loop.invariant c.in_ok-push.ensures.items

pub returns-clause-answer : goal.returns-clause-answer
returns-clause-answer g c h =
    let once = c.in_ok-items.items in
    let m : length once.items % c.args.n ≡ c.len.result % c.args.n = search rules in
    let u : c.len.result % c.args.n ≤ c.args.n = let t = mod-lt c.len.result h in omega (arith, t) in
    elim c.if-over-gt0.branch [
      | then-over-gt0+else-loop-test w ↦ (
        once.items,
        c.in_ok-items.ensures.answer,
        in_runs_filled c.args.n (c.len.result % c.args.n) w.loop.counter c.args.fill once.items _ h m w.if-over-gt0.true u (let q = w.loop.auto.counter-end u in omega (arith, q, w.loop-test.false))
            (ap (λ v. v.items) w.items-is ∙ w.loop.invariant),
      )
      | else-over-gt0 w ↦ (once.items, c.in_ok-items.ensures.answer, rw w.items-is (in_runs_whole c.args.n _ c.args.fill once.items h m w.if-over-gt0.false))
    ]
