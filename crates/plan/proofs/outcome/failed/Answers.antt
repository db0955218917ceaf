use Rattle.std.proofs.Common.{rules, ◌≡◌, ℕ, ◌+◌, length, take, get_or, string_bytes, codes, Bor, List, [], sym, ap, ◌∙◌, length-append, arith}
use Rattle.std.specs.List.{fold}
use Rattle.std.proofs.lemmas.List.Sums.{fold_more}
use Rattle.plan.specs.Outcome.{and_reason, mark}
use Rattle.plan.proofs.OutcomeLemmas.{comma_after, with_more, with_none}
use Rattle.plan.proofs.outcome.failed.Goals as goal
use Rattle.plan.proofs.outcome.failed.Goals.{then-count-ne0+in_ok-write, else-count-ne0}

pub loop-count-preserved : goal.loop-count-preserved
loop-count-preserved c =
    let d : ℕ × Bor (List ℕ) = (0, record { ref_ptr = (0, 0); now = [] }) in
    let r = get_or c.args.reasons.now c.loop-count.count-index d in
    let old = string_bytes c.loop-count.line in
    let inv = c.loop-count.invariant in
    let more : fold and_reason (codes "plan failed") (take (c.loop-count.count-index + 1) c.args.reasons.now) ≡ and_reason (fold and_reason (codes "plan failed") (take c.loop-count.count-index c.args.reasons.now)) r =
    fold_more and_reason (codes "plan failed") c.args.reasons.now c.loop-count.count-index d c.loop-count-test.true in
    let so_far = ap (λ l. and_reason l r) inv.so_far ∙ sym more in
    elim c.if-count-ne0.branch [
      | then-count-ne0+in_ok-write w ↦ (
          let wrote = ap string_bytes w.line-is ∙ w.in_ok-write.ensures.bytes in
          record {
            text = search rules;
            so_far = with_more old c.loop-count.mark.now r.1.now (string_bytes c.if-count-ne0.line) r.0 w.if-count-ne0.true inv.marked wrote ∙ so_far;
            marked = ap (λ b. b.now) w.mark-is ∙ sym (ap mark wrote ∙ comma_after old c.loop-count.mark.now r.1.now r.0 inv.long);
            long = omega (arith, inv.long, simp length-append at (ap length wrote));
          })
      | else-count-ne0 w ↦ record {
        text = search rules;
        so_far = ap string_bytes w.line-is ∙ with_none old r.1.now r.0 w.if-count-ne0.false ∙ so_far;
        marked = search rules;
        long = search rules;
      }
    ]
