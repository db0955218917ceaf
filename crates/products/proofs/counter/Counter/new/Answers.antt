use Rattle.std.proofs.Common.{ℕ, ◌%◌, length, take, ap, ◌∙◌, arith}
use Rattle.std.proofs.Math.Nat.{sub-zero}
use Rattle.row_laws.specs.Carries.{some_empty}
use Rattle.std.proofs.lemmas.List.{length-replicate}
use Rattle.row_laws.specs.Calls.{controller}
use Rattle.row_laws.proofs.Writing.{zeros_at}
use Rattle.row_laws.proofs.Carries.{looked_all, short_at, start_fits}
use Rattle.products.proofs.counter.Counter.new.Goals as goal

pub invariant_of-result-clause-room : goal.invariant_of-result-clause-room
invariant_of-result-clause-room c = omega (arith, c.args.pools.now.short, length-replicate {A = ℕ} controller.places 0)

pub invariant_of-result-clause-modest : goal.invariant_of-result-clause-modest
invariant_of-result-clause-modest c i i< =
    let p = c.args.pools.now in
    omega (arith, c.write_lengths.ensures.at i i<, short_at controller.elements p.lengths.now p.small (i % length p.lengths.now))

pub invariant_of-result-clause-lying : goal.invariant_of-result-clause-lying
invariant_of-result-clause-lying c i i< =
    let p = c.args.pools.now in
    omega (arith, c.write_starts.ensures.at i i<, c.write_lengths.ensures.at i i<, c.size.ensures.is, start_fits p.lengths.now i (p.some (omega arith)))

pub invariant_of-result-clause-looked : goal.invariant_of-result-clause-looked
invariant_of-result-clause-looked c =
    let p = c.args.pools.now in
    looked_all p.width c.min.result p.lengths.now c.write_lengths.new.lengths (omega (arith, c.min.ensures)) (omega (arith, p.short, c.write_lengths.ensures.long))
    (λ pos. (p.some pos, omega (arith, c.min.ensures, p.whole pos))) c.write_lengths.ensures.at

pub invariant_of-result-clause-inside : goal.invariant_of-result-clause-inside
invariant_of-result-clause-inside c k k< pos = omega (arith, zeros_at controller.places k)

pub returns-clause-zeros : goal.returns-clause-zeros
returns-clause-zeros c k k< = zeros_at controller.places k

pub invariant_of-result-clause-emptied : goal.invariant_of-result-clause-emptied
invariant_of-result-clause-emptied c = c.has_empty.ensures ∙ ap (λ n. some_empty (take n c.write_lengths.new.lengths)) (sub-zero c.args.pools.now.width)
