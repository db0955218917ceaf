use Rattle.std.proofs.Common.{◌≡◌, ◌-◌, get_or, set, sym, subst, arith}
use Rattle.std.proofs.lemmas.List.{get_or-set_same}
use Rattle.row_laws.specs.Cycles.{Scanned}
use Rattle.row_laws.proofs.Cycles.{scanned_none, scanned_more, scanned_all, scanned_found, counter_low, counter_high}
use Rattle.permutations.proofs.cycles.step.Goals as goal

pub loop-i-init : goal.loop-i-init
loop-i-init c = scanned_none c.args.n c.args.r c.args.indices.now c.args.cycles.now (omega arith) c.requires.cycling

pub overflow_sub-n : goal.overflow_sub-n
overflow_sub-n c =
    let i = c.loop-i.i - 1 in
    let cs = c.loop-i.cycles in
    omega (
      arith,
      get_or-set_same cs i (get_or cs i 0 - 1) 0 (omega arith),
      counter_high c.args.n c.args.r c.loop-i.i i c.args.indices.now c.args.cycles.now c.loop-i.indices cs (omega arith) (omega arith) (omega arith) c.loop-i.invariant,
    )

pub loop-i-preserved : goal.loop-i-preserved
loop-i-preserved c =
    let i = c.loop-i.i - 1 in
    let cs = c.loop-i.cycles in
    let low = counter_low c.args.n c.args.r c.loop-i.i i c.args.indices.now c.args.cycles.now c.loop-i.indices cs (omega arith) c.loop-i.invariant in
    let one : get_or cs i 0 ≡ 1 = omega (arith, get_or-set_same cs i (get_or cs i 0 - 1) 0 (omega arith)) in
    subst (Scanned c.args.n c.args.r i c.args.indices.now c.args.cycles.now c.rotate.new.indices) (sym c.rotate.ensures.cycles)
    (scanned_more c.args.n c.args.r c.loop-i.i i c.args.indices.now c.args.cycles.now c.loop-i.indices cs c.rotate.new.indices (get_or cs i 0 - 1)
    (omega arith) (omega arith) (omega arith) (omega arith) c.loop-i.invariant one c.rotate.ensures.indices)

pub returns-then-i-eq0-clause-stepped : goal.returns-then-i-eq0-clause-stepped
returns-then-i-eq0-clause-stepped c =
    scanned_all c.args.n c.args.r c.loop-i.i c.args.indices.now c.args.cycles.now c.loop-i.indices c.loop-i.cycles
    (omega arith) (omega arith) c.requires.cycling c.loop-i.invariant

pub returns-then-cycle-gt0-clause-stepped : goal.returns-then-cycle-gt0-clause-stepped
returns-then-cycle-gt0-clause-stepped c =
    let i = c.loop-i.i - 1 in
    let cs = c.loop-i.cycles in
    let v = get_or cs i 0 - 1 in
    let read : get_or (set cs i v) i 0 ≡ v = get_or-set_same cs i v 0 (omega arith) in
    scanned_found c.args.n c.args.r c.loop-i.i i c.args.indices.now c.args.cycles.now c.loop-i.indices cs c.swap.new.self v (get_or (set cs i v) i 0)
    (omega arith) (omega arith) (omega arith) (omega arith) (omega arith) (omega arith) c.requires.cycling c.loop-i.invariant (omega arith) read (omega arith) c.swap.ensures.after
