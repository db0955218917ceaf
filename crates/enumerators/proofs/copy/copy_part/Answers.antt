use Rattle.std.proofs.Common.{ℕ, ◌+◌, ◌++◌, length, take, drop, sym, ap, ◌∙◌, arith, rules}
use Rattle.std.proofs.Math.Seq.{take-length}
use Rattle.row_laws.specs.Calls.{picked, positions}
use Rattle.row_laws.proofs.Writing.{copied_more, position_below, get_or_positions, length_positions, length_picked}
use Rattle.enumerators.proofs.copy.copy_part.Goals as goal

pub overflow_add-elements : goal.overflow_add-elements
overflow_add-elements g c =
    let s : ℕ → ℕ = λ k. (g.E.Enumerator.shown c.args.enumerator.now).starts (c.args.first + k) in
    omega (arith, c.pool_start.ensures, position_below (length c.args.pool.now) s c.args.places.now c.loop-i.i (omega arith) c.requires.within)

pub bounds-pool-pool_start : goal.bounds-pool-pool_start
bounds-pool-pool_start g c =
    let s : ℕ → ℕ = λ k. (g.E.Enumerator.shown c.args.enumerator.now).starts (c.args.first + k) in
    omega (arith, c.pool_start.ensures, position_below (length c.args.pool.now) s c.args.places.now c.loop-i.i (omega arith) c.requires.within)

pub offset_bounds-pool-pool_start : goal.offset_bounds-pool-pool_start
offset_bounds-pool-pool_start g c =
    let s : ℕ → ℕ = λ k. (g.E.Enumerator.shown c.args.enumerator.now).starts (c.args.first + k) in
    omega (arith, c.pool_start.ensures, position_below (length c.args.pool.now) s c.args.places.now c.loop-i.i (omega arith) c.requires.within)

pub loop-i-preserved : goal.loop-i-preserved
loop-i-preserved g c =
    let s : ℕ → ℕ = λ k. (g.E.Enumerator.shown c.args.enumerator.now).starts (c.args.first + k) in
    let p = c.args.places.now in
    let len = length_positions s p in
    copied_more c.args.pool.now c.args.elements.now c.loop-i.elements (positions s p) c.loop-i.i _
    (omega (arith, len)) (omega (arith, len, c.requires.room)) c.requires.within
    (rw (get_or_positions s p c.loop-i.i (omega arith)) (search rules)) c.loop-i.invariant

pub returns : goal.returns
returns g c =
    let s : ℕ → ℕ = λ k. (g.E.Enumerator.shown c.args.enumerator.now).starts (c.args.first + k) in
    let pool = c.args.pool.now in
    let ps = positions s c.args.places.now in
    let len = length_positions s c.args.places.now in
    let es = c.args.elements.now in
    c.loop-i.invariant
    ∙ ap (λ k. picked pool (take k ps) ++ drop k es) (omega (arith, len))
    ∙ ap (λ zs. picked pool zs ++ drop (length ps) es) (take-length ps)
    ∙ ap (λ k. picked pool ps ++ drop k es) (sym (length_picked pool ps c.requires.within))
