use Rattle.std.proofs.Common.{◌≡◌, ℕ, ◌+◌, ◌-◌, ◌*◌, ◌/◌, ◌++◌, length, take, drop, sym, ap, ◌∙◌, arith}
use Rattle.std.proofs.Math.Seq.{take-length}
use Rattle.row_laws.specs.Calls.{picked, positions}
use Rattle.row_laws.proofs.Writing.{copied_part, part_within, length_positions, length_picked}
use Rattle.enumerators.proofs.copy.copy.Goals as goal

pub copy_part-requires-clause-within : goal.copy_part-requires-clause-within
copy_part-requires-clause-within g c =
    let first : ℕ = c.loop-block.block * 16 in
    part_within (length c.args.pool.now) (g.E.Enumerator.shown c.args.enumerator.now).starts c.args.row.now first (first + 16 - first) c.requires.within

pub copy_part-requires-2-clause-within : goal.copy_part-requires-2-clause-within
copy_part-requires-2-clause-within g c =
    let first : ℕ = length c.args.row.now / 16 * 16 in
    part_within (length c.args.pool.now) (g.E.Enumerator.shown c.args.enumerator.now).starts c.args.row.now first (length c.args.row.now - first) c.requires.within

pub loop-block-preserved : goal.loop-block-preserved
loop-block-preserved g c =
    let s = (g.E.Enumerator.shown c.args.enumerator.now).starts in
    let pool = c.args.pool.now in
    let es = c.args.elements.now in
    let row = c.args.row.now in
    let first : ℕ = c.loop-block.block * 16 in
    copied_part pool es c.loop-block.elements c.copy_part.new.elements s row first (first + 16 - first)
    (omega (arith, c.loop-block-test.true)) c.requires.room c.requires.within c.loop-block.invariant c.copy_part.ensures
    ∙ ap (λ k. picked pool (take k (positions s row)) ++ drop k es) (omega arith)

pub returns : goal.returns
returns g c =
    let s = (g.E.Enumerator.shown c.args.enumerator.now).starts in
    let pool = c.args.pool.now in
    let es = c.args.elements.now in
    let row = c.args.row.now in
    let ps = positions s row in
    let first : ℕ = length row / 16 * 16 in
    let at : c.loop-block.block ≡ length row / 16 = omega (arith, c.loop-block-test.false, c.loop-block.auto.block-end) in
    copied_part pool es c.loop-block.elements c.copy_part-2.new.elements s row first (length row - first)
    (omega arith) c.requires.room c.requires.within
    (c.loop-block.invariant ∙ ap (λ k. picked pool (take (k * 16) ps) ++ drop (k * 16) es) at) c.copy_part-2.ensures
    ∙ ap (λ k. picked pool (take k ps) ++ drop k es) (omega (arith, length_positions s row))
    ∙ ap (λ zs. picked pool zs ++ drop (length ps) es) (take-length ps)
    ∙ ap (λ k. picked pool ps ++ drop k es) (sym (length_picked pool ps c.requires.within))
