use Rattle.std.proofs.Common.{◌∷◌, take, option_map, sym, ap, ◌∙◌}
use Rattle.row_laws.specs.Lists.{tuples, ahead_from}
use Rattle.row_laws.specs.Calls.{other_rows}
use Rattle.row_laws.specs.Carries.{stands_at}
use Rattle.row_laws.proofs.Order.{Fitting}
use Rattle.row_laws.proofs.Standing.{shown}
use Rattle.row_laws.proofs.Calling.{part_front}
use Rattle.row_laws.proofs.Carries.{over_none, going, row_fits, tuples_taken}
use Rattle.products.proofs.product.ProductEnumerator.row.Goals as goal

pub returns-then-is_over : goal.returns-then-is_over
returns-then-is_over c =
    let k = c.args.self.now.counter in
    over_none k.width k.stop k.idxs (take k.width k.lengths) (sym c.if-is_over.ensures)

pub returns : goal.returns
returns c =
    let k = c.args.self.now.counter in
    let w = k.width in
    let go = going w k.lengths k.idxs k.stop k.long (sym c.if-is_over.ensures) k.inside in
    let rows = tuples (take w k.lengths) in
    shown (Fitting (take w k.lengths)) w rows (tuples_taken w k.lengths k.idxs k.long k.room) (stands_at k.stop k.idxs) k.idxs
    (ap (λ z. stands_at z k.idxs) go.0) (row_fits w k.lengths k.idxs k.long k.room go.1)
    ∙ ap (λ row. row ∷ other_rows (ahead_from (option_map (take w) (stands_at k.stop k.idxs)) rows)) (sym (part_front w k.idxs))
