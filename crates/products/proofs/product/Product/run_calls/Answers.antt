use Rattle.std.proofs.Common.{rules}
use Rattle.std.proofs.lemmas.List.{length-map}
use Rattle.row_laws.specs.Calls.{controller}
use Rattle.row_laws.specs.Carries.{counter_shown}
use Rattle.row_laws.specs.Makings.{product_making}
use Rattle.row_laws.specs.Lawful.{ProductRow}
use Rattle.row_laws.proofs.Carries.{counter_fits}
use Rattle.row_laws.proofs.History.{since}
use Rattle.products.proofs.product.Product.run_calls.Goals as goal

pub returns : goal.returns
returns g c =
    let s = c.in_ok-enumerator.enumerator in
    let k = s.counter in
    let here = since {T = g.row.T.Denot} controller (ProductRow c.args.lengths.now c.args.repeat) (product_making c.args.lengths.now c.args.repeat 0)
    (counter_shown k.width k.size k.starts k.lengths k.idxs k.stop) c.in_ok-enumerator.ensures
    (counter_fits controller k.width k.size k.starts k.lengths k.idxs k.stop k.short k.few k.long k.modest k.lying) in
    search (rules, here, length-map, c)
