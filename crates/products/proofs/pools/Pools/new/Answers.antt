use Rattle.std.proofs.Common.{length, arith}
use Rattle.row_laws.specs.Calls.{controller}
use Rattle.row_laws.proofs.Limits.{fits}
use Rattle.row_laws.proofs.Carries.{all_short, sum_small, some_pool, pools_fit}
use Rattle.products.proofs.pools.Pools.new.Goals as goal

pub invariant_of-result : goal.invariant_of-result
invariant_of-result c =
    let xs = c.args.lengths.now in
    let f = fits controller xs c.row_length-width.result c.in_ok-check_limits.ensures.answer in
    record {
      small = f.pools;
      total = sum_small controller.elements controller.places xs (all_short controller.elements xs f.pools) f.few;
      short = f.short;
      some = λ pos. some_pool (length xs) c.args.repeat (omega (arith, c.row_length-width.ensures));
      whole = λ pos. omega (arith, c.row_length-width.ensures, f.short, pools_fit (length xs) c.args.repeat (omega (arith, c.row_length-width.ensures)));
    }
