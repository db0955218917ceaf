use Rattle.std.proofs.Common.{refl}
use Rattle.row_laws.proofs.Pools.{pool_by_pool}
use Rattle.products.proofs.product.pool_by_pool.Goals as goal

pub returns : goal.returns
returns g c = record { result = refl; law = pool_by_pool _ }
