use Rattle.std.proofs.Common.{◌≡◌, ℕ, ◌*◌, ◌%◌, ◌<◌, length, get_or, sum, ap, ◌∙◌, subst, arith}
use Rattle.row_laws.specs.Calls.{controller}
use Rattle.row_laws.specs.Carries.{pool_start}
use Rattle.row_laws.proofs.Carries.{product_made}
use Rattle.products.proofs.product.Product.new.Goals as goal

pub returns : goal.returns
returns c =
    let xs = c.args.lengths.now in
    let q = c.args.repeat in
    let k = c.new-2.result in
    let h = c.new-2.ensures in
    let made = c.in_ok-pools.ensures in
    let wide : k.width ≡ length xs * q = h.width ∙ made.2 in
    let lengths : (i : ℕ) → i < k.width → get_or k.lengths i 0 ≡ get_or xs (i % length xs) 0 = λ i i<.
    subst (λ z. get_or k.lengths i 0 ≡ get_or z (i % length z) 0) made.1 (h.lengths i (omega (arith, h.width))) in
    product_made xs k.lengths k.idxs q k.width wide k.long k.room lengths (λ i i<. h.zeros i (omega (arith, h.width)))
    controller k.starts k.stop k.size h.started (h.size ∙ ap sum made.1) made.0
    (λ i i<. subst (λ z. get_or k.starts i 0 ≡ pool_start z i) made.1 (h.starts i (omega (arith, h.width))))
