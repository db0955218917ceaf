use Rattle.std.proofs.Common.{take, drop, get_or, sym, refl, ap, ◌∙◌, arith}
use Rattle.row_laws.specs.Lists.{tuples}
use Rattle.row_laws.specs.Carries.{stands_at}
use Rattle.row_laws.proofs.Order.{Fitting}
use Rattle.row_laws.proofs.Standing.{some_ahead}
use Rattle.row_laws.proofs.Carries.{over_none, going, row_fits, tuples_taken, carried_shows}
use Rattle.products.proofs.product.ProductEnumerator.advance.Goals as goal

pub update_idxs-requires : goal.update_idxs-requires
update_idxs-requires c =
    let k = c.args.self.now.counter in
    going k.width k.lengths k.idxs k.stop k.long (sym c.if-not-is_done.ensures) k.inside

pub returns-then-not-is_done : goal.returns-then-not-is_done
returns-then-not-is_done c =
    let s = c.args.self.now in
    let k = s.counter in
    let w = k.width in
    let t = c.update_idxs.new.self in
    let h = c.update_idxs.ensures in
    let go = going w k.lengths k.idxs k.stop k.long (sym c.if-not-is_done.ensures) k.inside in
    record {
      shows = carried_shows w t.width k.size t.size k.lengths t.lengths k.idxs t.idxs k.starts t.starts k.stop t.stop k.cur k.long k.room
          (omega (arith, h.width, t.room)) h.width h.size h.lengths h.starts go.0 go.1 k.last h.raised h.ended;
      rests = λ none. some_ahead (Fitting (take w k.lengths)) w (tuples (take w k.lengths)) (tuples_taken w k.lengths k.idxs k.long k.room) (stands_at k.stop k.idxs) k.idxs
          (ap (λ z. stands_at z k.idxs) go.0) (row_fits w k.lengths k.idxs k.long k.room go.1) none;
    }

pub returns-else-not-is_done : goal.returns-else-not-is_done
returns-else-not-is_done c =
    let s = c.args.self.now in
    let k = s.counter in
    let none = over_none k.width k.stop k.idxs (take k.width k.lengths) (sym c.if-not-is_done.ensures) in
    record {
      shows = ap (λ z. record { ahead = z; size = k.size; width = k.width; starts = λ i. get_or k.starts i 0 }) (none ∙ sym (ap (drop 1) none));
      rests = λ _. refl;
    }
