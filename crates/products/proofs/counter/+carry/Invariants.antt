use Rattle.products.proofs.counter.+carry.Given as goal

abbrev pub decreases-carry : goal.decreases-carry
decreases-carry l = l.cur
