use Rattle.std.proofs.Common.{◌≡◌, length}
use Rattle.steps.specs.Below.{Quiet, Two}
use Rattle.laws.specs.Compress.{compresses, compress_after}
use Rattle.adapters.proofs.compress.CompressSource.next.Given as goal

-- what is ahead, and where the call will leave the sources, are as they were at the entry
abbrev pub invariant-loop-self : goal.invariant-loop-self
invariant-loop-self g l = record {
  predicate : l.self.predicate ≡ l.initial.self.predicate;
  ahead : compresses (g.P.Predicate.says l.self.predicate) l.self.ended (g.D.Source.ahead l.self.items) (g.S.Source.ahead l.self.selectors)
      ≡ compresses (g.P.Predicate.says l.initial.self.predicate) l.initial.self.ended (g.D.Source.ahead l.initial.self.items) (g.S.Source.ahead l.initial.self.selectors);
  after : compress_after (g.P.Predicate.says l.self.predicate) l.self.ended (g.D.Source.ahead l.self.items) (g.S.Source.ahead l.self.selectors)
      ≡ compress_after (g.P.Predicate.says l.initial.self.predicate) l.initial.self.ended (g.D.Source.ahead l.initial.self.items) (g.S.Source.ahead l.initial.self.selectors);
  loans_items : g.D.Source.loans l.self.items ≡ g.D.Source.loans l.initial.self.items;
  loans_selectors : g.S.Source.loans l.self.selectors ≡ g.S.Source.loans l.initial.self.selectors;
  drawn : Quiet (Two (g.D.Source.bottom l.initial.self.items) (g.S.Source.bottom l.initial.self.selectors)) (Two (g.D.Source.bottom l.self.items) (g.S.Source.bottom l.self.selectors));
}

abbrev pub decreases-loop-self : goal.decreases-loop-self
decreases-loop-self g l = length (g.D.Source.ahead l.self.items)
