use Rattle.std.proofs.Common.{◌≡◌, length}
use Rattle.steps.specs.Below.{Quiet}
use Rattle.laws.specs.DropWhile.{drops, drop_after}
use Rattle.adapters.proofs.dropwhile.DropWhileSource.next.Given as goal

-- what is ahead, and where the call will leave the source, are as they were at the entry; items alone were drawn
abbrev pub invariant-loop-item : goal.invariant-loop-item
invariant-loop-item g l = record {
  starts : l.self.start_flag ≡ l.initial.self.start_flag;
  predicate : l.self.predicate ≡ l.initial.self.predicate;
  ahead : drops (g.P.Predicate.says l.self.predicate) l.self.start_flag (g.S.Source.ahead l.self.source)
      ≡ drops (g.P.Predicate.says l.initial.self.predicate) l.initial.self.start_flag (g.S.Source.ahead l.initial.self.source);
  after : drop_after (g.P.Predicate.says l.self.predicate) l.self.start_flag (g.S.Source.ahead l.self.source)
      ≡ drop_after (g.P.Predicate.says l.initial.self.predicate) l.initial.self.start_flag (g.S.Source.ahead l.initial.self.source);
  loans : g.S.Source.loans l.self.source ≡ g.S.Source.loans l.initial.self.source;
  drawn : Quiet (g.S.Source.bottom l.initial.self.source) (g.S.Source.bottom l.self.source);
}

abbrev pub decreases-loop-item : goal.decreases-loop-item
decreases-loop-item g l = length (g.S.Source.ahead l.self.source)
