use Rattle.std.proofs.Common.{◌≡◌, length}
use Rattle.steps.specs.Below.{Quiet}
use Rattle.laws.specs.GroupBy.{skipped}
use Rattle.groups.proofs.groupby.GroupBy.next_run.Given as goal

-- the key kind and where the groupby stands stay; what is skipped was drawn as items alone; and the next run is still ahead
abbrev pub invariant-loop-value : goal.invariant-loop-value
invariant-loop-value g l = record {
  keys : l.self.keys ≡ l.initial.self.keys;
  state : l.self.state ≡ l.initial.self.state;
  loans : g.S.Source.loans l.self.source ≡ g.S.Source.loans l.initial.self.source;
  drawn : Quiet (g.S.Source.bottom l.initial.self.source) (g.S.Source.bottom l.self.source);
  found : skipped (g.K.Keying.key l.self.keys) g.K.Key.PartialEq.eq l.old (g.S.Source.ahead l.self.source)
      ≡ skipped (g.K.Keying.key l.initial.self.keys) g.K.Key.PartialEq.eq l.old (g.S.Source.ahead l.initial.self.source);
}

abbrev pub decreases-loop-value : goal.decreases-loop-value
decreases-loop-value g l = length (g.S.Source.ahead l.self.source)
