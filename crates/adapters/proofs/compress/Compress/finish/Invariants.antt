use Rattle.std.proofs.Common.{◌≡◌, length}
use Rattle.steps.specs.Below.{Two}
use Rattle.steps.proofs.RunLemmas.{RanTo}
use Rattle.laws.specs.Items.{earlier, first_fault}
use Rattle.laws.specs.Compress.{compresses, compress_ends}
use Rattle.adapters.proofs.compress.Compress.finish.Given as goal

-- what will be left at the end is as it was, and the first fault is the one met or the first ahead
abbrev pub invariant-loop-met : goal.invariant-loop-met
invariant-loop-met g l = record {
  predicate : l.self.predicate ≡ l.initial.self.predicate;
  end : compress_ends l.self.ended (g.D.Source.ahead l.self.items) (g.S.Source.ahead l.self.selectors)
      ≡ compress_ends l.initial.self.ended (g.D.Source.ahead l.initial.self.items) (g.S.Source.ahead l.initial.self.selectors);
  met : earlier l.met (first_fault (compresses (g.P.Predicate.says l.self.predicate) l.self.ended (g.D.Source.ahead l.self.items) (g.S.Source.ahead l.self.selectors)))
      ≡ first_fault (compresses (g.P.Predicate.says l.initial.self.predicate) l.initial.self.ended (g.D.Source.ahead l.initial.self.items) (g.S.Source.ahead l.initial.self.selectors));
  ran : RanTo (Two (g.D.Source.bottom l.initial.self.items) (g.S.Source.bottom l.initial.self.selectors)) (Two (g.D.Source.bottom l.self.items) (g.S.Source.bottom l.self.selectors))
      (compresses (g.P.Predicate.says l.initial.self.predicate) l.initial.self.ended (g.D.Source.ahead l.initial.self.items) (g.S.Source.ahead l.initial.self.selectors))
      (compresses (g.P.Predicate.says l.self.predicate) l.self.ended (g.D.Source.ahead l.self.items) (g.S.Source.ahead l.self.selectors));
}

abbrev pub decreases-loop-met : goal.decreases-loop-met
decreases-loop-met g l = length (compresses (g.P.Predicate.says l.self.predicate) l.self.ended (g.D.Source.ahead l.self.items) (g.S.Source.ahead l.self.selectors))
