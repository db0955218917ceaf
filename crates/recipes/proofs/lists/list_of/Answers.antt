use Rattle.std.proofs.Common.{sym, ap, ◌∙◌}
use Rattle.recipes.specs.Lists.{number_of, refusal_of}
use Rattle.std.proofs.lemmas.Result.{err_from_is_err_and}
use Rattle.recipes.proofs.ListLemmas.{on_fault, on_memory, met_behind}
use Rattle.recipes.proofs.lists.list_of.Goals as goal

pub returns-in_err-item-clause-fault : goal.returns-in_err-item-clause-fault
returns-in_err-item-clause-fault g c =
    let p = err_from_is_err_and c.from_residual.result c.from_residual.ensures.1 in
    on_fault _ p.1 p.2 (met_behind _ (g.S.Source.ahead c.loop-items.source) c.loop-items.items.items _ c.loop-items.invariant (sym c.in_err-item.was ∙ c.next.ensures.gives))

pub returns-in_err-push : goal.returns-in_err-push
returns-in_err-push g c =
    let p = err_from_is_err_and c.from_residual-in_err-push.result c.from_residual-in_err-push.ensures.1 in
    record { answer = rw p.1 tt; number = ap refusal_of p.1 ∙ ap number_of p.2.1; fault = on_memory _ p.1 p.2.1 }
