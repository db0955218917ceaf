-- One call of a chain's run, from any stage.
use Rattle.std.proofs.Common.{◌≡◌, List, [], ◌∷◌, Result, refl, Ok, Err}
use Rattle.steps.specs.declared.fault.Fault.{Fault}
use Rattle.steps.specs.declared.answer.Answer.{Answer}
use Rattle.steps.specs.Steps.{Step, first}
use Rattle.laws.specs.Run.{CallOf, Follows}
use Rattle.laws.proofs.Run.{follows_at}
use Rattle.adapters.specs.declared.chain.Stage.{Stage}
use Rattle.adapters.specs.declared.chain.Stage.TheVariants.{First, Second, Over}
use Rattle.adapters.specs.Chain.{chains, first_left, second_left, stage_after, run_from, end_from}

chain_follows : {A : Type 0} (stage : Stage) (ss ts : List (Step A)) →
    CallOf (run_from stage ss ts) (end_from stage ss ts) (first (chains stage ss ts)) (record { first = first_left stage ss; second = second_left stage ss ts })
    (run_from (stage_after stage ss ts) (first_left stage ss) (second_left stage ss ts)) (end_from (stage_after stage ss ts) (first_left stage ss) (second_left stage ss ts))
chain_follows First [] [] = (refl, refl, refl, refl)
chain_follows First [] (Ok a ∷ ts) = (refl, refl, refl, refl)
chain_follows First [] (Err f ∷ ts) = (refl, refl, refl, refl)
chain_follows First (Ok a ∷ ss) ts = (refl, refl, refl, refl)
chain_follows First (Err f ∷ ss) ts = (refl, refl, refl, refl)
chain_follows Second ss [] = (refl, refl, refl, refl)
chain_follows Second ss (Ok a ∷ ts) = (refl, refl, refl, refl)
chain_follows Second ss (Err f ∷ ts) = (refl, refl, refl, refl)
chain_follows Over ss ts = (refl, refl, refl, refl)

pub chain_call : {A : Type 0} (stage stage' : Stage) (ss left ts right : List (Step A)) (r : Result (Answer A) Fault) →
    r ≡ first (chains stage ss ts) → left ≡ first_left stage ss → right ≡ second_left stage ss ts → stage' ≡ stage_after stage ss ts →
    Follows (run_from stage ss ts) (end_from stage ss ts) r (record { first = left; second = right }) (run_from stage' left right) (end_from stage' left right)
chain_call stage stage' ss left ts right r e f g h =
    let both : record { first = left; second = right } ≡ record { first = first_left stage ss; second = second_left stage ss ts } = cc in
    let later : run_from stage' left right ≡ run_from (stage_after stage ss ts) (first_left stage ss) (second_left stage ss ts) = cc in
    let at : end_from stage' left right ≡ end_from (stage_after stage ss ts) (first_left stage ss) (second_left stage ss ts) = cc in
    follows_at _ _ _ r _ _ _ _ _ _ (chain_follows stage ss ts) e both later at
