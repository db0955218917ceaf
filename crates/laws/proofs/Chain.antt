-- A chain over sources without faults is one list after the other.
use Rattle.std.proofs.Common.{◌≡◌, inl, inr, ⊎_elim, List, [], ◌∷◌, ◌++◌, map, sym, refl, ap, ◌∙◌, subst, Ok, Err}
use Rattle.std.proofs.lemmas.List.{map-append}
use Rattle.steps.specs.Steps.{Step}
use Rattle.steps.specs.declared.fault.Fault.{Fault}
use Rattle.laws.specs.Run.{Call, Both}
use Rattle.laws.specs.Chain.{until_fault, OneAfterOther, second_run, second_end, first_run, first_end, SecondLater, CutAtFault}
use Rattle.laws.specs.Items.{faults}
use Rattle.laws.proofs.Run.{not_over}

pub no_fault : {A : Type 0} (xs : List A) → until_fault (map Ok xs) ≡ map Ok xs
no_fault [] = refl
no_fault (x ∷ xs) = ap (λ more. Ok x ∷ more) (no_fault xs)

pub one_after_other : {A : Type 0} (ss ts : List (Step A)) → OneAfterOther ss ts (until_fault (ss ++ ts))
one_after_other ss ts xs ys e f =
    ap (λ us. until_fault (us ++ ts)) e ∙ ap (λ us. until_fault (map Ok xs ++ us)) f ∙ ap until_fault (sym (map-append Ok xs ys)) ∙ no_fault (xs ++ ys)

-- a chain's cut
abbrev Later : {A : Type 0} → List (Step A) → List (Call A (Both A A)) → Type 0
Later {A} ts run = (before after : List (Call A (Both A A))) (c : Call A (Both A A)) → run ≡ before ++ c ∷ after → SecondLater ts c.left

later_none : {A : Type 0} (ts : List (Step A)) → Later ts []
later_none ts before after c e = absurd (not_over before c after e)

later_more : {A : Type 0} (ts : List (Step A)) (d : Call A (Both A A)) (run : List (Call A (Both A A))) → SecondLater ts d.left → Later ts run → Later ts (d ∷ run)
later_more {A} ts d run h l [] after c e = let same : d ≡ c = cc in subst (λ (u : Call A (Both A A)). SecondLater ts u.left) same h
later_more ts d run h l (b ∷ before) after c e = let more : run ≡ before ++ c ∷ after = cc in l before after c more

cut_more : {A : Type 0} (a : A) (ss ts gives : List (Step A)) (d : Call A (Both A A)) (run : List (Call A (Both A A))) (end : Both A A) → SecondLater ts d.left →
    CutAtFault ss ts gives run end → CutAtFault (Ok a ∷ ss) ts (Ok a ∷ gives) (d ∷ run) end
cut_more a ss ts gives d run end h c = record {
  none_lost = ap (λ us. Ok a ∷ us) c.none_lost;
  items = a ∷ c.items;
  cut = ⊎_elim (λ (e : (gives ≡ map Ok c.items) × (end.first ≡ []) × (end.second ≡ [])). inl (ap (λ us. Ok a ∷ us) e.0, e.1, e.2))
      (λ (e : (f : Fault) × (gives ≡ map Ok c.items ++ Err f ∷ [])). inr (e.0, ap (λ us. Ok a ∷ us) e.1)) c.cut;
  later = later_more ts d run h c.later;
  end_later = c.end_later;
}

-- once the first has ended, all is left of the second, or nothing of the first
all_ended : {A : Type 0} (ts : List (Step A)) (run : List (Call A (Both A A))) →
    ((before after : List (Call A (Both A A))) (c : Call A (Both A A)) → run ≡ before ++ c ∷ after → c.left.first ≡ []) → Later ts run
all_ended ts run h before after c e = inr (h before after c e)

abbrev FirstEnded : {A : Type 0} → List (Call A (Both A A)) → Type 0
FirstEnded {A} run = (before after : List (Call A (Both A A))) (c : Call A (Both A A)) → run ≡ before ++ c ∷ after → c.left.first ≡ []

ended_more : {A : Type 0} (d : Call A (Both A A)) (run : List (Call A (Both A A))) → d.left.first ≡ [] → FirstEnded run → FirstEnded (d ∷ run)
ended_more {A} d run h l [] after c e = let same : d ≡ c = cc in subst (λ (u : Call A (Both A A)). u.left.first ≡ []) same h
ended_more d run h l (b ∷ before) after c e = let more : run ≡ before ++ c ∷ after = cc in l before after c more

ended_none : {A : Type 0} → FirstEnded {A = A} []
ended_none before after c e = absurd (not_over before c after e)

second_ended : {A : Type 0} (ts : List (Step A)) → FirstEnded (second_run [] ts)
second_ended [] = ended_none
second_ended (Ok a ∷ ts) = ended_more _ (second_run [] ts) refl (second_ended ts)
second_ended (Err f ∷ ts) = ended_more _ [] refl ended_none

end_ended : {A : Type 0} (ts : List (Step A)) → (second_end [] ts).first ≡ []
end_ended [] = refl
end_ended (Ok a ∷ ts) = end_ended ts
end_ended (Err f ∷ ts) = refl

second_cut : {A : Type 0} (ts : List (Step A)) → CutAtFault [] ts (until_fault ts) (second_run [] ts) (second_end [] ts)
second_cut [] = record { none_lost = refl; items = []; cut = inl (refl, refl, refl); later = later_none []; end_later = inl refl }
second_cut (Err f ∷ ts) = record { none_lost = refl; items = []; cut = inr (f, refl); later = all_ended (Err f ∷ ts) _ (second_ended (Err f ∷ ts)); end_later = inr refl }
second_cut (Ok a ∷ ts) = let c = second_cut ts in record {
  none_lost = ap (λ us. Ok a ∷ us) c.none_lost;
  items = a ∷ c.items;
  cut = ⊎_elim (λ (e : (until_fault ts ≡ map Ok c.items) × ((second_end [] ts).first ≡ []) × ((second_end [] ts).second ≡ [])). inl (ap (λ us. Ok a ∷ us) e.0, e.1, e.2))
      (λ (e : (f : Fault) × (until_fault ts ≡ map Ok c.items ++ Err f ∷ [])). inr (e.0, ap (λ us. Ok a ∷ us) e.1)) c.cut;
  later = all_ended (Ok a ∷ ts) _ (second_ended (Ok a ∷ ts));
  end_later = inr (end_ended ts);
}

pub cut_at_fault : {A : Type 0} (ss ts : List (Step A)) → CutAtFault ss ts (until_fault (ss ++ ts)) (first_run ss ts) (first_end ss ts)
cut_at_fault [] ts = second_cut ts
cut_at_fault (Ok a ∷ ss) ts = cut_more a ss ts _ _ _ _ (inl refl) (cut_at_fault ss ts)
cut_at_fault (Err f ∷ ss) ts = record { none_lost = refl; items = []; cut = inr (f, refl); later = later_more ts _ [] (inl refl) (later_none ts); end_later = inl refl }

-- chain: the one fault given and those left in both sources are those there were
cut_faults : {A : Type 0} (ts : List (Step A)) → faults (until_fault ts) ++ (faults (second_end [] ts).first ++ faults (second_end [] ts).second) ≡ faults ts
cut_faults [] = refl
cut_faults (Ok a ∷ ts) = cut_faults ts
cut_faults (Err f ∷ ts) = refl

pub chain_faults : {A : Type 0} (ss ts : List (Step A)) →
    faults (until_fault (ss ++ ts)) ++ (faults (first_end ss ts).first ++ faults (first_end ss ts).second) ≡ faults ss ++ faults ts
chain_faults [] ts = cut_faults ts
chain_faults (Ok a ∷ ss) ts = chain_faults ss ts
chain_faults (Err f ∷ ss) ts = refl
