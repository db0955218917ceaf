use Rattle.std.proofs.Common.{◌≡◌, ◌++◌, length, map, take, vec_items, Ok, refl, sym, ap, ◌∙◌}
use Rattle.std.proofs.lemmas.List.{map-append}
use Rattle.row_laws.specs.Calls.{Shown, controller, leaving, if_given, at_front, next_elements, picked}
use Rattle.row_laws.specs.Lists.{combination_rows}
use Rattle.row_laws.proofs.Standing.{combinations_fit}
use Rattle.combinations.specs.Standing.{shown_by}
use Rattle.recipes.proofs.SubsetLemmas.{row_given, row_written, row_pushed, written_back, row_copied}
use Rattle.recipes.proofs.subsets.push_combinations.Goals as goal

pub loop-elements-preserved : goal.loop-elements-preserved
loop-elements-preserved g c =
    let s = c.loop-elements.chosen.climbing in
    let v : Shown = shown_by combination_rows s in
    let w : Shown = shown_by combination_rows c.next.new.self.climbing in
    let inv = c.loop-elements.invariant in
    let told = c.in_ok-next.was ∙ ap Ok c.in-Item.is in
    let more = row_given _ v.ahead (sym told ∙ c.next.ensures.answer) in
    let left : w ≡ leaving 1 v = c.next.ensures.shows ∙ ap (λ r. if_given r (leaving 1 v) v) told in
    let long : length c.next.new.elements ≡ length c.loop-elements.elements.items = c.next.auto.elements ∙ ap length c.as_mut_slice.ensures.value in
    let back = written_back c.loop-elements.elements.len c.loop-elements.elements.items c.next.new.elements c.loop-elements.elements.ok.0 long in
    let written = row_written controller v c.args.pool.now c.as_mut_slice.result.now c.next.new.elements c.args.r
    (combinations_fit s.choice.n s.choice.r s.choice.few s.choice.short s.indices) inv.0 inv.1 refl more
    (c.next.ensures.elements ∙ ap (λ r. if_given r (at_front (next_elements v c.args.pool.now) c.as_mut_slice.result.now) c.as_mut_slice.result.now) told) in
    let row = row_copied c.args.r c.new-row.result.items _ _ c.in_ok-extend_from_slice-2.ensures.items c.new-row.ensures.items
    ∙ ap (take c.args.r) (c.deref.ensures.value ∙ back) ∙ written in (
      ap (λ u. u.size) left ∙ inv.0,
      ap (λ u. u.width) left ∙ inv.1,
      ap length back ∙ long ∙ inv.2,
      ap (λ u. map vec_items (vec_items c.push.new.self) ++ map (picked c.args.pool.now) u.ahead) left
          ∙ row_pushed (map vec_items c.loop-elements.rows.items) (map vec_items c.push.new.self.items) (vec_items c.extend_from_slice-in-Item.new.self) c.args.pool.now v.ahead _ more row
          (ap (map vec_items) c.in_ok-push.ensures.items ∙ map-append vec_items c.loop-elements.rows.items _) inv.3,
    )
