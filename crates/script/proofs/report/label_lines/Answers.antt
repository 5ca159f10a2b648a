use Rattle.std.proofs.Common.{◌≡◌, ℕ, ◌+◌, ◌<◌, List, [], length, get_or, take, ℤ, pos, string_bytes, fold, ◌∙◌, w32, SFits, rules}
use Rattle.std.proofs.lemmas.Int.{to_z-of_z}
use Rattle.std.proofs.lemmas.List.Sums.{fold_more}
use Rattle.script.specs.Report.{label_line, line_after}
use Rattle.script.proofs.report.label_lines.Goals as goal

-- one more label has its line
one_more : (es : List (ℕ × ℤ × ℤ)) (i : ℕ) (d : ℕ × ℤ × ℤ) (was line next : List ℕ) → i < length es → was ≡ fold (λ bs e. line_after bs (label_line e)) [] (take i es) → line ≡ label_line (get_or es i d) → next ≡ line_after was line → next ≡ fold (λ bs e. line_after bs (label_line e)) [] (take (i + 1) es)
one_more es i d was line next h inv p put =
    let more = fold_more (λ bs e. line_after bs (label_line e)) [] es i d h in
    cc

pub loop-number-preserved : goal.loop-number-preserved
loop-number-preserved c =
    let fx : SFits w32 (get_or c.as_slice-number-items.result.now c.loop-number.number-index (0, pos 0, pos 0)).1 = search rules in
    let fy : SFits w32 (get_or c.as_slice-number-items.result.now c.loop-number.number-index (0, pos 0, pos 0)).2 = search rules in
    let line : string_bytes c.in_ok-label_line.field-0 ≡ label_line (get_or c.as_slice-number-items.result.now c.loop-number.number-index (0, pos 0, pos 0)) = simp to_z-of_z at c.in_ok-label_line.ensures in
    let text = c.as_str.ensures.value in
    one_more c.as_slice-number-items.result.now c.loop-number.number-index _ _ c.as_str.result.now _ c.loop-number-test.true c.loop-number.invariant (text ∙ line) c.in_ok-push_line.ensures
