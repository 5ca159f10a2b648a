-- The box around labels, label by label.
use Rattle.std.proofs.Common.{◌≡◌, ℕ, ◌+◌, ◌<◌, ◌≤◌, List, length, drop, get_or, sym, ap, ◌∙◌, drop_of_length-le}
use Rattle.std.proofs.lemmas.List.{drop_more}
use Rattle.geometry.specs.declared.label.Label.{Label}
use Rattle.geometry.specs.declared.rect.Rect.{Rect}
use Rattle.geometry.specs.Plane.{around, spot}
use Rattle.runs.specs.Layers.{around_labels}

pub spread-more : (b c : Rect) (ls : List Label) (k : ℕ) (l : Label) → k < length ls → l ≡ get_or ls k l → c ≡ around b (spot l.place) → around_labels c (drop (k + 1) ls) ≡ around_labels b (drop k ls)
unfolding around_labels
spread-more b c ls k l h e a = ap (λ r. around_labels r (drop (k + 1) ls)) (a ∙ ap (λ m. around b (spot m.place)) e) ∙ ap (around_labels b) (sym (drop_more ls k l h))

pub spread-all : (b : Rect) (ls : List Label) (k : ℕ) → length ls ≤ k → around_labels b (drop k ls) ≡ b
unfolding around_labels
spread-all b ls k h = ap (around_labels b) (drop_of_length-le ls h)
