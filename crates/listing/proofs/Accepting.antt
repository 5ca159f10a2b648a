-- What an accepted place and count tell.
use Rattle.std.proofs.Common.{◌≡◌, ℕ, true, ◌&&◌, ℤ, None, ◌∙◌}
use Rattle.std.proofs.lemmas.Bool.{cond-true}
use Rattle.geometry.specs.Plane.{in_range}
use Rattle.listing.specs.Lists.{counted, refused_listing}

pub accepted : (x y : ℤ) (k : ℕ) → counted k ≡ true → (in_range x && in_range y) ≡ true → refused_listing x y k ≡ None
accepted x y k c h = cond-true (counted k) _ _ c ∙ cond-true (in_range x && in_range y) _ _ h
