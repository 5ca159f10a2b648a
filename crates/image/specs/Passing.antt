-- What an image that passes its checks tells of its entries.
use Rattle.std.specs.Prelude.{◌≡◌, ℕ, zero, suc, ◌<◌, ◌≤◌, true, false, not, ◌&&◌, ℤ, ◌≤ℤ◌, None, int_le, nat_le}
use Rattle.std.proofs.Common.{sym, ap, ◌∙◌, ⊎_elim, arith}
use Rattle.std.proofs.lemmas.Int.{ints}
use Rattle.std.proofs.lemmas.Bool.{cases_Bool, cond-true, cond-false, both_ways}
use Rattle.std.proofs.lemmas.Bool.Decides.{nat_tests}
use Rattle.geometry.specs.Plane.{numbered, span}
use Rattle.geometry.proofs.Boxes.{and_both, and-made, spanned}
use Rattle.image.specs.Layout.{Image}
use Rattle.image.specs.Nodes.{is_leaf, start, owner, is_leaf_entry, is_branch, leader_below, label_numbers}
use Rattle.image.specs.Checks.{node_fine, box_fine, branch_fine, target_fine, led_to, inside_fine, smallest_repeated}
use Rattle.image.specs.Owners.{owner-in}

pub record Passed (d : Image) : Type 0 where
  pub nodes : (1 ≤ d.nodes) × (d.nodes ≤ 128)
  pub entries : (1 ≤ d.entries) × (d.entries ≤ 1537)
  pub sizes : (i : ℕ) → i < d.nodes → node_fine d i ≡ true
  pub sum : start d d.nodes ≡ d.entries
  pub boxes : (e : ℕ) → e < d.entries → box_fine d e ≡ true
  pub targets : (e : ℕ) → e < d.entries → target_fine d e ≡ true
  pub led : (k : ℕ) → k < d.nodes → led_to d k ≡ true
  pub inside : (e : ℕ) → e < d.entries → inside_fine d e ≡ true
  pub numbers : smallest_repeated (label_numbers d) ≡ None

-- an entry from 1 on is a branch or of a leaf
pub leaf-entry : (d : Image) (e : ℕ) → 1 ≤ e → is_leaf d (owner d e) ≡ true → is_leaf_entry d e ≡ true
leaf-entry d e h t = and-made (nat_le 1 e) (is_leaf d (owner d e)) (grind (arith, nat_tests)) t

pub branch-entry : (d : Image) (e : ℕ) → 1 ≤ e → is_leaf d (owner d e) ≡ false → is_branch d e ≡ true
branch-entry d e h f = and-made (nat_le 1 e) (not (is_leaf d (owner d e))) (grind (arith, nat_tests)) (ap not f)

pub no-branch : (d : Image) (e : ℕ) → is_leaf d (owner d e) ≡ true → is_branch d e ≡ false
no-branch d e t = ⊎_elim (λ b. absurd (both_ways (not (is_leaf d (owner d e))) (ap not t) (and_both (nat_le 1 e) (not (is_leaf d (owner d e))) b).1)) (λ f. f) (cases_Bool (is_branch d e))

pub branch-told : (d : Image) (e : ℕ) → is_branch d e ≡ true → (1 ≤ e) × (is_leaf d (owner d e) ≡ false)
branch-told d e b =
    let both = and_both (nat_le 1 e) (not (is_leaf d (owner d e))) b in
    (grind (arith, nat_tests), ⊎_elim (λ t. absurd (both_ways (not (is_leaf d (owner d e))) (ap not t) both.1)) (λ f. f) (cases_Bool (is_leaf d (owner d e))))

pub leaf-told : (d : Image) (e : ℕ) → is_leaf_entry d e ≡ true → (1 ≤ e) × (is_leaf d (owner d e) ≡ true)
leaf-told d e b = let both = and_both (nat_le 1 e) (is_leaf d (owner d e)) b in (grind (arith, nat_tests), both.1)

-- what branch_fine says
pub record Branch (d : Image) (e : ℕ) : Type 0 where
  pub later : owner d e < d.target e
  pub below : d.target e < d.nodes
  pub lower : suc (d.level (d.target e)) ≡ d.level (owner d e)
  pub first : leader_below d e (d.target e) ≡ 0

pub branch-parts : (d : Image) (e : ℕ) → branch_fine d e ≡ true → Branch d e
branch-parts d e h = record { later = grind (arith, nat_tests); below = grind (arith, nat_tests); lower = grind (arith, nat_tests); first = grind (arith, nat_tests) }

pub branch-whole : (d : Image) (e : ℕ) → Branch d e → branch_fine d e ≡ true
branch-whole d e b = grind (arith, nat_tests)

module _ (d : Image) (p : Passed d) where
  pub owned : (e : ℕ) → 1 ≤ e → e < d.entries → (owner d e < d.nodes) × (start d (owner d e) ≤ e) × (e < start d (suc (owner d e)))
  owned e h k = owner-in d d.nodes e h (omega (arith, p.sum))

  pub branch-of : (e : ℕ) → e < d.entries → is_branch d e ≡ true → Branch d e
  branch-of zero h b = absurd (omega (arith, (branch-told d 0 b).0))
  branch-of (suc e) h b = branch-parts d (suc e) (sym (cond-false (is_leaf d (owner d (suc e))) _ _ (branch-told d (suc e) b).1) ∙ p.targets (suc e) h)

  pub number_of : (e : ℕ) → e < d.entries → is_leaf_entry d e ≡ true → numbered (d.target e) ≡ true
  number_of zero h b = absurd (omega (arith, (leaf-told d 0 b).0))
  number_of (suc e) h b = sym (cond-true (is_leaf d (owner d (suc e))) _ _ (leaf-told d (suc e) b).1) ∙ p.targets (suc e) h

  pub spans-of : (e : ℕ) → e < d.entries → (span (d.west e) (d.east e) ≡ true) × (span (d.south e) (d.north e) ≡ true)
  spans-of e h = and_both _ _ (and_both (span (d.west e) (d.east e) && span (d.south e) (d.north e)) _ (p.boxes e h)).0

  pub place_of : (e : ℕ) → e < d.entries → is_leaf_entry d e ≡ true → (d.west e ≡ d.east e) × (d.south e ≡ d.north e)
  place_of e h t =
      let spans = spans-of e h in
      let west = spanned (d.west e) (d.east e) spans.0 in
      let south = spanned (d.south e) (d.north e) spans.1 in
      let one = sym (cond-true (is_leaf_entry d e) _ true t) ∙ (and_both (span (d.west e) (d.east e) && span (d.south e) (d.north e)) _ (p.boxes e h)).1 in
      let both = and_both (int_le (d.east e) (d.west e)) (int_le (d.north e) (d.south e)) one in
      (level (d.west e) (d.east e) west.0 both.0, level (d.south e) (d.north e) south.0 both.1)
    where
      level : (a b : ℤ) → a ≤ℤ b → int_le b a ≡ true → a ≡ b
      level a b h k = grind (arith, ints)
