-- Orders by one key after another.
use Rattle.std.proofs.Common.{◌≡◌, Bool, true, false, cond, ◌⊎◌, sym, ap, ◌∙◌, inl, inr, ⊎_elim}
use Rattle.std.proofs.lemmas.Bool.{cases_Bool, cond-true, cond-false, both_ways}
use Rattle.queue.specs.Order.{Order, then_by}

-- as an order, but that elements may be level
pub record Weak {X : Type 0} (f : X → X → Bool) : Type 0 where
  pub never : (x : X) → f x x ≡ false
  pub chain : (x y z : X) → f x y ≡ true → f y z ≡ true → f x z ≡ true
  pub left : (x y z : X) → f x y ≡ false → f y x ≡ false → f x z ≡ f y z
  pub right : (x y z : X) → f x y ≡ false → f y x ≡ false → f z x ≡ f z y

pub by_key : {X K : Type 0} {lt : K → K → Bool} → Order lt → (k : X → K) → Weak (λ x y. lt (k x) (k y))
by_key {lt = lt} o k = record {
  never = λ x. o.never (k x);
  chain = λ x y z. o.chain (k x) (k y) (k z);
  left = λ x y z a b. ap (λ w. lt w (k z)) (o.decides (k x) (k y) a b);
  right = λ x y z a b. ap (λ w. lt (k z) w) (o.decides (k x) (k y) a b);
}

module _ {X : Type 0} {f g : X → X → Bool} (o : Weak f) (p : Weak g) where
  one_way : (x y : X) → f x y ≡ true → f y x ≡ false
  one_way x y h = ⊎_elim (λ t. absurd (both_ways (f x x) (o.never x) (o.chain x y x h t))) (λ e. e) (cases_Bool (f y x))

  first : (x y : X) → f x y ≡ true → then_by f g x y ≡ true
  first x y h = cond-true (f x y) _ _ h

  last : (x y : X) → f y x ≡ true → then_by f g x y ≡ false
  last x y h = cond-false (f x y) _ _ (one_way y x h) ∙ cond-true (f y x) _ _ h

  level : (x y : X) → f x y ≡ false → f y x ≡ false → then_by f g x y ≡ g x y
  level x y a b = cond-false (f x y) _ _ a ∙ cond-false (f y x) _ _ b

  -- what then_by tells of f
  pub tells-true : (x y : X) → then_by f g x y ≡ true → (f x y ≡ true) ⊎ ((f x y ≡ false) × (f y x ≡ false) × (g x y ≡ true))
  tells-true x y h = ⊎_elim inl
      (λ a. ⊎_elim (λ t. absurd (both_ways (then_by f g x y) (last x y t) h)) (λ b. inr (a, b, sym (level x y a b) ∙ h)) (cases_Bool (f y x)))
      (cases_Bool (f x y))

  pub tells-level : (x y : X) → then_by f g x y ≡ false → then_by f g y x ≡ false → (f x y ≡ false) × (f y x ≡ false) × (g x y ≡ false) × (g y x ≡ false)
  tells-level x y h k = ⊎_elim
      (λ t. absurd (both_ways (then_by f g x y) h (first x y t)))
      (λ a. ⊎_elim
      (λ t. absurd (both_ways (then_by f g y x) k (first y x t)))
      (λ b. (a, b, sym (level x y a b) ∙ h, sym (level y x b a) ∙ k))
      (cases_Bool (f y x)))
      (cases_Bool (f x y))

  chained : (x y z : X) → then_by f g x y ≡ true → then_by f g y z ≡ true → then_by f g x z ≡ true
  chained x y z h k = ⊎_elim
      (λ (a : f x y ≡ true). first x z (⊎_elim (o.chain x y z a) (λ e. sym (o.right y z x e.0 e.1) ∙ a) (tells-true y z k)))
      (λ (e : (f x y ≡ false) × (f y x ≡ false) × (g x y ≡ true)). ⊎_elim
      (λ (b : f y z ≡ true). first x z (o.left x y z e.0 e.1 ∙ b))
      (λ (d : (f y z ≡ false) × (f z y ≡ false) × (g y z ≡ true)). level x z (o.left x y z e.0 e.1 ∙ d.0) (o.right x y z e.0 e.1 ∙ d.1) ∙ p.chain x y z e.2 d.2)
      (tells-true y z k))
      (tells-true x y h)

  pub then-weak : Weak (then_by f g)
  then-weak = record {
    never = λ x. level x x (o.never x) (o.never x) ∙ p.never x;
    chain = chained;
    left = λ x y z h k. let e = tells-level x y h k in λ i. cond (o.left x y z e.0 e.1 i) true (cond (o.right x y z e.0 e.1 i) false (p.left x y z e.2 e.3 i));
    right = λ x y z h k. let e = tells-level x y h k in λ i. cond (o.right x y z e.0 e.1 i) true (cond (o.left x y z e.0 e.1 i) false (p.right x y z e.2 e.3 i));
  }

pub decided : {X : Type 0} {f : X → X → Bool} → Weak f → ((x y : X) → f x y ≡ false → f y x ≡ false → x ≡ y) → Order f
decided o d = record { never = o.never; chain = o.chain; decides = d }
