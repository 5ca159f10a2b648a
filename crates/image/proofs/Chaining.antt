-- The first refusal of the checks, one check after another.
use Rattle.std.proofs.Common.{◌≡◌, ℕ, ◌-◌, ◌≤◌, Bool, true, false, eqb, leb, List, [], ◌∷◌, ◌++◌, length, take, drop, replicate, Some, None, Ok, Err, Option, Result, sym, refl, ap, ◌∙◌, arith}
use Rattle.std.proofs.lemmas.List.{take_rest, length-drop, length-replicate, get_or-replicate}
use Rattle.std.proofs.lemmas.Bool.{cond-true, cond-false, le-leb, eq-eqb, ne_eqb}
use Rattle.std.proofs.lemmas.Bool.Decides.{nat_tests}
use Rattle.std.specs.Result.{IsErrAnd}
use Rattle.std.proofs.lemmas.Result.{err_from_is_err_and}
use Rattle.geometry.specs.declared.refusal.Refusal.{Refusal}
use Rattle.geometry.specs.declared.refusal.Reason.TheVariants.{BadLength, BadSize}
use Rattle.geometry.specs.Refusals.{refusal}
use Rattle.image.specs.Layout.{two, image_length, image_of}
use Rattle.image.specs.Nodes.{leader_below}
use Rattle.image.specs.Checks.{unless, sizes_fine, first_of, checks, verdict}
use Rattle.image.specs.Results.{as_result, Sized, Led, in_size, header_verdict, node_checks}
use Rattle.image.proofs.Written.{nodes-is, entries-is}

-- a check that passes leaves the verdict to those after it
pub unless-passes : (b : Bool) (r : Refusal) (cs : List (Option Refusal)) → b ≡ true → first_of (unless b r ∷ cs) ≡ first_of cs
unless-passes b r cs t = ap (λ o. first_of (o ∷ cs)) (cond-true b None (Some r) t)

pub unless-fails : (b : Bool) (r : Refusal) (cs : List (Option Refusal)) → b ≡ false → first_of (unless b r ∷ cs) ≡ Some r
unless-fails b r cs f = ap (λ o. first_of (o ∷ cs)) (cond-false b None (Some r) f)

some_first : (cs ds : List (Option Refusal)) (r : Refusal) → first_of cs ≡ Some r → first_of (cs ++ ds) ≡ Some r
some_first [] ds r h = absurd (cc)
some_first (None ∷ cs) ds r h = some_first cs ds r h
some_first (Some q ∷ cs) ds r h = h

none_first : (cs ds : List (Option Refusal)) → first_of cs ≡ None → first_of (cs ++ ds) ≡ first_of ds
none_first [] ds h = refl
none_first (None ∷ cs) ds h = none_first cs ds h
none_first (Some q ∷ cs) ds h = absurd (cc)

-- a check by what it tells
pub told-none : (o : Option Refusal) (u : Unit {0}) → Ok u ≡ as_result o → o ≡ None
told-none None u h = refl
told-none (Some r) u h = absurd (cc)

pub told-some : (o : Option Refusal) (r : Refusal) → Err r ≡ as_result o → o ≡ Some r
told-some None r h = absurd (cc)
told-some (Some q) r h = let e : q ≡ r = cc in ap (λ x. Some x) e

-- a refusal that a `?` passes on
pub passed-on : {T : Type 0} (r : Result T Refusal) (e : Refusal) → IsErrAnd r (λ f. f ≡ e) → r ≡ Err e
passed-on r e h = let p = err_from_is_err_and r h in p.1 ∙ ap (λ f. Err f) p.2

-- how long the bytes after the header are
pub rest-length : (bs : List ℕ) → length (take (length bs - 4) (drop 4 bs)) ≡ length bs - 4
rest-length bs = ap length (take_rest bs 4) ∙ length-drop 4 bs

-- the header
module _ (bs : List ℕ) (n m : ℕ) (long : 4 ≤ length bs) (n' : n ≡ two bs 0) (m' : m ≡ two bs 2) where
  size_same : in_size n m ≡ sizes_fine (image_of bs)
  size_same = λ i. in_size ((n' ∙ nodes-is bs) i) ((m' ∙ entries-is bs) i)

  length-same : image_length n m ≡ image_length (image_of bs).nodes (image_of bs).entries
  length-same = λ i. image_length ((n' ∙ nodes-is bs) i) ((m' ∙ entries-is bs) i)

  pub header-sizes : in_size n m ≡ false → header_verdict bs ≡ Some (refusal BadSize 0)
  header-sizes f =
      unless-passes (leb 4 (length bs)) (refusal BadLength (length bs)) _ (le-leb 4 (length bs) long)
      ∙ unless-fails (sizes_fine (image_of bs)) (refusal BadSize 0) _ (sym size_same ∙ f)

  pub header-long : in_size n m ≡ true → (length bs ≡ image_length n m → ⊥) → header_verdict bs ≡ Some (refusal BadLength (length bs))
  header-long t u =
      unless-passes (leb 4 (length bs)) (refusal BadLength (length bs)) _ (le-leb 4 (length bs) long)
      ∙ unless-passes (sizes_fine (image_of bs)) (refusal BadSize 0) _ (sym size_same ∙ t)
      ∙ unless-fails (eqb (length bs) (image_length (image_of bs).nodes (image_of bs).entries)) (refusal BadLength (length bs)) [] (ne_eqb (length bs) _ (λ e. u (e ∙ sym length-same)))

  pub header-fine : in_size n m ≡ true → length bs ≡ image_length n m → (header_verdict bs ≡ None) × Sized bs n m
  header-fine t e = (
    unless-passes (leb 4 (length bs)) (refusal BadLength (length bs)) _ (le-leb 4 (length bs) long)
        ∙ unless-passes (sizes_fine (image_of bs)) (refusal BadSize 0) _ (sym size_same ∙ t)
        ∙ unless-passes (eqb (length bs) (image_length (image_of bs).nodes (image_of bs).entries)) (refusal BadLength (length bs)) [] (eq-eqb (length bs) _ (e ∙ length-same)),
    record {
      nodes = n' ∙ nodes-is bs;
      entries = m' ∙ entries-is bs;
      some = (grind (arith, nat_tests), grind (arith, nat_tests));
      few = (grind (arith, nat_tests), grind (arith, nat_tests));
      whole = e;
    },
  )

-- the verdict by the header, and by what comes after it
module _ (bs : List ℕ) (room : ℕ) where
  pub verdict-header : (r : Refusal) → header_verdict bs ≡ Some r → verdict bs room ≡ Some r
  unfolding checks
  verdict-header r h =
      let d = image_of bs in
      some_first
      (unless (leb 4 (length bs)) (refusal BadLength (length bs)) ∷ unless (sizes_fine d) (refusal BadSize 0) ∷ unless (eqb (length bs) (image_length d.nodes d.entries)) (refusal BadLength (length bs)) ∷ [])
      (node_checks d d.nodes d.entries room)
      r h

  pub verdict-rest : (cs : List ℕ) (n m : ℕ) → cs ≡ bs → Sized cs n m → header_verdict bs ≡ None → verdict bs room ≡ first_of (node_checks (image_of cs) n m room)
  unfolding checks
  verdict-rest cs n m same s h =
      let d = image_of bs in
      let nodes : (image_of bs).nodes ≡ n = ap (λ l. (image_of l).nodes) (sym same) ∙ sym s.nodes in
      let entries : (image_of bs).entries ≡ m = ap (λ l. (image_of l).entries) (sym same) ∙ sym s.entries in
      none_first
      (unless (leb 4 (length bs)) (refusal BadLength (length bs)) ∷ unless (sizes_fine d) (refusal BadSize 0) ∷ unless (eqb (length bs) (image_length d.nodes d.entries)) (refusal BadLength (length bs)) ∷ [])
      (node_checks d d.nodes d.entries room)
      h
      ∙ (λ i. first_of (node_checks (image_of (sym same i)) (nodes i) (entries i) room))

-- nothing leads to any node at the start
pub led-none : (bs : List ℕ) → Led bs (replicate 128 None) 0
unfolding leader_below
led-none bs = record { enough = length-replicate {A = Option ℕ} 128 None; each = λ k h. get_or-replicate {A = Option ℕ} 128 k None None h }
