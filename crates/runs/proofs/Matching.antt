-- Every run keeps the store at hand, the layers beneath it and the record of changes in step.
use Rattle.std.proofs.Common.{◌≡◌, ℕ, ◌≤◌, Bool, true, false, cond, List, [], ◌∷◌, length, ℤ, Some, None, Ok, Err, Result, sym, refl, ap, ◌∙◌, subst, arith}
use Rattle.std.proofs.lemmas.Bool.{leb-false}
use Rattle.geometry.specs.declared.refusal.Refusal.{Refusal}
use Rattle.geometry.specs.Plane.{numbered, place_at}
use Rattle.geometry.specs.Numbers.{present}
use Rattle.index.specs.Table.{Table, plan}
use Rattle.index.specs.Laws.{Lawful}
use Rattle.index.specs.Frames.{Layer, Frame}
use Rattle.runs.specs.Layers.{bare, closed, shown}
use Rattle.runs.specs.Changes.{add_layer, withdraw_layer}
use Rattle.runs.specs.Pages.{Page, page_of, top, written}
use Rattle.runs.specs.Runs.{State, Call, opening, adding, withdrawing, asking_nearest, asking_mutual, keeping, cancelling, Edited, Adding, Withdrawing, Cancelling, Step, Allowed, entered, Run, still, next, fresh, first_pages, Afterwards}
use Rattle.runs.proofs.Layering.{shown-lawful}
use Rattle.runs.proofs.Changing.{Fine, Reads, bare-reads, bare-fine, add-fine, add-reads, withdraw-keeps}

-- with one page the table at hand is lawful and shows it; with more the store at hand is an edit, whose table shows the top
-- page, and the table below matches the pages below
abbrev pub Match : Table → List Frame → List Page → Type 0
Match t fs [] = ⊥
Match t fs (p ∷ []) = Lawful t × Reads t p
Match t [] (p ∷ (q ∷ ps)) = ⊥
Match t (f ∷ fs) (p ∷ (q ∷ ps)) = (t ≡ shown f.layer f.under) × Fine f.layer f.under × Reads t p × Match f.under fs (q ∷ ps)

pub match-lawful : (t : Table) (fs : List Frame) (ps : List Page) → Match t fs ps → Lawful t
match-lawful t fs [] m = absurd m
match-lawful t fs (p ∷ []) m = m.0
match-lawful t [] (p ∷ (q ∷ ps)) m = absurd m
match-lawful t (f ∷ fs) (p ∷ (q ∷ ps)) m = subst Lawful (sym m.0) (shown-lawful f.layer f.under m.1.lawful m.1.narrow m.1.apart)

pub match-reads : (t : Table) (fs : List Frame) (ps : List Page) → Match t fs ps → Reads t (top ps)
match-reads t fs [] m = absurd m
match-reads t fs (p ∷ []) m = m.1
match-reads t [] (p ∷ (q ∷ ps)) m = absurd m
match-reads t (f ∷ fs) (p ∷ (q ∷ ps)) m = m.2

reads-at : {t u : Table} (p : Page) → t ≡ u → Reads t p → Reads u p
reads-at p e r n = ap (λ t. page_of t n) (sym e) ∙ r n

moved : {t u : Table} {fs gs : List Frame} (ps : List Page) → u ≡ t → gs ≡ fs → Match t fs ps → Match u gs ps
moved {u = u} {fs = fs} ps e g m = subst (λ gs. Match u gs ps) (sym g) (subst (λ t. Match t fs ps) (sym e) m)

-- an edit over a table that matches the pages below the top one
edited : (s : State) (l : Layer) (u : Table) (fs : List Frame) (p q : Page) (ps : List Page)
    → Edited s l u fs → Fine l u → Reads (shown l u) p → Match u fs (q ∷ ps) → Match s.table s.frames (p ∷ (q ∷ ps))
edited s l u fs p q ps e fine reads below = moved (p ∷ (q ∷ ps)) e.table e.frames (refl, fine, reads, below)

-- what an answer that is no refusal tells of its tests
passes : (v : Unit {0}) (b : Bool) (e : Refusal) (y : Result (Unit {0}) Refusal) → Ok v ≡ cond b (Err e) y → (b ≡ false) × (Ok v ≡ y)
passes v true e y h = absurd (cc)
passes v false e y h = (refl, h)

meets : (v : Unit {0}) (b : Bool) (e : Refusal) (y : Result (Unit {0}) Refusal) → Ok v ≡ cond b y (Err e) → (b ≡ true) × (Ok v ≡ y)
meets v false e y h = absurd (cc)
meets v true e y h = (refl, h)

module _ (s : State) where
  adding-keeps : (t : Table) (fs : List Frame) (ps : List Page) (n : ℕ) (x y : ℤ) (r : Result (Unit {0}) Refusal)
      → 2 ≤ length ps → Match t fs ps → Adding fs n x y r s → Match s.table s.frames (entered (adding n x y r) ps)
  adding-keeps t fs [] n x y r two m a = absurd m
  adding-keeps t fs (p ∷ []) n x y r two m a = absurd (omega arith)
  adding-keeps t [] (p ∷ (q ∷ ps)) n x y r two m a = absurd m
  adding-keeps t (f ∷ fs) (p ∷ (q ∷ ps)) n x y (Err e) two m a = edited s f.layer f.under fs p q ps a.1 m.1 (reads-at p m.0 m.2) m.3
  adding-keeps t (f ∷ fs) (p ∷ (q ∷ ps)) n x y (Ok v) two m a =
      let open' = passes v (closed f.under) _ _ a.0 in
      let fits = meets v (numbered n) _ _ open'.1 in
      let near = meets v _ _ _ fits.1 in
      let absent = passes v (present n (plan (shown f.layer f.under))) _ _ near.1 in
      let room = leb-false 12 (length f.layer.added) (passes v _ _ _ absent.1).0 in
      edited s (add_layer f.layer n x y (Ok v)) f.under fs (written n (Some (place_at x y)) p) q ps a.1
      (add-fine f.layer f.under m.1 open'.0 n x y fits.0 absent.0 room)
      (add-reads f.layer f.under m.1 open'.0 n x y fits.0 absent.0 room p (reads-at p m.0 m.2))
      m.3

  withdrawing-keeps : (t : Table) (fs : List Frame) (ps : List Page) (n : ℕ) (r : Result (Unit {0}) Refusal)
      → 2 ≤ length ps → Match t fs ps → Withdrawing fs n r s → Match s.table s.frames (entered (withdrawing n r) ps)
  withdrawing-keeps t fs [] n r two m a = absurd m
  withdrawing-keeps t fs (p ∷ []) n r two m a = absurd (omega arith)
  withdrawing-keeps t [] (p ∷ (q ∷ ps)) n r two m a = absurd m
  withdrawing-keeps t (f ∷ fs) (p ∷ (q ∷ ps)) n (Err e) two m a = edited s f.layer f.under fs p q ps a.1 m.1 (reads-at p m.0 m.2) m.3
  withdrawing-keeps t (f ∷ fs) (p ∷ (q ∷ ps)) n (Ok v) two m a =
      let open' = passes v (closed f.under) _ _ a.0 in
      let kept = withdraw-keeps f.layer f.under m.1 open'.0 n p (reads-at p m.0 m.2) in
      edited s (withdraw_layer f.layer n (Ok v)) f.under fs (written n None p) q ps a.1 kept.0 kept.1 m.3

  cancelling-keeps : (t : Table) (fs : List Frame) (ps : List Page) → 2 ≤ length ps → Match t fs ps → Cancelling fs s → Match s.table s.frames (entered cancelling ps)
  cancelling-keeps t fs [] two m a = absurd m
  cancelling-keeps t fs (p ∷ []) two m a = absurd (omega arith)
  cancelling-keeps t [] (p ∷ (q ∷ ps)) two m a = absurd m
  cancelling-keeps t (f ∷ fs) (p ∷ (q ∷ ps)) two m a = moved (q ∷ ps) a.0 a.1 m.3

  opening-keeps : (t : Table) (fs : List Frame) (ps : List Page) → Match t fs ps → Edited s bare t fs → Match s.table s.frames (entered opening ps)
  opening-keeps t fs [] m e = absurd m
  opening-keeps t fs (p ∷ ps) m e = edited s bare t fs p p ps e (bare-fine t (match-lawful t fs (p ∷ ps) m)) (λ n. bare-reads t n ∙ match-reads t fs (p ∷ ps) m n) m

  keeping-keeps : (t : Table) (fs : List Frame) (ps : List Page) → Match t fs ps → s.table ≡ t → s.frames ≡ [] → Match s.table s.frames (entered keeping ps)
  keeping-keeps t fs [] m e g = absurd m
  keeping-keeps t fs (p ∷ ps) m e g = moved (p ∷ []) e g (match-lawful t fs (p ∷ ps) m, match-reads t fs (p ∷ ps) m)

step-keeps : (c : Call) (s t : State) (ps : List Page) → Allowed c ps → Step c s t → Match s.table s.frames ps → Match t.table t.frames (entered c ps)
step-keeps opening s t ps a d m = opening-keeps t s.table s.frames ps m d.0
step-keeps (adding n x y r) s t ps a d m = adding-keeps t s.table s.frames ps n x y r (a refl) m d
step-keeps (withdrawing n r) s t ps a d m = withdrawing-keeps t s.table s.frames ps n r (a refl) m d
step-keeps (asking_nearest k work q e) s t ps a d m = moved ps d.table d.frames m
step-keeps (asking_mutual k1 k2 work second q e) s t ps a d m = moved ps d.table d.frames m
step-keeps keeping s t ps a d m = keeping-keeps t s.table s.frames ps m d.0 d.1
step-keeps cancelling s t ps a d m = cancelling-keeps t s.table s.frames ps (a refl) m d

run-keeps : {s t : State} {ps qs : List Page} {cs : List Call} → Run s ps cs t qs → Match s.table s.frames ps → Match t.table t.frames qs
run-keeps still m = m
run-keeps (next {s = s} {t = t} {ps = ps} {c = c} a d r) m = run-keeps r (step-keeps c s t ps a d m)

fresh-match : (s : State) → Lawful s.table → Match (fresh s).table (fresh s).frames (first_pages s.table)
fresh-match s lawful = (refl, bare-fine s.table lawful, bare-reads s.table, (lawful, λ n. refl))

pub matches : (s : State) → Lawful s.table → Afterwards s (λ t ps. Match t.table t.frames ps)
matches s lawful cs t ps r = run-keeps r (fresh-match s lawful)
