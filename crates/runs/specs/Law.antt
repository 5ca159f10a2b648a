-- The law over all runs of calls from a new edit.
use Rattle.std.specs.Prelude.{◌≡◌, ℕ, ◌+◌, ◌<◌, ◌≤◌, List, [], ◌∷◌, ◌++◌, length, drop, Ok, sum_by}
use Rattle.std.specs.List.{ContainsAt as Has}
use Rattle.geometry.specs.declared.label.Label.{Label}
use Rattle.geometry.specs.Plane.{place_at}
use Rattle.index.specs.Table.{plan}
use Rattle.index.specs.Frames.{Frame}
use Rattle.neighbours.specs.declared.told.Told.{Told}
use Rattle.neighbours.specs.Ranking.{Sound, Ranking}
use Rattle.neighbours.specs.Neighbours.{others, candidates, mutual_answers}
use Rattle.neighbours.specs.Reach.{reach, reach_of}
use Rattle.neighbours.specs.Links.{Links}
use Rattle.runs.specs.Layers.{hides, withdrawn}
use Rattle.runs.specs.Pages.{top, Agrees}
use Rattle.runs.specs.Runs.{State, Query, Step, asking_mutual, Afterwards}

-- an accepted mutual query opened, on the store's meter, the nodes in its reach and those in its candidates' reaches, and
-- answered exactly the mutual labels, at the front of its list
pub record Opened (s t : State) (k1 k2 : ℕ) (q : Query) (told : Told) (list : List ℕ) : Type 0 where
  pub reaches : let rest = others q.own (plan s.table) in
      t.meter ≡ reach q.near s.table (place_at q.x q.y) k1 rest + sum_by (reach_of q.near s.table (place_at q.x q.y) k2 rest) (candidates q.near (place_at q.x q.y) k1 rest)
  pub tells : told.opened ≡ t.meter
  pub short : t.meter < 2000000
  pub answered : let ns = mutual_answers q.near s.table (place_at q.x q.y) q.own k1 k2 in
      (told.count ≡ length ns) × (list ≡ ns ++ drop (length ns) q.list)

-- of the labels below, the top layer hides those that it has withdrawn and no others
abbrev pub HidesWithdrawn : List Frame → Type 0
HidesWithdrawn [] = ⊥
HidesWithdrawn (f ∷ fs) = (l : Label) → Has (plan f.under) l → hides f.layer l.number ≡ withdrawn l.number f.layer

-- the law over all runs from a new edit over a store of that state
pub record Law (s : State) : Type 0 where
  -- each accepted mutual query opens its reaches, whatever calls came before it
  pub opened : Afterwards s (λ t ps. (k1 k2 work second : ℕ) (q : Query) (told : Told) (list : List ℕ) (u : State)
      → Step (asking_mutual k1 k2 work second q (record { told = Ok told; list = list })) t u → Opened t u k1 k2 q told list)
  -- of any two labels of the plan each answers the other or neither does, so that no link ever shows at one end alone
  pub links : Afterwards s (λ t ps. (near : Ranking) → Sound near → Links near t.table)
  -- the plan has exactly the labels on the top page of the record, each at its place there
  pub plan : Afterwards s (λ t ps. Agrees t.table (top ps))
  -- an edit at hand hides what it has withdrawn and nothing else
  pub hides : Afterwards s (λ t ps. 2 ≤ length ps → HidesWithdrawn t.frames)
