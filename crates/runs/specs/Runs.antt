-- Runs of a controller's calls over a store.
use Rattle.std.specs.Prelude.{◌≡◌, ℕ, ◌≤◌, Bool, true, false, List, [], ◌∷◌, length, ℤ, Some, None, Ok, Err, Option, Result, IfOk}
use Rattle.geometry.specs.declared.refusal.Refusal.{Refusal}
use Rattle.geometry.specs.Plane.{place_at}
use Rattle.index.specs.declared.store.NodeStore.{Ghosts}
use Rattle.index.specs.Table.{Table}
use Rattle.index.specs.Laws.{Inside}
use Rattle.index.specs.Frames.{Layer, Frame}
use Rattle.neighbours.specs.declared.told.Told.{Told}
use Rattle.neighbours.specs.Ranking.{Ranking}
use Rattle.neighbours.specs.Neighbours.{nearest_answers, mutual_answers}
use Rattle.neighbours.specs.Reach.{nearest_openings, mutual_openings}
use Rattle.neighbours.specs.Queries.{refused_nearest, refused_mutual, outcome, filled}
use Rattle.runs.specs.Layers.{bare, frame, shown}
use Rattle.runs.specs.Changes.{add_result, add_layer, withdraw_result, withdraw_layer}
use Rattle.runs.specs.Pages.{Page, page_of, on_top, written}

-- what a run sees of the store at hand: its table, the layers beneath, the node that is open, and the meter
pub record State : Type 0 where
  pub table : Table
  pub frames : List Frame
  pub opened : Option ℕ
  pub meter : ℕ

-- the state of a store, by what it shows
abbrev pub state_of : {S : Type 0} → Ghosts S → S → State
state_of store s = record { table = store.table s; frames = store.frames s; opened = store.opened s; meter = store.metered s }

-- a query: how its measure ranks, from where it asks, whose label it leaves out, and the answer list that it is lent
pub record Query : Type 0 where
  pub near : Ranking
  pub x : ℤ
  pub y : ℤ
  pub own : Option ℕ
  pub list : List ℕ

-- how a query ended: what it told, and the answer list then
pub record End : Type 0 where
  pub told : Result Told Refusal
  pub list : List ℕ

-- a controller's call, with its outcome: opening an edit, adding a label, withdrawing a number, a nearest query with its
-- count and the length of its work list, a mutual query with its two counts and the lengths of its two work lists,
-- keeping, and cancelling
pub data Call : Type 0 where
  opening : Call
  adding : ℕ → ℤ → ℤ → Result (Unit {0}) Refusal → Call
  withdrawing : ℕ → Result (Unit {0}) Refusal → Call
  asking_nearest : ℕ → ℕ → Query → End → Call
  asking_mutual : ℕ → ℕ → ℕ → ℕ → Query → End → Call
  keeping : Call
  cancelling : Call

-- what is left open of a store: the node that is open, which is none or one of the table's, and the meter, which is at
-- most 2,000,000
pub record Loose (s : State) : Type 0 where
  pub opened : Inside s.table s.opened
  pub meter : s.meter ≤ 2000000

-- a query with these answers and openings ended: it told its result and left its answers, and the store has its table
-- and its layers; where it was accepted, the meter is what it told
pub record Queried (s t : State) (refused : Option Refusal) (answers : List ℕ) (openings : ℕ) (q : Query) (e : End) : Type 0 where
  pub told : e.told ≡ outcome refused answers openings (length q.list)
  pub list : e.list ≡ filled refused answers q.list
  pub table : t.table ≡ s.table
  pub frames : t.frames ≡ s.frames
  pub metered : IfOk e.told (λ told. t.meter ≡ told.opened)
  pub loose : Loose t

-- the store at hand is an edit with that layer over that table, and with those layers beneath
pub record Edited (t : State) (l : Layer) (under : Table) (beneath : List Frame) : Type 0 where
  pub table : t.table ≡ shown l under
  pub frames : t.frames ≡ frame l under ∷ beneath
  pub loose : Loose t

-- adding and withdrawing, in the edit that is on top
abbrev pub Adding : List Frame → ℕ → ℤ → ℤ → Result (Unit {0}) Refusal → State → Type 0
Adding [] n x y r t = ⊥
Adding (f ∷ fs) n x y r t = (r ≡ add_result f.under f.layer n x y) × Edited t (add_layer f.layer n x y r) f.under fs

abbrev pub Withdrawing : List Frame → ℕ → Result (Unit {0}) Refusal → State → Type 0
Withdrawing [] n r t = ⊥
Withdrawing (f ∷ fs) n r t = (r ≡ withdraw_result f.under f.layer n) × Edited t (withdraw_layer f.layer n r) f.under fs

-- cancelling gives back the store below with its table as at opening
abbrev pub Cancelling : List Frame → State → Type 0
Cancelling [] t = ⊥
Cancelling (f ∷ fs) t = (t.table ≡ f.under) × (t.frames ≡ fs) × Loose t

-- what one call does to the store at hand
abbrev pub Step : Call → State → State → Type 0
Step opening s t = Edited t bare s.table s.frames × (t.opened ≡ None) × (t.meter ≡ s.meter)
Step (adding n x y r) s t = Adding s.frames n x y r t
Step (withdrawing n r) s t = Withdrawing s.frames n r t
Step (asking_nearest k work q e) s t = Queried s t (refused_nearest s.table q.x q.y k work)
    (nearest_answers q.near s.table (place_at q.x q.y) q.own k) (nearest_openings q.near s.table (place_at q.x q.y) q.own k) q e
Step (asking_mutual k1 k2 work second q e) s t = Queried s t (refused_mutual s.table q.x q.y k1 k2 work second)
    (mutual_answers q.near s.table (place_at q.x q.y) q.own k1 k2) (mutual_openings q.near s.table (place_at q.x q.y) q.own k1 k2) q e
Step keeping s t = (t.table ≡ s.table) × (t.frames ≡ []) × Loose t
Step cancelling s t = Cancelling s.frames t

-- the calls that need an edit on top, that is, more than one page; with one page the next call is a query or opens an edit
abbrev pub needs_edit : Call → Bool
needs_edit opening = false
needs_edit (adding n x y r) = true
needs_edit (withdrawing n r) = true
needs_edit (asking_nearest k work q e) = false
needs_edit (asking_mutual k1 k2 work second q e) = false
needs_edit keeping = true
needs_edit cancelling = true

abbrev pub Allowed : Call → List Page → Type 0
Allowed c ps = needs_edit c ≡ true → 2 ≤ length ps

-- the record after one call more: an accepted addition or withdrawal changes the top page, opening an edit puts a copy of
-- it on top, cancelling takes it off, keeping takes out all pages below it, and queries and refused calls change nothing
abbrev pub entered : Call → List Page → List Page
entered opening [] = []
entered opening (p ∷ ps) = p ∷ p ∷ ps
entered (adding n x y (Ok u)) ps = on_top (written n (Some (place_at x y))) ps
entered (adding n x y (Err e)) ps = ps
entered (withdrawing n (Ok u)) ps = on_top (written n None) ps
entered (withdrawing n (Err e)) ps = ps
entered (asking_nearest k work q e) ps = ps
entered (asking_mutual k1 k2 work second q e) ps = ps
entered keeping [] = []
entered keeping (p ∷ ps) = p ∷ []
entered cancelling [] = []
entered cancelling (p ∷ ps) = ps

-- the record after a list of calls
abbrev pub recorded : List Call → List Page → List Page
recorded [] ps = ps
recorded (c ∷ cs) ps = recorded cs (entered c ps)

-- a run: calls in turn, each allowed by the record and working on what the one before left
pub data Run : State → List Page → List Call → State → List Page → Type 0 where
  still : {s : State} {ps : List Page} → Run s ps [] s ps
  next : {s t u : State} {ps qs : List Page} {c : Call} {cs : List Call} → Allowed c ps → Step c s t → Run t (entered c ps) cs u qs → Run s ps (c ∷ cs) u qs

-- a new edit over a store of that state, and the record then: a page of the labels in its table, and its copy on top
abbrev pub fresh : State → State
fresh s = record { table = shown bare s.table; frames = frame bare s.table ∷ s.frames; opened = None; meter = s.meter }

abbrev pub first_pages : Table → List Page
first_pages t = page_of t ∷ page_of t ∷ []

-- after every run from a new edit over such a store
abbrev pub Afterwards : State → (State → List Page → Type 0) → Type 0
Afterwards s P = (cs : List Call) (t : State) (ps : List Page) → Run (fresh s) (first_pages s.table) cs t ps → P t ps
