-- The law over all runs of calls from a new edit.
use Rattle.std.proofs.Common.{◌≡◌, ℕ, ◌≤◌, Bool, true, false, ◌||◌, List, [], ◌∷◌, ◌++◌, length, drop, leb, Some, None, Ok, Err, Option, sym, refl, ap, ◌∙◌, ⊎_elim, arith}
use Rattle.std.specs.List.{ContainsAt as Has}
use Rattle.std.proofs.lemmas.Bool.{cases_Bool, both_ways, cond-true, cond-false, leb-true}
use Rattle.std.proofs.lemmas.List.{take_all}
use Rattle.geometry.specs.declared.place.Place.{Place}
use Rattle.geometry.specs.declared.label.Label.{Label}
use Rattle.geometry.specs.declared.refusal.Refusal.{Refusal}
use Rattle.geometry.specs.declared.refusal.Reason.TheVariants.{ShortAnswerList}
use Rattle.geometry.specs.Refusals.{refusal}
use Rattle.geometry.specs.Plane.{place_at}
use Rattle.geometry.specs.Numbers.{present}
use Rattle.index.specs.Table.{Table, plan}
use Rattle.index.specs.Laws.{Lawful}
use Rattle.index.specs.Frames.{Layer, Frame}
use Rattle.neighbours.specs.declared.told.Told.{Told}
use Rattle.neighbours.specs.Ranking.{Seen, Ranking, Sound}
use Rattle.neighbours.specs.Neighbours.{mutual_answers}
use Rattle.neighbours.specs.Reach.{mutual_openings}
use Rattle.neighbours.specs.Queries.{refused_mutual, outcome, filled}
use Rattle.neighbours.proofs.Linking.{links}
use Rattle.runs.specs.Layers.{withdrawn}
use Rattle.runs.specs.Pages.{Page, Agrees}
use Rattle.runs.specs.Runs.{State, Query, Step, asking_mutual}
use Rattle.runs.specs.Law.{Opened, HidesWithdrawn, Law}
use Rattle.runs.proofs.Places.{has-present, has-place, place-has}
use Rattle.runs.proofs.Changing.{Fine, Reads}
use Rattle.runs.proofs.Bounding.{openings-few}
use Rattle.runs.proofs.Matching.{Match, match-lawful, match-reads, matches}

-- a query that is accepted was not refused before its search, and its answers fit the list
accepted : (o : Option Refusal) (ns : List ℕ) (opened places : ℕ) (told : Told)
    → Ok told ≡ outcome o ns opened places → (o ≡ None) × (told.count ≡ length ns) × (told.opened ≡ opened) × (length ns ≤ places)
accepted (Some e) ns opened places told h = absurd (cc)
accepted None ns opened places told h =
    let answer : Told = record { count = length ns; opened = opened } in
    ⊎_elim
    (λ (t : leb (length ns) places ≡ true).
    let e : _ ≡ Ok answer = h ∙ cond-true (leb (length ns) places) _ _ t in
    let same : told ≡ answer = cc in
    (refl, ap (λ r. r.count) same, ap (λ r. r.opened) same, leb-true (length ns) places t))
    (λ (f : leb (length ns) places ≡ false).
    let e : _ ≡ Err (refusal ShortAnswerList 0) = h ∙ cond-false (leb (length ns) places) _ _ f in
    absurd (cc))
    (cases_Bool (leb (length ns) places))

opened-lawful : (s t : State) (k1 k2 work second : ℕ) (q : Query) (told : Told) (list : List ℕ)
    → Lawful s.table → Step (asking_mutual k1 k2 work second q (record { told = Ok told; list = list })) s t → Opened s t k1 k2 q told list
unfolding mutual_openings
opened-lawful s t k1 k2 work second q told list lawful d =
    let ns = mutual_answers q.near s.table (place_at q.x q.y) q.own k1 k2 in
    let o = refused_mutual s.table q.x q.y k1 k2 work second in
    let a = accepted o ns (mutual_openings q.near s.table (place_at q.x q.y) q.own k1 k2) (length q.list) told d.told in
    record {
      reaches = d.metered ∙ a.2;
      tells = sym d.metered;
      short = omega (arith, openings-few s.table lawful q.near (place_at q.x q.y) q.own k1 k2, d.metered, a.2);
      answered = (a.1, d.list ∙ ap (λ o. filled o ns q.list) a.0 ∙ ap (λ ms. ms ++ drop (length ns) q.list) (take_all (length q.list) ns a.3));
    }

never : (near : Ranking) → Sound near → (a : Place) (s : Seen) → near a s s ≡ false
never near sound a s = ⊎_elim (λ t. sound.one_way a s s t) (λ e. e) (cases_Bool (near a s s))

agrees : (t : Table) (p : Page) → Lawful t → Reads t p → Agrees t p
agrees t p lawful reads = record {
  places = reads;
  labels = λ l h. sym (reads l.number) ∙ has-place l (plan t) lawful.apart h;
  held = λ n a h. place-has n a (plan t) (reads n ∙ h);
}

hides-none : (l : Layer) (u : Table) (m : Label) → Fine l u → Has (plan u) m → (withdrawn m.number l || present m.number l.added) ≡ withdrawn m.number l
hides-none l u m fine h = by (withdrawn m.number l) (present m.number l.added) (λ w t. both_ways (present m.number (plan u)) (fine.covered m.number t w) (has-present m (plan u) h))
  where
    by : (b c : Bool) → (b ≡ false → c ≡ true → ⊥) → (b || c) ≡ b
    by true c f = refl
    by false true f = absurd (f refl refl)
    by false false f = refl

hides-withdrawn : (t : Table) (fs : List Frame) (ps : List Page) → 2 ≤ length ps → Match t fs ps → HidesWithdrawn fs
hides-withdrawn t fs [] two m = absurd m
hides-withdrawn t fs (p ∷ []) two m = absurd (omega arith)
hides-withdrawn t [] (p ∷ (q ∷ ps)) two m = absurd m
hides-withdrawn t (f ∷ fs) (p ∷ (q ∷ ps)) two m = λ l h. hides-none f.layer f.under l m.1 h

pub law : (s : State) → Lawful s.table → Law s
law s lawful = record {
  opened = λ cs t ps r k1 k2 work second q told list u. opened-lawful t u k1 k2 work second q told list (match-lawful t.table t.frames ps (matches s lawful cs t ps r));
  links = λ cs t ps r near sound. links near t.table (never near sound) (match-lawful t.table t.frames ps (matches s lawful cs t ps r)).apart;
  plan = λ cs t ps r. let m = matches s lawful cs t ps r in agrees t.table _ (match-lawful t.table t.frames ps m) (match-reads t.table t.frames ps m);
  hides = λ cs t ps r two. hides-withdrawn t.table t.frames ps two (matches s lawful cs t ps r);
}
