-- The record of changes: pages, one upon another, the top one first. A page has label numbers, each with a place.
use Rattle.std.specs.Prelude.{◌≡◌, ℕ, cond, List, [], ◌∷◌, Some, None, Option, ◌==◌}
use Rattle.std.specs.List.{find, ContainsAt as Has}
use Rattle.std.specs.Option.{option_map}
use Rattle.geometry.specs.declared.place.Place.{Place}
use Rattle.geometry.specs.declared.label.Label.{Label}
use Rattle.index.specs.Table.{Table, plan}

-- the place that a page has for a number, if it has the number
abbrev pub Page : Type 0
Page = ℕ → Option Place

-- the place of the label of number n, if there is one
unfoldable pub place_of : ℕ → List Label → Option Place
place_of n ls = option_map (λ l. l.place) (find (λ l. l.number == n) ls)

-- the page of the labels of a table
abbrev pub page_of : Table → Page
page_of t n = place_of n (plan t)

-- a page that gains a number with its place, or loses it
abbrev pub written : ℕ → Option Place → Page → Page
written n v p m = cond (m == n) v (p m)

-- the top page
abbrev pub top : List Page → Page
top [] n = None
top (p ∷ ps) n = p n

-- the pages with the top page as f makes it
abbrev pub on_top : (Page → Page) → List Page → List Page
on_top f [] = []
on_top f (p ∷ ps) = f p ∷ ps

-- a plan has exactly the labels of a page, each at its place there
pub record Agrees (t : Table) (p : Page) : Type 0 where
  pub places : (n : ℕ) → page_of t n ≡ p n
  pub labels : (l : Label) → Has (plan t) l → p l.number ≡ Some l.place
  pub held : (n : ℕ) (a : Place) → p n ≡ Some a → (l : Label) × Has (plan t) l × (l.number ≡ n) × (l.place ≡ a)
