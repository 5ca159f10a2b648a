-- What a script's commands print, as bytes.
use Rattle.std.specs.Prelude.{◌≡◌, ℕ, Bool, cond, List, [], ◌∷◌, ◌++◌, map, ℤ, codes, decimal, fold}
use Rattle.std.specs.List.{flat_map}
use Rattle.std.specs.List.Sorted.{IsNonDecreasingBy, IsPermutation}
use Rattle.std.specs.Fmt.{signed_decimal}
use Rattle.geometry.specs.declared.label.Label.{Label}
use Rattle.geometry.specs.declared.rect.Rect.{Rect}
use Rattle.index.specs.declared.slot.Slot.{Slot}
use Rattle.index.specs.declared.slot.Slot.TheVariants.{Empty, Holds, Leads}
use Rattle.listing.specs.declared.found.Found.{Found}

-- a label found, as a blank, its number, a colon and its distance
abbrev pub entry_of : {D : Type 0} → (D → List ℕ) → Found D → List ℕ
entry_of shown f = codes " " ++ (decimal f.number ++ (codes ":" ++ shown f.distance))

-- a label's number and its place
abbrev pub listed : Label → ℕ × ℤ × ℤ
listed l = (l.number, l.place.x, l.place.y)

-- the labels' numbers and places, by number
pub record ByNumber (ls : List Label) (es : List (ℕ × ℤ × ℤ)) : Type 0 where
  pub same : IsPermutation (map listed ls) es
  pub rising : IsNonDecreasingBy (λ (e : ℕ × ℤ × ℤ). e.0) es

-- the line of a label
abbrev pub label_line : ℕ × ℤ × ℤ → List ℕ
label_line e = codes "label " ++ (decimal e.0 ++ (codes " " ++ (signed_decimal e.1 ++ (codes " " ++ signed_decimal e.2))))

-- the lines with one line more, behind the end of the line before
abbrev pub line_after : List ℕ → List ℕ → List ℕ
line_after [] line = line
line_after (b ∷ bs) line = (b ∷ bs) ++ (10 ∷ line)

-- a line for each label, or a word where there is none
abbrev pub label_lines : List (ℕ × ℤ × ℤ) → List ℕ
label_lines [] = codes "none"
label_lines (e ∷ es) = fold (λ bs d. line_after bs (label_line d)) [] (e ∷ es)

-- the bytes are a line for each label, by number
abbrev pub Listing : List Label → List ℕ → Type 0
Listing ls bs = (es : List (ℕ × ℤ × ℤ)) × ByNumber ls es × (bs ≡ label_lines es)

-- a number behind a blank
abbrev pub behind_blank : ℕ → List ℕ
behind_blank n = codes " " ++ decimal n

-- the numbers of an answer
abbrev pub answers_line : List ℕ → List ℕ
answers_line [] = codes "answers none"
answers_line (n ∷ ns) = codes "answers" ++ flat_map behind_blank (n ∷ ns)

-- how many nodes were opened
abbrev pub opened_line : ℕ → List ℕ
opened_line n = codes "opened " ++ decimal n

-- two labels that are linked
abbrev pub link_line : ℕ → ℕ → List ℕ
link_line p q = codes "link " ++ (decimal p ++ (codes " " ++ decimal q))

-- how many links there are
abbrev pub links_line : ℕ → List ℕ
links_line n = decimal n ++ codes " links"

-- a node's number, its kind and its box
abbrev pub node_line : ℕ → Bool → Rect → List ℕ
node_line n inner b = codes "node " ++ (decimal n ++ (codes " " ++ (cond inner (codes "inner") (codes "leaf") ++ (codes " " ++ (signed_decimal b.west ++ (codes " " ++ (signed_decimal b.south ++ (codes " " ++ (signed_decimal b.east ++ (codes " " ++ signed_decimal b.north))))))))))

-- what slot j has, behind a blank
abbrev pub slot_entry : ℕ → Slot → List ℕ
slot_entry j Empty = []
slot_entry j (Holds l) = codes " " ++ (decimal j ++ (codes "=label:" ++ (decimal l.number ++ (codes ":" ++ (signed_decimal l.place.x ++ (codes ":" ++ signed_decimal l.place.y))))))
slot_entry j (Leads b n) = codes " " ++ (decimal j ++ (codes "=node:" ++ (decimal n ++ (codes ":" ++ (signed_decimal b.west ++ (codes ":" ++ (signed_decimal b.south ++ (codes ":" ++ (signed_decimal b.east ++ (codes ":" ++ signed_decimal b.north))))))))))
