-- The laws of a store, of an edit: its open node is one of its nodes, and its meter has an end.
use Rattle.std.specs.Prelude.{◌≡◌, ℕ, ◌≤◌, Bool, true, false, Some, None, Option}
use Rattle.std.proofs.Math.Path.{sym, subst}
use Rattle.std.proofs.Math.Logic.{⊎_elim}
use native.Mathlib.Omega.{arith}
use Rattle.std.proofs.lemmas.Bool.{cases_Bool}
use Rattle.index.specs.Table.{Table}
use Rattle.index.specs.Laws.{Inside}
use Rattle.index.specs.Frames.{Layer}
use Rattle.runs.specs.Layers.{closed, layered, shown}
use Rattle.runs.proofs.Layering.{shown-closed, shown-layered, count-layered}
use Rattle.edit.specs.declared.edit.At.{At}
use Rattle.edit.specs.declared.edit.At.TheVariants.{Nowhere, Root, Added, Below}
use Rattle.edit.specs.Showing.{opened_at, counted}

within-closed : (t : Table) (a : At) (o : Option ℕ) → Inside t o → Inside t (opened_at true a o)
within-closed t Nowhere o h = tt
within-closed t Root o h = tt
within-closed t Added o h = tt
within-closed t Below o h = h

within-layered : (l : Layer) (t : Table) (a : At) (o : Option ℕ) → Inside t o → Inside (layered l t) (opened_at false a o)
within-layered l t Nowhere o h = tt
within-layered l t Root o h = omega (arith, count-layered l t)
within-layered l t Added o h = omega (arith, count-layered l t)
within-layered l t Below None h = tt
within-layered l t Below (Some k) h = omega (arith, count-layered l t, h)

pub within : (l : Layer) (t : Table) (a : At) (o : Option ℕ) → Inside t o → Inside (shown l t) (opened_at (closed t) a o)
within l t a o h = ⊎_elim
    (λ (c : closed t ≡ true). subst (λ u. Inside u (opened_at (closed t) a o)) (sym (shown-closed l t c)) (subst (λ b. Inside t (opened_at b a o)) (sym c) (within-closed t a o h)))
    (λ (c : closed t ≡ false). subst (λ u. Inside u (opened_at (closed t) a o)) (sym (shown-layered l t c)) (subst (λ b. Inside (layered l t) (opened_at b a o)) (sym c) (within-layered l t a o h)))
    (cases_Bool (closed t))

pub bounded : (c : Bool) (m own : ℕ) → m ≤ 2000000 → counted c m own ≤ 2000000
bounded true m own h = h
bounded false m own h = omega arith
