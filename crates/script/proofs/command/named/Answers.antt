use Rattle.std.proofs.Common.{rules, ◌≡◌, ℕ, List, Some, None, Option, sym, ap, ◌∙◌, Bor}
use borrow.Author.Tests.{tests}
use Rattle.std.specs.List.{find}
use Rattle.std.specs.Option.{option_map}
use Rattle.std.specs.Str.{bytes_eq}
use Rattle.std.proofs.lemmas.Iterator.{YieldsList-from_slice}
use Rattle.std.proofs.lemmas.Iterator.Consumers.{YieldsList-from_copied}
use Rattle.std.proofs.lemmas.Iterator.Search.{find_from_yields_List}
use Rattle.std.proofs.lemmas.Iterator.Adapters.{option_map_id}
use Rattle.script.specs.Commands.{named}
use Rattle.script.proofs.command.named.Goals as goal

-- what is found is what the word is the name of
kind-of : {K : Type 0} (ns : List (Bor (List ℕ) × K)) (w : List ℕ) (o p : Option (Bor (List ℕ) × K)) → option_map (λ n. n) o ≡ find (λ n. bytes_eq n.0.now w) ns → o ≡ p → option_map (λ n. n.1) p ≡ named ns w
kind-of ns w o p e q = ap (option_map (λ n. n.1)) (sym q ∙ sym (option_map_id o) ∙ e)

pub returns-in_err-kind : goal.returns-in_err-kind
returns-in_err-kind g c =
    let found = find_from_yields_List (λ n. bytes_eq n.0.now c.args.word.now) _ _ c.find.result c.find.ensures.ran (YieldsList-from_copied (YieldsList-from_slice c.args.names.now (search rules))) (λ x b q k. search (rules, tests)) in
    let was : c.find.result ≡ None = c.in_err-kind.was in
    c.from_residual.ensures ∙ kind-of c.args.names.now c.args.word.now c.find.result None found was

pub returns : goal.returns
returns g c =
    let found = find_from_yields_List (λ n. bytes_eq n.0.now c.args.word.now) _ _ c.find.result c.find.ensures.ran (YieldsList-from_copied (YieldsList-from_slice c.args.names.now (search rules))) (λ x b q k. search (rules, tests)) in
    let was : c.find.result ≡ Some (c.in_ok-kind.field-0-0, c.in_ok-kind.kind) = c.in_ok-kind.was in
    kind-of c.args.names.now c.args.word.now c.find.result _ found was
