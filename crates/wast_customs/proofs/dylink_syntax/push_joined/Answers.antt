use Rattle.std.proofs.Common.{rules, ◌≡◌, ◌++◌, [], ◌∷◌, map, sym, ◌∙◌, ap}
use Rattle.std.specs.Prelude.{option_map, option_to_list}
use Rattle.std.proofs.lemmas.List.{map-append}
use Rattle.wast_customs.specs.CustomViews.{subsection_tree}
use Rattle.wast_customs.proofs.Joins.{one_more, first_one, pushed_two}
use Rattle.wast_customs.proofs.dylink_syntax.push_joined.Goals as goal

pub returns-in_ok-push-2 : goal.returns-in_ok-push-2
returns-in_ok-push-2 c before e =
    let xs = c.pop.new.self.items in
    let first = subsection_tree c.in_ok-first.first in
    ap (map subsection_tree) (c.in_ok-push-2.ensures.items ∙ ap (λ z. z ++ c.in-Some-second.second ∷ []) c.in_ok-push.ensures.items)
    ∙ pushed_two subsection_tree xs c.in_ok-first.first c.in-Some-second.second
    ∙ ap (λ z. map subsection_tree xs ++ z) (ap (λ o. first ∷ option_to_list (option_map subsection_tree o)) (sym c.in-Some-second.is) ∙ c.in_ok-first.ensures)
    ∙ one_more before (map subsection_tree xs) (subsection_tree c.in-Some.last) (subsection_tree c.args.next) (sym (map-append subsection_tree xs (c.in-Some.last ∷ [])) ∙ ap (map subsection_tree) (sym c.in-Some.ensures.items) ∙ e)

pub returns-in_default-second : goal.returns-in_default-second
returns-in_default-second c before e =
    let xs = c.pop.new.self.items in
    let first = subsection_tree c.in_ok-first.first in
    ap (map subsection_tree) c.in_ok-push.ensures.items
    ∙ map-append subsection_tree xs (c.in_ok-first.first ∷ [])
    ∙ ap (λ z. map subsection_tree xs ++ z) (ap (λ o. first ∷ option_to_list (option_map subsection_tree o)) (sym c.in_default-second.is) ∙ c.in_ok-first.ensures)
    ∙ one_more before (map subsection_tree xs) (subsection_tree c.in-Some.last) (subsection_tree c.args.next) (sym (map-append subsection_tree xs (c.in-Some.last ∷ [])) ∙ ap (map subsection_tree) (sym c.in-Some.ensures.items) ∙ e)

pub returns-in_ok-push-3 : goal.returns-in_ok-push-3
returns-in_ok-push-3 c before e =
    let emptied : c.pop.new.self.items ≡ [] = search rules in
    let all : c.args.subsections.now.items ≡ [] = search rules in
    ap (map subsection_tree) (c.in_ok-push-3.ensures.items ∙ ap (λ z. z ++ c.args.next ∷ []) emptied)
    ∙ first_one before (subsection_tree c.args.next) (sym (ap (map subsection_tree) all) ∙ e)
