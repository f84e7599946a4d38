use Rattle.std.proofs.Common.{◌≡◌, ◌+◌, ◌++◌, ◌∷◌, List, ℕ, Bor, map, take, drop, sym, ◌∙◌, ap, subst}
use Rattle.std.proofs.lemmas.List.{take-append-drop}
use Rattle.wast_parser_core.specs.State.{State}
use Rattle.wast_parser_core.proofs.Places.{without}
use Rattle.wast_parser_core.proofs.parser.Parser.unregister_annotation.Goals as goal

pub returns : goal.returns
returns c =
    let i = c.place_of-at.result in
    let name = c.args.name.now in
    let xs = c.self.inside.names.items in
    let ys = map (λ (n : Bor (List ℕ)). n.now) xs in
    let same = subst (λ (zs : List (Bor (List ℕ))). drop i (map (λ (n : Bor (List ℕ)). n.now) zs) ≡ name ∷ drop (i + 1) (map (λ (n : Bor (List ℕ)). n.now) zs)) c.as_slice.ensures.value c.place_of-at.ensures.same in (
      take i ys,
      drop (i + 1) ys,
      ap (λ (z : State). z.names) (sym c.self.view_is) ∙ sym (take-append-drop i ys) ∙ ap (λ y. take i ys ++ y) same,
      ap (λ ns. record { source = c.self.inside.buffer.now; names = ns; depth = c.self.inside.depth; at = c.self.inside.at }) (ap (map (λ (n : Bor (List ℕ)). n.now)) c.remove.ensures.items ∙ without i xs)
          ∙ ap (λ (z : State). record z { names = take i ys ++ drop (i + 1) ys }) c.self.view_is,
    )
