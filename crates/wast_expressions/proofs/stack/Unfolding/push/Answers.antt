use Rattle.std.proofs.Common.{◌≡◌, None, [], ◌∷◌, ◌++◌, length, map, reverse, sym, ap, ◌∙◌, append-nil}
use Rattle.wast_expressions.specs.Items.{hint_at}
use Rattle.wast_expressions.specs.Partial.{hint_tree}
use Rattle.wast_expressions.proofs.Hinted.{pushed, held, hint_more}
use Rattle.wast_expressions.proofs.stack.Unfolding.push.Goals as goal

pub invariant_of-self-in_default : goal.invariant_of-self-in_default
invariant_of-self-in_default g c = held c.self.inside.instrs.items c.push.new.self.items (map hint_tree c.self.inside.hints.items) (map hint_tree c.self.inside.hints.items) None c.args.instr c.in-Ok.ensures.items (sym (append-nil (map hint_tree c.self.inside.hints.items))) c.self.invariant

pub returns-in_default-clause-pushed : goal.returns-in_default-clause-pushed
returns-in_default-clause-pushed g c =
    let hs = map hint_tree c.self.inside.hints.items in
    let q : hs ≡ hs ++ hint_at (length c.self.inside.instrs.items) c.args.hint = sym (append-nil hs) ∙ ap (λ h. hs ++ hint_at (length c.self.inside.instrs.items) h) (sym c.in_default.is) in
    ap (λ z. record { stack = reverse c.self.inside.levels.items; out = z }) (pushed c.self.inside.instrs.items c.push.new.self.items (map hint_tree c.self.inside.hints.items) (map hint_tree c.self.inside.hints.items) c.args.hint c.args.instr c.in-Ok.ensures.items q c.self.invariant)
    ∙ ap (λ v. record { stack = v.stack; out = v.out ++ (c.args.hint, c.args.instr) ∷ [] }) c.self.view_is

pub invariant_of-self-in_default-index : goal.invariant_of-self-in_default-index
invariant_of-self-in_default-index g c = held c.self.inside.instrs.items c.push.new.self.items (map hint_tree c.self.inside.hints.items) (map hint_tree c.self.inside.hints.items) None c.args.instr c.in-Ok.ensures.items (sym (append-nil (map hint_tree c.self.inside.hints.items))) c.self.invariant

pub invariant_of-self-in-Err-push : goal.invariant_of-self-in-Err-push
invariant_of-self-in-Err-push g c = held c.self.inside.instrs.items c.push.new.self.items (map hint_tree c.self.inside.hints.items) (map hint_tree c.push-2.new.self.items) None c.args.instr c.in-Ok.ensures.items (ap (map hint_tree) c.in-Err-push.ensures.items ∙ sym (append-nil (map hint_tree c.self.inside.hints.items))) c.self.invariant

pub invariant_of-self-2 : goal.invariant_of-self-2
invariant_of-self-2 g c = held c.self.inside.instrs.items c.push.new.self.items (map hint_tree c.self.inside.hints.items) (map hint_tree c.push-2.new.self.items) c.args.hint c.args.instr c.in-Ok.ensures.items (hint_more c.self.inside.hints.items c.push-2.new.self.items (length c.self.inside.instrs.items) c.in-Ok-index.instr_index c.in-Some.value c.args.hint c.in-Ok-push.ensures.items (c.in-Ok-index.ensures.1 ∙ ap length c.as_slice.ensures.value) c.in-Some.is) c.self.invariant

pub returns-clause-pushed : goal.returns-clause-pushed
returns-clause-pushed g c =
    ap (λ z. record { stack = reverse c.self.inside.levels.items; out = z }) (pushed c.self.inside.instrs.items c.push.new.self.items (map hint_tree c.self.inside.hints.items) (map hint_tree c.push-2.new.self.items) c.args.hint c.args.instr c.in-Ok.ensures.items (hint_more c.self.inside.hints.items c.push-2.new.self.items (length c.self.inside.instrs.items) c.in-Ok-index.instr_index c.in-Some.value c.args.hint c.in-Ok-push.ensures.items (c.in-Ok-index.ensures.1 ∙ ap length c.as_slice.ensures.value) c.in-Some.is) c.self.invariant)
    ∙ ap (λ v. record { stack = v.stack; out = v.out ++ (c.args.hint, c.args.instr) ∷ [] }) c.self.view_is
